-- What damage of counters' pairs shows of a content, and that a content that stands shows none.
use Rattle.std.proofs.Common.{◌≡◌, ℕ, ◌≤◌, inl, inr, Bool, true, false, cond, not, ◌&&◌, ◌==◌, List, ◌++◌, Option, Some, None, refl, sym, ap, ◌∙◌, subst, arith}
use Rattle.std.specs.Prelude.{IfSome}
use Rattle.std.specs.FinMap.{get}
use Rattle.std.proofs.lemmas.Bool.{eqb-true, eq-eqb}
use Rattle.std.proofs.lemmas.Option.{none-some, same_Some}
use Rattle.pq_base.specs.declared.value.Value.{Value}
use Rattle.pq_base.specs.Members.{In}
use Rattle.pq_base.specs.Values.{AllFit, has_null}
use Rattle.pq_base.proofs.Members.{each_in}
use Rattle.pq_key_code.specs.KeyCode.{row_key}
use Rattle.pq_schema.proofs.TypeKinds.{kinds_from_fit}
use Rattle.pq_schema.specs.declared.table.Table.{Table}
use Rattle.pq_schema.specs.Schema.{Schema}
use Rattle.pq_schema.specs.Tables.{table_at}
use Rattle.pq_schema.specs.Valid.{IsValid}
use Rattle.pq_content.specs.Pairs.{Pair}
use Rattle.pq_content.specs.Tables.{Rows, AllOfKinds, IsTableNumber, key_types, types_of, shape_of, cells, agrees, same_values, row_at, stored_code}
use Rattle.pq_content.proofs.Values.{fit_at, same_values_itself}
use Rattle.pq_store.specs.Content.{Content}
use Rattle.pq_store.specs.declared.damage.Broke.{Broke}
use Rattle.pq_store.specs.declared.damage.Broke.TheVariants.{Failed, NoMem, Damaged}
use Rattle.pq_store.specs.declared.damage.Damage.{Damage}
use Rattle.pq_calls.specs.Evidence.{IsRead, IsNoRow}
use Rattle.pq_calls.specs.World.{World, Explains, where_told}
use Rattle.pq_calls.proofs.Steps.{explained_as, explained_undamaged}
use Rattle.pq_index_keep.proofs.Deleting.{told_row, undamaged}
use Rattle.pq_index_keep.proofs.Narrow.{valid_writable}
use Rattle.pq_tallies.specs.Counters.{tally, most_count, counter_key, count_code, stored_count, all_pairs, counter_pairs, HoldsCounted}
use Rattle.pq_tallies.specs.Defined.{NumberedCounter, counters_in, counter_numbered, group_types}
use Rattle.pq_tallies.specs.Moves.{no_move, group_in, moved, move_in}
use Rattle.pq_tallies.proofs.Defined.{schema_counters, numbered_in}
use Rattle.pq_tallies.proofs.Effects.{one_in, tally_goes}
use Rattle.pq_tallies.proofs.Told.{get_group, holds_rows}
use Rattle.pq_counters.specs.Evidence.{IsNoCountAt, IsNoCount, IsStoredAt, IsNoGroup, ShowsCounted}
use Rattle.pq_counters.specs.Planning.{IsReadBy, IsUndamagedOver}
use Rattle.pq_counters.specs.Steps.{AreOfTable, SpoilsLeft, SpoilsFrom, SpoilsTo, SpoilsMoves}

-- ---- groups of rows

-- a group is of the values at the columns, none of them NULL
pub record IsGroup (c : NumberedCounter) (row group : List Value) : Type 0 where
  pub plain : has_null (cells c.cols row) ≡ false
  pub values : cells c.cols row ≡ group

pub group_parts : (c : NumberedCounter) (row group : List Value) → group_in c row ≡ Some group → IsGroup c row group
group_parts c row group is =
    elim (has_null (cells c.cols row)) as (λ b. has_null (cells c.cols row) ≡ b → cond b None (Some (cells c.cols row)) ≡ Some group → IsGroup c row group) [
      | true ↦ λ _ is. absurd (none-some group is)
      | false ↦ λ plain is. record { plain = plain; values = same_Some _ _ is }
    ] refl is

-- ---- from what a step shows to what the call shows

-- the row whose group is spoilt, and that its table is the counter's
pub record SpoiltBy (t : ℕ) (row : Option (List Value)) (c : NumberedCounter) (P : List ℕ → Type 0) : Type 0 where
  pub values : List Value
  pub group : List Value
  pub is : row ≡ Some values
  pub table : t ≡ c.table
  pub group_is : group_in c values ≡ Some group
  pub shown : P (counter_key c.number group)

module _ (t : ℕ) (c : NumberedCounter) (told : Option Content) (damage : Damage) where
  abbrev Left : List ℕ → Type 0
  Left key = SpoilsLeft key told damage

  abbrev Joined : List ℕ → Type 0
  Joined key = IsNoCountAt key told damage

  from_row : (row : List Value) → t ≡ c.table → SpoilsFrom c.number (group_in c row) told damage → SpoiltBy t (Some row) c Left
  from_row row same h =
      elim (group_in c row) as (λ o. group_in c row ≡ o → SpoilsFrom c.number o told damage → SpoiltBy t (Some row) c Left) [
        | None ↦ λ _ h. absurd h
        | Some group ↦ λ is h. record { values = row; group = group; is = refl; table = same; group_is = is; shown = h }
      ] refl h

  to_row : (row : List Value) → t ≡ c.table → SpoilsTo c.number (group_in c row) told damage → SpoiltBy t (Some row) c Joined
  to_row row same h =
      elim (group_in c row) as (λ o. group_in c row ≡ o → SpoilsTo c.number o told damage → SpoiltBy t (Some row) c Joined) [
        | None ↦ λ _ h. absurd h
        | Some group ↦ λ is h. record { values = row; group = group; is = refl; table = same; group_is = is; shown = h }
      ] refl h

  from_moved : (old new : Option (List Value)) → t ≡ c.table → SpoilsFrom c.number (moved c old new).from told damage → SpoiltBy t old c Left
  from_moved None None same h = absurd h
  from_moved None (Some new) same h = absurd h
  from_moved (Some old) None same h = from_row old same h
  from_moved (Some old) (Some new) same h =
      elim (same_values (cells c.cols old) (cells c.cols new)) as (λ b. SpoilsFrom c.number (cond b no_move (record { from = group_in c old; to = group_in c new })).from told damage → SpoiltBy t (Some old) c Left) [
        | true ↦ λ h. absurd h
        | false ↦ λ h. from_row old same h
      ] h

  to_moved : (old new : Option (List Value)) → t ≡ c.table → SpoilsTo c.number (moved c old new).to told damage → SpoiltBy t new c Joined
  to_moved None None same h = absurd h
  to_moved None (Some new) same h = to_row new same h
  to_moved (Some old) None same h = absurd h
  to_moved (Some old) (Some new) same h =
      elim (same_values (cells c.cols old) (cells c.cols new)) as (λ b. SpoilsTo c.number (cond b no_move (record { from = group_in c old; to = group_in c new })).to told damage → SpoiltBy t (Some new) c Joined) [
        | true ↦ λ h. absurd h
        | false ↦ λ h. to_row new same h
      ] h

  from_spoilt : (old new : Option (List Value)) → SpoilsFrom c.number (move_in t old new c).from told damage → SpoiltBy t old c Left
  from_spoilt old new h =
      elim (t == c.table) as (λ b. (t == c.table) ≡ b → SpoilsFrom c.number (cond b (moved c old new) no_move).from told damage → SpoiltBy t old c Left) [
        | true ↦ λ is h. from_moved old new (eqb-true t c.table is) h
        | false ↦ λ _ h. absurd h
      ] refl h

  to_spoilt : (old new : Option (List Value)) → SpoilsTo c.number (move_in t old new c).to told damage → SpoiltBy t new c Joined
  to_spoilt old new h =
      elim (t == c.table) as (λ b. (t == c.table) ≡ b → SpoilsTo c.number (cond b (moved c old new) no_move).to told damage → SpoiltBy t new c Joined) [
        | true ↦ λ is h. to_moved old new (eqb-true t c.table is) h
        | false ↦ λ _ h. absurd h
      ] refl h

-- values of a group are of the columns' kinds
row_kinds : (tables : List Table) (c : NumberedCounter) (row group : List Value) → AllFit (types_of (table_at tables c.table)) row → group_in c row ≡ Some group → AllOfKinds (group_types tables c) group
row_kinds tables c row group fits is =
    subst (AllOfKinds (group_types tables c)) (group_parts c row group is).values
    (kinds_from_fit (group_types tables c) (cells c.cols row) (fit_at (table_at tables c.table) c.cols row fits))

module _ (schema : Schema) (t : ℕ) (old new : Option (List Value)) (number : IsTableNumber schema.tables t) (rows : AreOfTable schema.tables t old new) where
  abbrev tables : List Table
  tables = schema.tables

  some_is : (P : List Value → Type 0) (o : Option (List Value)) (v : List Value) → o ≡ Some v → IfSome o P → P v
  some_is P o v is h = subst (λ (x : Option (List Value)). IfSome x P) is h

  group_kinds : (c : NumberedCounter) (row group : List Value) → t ≡ c.table → AllFit (types_of (table_at tables t)) row → group_in c row ≡ Some group → AllOfKinds (group_types tables c) group
  group_kinds c row group same fits is = row_kinds tables c row group (subst (λ (u : ℕ). AllFit (types_of (table_at tables u)) row) same fits) is

  left_shown : (content : Content) (damage : Damage) (c : NumberedCounter) → In c (counters_in schema) → IsReadBy tables (Some content) t old → SpoiltBy t old c (λ key. SpoilsLeft key (Some content) damage) → ShowsCounted schema content damage
  left_shown content damage c i read by =
      let fits = some_is (AllFit (types_of (table_at tables t))) old by.values by.is rows.goes in
      elim by.shown [
        | inl h ↦ inr (c, i, inl (record { values = by.group; kinds = group_kinds c by.values by.group by.table fits by.group_is; shown = h }))
        | inr h ↦ inr (
          c,
          i,
          inr (record {
            key = read.key;
            row = by.values;
            group = by.group;
            number = subst (IsTableNumber tables) by.table number;
            kinds = subst (λ (u : ℕ). AllOfKinds (key_types (table_at tables u)) read.key) by.table read.kinds;
            fits = subst (λ (u : ℕ). AllFit (types_of (table_at tables u)) by.values) by.table fits;
            there = subst (λ (u : ℕ). IsStoredAt (table_at tables u) u read.key by.values content) by.table (some_is (λ row. IsStoredAt (table_at tables t) t read.key row content) old by.values by.is read.stored);
            group_is = by.group_is;
            shown = h;
          }),
        )
      ]

  joined_shown : (content : Content) (damage : Damage) (c : NumberedCounter) → In c (counters_in schema) → SpoiltBy t new c (λ key. IsNoCountAt key (Some content) damage) → ShowsCounted schema content damage
  joined_shown content damage c i by =
      let fits = some_is (AllFit (types_of (table_at tables t))) new by.values by.is rows.comes in
      inr (c, i, inl (record { values = by.group; kinds = group_kinds c by.values by.group by.table fits by.group_is; shown = by.shown }))

  moves_shown : (told : Option Content) (damage : Damage) → IsReadBy tables told t old → SpoilsMoves schema t old new told damage → where_told (ShowsCounted schema) told damage
  moves_shown None damage read h = tt
  moves_shown (Some content) damage read h =
      let c = counter_numbered schema h.0 in
      let i = numbered_in schema h.0 h.1 in
      elim h.2 [
        | inl from ↦ left_shown content damage c i read (from_spoilt t c (Some content) damage old new from)
        | inr to ↦ joined_shown content damage c i (to_spoilt t c (Some content) damage old new to)
      ]

  pub moves_explain : (a b : World) (error : Broke) → IsReadBy tables a.told t old → Explains (SpoilsMoves schema t old new) a b error → Explains (where_told (ShowsCounted schema)) a b error
  moves_explain a b Failed read h = h
  moves_explain a b NoMem read h = h
  moves_explain a b (Damaged damage) read h = moves_shown a.told damage read h

-- a row that spoils a read spoils the plan
pub row_shown : (schema : Schema) (told : Option Content) (damage : Damage) → where_told (IsNoRow schema.tables) told damage → where_told (ShowsCounted schema) told damage
row_shown schema None damage h = tt
row_shown schema (Some content) damage h = inl h

pub row_explains : (schema : Schema) (a b : World) (error : Broke) → Explains (where_told (IsNoRow schema.tables)) a b error → Explains (where_told (ShowsCounted schema)) a b error
row_explains schema a b error h = explained_as (where_told (IsNoRow schema.tables)) (where_told (ShowsCounted schema)) (row_shown schema) a b error h

-- ---- a row that was read stands at its key

pub stored_read : (told : Option Content) (table : Table) (t : ℕ) (key row : List Value) → IfSome told (λ content. IsRead (shape_of table) (get content (row_key t key)) (Some row)) → IfSome told (IsStoredAt table t key row)
stored_read None table t key row h = tt
stored_read (Some content) table t key row h =
    elim (get content (row_key t key)) as (λ o. IsRead (shape_of table) o (Some row) → o ≡ Some (stored_code table row)) [
      | None ↦ λ h. absurd h
      | Some code ↦ λ h. ap (λ (x : List ℕ). Some x) (sym h.1)
    ] h

-- ---- a content that stands shows nothing

abbrev one_if : Bool → ℕ
one_if b = cond b 1 0

module _ (told : Option Content) (schema : Schema) (rows : Rows) (others : List Pair) (s : HoldsCounted told schema rows others) (valid : IsValid schema) where
  abbrev cs : List NumberedCounter
  cs = counters_in schema

  abbrev all : Content
  all = all_pairs schema.tables cs rows others

  no_code : (n : ℕ) (code : List ℕ) → n ≤ most_count → stored_count n ≡ Some code → (n ≡ 0 → ⊥) × (count_code n ≡ code)
  no_code n code few is =
      elim (n == 0) as (λ b. (n == 0) ≡ b → cond b None (Some (count_code n)) ≡ Some code → (n ≡ 0 → ⊥) × (count_code n ≡ code)) [
        | true ↦ λ _ is. absurd (cc)
        | false ↦ λ other is. ((λ zero. absurd (some_zero other zero)), (cc))
      ] refl is
    where
      some_zero : (n == 0) ≡ false → n ≡ 0 → ⊥
      some_zero other zero = cc (eq-eqb n 0 zero)

  no_count_shown : (damage : Damage) (c : NumberedCounter) → In c cs → IsNoCount schema.tables c all damage → ⊥
  no_count_shown damage c i h =
      let n = tally rows c h.values in
      let few : n ≤ most_count = each_in (λ (d : NumberedCounter). (v : List Value) → tally rows d v ≤ most_count) cs s.few c i h.values in
      let code = no_code n h.shown.code few (sym (get_group schema.tables cs rows others c h.values s.keeps (schema_counters schema valid) s.beside i h.kinds) ∙ h.shown.there) in
      h.shown.no_count n (at_least n code.0) few code.1
    where
      at_least : (n : ℕ) → (n ≡ 0 → ⊥) → 1 ≤ n
      at_least n other = omega arith

  -- a row of the group is there
  own_one : (c : NumberedCounter) (row group : List Value) → IsGroup c row group → one_in c.table c group row ≡ 1
  own_one c row group is =
      ap (λ b. one_if (b && (not (has_null (cells c.cols row)) && agrees c.cols group row))) (eq-eqb c.table c.table refl)
      ∙ ap (λ b. one_if (not b && agrees c.cols group row)) is.plain
      ∙ ap one_if (ap (λ (v : List Value). same_values v group) is.values ∙ same_values_itself group)

  no_group_shown : (damage : Damage) (c : NumberedCounter) → In c cs → IsNoGroup schema.tables c all damage → ⊥
  no_group_shown damage c i h =
      let table = table_at schema.tables c.table in
      let hold = holds_rows told schema rows others s in
      let read : IsRead (shape_of table) (get all (row_key c.table h.key)) (Some h.row) = subst (λ (o : Option (List ℕ)). IsRead (shape_of table) o (Some h.row)) (sym h.there) (h.fits, refl) in
      let at : Some h.row ≡ row_at schema.tables rows c.table h.key = told_row schema.tables rows (counter_pairs cs rows ++ others) told c.table h.key hold (valid_writable valid) h.number h.kinds (Some h.row) (subst (λ (o : Option Content). IfSome o (λ content. IsRead (shape_of table) (get content (row_key c.table h.key)) (Some h.row))) (sym s.is) read) in
      let left = tally_goes schema.tables rows c c.table h.key h.row h.group s.keeps (sym at) in
      let own = own_one c h.row h.group (group_parts c h.row h.group h.group_is) in
      absent (tally rows c h.group) (omega arith) (sym (get_group schema.tables cs rows others c h.group s.keeps (schema_counters schema valid) s.beside i (row_kinds schema.tables c h.row h.group h.fits h.group_is)) ∙ h.shown.absent)
    where
      absent : (n : ℕ) → 1 ≤ n → stored_count n ≡ None → ⊥
      absent n some is =
          elim (n == 0) as (λ b. (n == 0) ≡ b → cond b None (Some (count_code n)) ≡ None → ⊥) [
            | true ↦ λ zero _. let none = eqb-true n 0 zero in absurd (omega arith)
            | false ↦ λ _ is. absurd (cc)
          ] refl is

  none_shown : (damage : Damage) → ShowsCounted schema all damage → ⊥
  none_shown damage (inl h) = undamaged schema.tables rows (counter_pairs cs rows ++ others) told (holds_rows told schema rows others s) damage (subst (λ (o : Option Content). where_told (IsNoRow schema.tables) o damage) (sym s.is) h)
  none_shown damage (inr h) =
      elim h.2 [
        | inl no_count ↦ no_count_shown damage h.0 h.1 no_count
        | inr no_group ↦ no_group_shown damage h.0 h.1 no_group
      ]

  pub none_told : (damage : Damage) → where_told (ShowsCounted schema) told damage → ⊥
  none_told damage h = none_shown damage (subst (λ (o : Option Content). where_told (ShowsCounted schema) o damage) s.is h)

  pub none_counted : (c : NumberedCounter) → In c cs → (damage : Damage) → where_told (IsNoCount schema.tables c) told damage → ⊥
  none_counted c i damage h = no_count_shown damage c i (subst (λ (o : Option Content). where_told (IsNoCount schema.tables c) o damage) s.is h)

-- so what gives up over one that stands tells no damage
pub undamaged_over : (schema : Schema) → IsValid schema → (a b : World) (error : Broke) → Explains (where_told (ShowsCounted schema)) a b error → IsUndamagedOver schema a.told error
undamaged_over schema valid a b error why = λ rows others s. explained_undamaged (where_told (ShowsCounted schema)) a b error (none_told a.told schema rows others s valid) why

-- ---- a read of one group

count_shown : (tables : List Table) (c : NumberedCounter) (v : List Value) → AllOfKinds (group_types tables c) v → (told : Option Content) (damage : Damage) → IsNoCountAt (counter_key c.number v) told damage → where_told (IsNoCount tables c) told damage
count_shown all_tables c v kinds None damage h = tt
count_shown all_tables c v kinds (Some content) damage h = record { values = v; kinds = kinds; shown = h }

pub count_explains : (tables : List Table) (c : NumberedCounter) (v : List Value) → AllOfKinds (group_types tables c) v → (a b : World) (error : Broke) → Explains (IsNoCountAt (counter_key c.number v)) a b error → Explains (where_told (IsNoCount tables c)) a b error
count_explains tables c v kinds a b error h = explained_as (IsNoCountAt (counter_key c.number v)) (where_told (IsNoCount tables c)) (count_shown tables c v kinds) a b error h
