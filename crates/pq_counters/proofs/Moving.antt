-- The moves of counters' groups: how long their keys are, how many there are, and what a told content has for them.
use Rattle.std.proofs.Common.{◌≡◌, ℕ, ◌+◌, ◌*◌, ◌≤◌, Bool, true, false, cond, ◌&&◌, ◌==◌, List, [], ◌∷◌, ◌++◌, length, replicate, Option, Some, None, refl, sym, ap, ◌∙◌, subst, arith}
use Rattle.std.specs.List.{AllByRecursion, find, sum_by}
use Rattle.std.specs.Prelude.{All, IfSome, filter, option_map}
use Rattle.std.proofs.lemmas.Bool.{eqb-true, eq-eqb, false≢true}
use Rattle.std.proofs.lemmas.List.{length-map}
use Rattle.std.proofs.lemmas.List.Elements.{All-weaker}
use Rattle.std.proofs.lemmas.List.Sums.{sum_by-cons, sum_by-le-sum_by}
use Rattle.std.proofs.Math.Nat.{mul-le-mul_right}
use Rattle.pq_base.specs.declared.value.Dir.TheVariants.{Asc}
use Rattle.pq_base.specs.declared.value.Value.{Value}
use Rattle.pq_base.specs.Members.{In}
use Rattle.pq_base.specs.Values.{AllFit, has_null}
use Rattle.pq_base.proofs.Members.{all_member, each_by_in, find-filter, flat_map-filter}
use Rattle.pq_schema.proofs.TypeKinds.{kinds_from_fit}
use Rattle.pq_schema.specs.declared.table.Table.{Table}
use Rattle.pq_schema.specs.Counters.{IsCounterNumber}
use Rattle.pq_schema.specs.Schema.{Schema}
use Rattle.pq_schema.specs.Tables.{table_at}
use Rattle.pq_schema.specs.Valid.{IsValid}
use Rattle.pq_content.specs.Pairs.{Pair}
use Rattle.pq_content.specs.Tables.{Rows, IsTableNumber, types_of, cells, value_of, row_at, same_values}
use Rattle.pq_content.proofs.Lengths.{length-code_of}
use Rattle.pq_content.proofs.Values.{fit_at, same_values_decides}
use Rattle.pq_row_code.specs.RowCode.{IsShort}
use Rattle.pq_store.specs.Content.{Content}
use Rattle.pq_index_keep.proofs.Coding.{fit_texts}
use Rattle.pq_index_keep.proofs.Inserting.{writable_at, each_by}
use Rattle.pq_index_keep.proofs.Updating.{kept_values}
use Rattle.pq_index_keep.specs.Sound.{AreWritable}
use Rattle.pq_index_keep.specs.Tested.{touches, scope_of, with_sets}
use Rattle.pq_index_keep.specs.declared.write.Cond.{Cond}
use Rattle.pq_index_keep.specs.declared.write.SetCol.{SetCol}
use Rattle.pq_index_keep.specs.declared.write.Write.{Write}
use Rattle.pq_index_keep.specs.declared.write.Write.TheVariants as write
use Rattle.pq_tallies.specs.Counters.{counter_key, HoldsCounted}
use Rattle.pq_tallies.specs.Defined.{NumberedCounter, IsCounter, counters_in, counter_numbered, group_types}
use Rattle.pq_tallies.specs.Moves.{GroupMove, no_move, group_in, moved, move_in, move_changes, moves_changes, is_full_group, lacks_count, first_full}
use Rattle.pq_tallies.specs.Writes.{written_table, old_row, new_row}
use Rattle.pq_counters.proofs.Short.{cells_within}
use Rattle.pq_counters.specs.Bounds.{most_moves, all_moves}
use Rattle.pq_counters.specs.Steps.{some_count, move_count, moves_of, IsSmallGroup, IsSmallMove, MovesLittle, TellsGroup, TellsMove, AreOfTable}
use Rattle.pq_tallies.proofs.Defined.{schema_counters, numbered_in}
use Rattle.pq_counters.proofs.Told.{tells_count}

-- ---- what holds of each group that a row is in

-- what holds of no group, and of the groups of the two rows, holds of both groups of a move
module _ (P : NumberedCounter → Option (List Value) → Type 0) (none : (c : NumberedCounter) → P c None) (t : ℕ) where
  pub record BothGroups (c : NumberedCounter) (m : GroupMove) : Type 0 where
    pub from : P c m.from
    pub to : P c m.to

  still : (c : NumberedCounter) → BothGroups c no_move
  still c = record { from = none c; to = none c }

  in_group : (c : NumberedCounter) (row : List Value) → P c (Some (cells c.cols row)) → P c (group_in c row)
  in_group c row h = elim (has_null (cells c.cols row)) as (λ b. P c (cond b None (Some (cells c.cols row)))) [ true ↦ none c | false ↦ h ]

  moved_groups : (old new : Option (List Value)) (c : NumberedCounter) → IfSome old (λ row. P c (Some (cells c.cols row))) → IfSome new (λ row. P c (Some (cells c.cols row))) → BothGroups c (moved c old new)
  moved_groups None None c f g = still c
  moved_groups None (Some new) c f g = record { from = none c; to = in_group c new g }
  moved_groups (Some old) None c f g = record { from = in_group c old f; to = none c }
  moved_groups (Some old) (Some new) c f g =
      elim (same_values (cells c.cols old) (cells c.cols new)) as (λ b. BothGroups c (cond b no_move (record { from = group_in c old; to = group_in c new }))) [
        | true ↦ still c
        | false ↦ record { from = in_group c old f; to = in_group c new g }
      ]

  pub both_groups : (old new : Option (List Value)) (c : NumberedCounter) → (t ≡ c.table → IfSome old (λ row. P c (Some (cells c.cols row)))) → (t ≡ c.table → IfSome new (λ row. P c (Some (cells c.cols row)))) → BothGroups c (move_in t old new c)
  both_groups old new c f g =
      elim (t == c.table) as (λ b. (t == c.table) ≡ b → BothGroups c (cond b (moved c old new) no_move)) [
        | true ↦ λ is. moved_groups old new c (f (eqb-true t c.table is)) (g (eqb-true t c.table is))
        | false ↦ λ _. still c
      ] refl

if_some : {X : Type 0} (P Q : X → Type 0) (o : Option X) → ((x : X) → P x → Q x) → IfSome o P → IfSome o Q
if_some P Q None f h = tt
if_some P Q (Some x) f h = f x h

-- ---- lengths of keys

small_key : (c : NumberedCounter) (row : List Value) → length c.cols ≤ 4 → AllByRecursion IsShort row → length (counter_key c.number (cells c.cols row)) ≤ 9000
small_key c row few short =
    let values = cells c.cols row in
    let most = length-code_of 1000 (replicate (length values) Asc) values (cells_within row c.cols short) in
    let long : length values ≡ length c.cols = length-map c.cols (value_of row) in
    let times : length c.cols * 2009 ≤ 4 * 2009 = mul-le-mul_right 2009 few in
    let same : length values * 2009 ≡ length c.cols * 2009 = ap (λ (n : ℕ). n * 2009) long in
    omega arith

small_move : (tables : List Table) (t : ℕ) (old new : Option (List Value)) (c : NumberedCounter) → AreWritable tables → IsTableNumber tables t → AreOfTable tables t old new → IsCounter tables c → IsSmallMove c.number (move_in t old new c)
small_move tables t old new c sound number rows is =
    let key = λ (row : List Value) (fits : AllFit (types_of (table_at tables t)) row). small_key c row is.few (each_by IsShort row (fit_texts tables (table_at tables t) (writable_at tables t sound number) row fits)) in
    let both = both_groups (λ d group. IsSmallGroup d.number group) (λ d. tt) t old new c
    (λ _. if_some (AllFit (types_of (table_at tables t))) (λ row. IsSmallGroup c.number (Some (cells c.cols row))) old key rows.goes)
    (λ _. if_some (AllFit (types_of (table_at tables t))) (λ row. IsSmallGroup c.number (Some (cells c.cols row))) new key rows.comes) in
    record { from = both.from; to = both.to }

pub small_moves : (schema : Schema) (t : ℕ) (old new : Option (List Value)) (numbers : List ℕ) → IsValid schema → AreWritable schema.tables → IsTableNumber schema.tables t → AreOfTable schema.tables t old new → All (IsCounterNumber schema) numbers → All (MovesLittle schema t old new) numbers
small_moves schema t old new numbers v sound number rows all =
    All-weaker (IsCounterNumber schema) (MovesLittle schema t old new)
    (λ n is. small_move schema.tables t old new (counter_numbered schema n) sound number rows (all_member (IsCounter schema.tables) (counters_in schema) (schema_counters schema v).each (counter_numbered schema n) (numbered_in schema n is)))
    numbers all

-- ---- what a told content has

pub tells_move : (told : Option Content) (schema : Schema) (rows : Rows) (others : List Pair) (t : ℕ) (old new : Option (List Value)) (c : NumberedCounter) → IsValid schema → HoldsCounted told schema rows others → In c (counters_in schema) → AreOfTable schema.tables t old new → TellsMove told c (move_in t old new c) rows
tells_move told schema rows others t old new c v h i is =
    let tables = schema.tables in
    let P = λ (d : NumberedCounter) (group : Option (List Value)). TellsGroup told d group rows in
    let one = λ (same : t ≡ c.table) (row : List Value) (fits : AllFit (types_of (table_at tables t)) row).
    let fit = subst (λ (u : ℕ). AllFit (types_of (table_at tables u)) row) same fits in
    tells_count told schema rows others c (cells c.cols row) v h i (kinds_from_fit (group_types tables c) (cells c.cols row) (fit_at (table_at tables c.table) c.cols row fit)) in
    let both = both_groups P (λ d. tt) t old new c
    (λ same. if_some (AllFit (types_of (table_at tables t))) (λ row. P c (Some (cells c.cols row))) old (one same) is.goes)
    (λ same. if_some (AllFit (types_of (table_at tables t))) (λ row. P c (Some (cells c.cols row))) new (one same) is.comes) in
    record { from = both.from; to = both.to }

-- ---- how many there are

group_one : (c : NumberedCounter) (row : List Value) → some_count (group_in c row) ≤ 1
group_one c row = elim (has_null (cells c.cols row)) as (λ b. some_count (cond b None (Some (cells c.cols row))) ≤ 1) [ true ↦ omega arith | false ↦ omega arith ]

inserts_move : (t : ℕ) (row : List Value) (c : NumberedCounter) → moves_of t None (Some row) c ≤ most_moves (write.Insert t row) c
inserts_move t row c =
    let one = group_one c row in
    elim (t == c.table) as (λ b. move_count (cond b (moved c None (Some row)) no_move) ≤ cond b 1 0) [ true ↦ omega arith | false ↦ omega arith ]

deletes_move : (t : ℕ) (key : List Value) (conds : List Cond) (old : List Value) (c : NumberedCounter) → moves_of t (Some old) None c ≤ most_moves (write.Delete t key conds) c
deletes_move t key conds old c =
    let one = group_one c old in
    elim (t == c.table) as (λ b. move_count (cond b (moved c (Some old) None) no_move) ≤ cond b 1 0) [ true ↦ omega arith | false ↦ omega arith ]

updates_move : (t : ℕ) (key : List Value) (sets : List SetCol) (conds : List Cond) (old : List Value) (c : NumberedCounter) → moves_of t (Some old) (Some (with_sets sets old)) c ≤ most_moves (write.Update t key sets conds) c
updates_move t key sets conds old c =
    let new = with_sets sets old in
    let leaves = group_one c old in
    let joins = group_one c new in
    let turn = λ (b : Bool). cond b no_move (record { from = group_in c old; to = group_in c new }) in
    elim (t == c.table) as (λ b. move_count (cond b (moved c (Some old) (Some new)) no_move) ≤ cond (b && touches (scope_of sets) c.cols) 2 0) [
      | true ↦ elim (touches (scope_of sets) c.cols) as (λ b. touches (scope_of sets) c.cols ≡ b → move_count (turn (same_values (cells c.cols old) (cells c.cols new))) ≤ cond b 2 0) [
        | true ↦ λ _. elim (same_values (cells c.cols old) (cells c.cols new)) as (λ b. move_count (turn b) ≤ 2) [ true ↦ omega arith | false ↦ omega arith ]
        | false ↦ λ none.
            let same : same_values (cells c.cols old) (cells c.cols new) ≡ true = (same_values_decides (cells c.cols old) (cells c.cols new)).1 (sym (kept_values sets old c.cols none)) in
            let zero : move_count (turn (same_values (cells c.cols old) (cells c.cols new))) ≡ 0 = ap (λ b. move_count (turn b)) same in
            omega arith
      ] refl
      | false ↦ omega arith
    ]

pub inserts_within : (t : ℕ) (row : List Value) (cs : List NumberedCounter) → sum_by (moves_of t None (Some row)) cs ≤ all_moves cs (write.Insert t row)
inserts_within t row cs = sum_by-le-sum_by (moves_of t None (Some row)) (most_moves (write.Insert t row)) cs (inserts_move t row)

pub deletes_within : (t : ℕ) (key : List Value) (conds : List Cond) (old : List Value) (cs : List NumberedCounter) → sum_by (moves_of t (Some old) None) cs ≤ all_moves cs (write.Delete t key conds)
deletes_within t key conds old cs = sum_by-le-sum_by (moves_of t (Some old) None) (most_moves (write.Delete t key conds)) cs (deletes_move t key conds old)

pub updates_within : (t : ℕ) (key : List Value) (sets : List SetCol) (conds : List Cond) (old : List Value) (cs : List NumberedCounter) → sum_by (moves_of t (Some old) (Some (with_sets sets old))) cs ≤ all_moves cs (write.Update t key sets conds)
updates_within t key sets conds old cs = sum_by-le-sum_by (moves_of t (Some old) (Some (with_sets sets old))) (most_moves (write.Update t key sets conds)) cs (updates_move t key sets conds old)

none_moved : (t : ℕ) (c : NumberedCounter) (n : ℕ) → moves_of t None None c ≤ n
none_moved t c n = elim (t == c.table) as (λ b. move_count (cond b (moved c None None) no_move) ≤ n) [ true ↦ omega arith | false ↦ omega arith ]

pub deleted_within : (t : ℕ) (key : List Value) (conds : List Cond) (cs : List NumberedCounter) (o : Option (List Value)) → sum_by (moves_of t o None) cs ≤ all_moves cs (write.Delete t key conds)
deleted_within t key conds cs None = sum_by-le-sum_by (moves_of t None None) (most_moves (write.Delete t key conds)) cs (λ c. none_moved t c (most_moves (write.Delete t key conds) c))
deleted_within t key conds cs (Some old) = deletes_within t key conds old cs

pub updated_within : (t : ℕ) (key : List Value) (sets : List SetCol) (conds : List Cond) (cs : List NumberedCounter) (o : Option (List Value)) → sum_by (moves_of t o (option_map (with_sets sets) o)) cs ≤ all_moves cs (write.Update t key sets conds)
updated_within t key sets conds cs None = sum_by-le-sum_by (moves_of t None None) (most_moves (write.Update t key sets conds)) cs (λ c. none_moved t c (most_moves (write.Update t key sets conds) c))
updated_within t key sets conds cs (Some old) = updates_within t key sets conds old cs

pub write_within : (tables : List Table) (rows : Rows) (cs : List NumberedCounter) (w : Write) → sum_by (moves_of (written_table w) (old_row tables rows w) (new_row tables rows w)) cs ≤ all_moves cs w
write_within tables rows cs (write.Insert t row) = inserts_within t row cs
write_within tables rows cs (write.Update t key sets conds) = updated_within t key sets conds cs (row_at tables rows t key)
write_within tables rows cs (write.Delete t key conds) = deleted_within t key conds cs (row_at tables rows t key)

-- ---- where nothing moves

unmoved : (rows : Rows) (c : NumberedCounter) (m : GroupMove) → move_count m ≡ 0 → (move_changes rows c m ≡ []) × (is_full_group rows c m.to ≡ false)
unmoved rows c m none =
    elim m.from as (λ f. some_count f + some_count m.to ≡ 0 → (move_changes rows c (record { from = f; to = m.to }) ≡ []) × (is_full_group rows c m.to ≡ false)) [
      | None ↦ elim m.to as (λ g. some_count None + some_count g ≡ 0 → (move_changes rows c (record { from = None; to = g }) ≡ []) × (is_full_group rows c g ≡ false)) [
        | None ↦ λ _. (refl, refl)
        | Some v ↦ λ none. absurd (omega arith)
      ]
      | Some v ↦ λ none. absurd (omega arith)
    ] none

pub nothing_moves : (rows : Rows) (t : ℕ) (old new : Option (List Value)) (cs : List NumberedCounter) → sum_by (moves_of t old new) cs ≡ 0 → (moves_changes cs rows t old new ≡ []) × (first_full cs rows t old new ≡ None)
nothing_moves rows t old new [] none = (refl, refl)
nothing_moves rows t old new (c ∷ cs) none =
    let parts = sum_by-cons (moves_of t old new) c cs in
    let here = unmoved rows c (move_in t old new c) (omega arith) in
    let rest = nothing_moves rows t old new cs (omega arith) in (
      ap (λ l. l ++ moves_changes cs rows t old new) here.0 ∙ rest.0,
      ap (λ b. cond b (Some c) (find (lacks_count rows t old new) cs)) here.1 ∙ rest.1,
    )

-- ---- counters of other tables

pub other_count : (t : ℕ) (old new : Option (List Value)) (c : NumberedCounter) → (c.table == t) ≡ false → move_in t old new c ≡ no_move
other_count t old new c other = ap (λ b. cond b (moved c old new) no_move) (flip t c.table other)
  where
    flip : (a b : ℕ) → (b == a) ≡ false → (a == b) ≡ false
    flip a b h = elim (a == b) as (λ x. (a == b) ≡ x → x ≡ false) [ true ↦ λ is. absurd (false≢true (sym h ∙ eq-eqb b a (sym (eqb-true a b is)))) | false ↦ λ _. refl ] refl

abbrev pub is_of : ℕ → NumberedCounter → Bool
is_of t c = c.table == t

-- those of another table add nothing
pub own_moves : (t : ℕ) (old new : Option (List Value)) (cs : List NumberedCounter) → sum_by (moves_of t old new) (filter (is_of t) cs) ≡ sum_by (moves_of t old new) cs
own_moves t old new [] = refl
own_moves t old new (c ∷ cs) =
    let f = moves_of t old new in
    let rest = own_moves t old new cs in
    let all = sum_by-cons f c cs in
    elim (is_of t c) as (λ b. is_of t c ≡ b → sum_by f (cond b (c ∷ filter (is_of t) cs) (filter (is_of t) cs)) ≡ sum_by f (c ∷ cs)) [
      | true ↦ λ _. let own = sum_by-cons f c (filter (is_of t) cs) in omega arith
      | false ↦ λ other. let zero = ap move_count (other_count t old new c other) in omega arith
    ] refl

pub own_changes : (rows : Rows) (t : ℕ) (old new : Option (List Value)) (cs : List NumberedCounter) → moves_changes (filter (is_of t) cs) rows t old new ≡ moves_changes cs rows t old new
own_changes rows t old new cs =
    let each = λ (c : NumberedCounter). move_changes rows c (move_in t old new c) in
    flat_map-filter (is_of t) each each cs (each_by_in (λ c. cond (is_of t c) (each c) [] ≡ each c) cs (λ c _. one c))
  where
    one : (c : NumberedCounter) → cond (is_of t c) (move_changes rows c (move_in t old new c)) [] ≡ move_changes rows c (move_in t old new c)
    one c =
        let each = move_changes rows c (move_in t old new c) in
        elim (is_of t c) as (λ b. is_of t c ≡ b → cond b each [] ≡ each) [
          | true ↦ λ _. refl
          | false ↦ λ other. sym (ap (move_changes rows c) (other_count t old new c other))
        ] refl

pub own_full : (rows : Rows) (t : ℕ) (old new : Option (List Value)) (cs : List NumberedCounter) → first_full (filter (is_of t) cs) rows t old new ≡ first_full cs rows t old new
own_full rows t old new cs = find-filter (is_of t) (lacks_count rows t old new) cs one
  where
    one : (c : NumberedCounter) → lacks_count rows t old new c ≡ true → is_of t c ≡ true
    one c full =
        elim (is_of t c) as (λ b. is_of t c ≡ b → b ≡ true) [
          | true ↦ λ _. refl
          | false ↦ λ other. absurd (false≢true (sym (ap (λ (m : GroupMove). is_full_group rows c m.to) (other_count t old new c other)) ∙ full))
        ] refl
