-- What gets and counts over settled pairs tell of the rows.
use Rattle.std.proofs.Common.{◌≡◌, ℕ, min, Bool, not, ◌&&◌, eqb, leb, List, length, map, Option, Some, None, is_some, refl, sym, ap, subst, ◌∙◌, arith}
use Rattle.std.specs.Prelude.{IfSome, IsSome, is_none, option_map, nat_lt}
use Rattle.std.specs.FinMap.{get}
use Rattle.std.proofs.lemmas.Bool.{eq-eqb}
use Rattle.std.proofs.lemmas.List.{length-map}
use Rattle.pq_base.specs.Columns.{set_of}
use Rattle.pq_base.specs.Values.{AllFit}
use Rattle.pq_base.specs.declared.value.Value.{Value}
use Rattle.pq_key_code.specs.KeyCode.{row_key, past_code}
use Rattle.pq_schema.specs.Sequences.{group_access}
use Rattle.pq_schema.specs.declared.table.Foreign.{Foreign}
use Rattle.pq_schema.specs.declared.table.Limit.{Limit}
use Rattle.pq_schema.specs.declared.table.Table.{Table}
use Rattle.pq_schema.specs.Tables.{table_at}
use Rattle.pq_content.specs.Pairs.{Pair, content_pairs}
use Rattle.pq_content.specs.Tables.{Rows, AllOfKinds, types_of, type_at, types_at, key_types, cells, key_of, row_at, group_of, stored_code}
use Rattle.pq_content.proofs.Gets.{get_row}
use Rattle.pq_schema.proofs.TypeKinds.{kinds_from_fit}
use Rattle.pq_content.proofs.Values.{fit_at, key_of_kinds}
use Rattle.pq_store.specs.Content.{Content, pairs_within}
use Rattle.pq_index_keep.specs.Effects.{is_missing, is_full, names_key}
use Rattle.pq_row_keys.specs.Groups.{group_key}
use Rattle.pq_index_keep.specs.Promises.{HoldsRows}
use Rattle.pq_index_keep.specs.Sound.{MayName}
use Rattle.pq_schema.specs.Keys.{given_value}
use Rattle.pq_index_keep.proofs.Counted.{given_at, given_all, counted}

-- the value at a row's key
pub settled_get : (tables : List Table) (rows : Rows) (others : List Pair) (told : Option Content) (t : ℕ) (key : List Value) → HoldsRows told tables rows others → AllOfKinds (key_types (table_at tables t)) key
    → get (content_pairs tables rows others) (row_key t key) ≡ option_map (stored_code (table_at tables t)) (row_at tables rows t key)
settled_get tables rows others told t key s kinds = get_row tables rows others t key s.keeps.fit kinds s.beside

some_mapped : (table : Table) (o : Option (List Value)) → is_some (option_map (stored_code table) o) ≡ is_some o
some_mapped table None = refl
some_mapped table (Some row) = refl

none_not : (o : Option (List Value)) → not (is_some o) ≡ is_none o
none_not None = refl
none_not (Some row) = refl

pub told_there : (tables : List Table) (rows : Rows) (others : List Pair) (told : Option Content) (t : ℕ) (key : List Value) (there : Bool) → HoldsRows told tables rows others → AllOfKinds (key_types (table_at tables t)) key
    → IfSome told (λ c. there ≡ is_some (get c (row_key t key))) → there ≡ is_some (row_at tables rows t key)
told_there tables rows others told t key there s kinds is =
    subst (λ (o : Option Content). IfSome o (λ c. there ≡ is_some (get c (row_key t key)))) s.is is
    ∙ ap is_some (settled_get tables rows others told t key s kinds)
    ∙ some_mapped (table_at tables t) (row_at tables rows t key)

-- the same at the key of a row
pub told_own : (tables : List Table) (rows : Rows) (others : List Pair) (told : Option Content) (t : ℕ) (table : Table) (row : List Value) (at : List ℕ) (there : Bool) → HoldsRows told tables rows others → table ≡ table_at tables t → AllFit (types_of table) row
    → at ≡ row_key t (key_of table row) → IfSome told (λ c. there ≡ is_some (get c at)) → there ≡ is_some (row_at tables rows t (key_of table row))
told_own tables rows others told t table row at there s is fits own answer =
    let kinds = subst (λ (tb : Table). AllOfKinds (key_types tb) (key_of table row)) is (key_of_kinds table row fits) in
    told_there tables rows others told t (key_of table row) there s kinds (subst (λ (k : List ℕ). IfSome told (λ c. there ≡ is_some (get c k))) own answer)

pub told_missing : (tables : List Table) (rows : Rows) (others : List Pair) (told : Option Content) (row : List Value) (foreign : Foreign) (there : Bool) → HoldsRows told tables rows others → AllOfKinds (key_types (table_at tables foreign.table)) (cells foreign.cols row)
    → IfSome told (λ c. there ≡ is_some (get c (row_key foreign.table (cells foreign.cols row)))) → not there ≡ is_missing tables rows row foreign
told_missing tables rows others told row foreign there s kinds is =
    ap not (told_there tables rows others told foreign.table (cells foreign.cols row) there s kinds is)
    ∙ none_not (row_at tables rows foreign.table (cells foreign.cols row))

-- ---- groups

capped : (n k : ℕ) → eqb (min n k) n ≡ leb n k
capped n k = grind arith

capped_one : (k : ℕ) → not (eqb (min 1 k) 0) ≡ nat_lt 0 k
capped_one k = grind arith

-- what a count up to n tells of a group
told_count : (tables : List Table) (rows : Rows) (others : List Pair) (told : Option Content) (t : ℕ) (table : Table) (cols : List ℕ) (values : List Value) (most k : ℕ) → HoldsRows told tables rows others → table ≡ table_at tables t → IsSome (group_access table (set_of cols))
    → AllOfKinds (types_at table.columns cols) values → map (given_value cols values) cols ≡ values
    → IfSome told (λ c. k ≡ min most (length (pairs_within c (group_key t table cols values) (past_code (group_key t table cols values))))) → k ≡ min most (length (group_of t cols values rows))
told_count tables rows others told t table cols values most k s is access kinds own counts =
    let at : (tb : Table) → tb ≡ table_at tables t → IsSome (group_access tb (set_of cols)) → AllOfKinds (types_at tb.columns cols) values
    → IfSome told (λ c. k ≡ min most (length (pairs_within c (group_key t tb cols values) (past_code (group_key t tb cols values))))) → k ≡ min most (length (group_of t cols values rows)) =
    λ tb same access kinds counts.
    let P : Table → Type 0 = λ tb. IsSome (group_access tb (set_of cols)) in
    let K : Table → Type 0 = λ tb. AllOfKinds (types_at tb.columns cols) values in
    let C : Table → Type 0 = λ tb. IfSome told (λ c. k ≡ min most (length (pairs_within c (group_key t tb cols values) (past_code (group_key t tb cols values))))) in
    subst (λ (o : Option Content). IfSome o (λ c. k ≡ min most (length (pairs_within c (group_key t (table_at tables t) cols values) (past_code (group_key t (table_at tables t) cols values)))))) s.is (subst C same counts)
    ∙ ap (min most) (counted tables rows others told s t cols values (subst K same kinds) own (subst P same access)) in
    at table is access kinds counts

pub told_full : (tables : List Table) (rows : Rows) (others : List Pair) (told : Option Content) (t : ℕ) (table : Table) (row : List Value) (limit : Limit) (k : ℕ) → HoldsRows told tables rows others → table ≡ table_at tables t → IsSome (group_access table (set_of limit.cols)) → AllFit (types_of table) row
    → IfSome told (λ c. k ≡ min limit.n (length (pairs_within c (group_key t table limit.cols (cells limit.cols row)) (past_code (group_key t table limit.cols (cells limit.cols row)))))) → eqb k limit.n ≡ is_full rows t row limit
told_full tables rows others told t table row limit k s is access fits counts =
    ap (λ m. eqb m limit.n) (told_count tables rows others told t table limit.cols (cells limit.cols row) limit.n k s is access (kinds_from_fit (types_at table.columns limit.cols) (cells limit.cols row) (fit_at table limit.cols row fits)) (given_at limit.cols row) counts)
    ∙ capped limit.n (length (group_of t limit.cols (cells limit.cols row) rows))

pub told_named : (tables : List Table) (rows : Rows) (others : List Pair) (told : Option Content) (t : ℕ) (key : List Value) (u : ℕ) (table : Table) (foreign : Foreign) (k : ℕ) → HoldsRows told tables rows others → table ≡ table_at tables u → IsSome (group_access table (set_of foreign.cols)) → foreign.table ≡ t → MayName table t key foreign
    → IfSome told (λ c. k ≡ min 1 (length (pairs_within c (group_key u table foreign.cols key) (past_code (group_key u table foreign.cols key))))) → not (eqb k 0) ≡ names_key rows t key u foreign
told_named tables rows others told t key u table foreign k s is access refers may counts =
    let names = may refers in
    let long : length (types_at table.columns foreign.cols) ≡ length foreign.cols = length-map foreign.cols (type_at table.columns) in
    ap (λ m. not (eqb m 0)) (told_count tables rows others told u table foreign.cols key 1 k s is access names.kinds (given_all (types_at table.columns foreign.cols) foreign.cols key names.different names.kinds long) counts)
    ∙ capped_one (length (group_of u foreign.cols key rows))
    ∙ ap (λ b. b && nat_lt 0 (length (group_of u foreign.cols key rows))) (sym (eq-eqb foreign.table t refers))
