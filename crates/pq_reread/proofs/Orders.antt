-- Tables that are defined one after the other are orderly.
use Rattle.std.proofs.Common.{◌≡◌, ℕ, ◌+◌, ◌-◌, ◌<◌, ◌≤◌, Bool, true, false, cond, not, ◌||◌, eqb, List, [], ◌∷◌, ◌++◌, length, map, set, get_or, Option, Some, None, Ok, refl, sym, ap, subst, ◌∙◌, arith, append_assoc, length-append, eq-eqb, ◌⊎◌, inl, inr}
use Rattle.std.specs.Prelude.{IfSome, nat_lt, find, position, is_some, fold, All, slice_index_or}
use Rattle.std.specs.Option.{option_map}
use Rattle.std.specs.List.{list_any, position_or_len, AllByRecursion}
use Rattle.std.specs.Str.{bytes_eq}
use Rattle.std.proofs.Math.ListN.{get_or-append}
use Rattle.std.proofs.Math.Seq.{get_or-append_seam}
use Rattle.std.proofs.lemmas.Bool.{lt-ltb, cases_eq}
use Rattle.std.proofs.lemmas.Bool.Decides.{nat_tests}
use Rattle.std.proofs.lemmas.List.{length-map, map-append, length-set, get_or-set_same, get_or-set_other, get_or_default}
use Rattle.std.proofs.lemmas.List.Elements.{All-append, All-nil, All-cons, All-set}
use Rattle.std.proofs.lemmas.List.Folds.{position_or_len_push, position_or_len-set}
use Rattle.std.proofs.lemmas.List.Sums.{prefix_len-le-length}
use Rattle.std.proofs.lemmas.Slice.Eq.{bytes_eq-Decides}
use Rattle.pq_base.specs.Columns.{set_of}
use Rattle.pq_base.specs.declared.value.Value.{Value}
use Rattle.pq_schema.specs.declared.definition.AlterDef.{AlterDef}
use Rattle.pq_schema.specs.declared.definition.ColumnDef.{ColumnDef}
use Rattle.pq_schema.specs.declared.definition.CounterDef.{CounterDef}
use Rattle.pq_schema.specs.declared.definition.TableDef.{TableDef}
use Rattle.pq_schema.specs.declared.table.Column.{Column}
use Rattle.pq_schema.specs.declared.table.Table.{Table}
use Rattle.pq_schema.specs.ColumnNames.{names_of, is_unknown, place_of, places_of, no_column, repeated_name, repeated_after, unknown_refusal, repeated_refusal, names_refusal}
use Rattle.pq_schema.specs.Definitions.{column_of, refused_if, is_outside, definition_refusal, name_refusal, counts_refusal, columns_refusal, nullable_refusal, key_refusal, groups_refusal, table_refusal, bare_table, table_of_def, altered_table, new_table, counter_refusal, counted_schema, new_counter}
use Rattle.pq_schema.specs.Names.{IsName, IsColumnDef, IsTableDef}
use Rattle.pq_schema.specs.declared.table.NewIndex.{NewIndex}
use Rattle.pq_schema.specs.Schema.{Schema, has_name, find_column, is_table, is_taken, number_of, find_query, find_counter, with_wanted, with_new_index, with_new_column}
use Rattle.pq_schema.specs.Tables.{no_table, table_at}
use Rattle.pq_schema.specs.Valid.{IsValid, IsAddition, IsCounted}
use Rattle.pq_schema.specs.Valid.IsValid.{empty, then_table, then_query, then_column, then_counter}
use Rattle.pq_schema.proofs.Counts.{place_within}
use Rattle.pq_schema.proofs.Valid.{wanted_there, column_parts, column_takes}
use Rattle.pq_schema.specs.Sequences.{ascending_part, group_access, with_group}
use Rattle.pq_reread.specs.Orderly.{AreNamedApart, IsOrderly, AreOrderly}
use Rattle.pq_reread.proofs.Alls.{one_by_one}
use Rattle.pq_query_read.proofs.Names.{turned}
use Rattle.pq_reread.proofs.Additions.{accepted_column}
use Rattle.pq_reread.proofs.Defined.{ok_is, neither_refuses, not_refused, none_mapped, inside_some, none_passes}

-- ---- elements with different names

absent : {X : Type 0} (name : X → List ℕ) (n : List ℕ) (xs : List X) → list_any (bytes_eq n) (map name xs) ≡ false → position_or_len (λ x. bytes_eq (name x) n) xs ≡ length xs
absent name n [] e = refl
absent name n (x ∷ xs) e =
    let parts = neither (bytes_eq n (name x)) (list_any (bytes_eq n) (map name xs)) e in
    let other : bytes_eq (name x) n ≡ false = turned (name x) n (bytes_eq (name x) n) parts.0 refl in
    rw other (omega (arith, absent name n xs parts.1))
  where
    neither : (a b : Bool) → (a || b) ≡ false → (a ≡ false) × (b ≡ false)
    neither true b e = absurd cc
    neither false b e = (refl, e)

same_bytes : (w : List ℕ) → bytes_eq w w ≡ true
same_bytes w = (bytes_eq-Decides w w).1 refl

eqb_self : (n : ℕ) → eqb n n ≡ true
eqb_self n = eq-eqb n n refl

eqb_below : (i n : ℕ) → i < n → eqb i n ≡ false
eqb_below i n lt = grind arith

push_at : {X : Type 0} (name : X → List ℕ) (xs : List X) (y : X) → AreNamedApart name xs → position_or_len (λ x. bytes_eq (name x) (name y)) xs ≡ length xs
    → (i : ℕ) (d : X) → ((i < length xs) ⊎ (i ≡ length xs)) → position_or_len (λ x. bytes_eq (name x) (name (slice_index_or (xs ++ y ∷ []) i d))) (xs ++ y ∷ []) ≡ i
push_at {X} name xs y apart new i d (inl lt) =
    let n = name (slice_index_or xs i d) in
    ap (λ (z : X). position_or_len (λ x. bytes_eq (name x) (name z)) (xs ++ y ∷ [])) (get_or-append xs (y ∷ []) d i lt)
    ∙ position_or_len_push (λ x. bytes_eq (name x) n) xs y
    ∙ ap (λ (k : ℕ). cond (eqb k (length xs)) (length xs + cond (bytes_eq (name y) n) 0 1) k) (apart i d lt)
    ∙ ap (λ (b : Bool). cond b (length xs + cond (bytes_eq (name y) n) 0 1) i) (eqb_below i (length xs) lt)
push_at {X} name xs y apart new i d (inr end) =
    ap (λ (k : ℕ). position_or_len (λ x. bytes_eq (name x) (name (slice_index_or (xs ++ y ∷ []) k d))) (xs ++ y ∷ [])) end
    ∙ ap (λ (z : X). position_or_len (λ x. bytes_eq (name x) (name z)) (xs ++ y ∷ [])) (get_or-append_seam xs y [] d)
    ∙ position_or_len_push (λ x. bytes_eq (name x) (name y)) xs y
    ∙ ap (λ (k : ℕ). cond (eqb k (length xs)) (length xs + cond (bytes_eq (name y) (name y)) 0 1) k) new
    ∙ ap (λ (b : Bool). cond b (length xs + cond (bytes_eq (name y) (name y)) 0 1) (length xs)) (eqb_self (length xs))
    ∙ ap (λ (b : Bool). length xs + cond b 0 1) (same_bytes (name y))
    ∙ omega (arith, end)

push : {X : Type 0} (name : X → List ℕ) (xs : List X) (y : X) → AreNamedApart name xs → position_or_len (λ x. bytes_eq (name x) (name y)) xs ≡ length xs → AreNamedApart name (xs ++ y ∷ [])
push name xs y apart new i d lt = push_at name xs y apart new i d (below_or_end i (length xs) (omega (arith, length-append xs (y ∷ []))))
  where
    below_or_end : (i n : ℕ) → i < n + 1 → (i < n) ⊎ (i ≡ n)
    below_or_end i n lt = grind arith

nil_apart : {X : Type 0} (name : X → List ℕ) → AreNamedApart name []
nil_apart name i d lt = absurd (omega arith)

-- ---- columns

abbrev column_names : Column → List ℕ
column_names column = column.name

unrepeated : (before names : List (List ℕ)) (n : List ℕ) (b : Bool) → cond b (Some n) (repeated_after (before ++ n ∷ []) names) ≡ None → (b ≡ false) × (repeated_after (before ++ n ∷ []) names ≡ None)
unrepeated before names n true e = absurd cc
unrepeated before names n false e = (refl, e)

columns_apart : (before columns : List Column) → AreNamedApart column_names before → repeated_after (map column_names before) (map column_names columns) ≡ None → AreNamedApart column_names (before ++ columns)
columns_apart before [] apart e = subst (AreNamedApart column_names) (sym (nothing_behind before)) apart
  where
    nothing_behind : {X : Type 0} (xs : List X) → xs ++ [] ≡ xs
    nothing_behind [] = refl
    nothing_behind (x ∷ xs) = ap (λ v. x ∷ v) (nothing_behind xs)
columns_apart before (c ∷ cs) apart e =
    let parts = unrepeated (map column_names before) (map column_names cs) c.name (list_any (bytes_eq c.name) (map column_names before)) e in
    let more = push column_names before c apart (absent column_names c.name before parts.0) in
    subst (AreNamedApart column_names) (append_assoc before (c ∷ []) cs)
    (columns_apart (before ++ c ∷ []) cs more (ap (λ (v : List (List ℕ)). repeated_after v (map column_names cs)) (map-append column_names before (c ∷ [])) ∙ parts.1))

named_columns : (cs : List ColumnDef) → AllByRecursion IsColumnDef cs → AllByRecursion (λ (column : Column). IsName column.name) (map column_of cs)
named_columns [] all = tt
named_columns (c ∷ cs) all = (all.0.name, named_columns cs all.1)

pub places_inside : (cs : List Column) (names : List (List ℕ)) → find (is_unknown cs) names ≡ None → AllByRecursion (λ col. col < length cs) (places_of cs names)
places_inside cs [] e = tt
places_inside cs (n ∷ ns) e =
    let parts = none_passes (is_unknown cs) n ns (is_unknown cs n) e in
    (place_within cs n parts.0, places_inside cs ns parts.1)

-- ---- tables

bare_orderly : (schema : Schema) (def : TableDef) → IsTableDef def → table_refusal schema def ≡ None → IsOrderly (bare_table schema def)
bare_orderly schema def is e =
    let later = (neither_refuses (name_refusal schema def.name) _ e).1 in
    let counts = neither_refuses (counts_refusal def) _ later in
    let made = map column_of def.columns in
    let columns = neither_refuses (columns_refusal def.columns) (groups_refusal schema made def) counts.1 in
    let apart = (neither_refuses (refused_if _ _) (repeated_refusal (names_of made)) columns.0).1 in
    let groups = neither_refuses (key_refusal made def.key) _ columns.1 in
    let key = neither_refuses (names_refusal made def.key) _ groups.0 in
    let known = (neither_refuses (unknown_refusal made def.key) _ key.0).0 in
    let count = not_refused (is_outside (length def.key) 4) _ (neither_refuses (nullable_refusal made def.key) _ key.1).1 in
    record {
      name = is.name;
      columns = named_columns def.columns (one_by_one IsColumnDef def.columns is.columns);
      apart = columns_apart [] made (nil_apart column_names) (none_mapped repeated_name _ apart);
      some_key = omega (arith, inside_some (length def.key) 4 count, length-map def.key (place_of made));
      short_key = omega (arith, inside_most (length def.key) 4 count, length-map def.key (place_of made));
      key = places_inside made def.key (none_mapped no_column _ known);
    }
  where
    inside_most : (n most : ℕ) → is_outside n most ≡ false → n ≤ most
    inside_most n most e = grind (arith, nat_tests)

group_orderly : (t : Table) (cols : List ℕ) (b : Bool) → IsOrderly t → IsOrderly (cond b t (record t { indexes = t.indexes ++ record { cols = map ascending_part cols } ∷ [] }))
group_orderly t cols true p = p
group_orderly t cols false p = record { name = p.name; columns = p.columns; apart = p.apart; some_key = p.some_key; short_key = p.short_key; key = p.key }

groups_orderly : (groups : List (List ℕ)) (t : Table) → IsOrderly t → IsOrderly (fold with_group t groups)
groups_orderly [] t p = p
groups_orderly (cols ∷ groups) t p = groups_orderly groups (with_group t cols) (group_orderly t cols (is_some (group_access t (set_of cols))) p)

-- indexes leave the name
group_name : (t : Table) (cols : List ℕ) (b : Bool) → (cond b t (record t { indexes = t.indexes ++ record { cols = map ascending_part cols } ∷ [] })).name ≡ t.name
group_name t cols true = refl
group_name t cols false = refl

groups_name : (groups : List (List ℕ)) (t : Table) → (fold with_group t groups).name ≡ t.name
groups_name [] t = refl
groups_name (cols ∷ groups) t = groups_name groups (with_group t cols) ∙ group_name t cols (is_some (group_access t (set_of cols)))

-- a name that is free is no table's
free_name : (schema : Schema) (name : List ℕ) → is_taken schema name ≡ false → position_or_len (is_table name) schema.tables ≡ length schema.tables
free_name schema name e = by_test (nat_lt (position_or_len (is_table name) schema.tables) (length schema.tables)) refl (is_some (find_query schema name) || is_some (find_counter schema name)) e
  where
    by_test : (b : Bool) → nat_lt (position_or_len (is_table name) schema.tables) (length schema.tables) ≡ b → (other : Bool)
        → (is_some (option_map number_of (cond b (Some (position_or_len (is_table name) schema.tables)) None)) || other) ≡ false → position_or_len (is_table name) schema.tables ≡ length schema.tables
    by_test true is other e = absurd cc
    by_test false is other e = grind (arith, nat_tests, prefix_len-le-length (λ table. not (is_table name table)) schema.tables)

abbrev table_names : Table → List ℕ
table_names table = table.name

one_more : (tables : List Table) (table : Table) → AreOrderly tables → IsOrderly table → position_or_len (is_table table.name) tables ≡ length tables → AreOrderly (tables ++ table ∷ [])
one_more tables table are is new = record {
  each = All-append IsOrderly tables (table ∷ []) are.each (All-cons IsOrderly table [] is (All-nil IsOrderly));
  apart = push table_names tables table are.apart new;
}

pub none_orderly : AreOrderly []
none_orderly = record { each = All-nil IsOrderly; apart = nil_apart table_names }

pub table_orderly : (schema : Schema) (def : TableDef) (table : Table) → AreOrderly schema.tables → IsTableDef def → new_table schema def ≡ Ok table → AreOrderly (schema.tables ++ table ∷ [])
unfolding new_table
table_orderly schema def table are is e =
    let made = ok_is (table_refusal schema def) (table_of_def schema def) table e in
    let groups = map (λ limit. limit.cols) (bare_table schema def).limits ++ map (λ foreign. foreign.cols) (bare_table schema def).foreign in
    let names = (neither_refuses (definition_refusal schema def.name) _ (neither_refuses (name_refusal schema def.name) _ made.0).0).0 in
    let free = not_refused (is_taken schema def.name) _ (neither_refuses (refused_if _ _) _ names).1 in
    let name : table.name ≡ def.name = sym (ap (λ (t : Table). t.name) made.1) ∙ groups_name groups (bare_table schema def) in
    one_more schema.tables table are (subst IsOrderly made.1 (groups_orderly groups (bare_table schema def) (bare_orderly schema def is made.0)))
    (ap (λ (n : List ℕ). position_or_len (is_table n) schema.tables) name ∙ free_name schema def.name free)

-- a table changes, but for its name
module _ (tables : List Table) (number : ℕ) (changed : Table) (one : 1 ≤ number) (there : number ≤ length tables) (named : changed.name ≡ (table_at tables number).name) (is : IsOrderly changed) (are : AreOrderly tables) where
  abbrev after : List Table
  after = set tables (number - 1) changed

  name_kept : (k : ℕ) (d : Table) → k < length tables → (get_or after k d).name ≡ (get_or tables k d).name
  name_kept k d lt =
      elim (cases_eq k (number - 1)) [
        | inl same ↦
            ap (λ n. (get_or after n d).name) same
            ∙ ap (λ (t : Table). t.name) (get_or-set_same tables (number - 1) changed d (omega arith))
            ∙ named
            ∙ ap (λ (t : Table). t.name) (get_or_default tables (number - 1) no_table d (omega arith))
            ∙ ap (λ n. (get_or tables n d).name) (sym same)
        | inr other ↦ ap (λ (t : Table). t.name) (get_or-set_other tables (number - 1) k changed d other)
      ]

  after_orderly : AreOrderly after
  after_orderly = record {
    each = All-set IsOrderly tables (number - 1) changed is are.each;
    apart = λ k d lt.
        let within : k < length tables = omega (arith, length-set tables (number - 1) changed) in
        ap (λ n. position_or_len (λ (t : Table). bytes_eq t.name n) after) (name_kept k d within)
        ∙ position_or_len-set (λ (t : Table). bytes_eq t.name (get_or tables k d).name) tables (number - 1) changed no_table (ap (λ n. bytes_eq n (get_or tables k d).name) named)
        ∙ are.apart k d within;
  }

table_orderly_at : (tables : List Table) (number : ℕ) → 1 ≤ number → number ≤ length tables → AreOrderly tables → IsOrderly (table_at tables number)
table_orderly_at tables number one there are = are.each (number - 1) no_table (omega arith)

-- one more index
wanted_orderly : (tables : List Table) (wanted : Option NewIndex) → IfSome wanted (λ new. (1 ≤ new.table) × (new.table ≤ length tables)) → AreOrderly tables → AreOrderly (with_wanted tables wanted)
wanted_orderly tables None there are = are
wanted_orderly tables (Some new) there are =
    let is = table_orderly_at tables new.table there.0 there.1 are in
    after_orderly tables new.table (with_new_index (table_at tables new.table) new.index) there.0 there.1 refl
    (record { name = is.name; columns = is.columns; apart = is.apart; some_key = is.some_key; short_key = is.short_key; key = is.key }) are

-- one more column
all_more : {X : Type 0} (P : X → Type 0) (xs : List X) (y : X) → AllByRecursion P xs → P y → AllByRecursion P (xs ++ y ∷ [])
all_more P [] y all is = (is, tt)
all_more P (x ∷ xs) y all is = (all.0, all_more P xs y all.1 is)

all_below : (n m : ℕ) (cols : List ℕ) → n ≤ m → AllByRecursion (λ col. col < n) cols → AllByRecursion (λ col. col < m) cols
all_below n m [] le all = tt
all_below n m (col ∷ cols) le all = (omega (arith, le, all.0), all_below n m cols le all.1)

-- what nothing passes has no place
none_passes_at : {X : Type 0} (p : X → Bool) (xs : List X) → is_some (position p xs) ≡ false → position_or_len p xs ≡ length xs
none_passes_at p xs e = by_test (nat_lt (position_or_len p xs) (length xs)) refl e
  where
    by_test : (b : Bool) → nat_lt (position_or_len p xs) (length xs) ≡ b → is_some (cond b (Some (position_or_len p xs)) None) ≡ false → position_or_len p xs ≡ length xs
    by_test true is e = absurd cc
    by_test false is e = grind (arith, nat_tests, prefix_len-le-length (λ x. not (p x)) xs)

widened_orderly : (table : Table) (column : Column) (filler : Value) → IsOrderly table → IsName column.name → is_some (find_column table.columns column.name) ≡ false → IsOrderly (with_new_column table column filler)
widened_orderly table column filler is name free = record {
  name = is.name;
  columns = all_more (λ (column : Column). IsName column.name) table.columns column is.columns name;
  apart = push column_names table.columns column is.apart (none_passes_at (has_name column.name) table.columns free);
  some_key = is.some_key;
  short_key = is.short_key;
  key = all_below (length table.columns) (length (table.columns ++ column ∷ [])) table.key (omega (arith, length-append table.columns (column ∷ []))) is.key;
}

added_orderly : (schema : Schema) (def : AlterDef) (next : Schema) → AreOrderly schema.tables → IsAddition schema def next → AreOrderly next.tables
added_orderly schema def next are is =
    let number = altered_table schema def in
    let parts = column_parts schema def next is.accepted in
    let takes = column_takes schema def parts.0 in
    let widened = with_new_column (table_at schema.tables number) (column_of def.column) def.filler in
    subst (λ (s : Schema). AreOrderly s.tables) parts.1
    (after_orderly schema.tables number widened takes.from_one takes.there refl
    (widened_orderly (table_at schema.tables number) (column_of def.column) def.filler (table_orderly_at schema.tables number takes.from_one takes.there are) is.names.column.name (accepted_column schema def parts.0).free)
    are)

-- a counter leaves the tables
counted_orderly : (schema : Schema) (def : CounterDef) (next : Schema) → AreOrderly schema.tables → IsCounted schema def next → AreOrderly next.tables
unfolding new_counter
counted_orderly schema def next are is =
    subst (λ (s : Schema). AreOrderly s.tables) (ok_is (counter_refusal schema def) (counted_schema schema def) next is.accepted).1 are

-- the tables of a valid schema are orderly
pub valid_orderly : {schema : Schema} → IsValid schema → AreOrderly schema.tables
valid_orderly empty = none_orderly
valid_orderly (then_table schema def table valid is made) = table_orderly schema def table (valid_orderly valid) is made
valid_orderly (then_query schema query wanted valid d) =
    wanted_orderly schema.tables wanted (wanted_there schema.tables query wanted d.resolved d.chosen) (valid_orderly valid)
valid_orderly (then_column schema def next valid is) = added_orderly schema def next (valid_orderly valid) is
valid_orderly (then_counter schema def next valid is) = counted_orderly schema def next (valid_orderly valid) is

pub keys_of : (tables : List Table) → AreOrderly tables → All (λ (table : Table). 0 < length table.key) tables
keys_of tables are k d lt = (are.each k d lt).some_key

-- ---- what is found by its name

pub found_at : {X : Type 0} (p : X → Bool) (xs : List X) (i : ℕ) → position_or_len p xs ≡ i → i < length xs → position p xs ≡ Some i
found_at p xs i e lt =
    let within : nat_lt (position_or_len p xs) (length xs) ≡ true = lt-ltb _ _ (omega (arith, e)) in
    rw within (ap (λ (k : ℕ). Some k) e)

-- the column of a name is found at its place
pub column_found : (table : Table) (col : ℕ) (d : Column) → IsOrderly table → col < length table.columns → position (λ (column : Column). bytes_eq column.name (slice_index_or table.columns col d).name) table.columns ≡ Some col
column_found table col d is lt = found_at _ table.columns col (is.apart col d lt) lt

pub table_found : (tables : List Table) (place : ℕ) (d : Table) → AreOrderly tables → place < length tables → position (is_table (slice_index_or tables place d).name) tables ≡ Some place
table_found tables place d are lt = found_at _ tables place (are.apart place d lt) lt
