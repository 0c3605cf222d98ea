-- The table that a definition makes says what the definition says.
use Rattle.std.proofs.Common.{◌≡◌, ℕ, ℤ, pos, negsuc, ◌+◌, ◌-◌, ◌^◌, ◌<◌, Bool, true, false, cond, not, ◌&&◌, List, [], ◌∷◌, ◌++◌, length, map, get_or, Option, Some, None, Ok, refl, sym, ap, subst, ◌∙◌, arith}
use Rattle.std.specs.Prelude.{nat_le, position, find, slice_index_or, unwrap_or, is_some, fold, All}
use Rattle.std.specs.Option.{option_map}
use Rattle.std.specs.List.{list_all}
use Rattle.std.proofs.Math.ListN.{get_or-append}
use Rattle.std.proofs.lemmas.Bool.Decides.{nat_tests}
use Rattle.std.proofs.lemmas.List.{length-map}
use Rattle.std.proofs.lemmas.List.Quantifiers.{position-Some}
use Rattle.std.proofs.lemmas.Slice.Eq.{bytes_eq-Decides}
use Rattle.pq_base.specs.Answers.{or_else}
use Rattle.pq_base.specs.declared.refusal.Refusal.{Refusal}
use Rattle.pq_schema.specs.declared.definition.ColumnDef.{ColumnDef}
use Rattle.pq_schema.specs.declared.definition.TableDef.{TableDef}
use Rattle.pq_schema.specs.declared.table.Column.{Column}
use Rattle.pq_schema.specs.declared.table.Table.{Table}
use Rattle.pq_schema.specs.ColumnNames.{is_unknown, place_of, places_of, no_column, unknown_refusal, names_refusal}
use Rattle.pq_schema.specs.Definitions.{has_type, column_of, refused_if, is_outside, cardinality, or_ok, name_refusal, counts_refusal, columns_refusal, nullable_refusal, key_refusal, limit_refusal, limits_refusal, has_shape, reference_refusal, foreign_refusal, foreigns_refusal, groups_refusal, table_refusal, limit_of_def, foreign_of_def, bare_table, table_of_def, new_table}
use Rattle.pq_schema.specs.Sequences.{ascending_part, group_access, with_group}
use Rattle.pq_schema.proofs.Counts.{name_there}
use Rattle.pq_schema.proofs.TypeKinds.{same_length}
use Rattle.pq_schema.specs.Tables.{no_table, table_at, type_at, types_at}
use Rattle.pq_schema.specs.Schema.{Schema, is_table, number_of, find_table}
use Rattle.pq_base.specs.Columns.{set_of}
use Rattle.pq_schema.specs.declared.definition.LimitDef.{LimitDef}
use Rattle.pq_schema.specs.declared.definition.ForeignDef.{ForeignDef}
use Rattle.pq_print.specs.Canonical.{column_name}
use Rattle.pq_schema.specs.Names.{IsTableDef}
use Rattle.pq_text.specs.Tokens.{tokens_of}
use Rattle.pq_def_read.specs.Reading.{statement_of}
use Rattle.pq_def_read.specs.declared.statement.Statement.TheVariants.{Create}
use Rattle.pq_print.specs.Canonical.{table_text}
use Rattle.pq_reread.proofs.Tables.{table_reads}
use Rattle.pq_reread.specs.Said.{Pairwise, SaysColumn, SaysLimit, SaysForeign, Says}

-- ---- nothing refuses

pub ok_is : {A : Type 0} (r : Option Refusal) (t u : A) → or_ok r t ≡ Ok u → (r ≡ None) × (t ≡ u)
ok_is None t u e = (refl, cc)
ok_is (Some why) t u e = absurd cc

pub neither_refuses : (a b : Option Refusal) → or_else a b ≡ None → (a ≡ None) × (b ≡ None)
neither_refuses None b e = (refl, e)
neither_refuses (Some why) b e = absurd cc

pub not_refused : (b : Bool) (why : Refusal) → refused_if b why ≡ None → b ≡ false
not_refused true why e = absurd cc
not_refused false why e = refl

pub none_mapped : {A B : Type 0} (f : A → B) (o : Option A) → option_map f o ≡ None → o ≡ None
none_mapped f None e = refl
none_mapped f (Some x) e = absurd cc

pub not_false : (b : Bool) → not b ≡ false → b ≡ true
not_false true e = refl
not_false false e = absurd cc

pub inside_some : (n most : ℕ) → is_outside n most ≡ false → 0 < n
inside_some n most e = grind (arith, nat_tests)

-- ---- columns by their places

pub none_passes : {X : Type 0} (p : X → Bool) (x : X) (xs : List X) (b : Bool) → cond b (Some x) (find p xs) ≡ None → (b ≡ false) × (find p xs ≡ None)
none_passes p x xs true e = absurd cc
none_passes p x xs false e = (refl, e)

pub names_there : (cs : List Column) (names : List (List ℕ)) → find (is_unknown cs) names ≡ None → Pairwise (λ name col. column_name cs col ≡ name) names (places_of cs names)
names_there cs [] e = tt
names_there cs (n ∷ ns) e =
    let parts = none_passes (is_unknown cs) n ns (is_unknown cs n) e in
    (name_there cs n parts.0, names_there cs ns parts.1)

columns_by : (c : ColumnDef) (cs : List ColumnDef) (b : Bool) → has_type c ≡ b → (list_all has_type cs ≡ true → Pairwise SaysColumn cs (map column_of cs)) → (b && list_all has_type cs) ≡ true
    → SaysColumn c (column_of c) × Pairwise SaysColumn cs (map column_of cs)
columns_by c cs true is later e = (record { typed = is; column = refl }, later e)
columns_by c cs false is later e = absurd cc

columns_say : (cs : List ColumnDef) → list_all has_type cs ≡ true → Pairwise SaysColumn cs (map column_of cs)
columns_say [] all = tt
columns_say (c ∷ cs) all = columns_by c cs (has_type c) refl (columns_say cs) all

-- ---- limits

number_by : (n : ℕ) (low high : Bool) → nat_le n 10000 ≡ high → is_some (cond (low && high) (Some n) None) ≡ true → (pos n ≡ pos (unwrap_or (cond (low && high) (Some n) None) 0)) × (unwrap_or (cond (low && high) (Some n) None) 0 < 2 ^ 63)
number_by n true true is e = (refl, grind (arith, nat_tests))
number_by n true false is e = absurd cc
number_by n false high is e = absurd cc

number_is : (z : ℤ) → is_some (cardinality z) ≡ true → (z ≡ pos (unwrap_or (cardinality z) 0)) × (unwrap_or (cardinality z) 0 < 2 ^ 63)
number_is (negsuc n) e = absurd cc
number_is (pos n) e = number_by n (nat_le 1 n) (nat_le n 10000) refl e

limit_says : (cs : List Column) (l : LimitDef) → limit_refusal cs l ≡ None → SaysLimit cs l (limit_of_def cs l)
limit_says cs l e =
    let known = neither_refuses (names_refusal cs l.cols) _ e in
    let names = neither_refuses (unknown_refusal cs l.cols) _ known.0 in
    let count = neither_refuses (refused_if (is_outside (length l.cols) 4) _) _ known.1 in
    let n = number_is l.n (not_false (is_some (cardinality l.n)) (not_refused _ _ count.1)) in
    record { n = n.0; small = n.1; cols = record { some = inside_some (length l.cols) 4 (not_refused _ _ count.0); names = names_there cs l.cols (none_mapped no_column _ names.0) } }

limits_say : (cs : List Column) (ls : List LimitDef) → limits_refusal cs ls ≡ None → Pairwise (SaysLimit cs) ls (map (limit_of_def cs) ls)
limits_say cs [] e = tt
limits_say cs (l ∷ ls) e = let parts = neither_refuses (limit_refusal cs l) (limits_refusal cs ls) e in (limit_says cs l parts.0, limits_say cs ls parts.1)

-- ---- foreign keys

pub mapped_some : {A B : Type 0} (f : A → B) (o : Option A) (y : B) → option_map f o ≡ Some y → (x : A) × (o ≡ Some x) × (f x ≡ y)
mapped_some f None y e = absurd cc
mapped_some f (Some x) y e = (x, refl, cc)

-- the table that is found by a name
pub found_name : (schema : Schema) (name : List ℕ) (t : ℕ) → find_table schema name ≡ Some t → (table_at schema.tables t).name ≡ name
found_name schema name t e =
    let place = mapped_some number_of (position (is_table name) schema.tables) t e in
    let there = position-Some (is_table name) schema.tables place.0 no_table place.1 in
    let index : t - 1 ≡ place.0 = omega (arith, place.2) in
    ap (λ (i : ℕ). (slice_index_or schema.tables i no_table).name) index ∙ (bytes_eq-Decides (get_or schema.tables place.0 no_table).name name).0 there.1

-- also among more tables
found_named : (schema : Schema) (table : Table) (name : List ℕ) (t : ℕ) → find_table schema name ≡ Some t → (table_at (schema.tables ++ table ∷ []) t).name ≡ name
found_named schema table name t e =
    let place = mapped_some number_of (position (is_table name) schema.tables) t e in
    let there = position-Some (is_table name) schema.tables place.0 no_table place.1 in
    let index : t - 1 ≡ place.0 = omega (arith, place.2) in
    ap (λ (x : Table). x.name) (get_or-append schema.tables (table ∷ []) no_table (t - 1) (omega (arith, index, there.0))) ∙ found_name schema name t e

-- what holds of each table holds of one that is found
pub found_has : (P : Table → Type 0) (schema : Schema) (name : List ℕ) (t : ℕ) → All P schema.tables → find_table schema name ≡ Some t → P (table_at schema.tables t)
found_has P schema name t all e =
    let place = mapped_some number_of (position (is_table name) schema.tables) t e in
    let there = position-Some (is_table name) schema.tables place.0 no_table place.1 in
    let index : t - 1 ≡ place.0 = omega (arith, place.2) in
    subst (λ (i : ℕ). P (slice_index_or schema.tables i no_table)) (sym index) (all place.0 no_table there.0)

-- as many columns as the key has
pub reference_length : (schema : Schema) (cs : List Column) (number : ℕ) (f : ForeignDef) (t : ℕ) → reference_refusal schema cs number f (Some t) ≡ None → length f.cols ≡ length (table_at schema.tables t).key
reference_length schema cs number f t e =
    let other = table_at schema.tables t in
    let kinds = not_false (has_shape cs f.cols other) (not_refused _ _ e) in
    let lengths = same_length (types_at cs (places_of cs f.cols)) (types_at other.columns other.key) kinds in
    let left : length (types_at cs (places_of cs f.cols)) ≡ length f.cols = length-map (places_of cs f.cols) (type_at cs) ∙ length-map f.cols (place_of cs) in
    let right : length (types_at other.columns other.key) ≡ length other.key = length-map other.key (type_at other.columns) in
    sym left ∙ lengths ∙ right

foreign_by : (schema : Schema) (table : Table) (cs : List Column) (number : ℕ) (f : ForeignDef) (o : Option ℕ) → All (λ (x : Table). 0 < length x.key) schema.tables → find_table schema f.table ≡ o
    → reference_refusal schema cs number f o ≡ None → (0 < length f.cols) × ((table_at (schema.tables ++ table ∷ []) (unwrap_or o 0)).name ≡ f.table)
foreign_by schema table cs number f None keys found e = absurd cc
foreign_by schema table cs number f (Some t) keys found e =
    let some = found_has (λ (x : Table). 0 < length x.key) schema f.table t keys found in
    (omega (arith, reference_length schema cs number f t e, some), found_named schema table f.table t found)

foreign_says : (schema : Schema) (table : Table) (cs : List Column) (number : ℕ) (f : ForeignDef) → All (λ (x : Table). 0 < length x.key) schema.tables
    → foreign_refusal schema cs number f ≡ None → SaysForeign (schema.tables ++ table ∷ []) cs f (foreign_of_def schema cs f)
foreign_says schema table cs number f keys e =
    let parts = neither_refuses (names_refusal cs f.cols) _ e in
    let names = neither_refuses (unknown_refusal cs f.cols) _ parts.0 in
    let reference = foreign_by schema table cs number f (find_table schema f.table) keys refl parts.1 in
    record { cols = record { some = reference.0; names = names_there cs f.cols (none_mapped no_column _ names.0) }; table = reference.1 }

foreigns_say : (schema : Schema) (table : Table) (cs : List Column) (number : ℕ) (fs : List ForeignDef) → All (λ (x : Table). 0 < length x.key) schema.tables
    → foreigns_refusal schema cs number fs ≡ None → Pairwise (SaysForeign (schema.tables ++ table ∷ []) cs) fs (map (foreign_of_def schema cs) fs)
foreigns_say schema table cs number [] keys e = tt
foreigns_say schema table cs number (f ∷ fs) keys e =
    let parts = neither_refuses (foreign_refusal schema cs number f) (foreigns_refusal schema cs (number + 1) fs) e in
    (foreign_says schema table cs number f keys parts.0, foreigns_say schema table cs (number + 1) fs keys parts.1)

-- ---- the table

-- indexes say nothing
pub group_says : (tables : List Table) (def : TableDef) (t : Table) (cols : List ℕ) (b : Bool) → Says tables def t → Says tables def (cond b t (record t { indexes = t.indexes ++ record { cols = map ascending_part cols } ∷ [] }))
group_says tables def t cols true p = p
group_says tables def t cols false p = record { name = p.name; some = p.some; columns = p.columns; key = p.key; limits = p.limits; foreign = p.foreign }

groups_say : (tables : List Table) (def : TableDef) (groups : List (List ℕ)) (t : Table) → Says tables def t → Says tables def (fold with_group t groups)
groups_say tables def [] t p = p
groups_say tables def (cols ∷ groups) t p = groups_say tables def groups (with_group t cols) (group_says tables def t cols (is_some (group_access t (set_of cols))) p)

bare_says : (schema : Schema) (def : TableDef) (table : Table) → All (λ (x : Table). 0 < length x.key) schema.tables → table_refusal schema def ≡ None → Says (schema.tables ++ table ∷ []) def (bare_table schema def)
bare_says schema def table keys e =
    let later = (neither_refuses (name_refusal schema def.name) _ e).1 in
    let counts = neither_refuses (counts_refusal def) _ later in
    let count = (neither_refuses (refused_if (is_outside (length def.columns) 32) _) _ counts.0).0 in
    let made = map column_of def.columns in
    let columns = neither_refuses (columns_refusal def.columns) (groups_refusal schema made def) counts.1 in
    let typed = (neither_refuses (refused_if (not (list_all has_type def.columns)) _) _ columns.0).0 in
    let groups = neither_refuses (key_refusal made def.key) _ columns.1 in
    let more = neither_refuses (limits_refusal made def.limits) (foreigns_refusal schema made 1 def.foreign) groups.1 in
    let key = neither_refuses (names_refusal made def.key) _ groups.0 in
    let counted = neither_refuses (nullable_refusal made def.key) _ key.1 in
    let known = (neither_refuses (unknown_refusal made def.key) _ key.0).0 in
    record {
      name = refl;
      some = inside_some (length def.columns) 32 (not_refused _ _ count);
      columns = columns_say def.columns (not_false (list_all has_type def.columns) (not_refused _ _ typed));
      key = record { some = inside_some (length def.key) 4 (not_refused _ _ counted.1); names = names_there made def.key (none_mapped no_column _ known) };
      limits = limits_say made def.limits more.0;
      foreign = foreigns_say schema table made 1 def.foreign keys more.1;
    }

pub defined_says : (schema : Schema) (def : TableDef) (table : Table) → All (λ (x : Table). 0 < length x.key) schema.tables → new_table schema def ≡ Ok table → Says (schema.tables ++ table ∷ []) def table
unfolding new_table
defined_says schema def table keys e =
    let made = ok_is (table_refusal schema def) (table_of_def schema def) table e in
    subst (λ (t : Table). Says (schema.tables ++ table ∷ []) def t) made.1 (groups_say (schema.tables ++ table ∷ []) def (map (λ limit. limit.cols) (bare_table schema def).limits ++ map (λ foreign. foreign.cols) (bare_table schema def).foreign) (bare_table schema def) (bare_says schema def table keys made.0))

pub defined_reads : (schema : Schema) (def : TableDef) (table : Table) → All (λ (x : Table). 0 < length x.key) schema.tables → IsTableDef def → new_table schema def ≡ Ok table
    → statement_of (table_text (schema.tables ++ table ∷ []) table) (tokens_of (table_text (schema.tables ++ table ∷ []) table)) ≡ Ok (Create def)
defined_reads schema def table keys is e = table_reads (schema.tables ++ table ∷ []) def table is (defined_says schema def table keys e)
