-- Canonical texts have at most a mebibyte.
use Rattle.std.proofs.Common.{◌≡◌, ℕ, ℤ, suc, ◌+◌, ◌*◌, ◌^◌, ◌<◌, ◌≤◌, Bool, true, false, List, [], ◌∷◌, ◌++◌, length, map, Option, Some, None, Ok, refl, sym, ap, subst, arith, length-append, inl, inr}
use Rattle.std.specs.Prelude.{codes, nat_lt, All, unwrap_or}
use Rattle.std.specs.Fmt.{decimal}
use Rattle.std.specs.Option.{option_map}
use Rattle.std.specs.List.{AllByRecursion}
use Rattle.std.proofs.Math.Nat.{suc-mul}
use Rattle.std.proofs.lemmas.Fmt.{length-decimal-le}
use Rattle.std.proofs.lemmas.Bool.Decides.{nat_tests}
use Rattle.pq_base.specs.declared.value.ColType.TheVariants as type
use Rattle.pq_schema.specs.declared.definition.ColumnDef.{ColumnDef}
use Rattle.pq_schema.specs.declared.definition.LimitDef.{LimitDef}
use Rattle.pq_schema.specs.declared.definition.ForeignDef.{ForeignDef}
use Rattle.pq_schema.specs.declared.definition.TableDef.{TableDef}
use Rattle.pq_schema.specs.declared.table.Column.{Column}
use Rattle.pq_schema.specs.declared.table.Foreign.{Foreign}
use Rattle.pq_schema.specs.declared.table.Limit.{Limit}
use Rattle.pq_schema.specs.declared.table.Table.{Table}
use Rattle.pq_schema.specs.ColumnNames.{names_refusal}
use Rattle.pq_schema.specs.Definitions.{text_size, with_null, column_type, has_type, column_of, refused_if, is_outside, name_refusal, counts_refusal, columns_refusal, nullable_refusal, key_refusal, limit_refusal, limits_refusal, reference_refusal, foreign_refusal, foreigns_refusal, groups_refusal, table_refusal, table_of_def, new_table}
use Rattle.pq_schema.specs.Names.{IsName, IsKind, IsColumnDef, IsLimitDef, IsForeignDef, IsTableDef}
use Rattle.pq_schema.specs.Schema.{Schema, find_table}
use Rattle.pq_schema.specs.Tables.{table_at}
use Rattle.pq_print.specs.Lists.{each_after, separate_texts}
use Rattle.pq_print.specs.Canonical.{column_name, type_text, column_text, columns_text, limit_text, foreign_text, items_text, table_text}
use Rattle.pq_reread.specs.Said.{Pairwise, SaysColumn, SaysColumns, SaysLimit, SaysForeign, Says}
use Rattle.pq_reread.specs.Orderly.{IsOrderly, AreOrderly}
use Rattle.pq_reread.proofs.Alls.{one_by_one}
use Rattle.pq_query_read.proofs.Names.{name_short}
use Rattle.pq_reread.proofs.Tables.{size_is, some_before, kind_column}
use Rattle.pq_reread.proofs.Defined.{ok_is, neither_refuses, not_refused, found_has, reference_length, defined_says}
use Rattle.pq_reread.proofs.Orders.{keys_of}

pub each_short : {Y : Type 0} (between : List ℕ) (text : Y → List ℕ) (m : ℕ) (ys : List Y) → AllByRecursion (λ y. length between + length (text y) ≤ m) ys → length (each_after between text ys) ≤ length ys * m
each_short between text m [] all = omega arith
each_short between text m (y ∷ ys) all =
    let rest = each_after between text ys in
    let first : length (between ++ text y) ≤ m = omega (arith, length-append between (text y), all.0) in
    let both : length ((between ++ text y) ++ rest) ≡ length (between ++ text y) + length rest = length-append (between ++ text y) rest in
    omega (arith, first, both, each_short between text m ys all.1, suc-mul (length ys) m)

pub separated_short : {Y : Type 0} (between : List ℕ) (text : Y → List ℕ) (m : ℕ) (ys : List Y) → AllByRecursion (λ y. length between + length (text y) ≤ m) ys → length (separate_texts between text ys) ≤ length ys * m
separated_short between text m [] all = omega arith
separated_short between text m (y ∷ ys) all =
    omega (arith, all.0, length-append (text y) (each_after between text ys), each_short between text m ys all.1, suc-mul (length ys) m)

pub same_length : {X Y : Type 0} (R : X → Y → Type 0) (xs : List X) (ys : List Y) → Pairwise R xs ys → length xs ≡ length ys
same_length R [] [] says = refl
same_length R [] (y ∷ ys) says = absurd says
same_length R (x ∷ xs) [] says = absurd says
same_length R (x ∷ xs) (y ∷ ys) says = ap suc (same_length R xs ys says.1)

pub number_short : (n : ℕ) → n < 2 ^ 63 → length (decimal n) ≤ 20
number_short n small = length-decimal-le 20 n (omega arith) (omega arith) (omega arith)

-- ---- columns

abbrev KindShort : List ℕ → ℤ → Bool → Type 0
KindShort kind size null = has_type (kind_column kind size null) ≡ true → length (type_text (unwrap_or (column_type (kind_column kind size null)) type.Int)) ≤ 31

sized_short : (n : ℕ) → n < 2 ^ 63 → length (codes "TEXT(" ++ decimal n ++ codes ")") ≤ 26
sized_short n small = omega (arith, length-append (codes "TEXT(" ++ decimal n) (codes ")"), length-append (codes "TEXT(") (decimal n), number_short n small)

sized_null_short : (null : Bool) (n : ℕ) → n < 2 ^ 63 → length (type_text (with_null null (type.Text n))) ≤ 31
sized_null_short false n small = let short = sized_short n small in omega (arith, short)
sized_null_short true n small = omega (arith, length-append (codes "TEXT(" ++ decimal n) (codes ") NULL"), length-append (codes "TEXT(") (decimal n), number_short n small)

int_short : (null : Bool) (size : ℤ) → KindShort (codes "INT") size null
int_short true size typed = omega arith
int_short false size typed = omega arith

bool_short : (null : Bool) (size : ℤ) → KindShort (codes "BOOL") size null
bool_short true size typed = omega arith
bool_short false size typed = omega arith

kind_short : (kind : List ℕ) (size : ℤ) (null : Bool) → IsKind kind size → KindShort kind size null
kind_short kind size null (inl h) = subst (λ (k : List ℕ). KindShort k size null) (sym h.0) (int_short null size)
kind_short kind size null (inr (inl h)) = subst (λ (k : List ℕ). KindShort k size null) (sym h.0) (bool_short null size)
kind_short kind size null (inr (inr h)) = subst (λ (k : List ℕ). KindShort k size null) (sym h) text_short
  where
    text_short : KindShort (codes "TEXT") size null
    text_short typed =
        let n = size_is size (some_before type.Text (with_null null) (text_size size) typed) in
        subst (λ (o : Option ℕ). length (type_text (unwrap_or (option_map (with_null null) (option_map type.Text o)) type.Int)) ≤ 31) (sym n.3) (sized_null_short null n.0 n.2)

pub column_short : (c : ColumnDef) (printed : Column) → IsColumnDef c → SaysColumn c printed → 2 + length (column_text printed) ≤ 66
unfolding column_text
column_short c printed is says =
    let name = name_short c.name is.name in
    let ty : List ℕ = type_text (column_of c).ty in
    subst (λ (x : Column). 2 + length (column_text x) ≤ 66) (sym says.column)
    (omega (arith, name, kind_short c.kind c.size c.nullable is.kind says.typed, length-append (c.name ++ codes " ") ty, length-append c.name (codes " ")))

columns_short : (cs : List ColumnDef) (printed : List Column) → AllByRecursion IsColumnDef cs → Pairwise SaysColumn cs printed → AllByRecursion (λ p. 2 + length (column_text p) ≤ 66) printed
columns_short [] [] are says = tt
columns_short [] (p ∷ ps) are says = absurd says
columns_short (c ∷ cs) [] are says = absurd says
columns_short (c ∷ cs) (p ∷ ps) are says = (column_short c p are.0 says.0, columns_short cs ps are.1 says.1)

names_short : (columns : List Column) (names : List (List ℕ)) (places : List ℕ) → AllByRecursion IsName names → Pairwise (λ name col. column_name columns col ≡ name) names places
    → AllByRecursion (λ col. 2 + length (column_name columns col) ≤ 34) places
names_short columns [] [] are says = tt
names_short columns [] (p ∷ ps) are says = absurd says
names_short columns (n ∷ ns) [] are says = absurd says
names_short columns (n ∷ ns) (p ∷ ps) are says = (omega (arith, ap length says.0, name_short n are.0), names_short columns ns ps are.1 says.1)

pub cols_short : (table : Table) (names : List (List ℕ)) (places : List ℕ) → length names ≤ 4 → All IsName names → SaysColumns table.columns names places → length (columns_text table.columns places) ≤ 138
unfolding columns_text
cols_short table names places few are says =
    let inner = separate_texts (codes ", ") (column_name table.columns) places in
    let sum = separated_short (codes ", ") (column_name table.columns) 34 places (names_short table.columns names places (one_by_one IsName names are) says.names) in
    omega (arith, few, sum, same_length _ names places says.names, length-append (codes "(" ++ inner) (codes ")"), length-append (codes "(") inner)

-- ---- limits and foreign keys

limit_short : (table : Table) (l : LimitDef) (printed : Limit) → length l.cols ≤ 4 → IsLimitDef l → SaysLimit table.columns l printed → 2 + length (limit_text table.columns printed) ≤ 200
unfolding limit_text
limit_short table l printed few are says =
    let cols = columns_text table.columns printed.cols in
    let n = decimal printed.n in
    omega (
      arith,
      cols_short table l.cols printed.cols few are says.cols,
      number_short printed.n says.small,
      length-append ((codes "CARDINALITY LIMIT " ++ n) ++ codes " ") cols,
      length-append (codes "CARDINALITY LIMIT " ++ n) (codes " "),
      length-append (codes "CARDINALITY LIMIT ") n,
    )

foreign_short : (tables : List Table) (table : Table) (f : ForeignDef) (printed : Foreign) → length f.cols ≤ 4 → IsForeignDef f → SaysForeign tables table.columns f printed → 2 + length (foreign_text tables table.columns printed) ≤ 200
unfolding foreign_text
foreign_short tables table f printed few are says =
    let cols = columns_text table.columns printed.cols in
    let name = (table_at tables printed.table).name in
    omega (
      arith,
      cols_short table f.cols printed.cols few are.cols says.cols,
      ap length says.table,
      name_short f.table are.table,
      length-append ((codes "FOREIGN KEY " ++ cols) ++ codes " REFERENCES ") name,
      length-append (codes "FOREIGN KEY " ++ cols) (codes " REFERENCES "),
      length-append (codes "FOREIGN KEY ") cols,
    )

limits_short : (table : Table) (ls : List LimitDef) (printed : List Limit) → AllByRecursion (λ (l : LimitDef). length l.cols ≤ 4) ls → AllByRecursion IsLimitDef ls → Pairwise (SaysLimit table.columns) ls printed
    → AllByRecursion (λ p. 2 + length (limit_text table.columns p) ≤ 200) printed
limits_short table [] [] few are says = tt
limits_short table [] (p ∷ ps) few are says = absurd says
limits_short table (l ∷ ls) [] few are says = absurd says
limits_short table (l ∷ ls) (p ∷ ps) few are says = (limit_short table l p few.0 are.0 says.0, limits_short table ls ps few.1 are.1 says.1)

foreigns_short : (tables : List Table) (table : Table) (fs : List ForeignDef) (printed : List Foreign) → AllByRecursion (λ (f : ForeignDef). length f.cols ≤ 4) fs → AllByRecursion IsForeignDef fs → Pairwise (SaysForeign tables table.columns) fs printed
    → AllByRecursion (λ p. 2 + length (foreign_text tables table.columns p) ≤ 200) printed
foreigns_short tables table [] [] few are says = tt
foreigns_short tables table [] (p ∷ ps) few are says = absurd says
foreigns_short tables table (f ∷ fs) [] few are says = absurd says
foreigns_short tables table (f ∷ fs) (p ∷ ps) few are says = (foreign_short tables table f p few.0 are.0 says.0, foreigns_short tables table fs ps few.1 are.1 says.1)

-- ---- tables

-- the counts of a definition are within the limits
record IsFew (def : TableDef) : Type 0 where
  columns : length def.columns ≤ 32
  key : length def.key ≤ 4
  limits : length def.limits ≤ 4
  limit_cols : AllByRecursion (λ (l : LimitDef). length l.cols ≤ 4) def.limits
  foreign : length def.foreign ≤ 4
  foreign_cols : AllByRecursion (λ (f : ForeignDef). length f.cols ≤ 4) def.foreign

text_short : (tables : List Table) (def : TableDef) (table : Table) → IsFew def → IsTableDef def → Says tables def table → length (table_text tables table) ≤ 1048576
unfolding table_text items_text
text_short tables def table few is says =
    let columns = separate_texts (codes ", ") column_text table.columns in
    let key = columns_text table.columns table.key in
    let limits = each_after (codes ", ") (limit_text table.columns) table.limits in
    let foreign = each_after (codes ", ") (foreign_text tables table.columns) table.foreign in
    let name : length table.name ≤ 32 = omega (arith, ap length says.name, name_short def.name is.name) in
    let some : length columns ≤ 2112 =
    omega (
      arith,
      few.columns,
      same_length SaysColumn def.columns table.columns says.columns,
      separated_short (codes ", ") column_text 66 table.columns (columns_short def.columns table.columns (one_by_one IsColumnDef def.columns is.columns) says.columns),
    ) in
    let keys : length key ≤ 138 = cols_short table def.key table.key few.key is.key says.key in
    let more : length limits ≤ 800 =
    omega (
      arith,
      few.limits,
      same_length (SaysLimit table.columns) def.limits table.limits says.limits,
      each_short (codes ", ") (limit_text table.columns) 200 table.limits (limits_short table def.limits table.limits few.limit_cols (one_by_one IsLimitDef def.limits is.limits) says.limits),
    ) in
    let most : length foreign ≤ 800 =
    omega (
      arith,
      few.foreign,
      same_length (SaysForeign tables table.columns) def.foreign table.foreign says.foreign,
      each_short (codes ", ") (foreign_text tables table.columns) 200 table.foreign (foreigns_short tables table def.foreign table.foreign few.foreign_cols (one_by_one IsForeignDef def.foreign is.foreign) says.foreign),
    ) in
    let before = (codes "CREATE TABLE " ++ table.name) ++ codes " (" in
    let items = (((columns ++ codes ", PRIMARY KEY ") ++ key) ++ limits) ++ foreign in
    omega (
      arith,
      name,
      some,
      keys,
      more,
      most,
      length-append (before ++ items) (codes ");"),
      length-append before items,
      length-append (codes "CREATE TABLE " ++ table.name) (codes " ("),
      length-append (codes "CREATE TABLE ") table.name,
      length-append (((columns ++ codes ", PRIMARY KEY ") ++ key) ++ limits) foreign,
      length-append ((columns ++ codes ", PRIMARY KEY ") ++ key) limits,
      length-append (columns ++ codes ", PRIMARY KEY ") key,
      length-append columns (codes ", PRIMARY KEY "),
    )

pub inside_most : (n most : ℕ) → is_outside n most ≡ false → n ≤ most
inside_most n most e = grind (arith, nat_tests)

not_more : (n most : ℕ) → nat_lt most n ≡ false → n ≤ most
not_more n most e = grind (arith, nat_tests)

limits_few : (cs : List Column) (ls : List LimitDef) → limits_refusal cs ls ≡ None → AllByRecursion (λ (l : LimitDef). length l.cols ≤ 4) ls
limits_few cs [] e = tt
limits_few cs (l ∷ ls) e =
    let parts = neither_refuses (limit_refusal cs l) (limits_refusal cs ls) e in
    let count = (neither_refuses (refused_if (is_outside (length l.cols) 4) _) _ (neither_refuses (names_refusal cs l.cols) _ parts.0).1).0 in
    (inside_most (length l.cols) 4 (not_refused _ _ count), limits_few cs ls parts.1)

foreign_few : (schema : Schema) (cs : List Column) (number : ℕ) (f : ForeignDef) (o : Option ℕ) → AreOrderly schema.tables → find_table schema f.table ≡ o → reference_refusal schema cs number f o ≡ None → length f.cols ≤ 4
foreign_few schema cs number f None are found e = absurd cc
foreign_few schema cs number f (Some t) are found e =
    let other = found_has IsOrderly schema f.table t are.each found in
    let short = other.short_key in
    omega (arith, reference_length schema cs number f t e, short)

foreigns_few : (schema : Schema) (cs : List Column) (number : ℕ) (fs : List ForeignDef) → AreOrderly schema.tables → foreigns_refusal schema cs number fs ≡ None → AllByRecursion (λ (f : ForeignDef). length f.cols ≤ 4) fs
foreigns_few schema cs number [] are e = tt
foreigns_few schema cs number (f ∷ fs) are e =
    let parts = neither_refuses (foreign_refusal schema cs number f) (foreigns_refusal schema cs (number + 1) fs) e in
    (foreign_few schema cs number f (find_table schema f.table) are refl (neither_refuses (names_refusal cs f.cols) _ parts.0).1, foreigns_few schema cs (number + 1) fs are parts.1)

few_of : (schema : Schema) (def : TableDef) → AreOrderly schema.tables → table_refusal schema def ≡ None → IsFew def
few_of schema def are e =
    let later = (neither_refuses (name_refusal schema def.name) _ e).1 in
    let counts = neither_refuses (counts_refusal def) _ later in
    let count = neither_refuses (refused_if (is_outside (length def.columns) 32) _) _ counts.0 in
    let others = neither_refuses (refused_if (nat_lt 4 (length def.limits)) _) (refused_if (nat_lt 4 (length def.foreign)) _) count.1 in
    let made = map column_of def.columns in
    let groups = neither_refuses (key_refusal made def.key) _ (neither_refuses (columns_refusal def.columns) (groups_refusal schema made def) counts.1).1 in
    let more = neither_refuses (limits_refusal made def.limits) (foreigns_refusal schema made 1 def.foreign) groups.1 in
    let key = (neither_refuses (nullable_refusal made def.key) _ (neither_refuses (names_refusal made def.key) _ groups.0).1).1 in
    record {
      columns = inside_most (length def.columns) 32 (not_refused _ _ count.0);
      key = inside_most (length def.key) 4 (not_refused _ _ key);
      limits = not_more (length def.limits) 4 (not_refused _ _ others.0);
      limit_cols = limits_few made def.limits more.0;
      foreign = not_more (length def.foreign) 4 (not_refused _ _ others.1);
      foreign_cols = foreigns_few schema made 1 def.foreign are more.1;
    }

pub table_short : (schema : Schema) (def : TableDef) (table : Table) → AreOrderly schema.tables → IsTableDef def → new_table schema def ≡ Ok table → length (table_text (schema.tables ++ table ∷ []) table) ≤ 1048576
unfolding new_table
table_short schema def table are is e =
    let made = ok_is (table_refusal schema def) (table_of_def schema def) table e in
    text_short (schema.tables ++ table ∷ []) def table (few_of schema def are made.0) is (defined_says schema def table (keys_of schema.tables are) e)
