-- The canonical text of a table is cut into what spells its definition.
use Rattle.std.proofs.Common.{◌≡◌, ℕ, ℤ, pos, negsuc, ◌^◌, ◌<◌, Bool, true, false, cond, ◌&&◌, List, [], ◌∷◌, ◌++◌, Option, Some, None, Ok, refl, sym, ap, subst, ◌∙◌, arith, append_assoc, append-nil, inl, inr, map}
use Rattle.std.specs.Prelude.{codes, nat_le}
use Rattle.std.specs.Fmt.{decimal}
use Rattle.std.specs.Str.{is_utf8}
use Rattle.std.specs.Option.{is_some, option_map, unwrap_or}
use Rattle.std.specs.List.{All, AllByRecursion}
use Rattle.std.proofs.lemmas.Bool.Decides.{nat_tests}
use Rattle.std.specs.Char.{is_ascii_digit}
use Rattle.pq_base.specs.declared.value.ColType.TheVariants as type
use Rattle.pq_schema.specs.Definitions.{text_size, with_null, column_type, has_type, column_of}
use Rattle.pq_schema.specs.Names.{IsName, IsKind, IsColumnDef, IsLimitDef, IsForeignDef, IsTableDef}
use Rattle.pq_schema.specs.Tables.{table_at}
use Rattle.pq_schema.specs.declared.definition.ColumnDef.{ColumnDef}
use Rattle.pq_schema.specs.declared.definition.LimitDef.{LimitDef}
use Rattle.pq_schema.specs.declared.definition.ForeignDef.{ForeignDef}
use Rattle.pq_schema.specs.declared.definition.TableDef.{TableDef}
use Rattle.pq_schema.specs.declared.table.Column.{Column}
use Rattle.pq_schema.specs.declared.table.Limit.{Limit}
use Rattle.pq_schema.specs.declared.table.Foreign.{Foreign}
use Rattle.pq_schema.specs.declared.table.Table.{Table}
use Rattle.pq_grammar.specs.Language.{◌⋅◌, each}
use Rattle.pq_grammar.proofs.Lists.{regroup}
use Rattle.pq_text.specs.Bytes.{is_word_byte}
use Rattle.pq_text.specs.Tokens.{tokens_of}
use Rattle.pq_shape.specs.Parts.{comma, name as a_name, number}
use Rattle.pq_shape.specs.declared.keyword.TheConstants.{BOOL, CARDINALITY, CREATE, FOREIGN, INT, KEY, LIMIT, PRIMARY, REFERENCES, TABLE, TEXT}
use Rattle.pq_shape.specs.Shape.{Shape}
use Rattle.pq_shape.specs.Shape as shape
use Rattle.pq_def_read.specs.Definitions.{int_kind, bool_kind, text_kind, limits_of, foreign_of}
use Rattle.pq_def_read.specs.Grammar.{cols, kind as a_kind, nullable, text_size_tokens as sized_text, column, limit, foreign, a_constraint, constraints, create}
use Rattle.pq_def_read.specs.Reading.{statement_of}
use Rattle.pq_def_read.specs.declared.definition.Constraint.{Constraint}
use Rattle.pq_def_read.specs.declared.definition.Constraint.TheVariants as constraint
use Rattle.pq_def_read.specs.declared.definition.Constraints.{Constraints}
use Rattle.pq_def_read.specs.declared.statement.Statement.TheVariants.{Create}
use Rattle.pq_print.specs.Lists.{each_after, separate_texts as separated_texts}
use Rattle.pq_print.specs.Canonical.{column_name, type_text, column_text, columns_text, limit_text, foreign_text, items_text, table_text}
use Rattle.pq_reread.specs.Said.{Pairwise, SaysColumn, SaysColumns, SaysLimit, SaysForeign, Says}
use Rattle.pq_reread.specs.Printed.{joins_none}
use Rattle.pq_reread.proofs.Alls.{one_by_one}
use Rattle.pq_reread.proofs.Keywords.{keyword_prints, null_prints}
use Rattle.pq_reread.proofs.Prints.{Prints, join, respelled, space, spaced, looser, mark_prints, word_prints, number_prints, each_prints, separated_prints, whole, whole_utf8}
use Rattle.pq_query_read.proofs.Names.{name_is_word, word_is_name}
use Rattle.pq_reread.proofs.Named.{statement_spelled}

pub name_prints : (n : List ℕ) → IsName n → Prints (a_name n) joins_none n is_word_byte
name_prints n is = word_prints n (shape.Name n) (name_is_word n is) (word_is_name n is)

-- ---- columns

int_prints : Prints (a_kind int_kind) joins_none (codes "INT") is_word_byte
int_prints = respelled (λ w h. inr (inl (refl, h))) (keyword_prints INT refl)

bool_prints : Prints (a_kind bool_kind) joins_none (codes "BOOL") is_word_byte
bool_prints = respelled (λ w h. inr (inr (refl, h))) (keyword_prints BOOL refl)

text_prints : (n : ℕ) → n < 2 ^ 63 → Prints (a_kind (text_kind (pos n))) joins_none (codes "TEXT(" ++ decimal n ++ codes ")") is_word_byte
text_prints n small =
    let sized : Prints (sized_text (pos n)) joins_none (codes "TEXT" ++ ((40 ∷ []) ++ (decimal n ++ (41 ∷ [])))) joins_none =
    join (keyword_prints TEXT refl) (join (mark_prints 40 is_word_byte refl refl) (join (number_prints n small) (mark_prints 41 is_ascii_digit refl refl))) in
    looser is_word_byte (λ b may. refl) (respelled (λ w h. inl (pos n, refl, h)) sized)

pub size_is : (z : ℤ) → is_some (option_map type.Text (text_size z)) ≡ true → (n : ℕ) × (z ≡ pos n) × (n < 2 ^ 63) × (text_size z ≡ Some n)
size_is (negsuc n) e = absurd cc
size_is (pos n) e = by_test (nat_le 1 n) (nat_le n 1000) refl e
  where
    by_test : (low high : Bool) → nat_le n 1000 ≡ high → is_some (option_map type.Text (cond (low && high) (Some n) None)) ≡ true → (m : ℕ) × (pos n ≡ pos m) × (m < 2 ^ 63) × (cond (low && high) (Some n) None ≡ Some m)
    by_test true true is e = (n, refl, grind (arith, nat_tests), refl)
    by_test true false is e = absurd cc
    by_test false high is e = absurd cc

abbrev pub kind_column : List ℕ → ℤ → Bool → ColumnDef
kind_column kind size nullable = record { name = []; kind = kind; size = size; nullable = nullable }

-- what stands behind the name of a column
abbrev said_kind : List ℕ → ℤ → Bool → List Shape → Type 0
said_kind kind size null = a_kind (record { name = kind; size = size }) ⋅ nullable null

-- how a kind prints, where it has a type
abbrev KindPrints : List ℕ → ℤ → Bool → Type 0
KindPrints kind size null = has_type (kind_column kind size null) ≡ true → Prints (said_kind kind size null) joins_none (type_text (unwrap_or (column_type (kind_column kind size null)) type.Int)) is_word_byte

alone : {S : List Shape → Type 0} {t u : ℕ → Bool} {a : List ℕ} → Prints S t a u → Prints (S ⋅ nullable false) t a u
alone p = respelled (λ w h. record { front = w; back = []; fits_front = h; fits_back = refl; parts = sym (append-nil w) }) p

with_null_word : {S : List Shape → Type 0} {t : ℕ → Bool} {a : List ℕ} → Prints S t a is_word_byte → Prints (S ⋅ nullable true) t (a ++ (32 ∷ codes "NULL")) is_word_byte
with_null_word p = join p (space is_word_byte refl null_prints)

int_kind_prints : (null : Bool) → KindPrints (codes "INT") (pos 0) null
int_kind_prints true typed = with_null_word int_prints
int_kind_prints false typed = alone int_prints

bool_kind_prints : (null : Bool) → KindPrints (codes "BOOL") (pos 0) null
bool_kind_prints true typed = with_null_word bool_prints
bool_kind_prints false typed = alone bool_prints

pub some_before : {X Y Z : Type 0} (f : X → Y) (g : Y → Z) (o : Option X) → is_some (option_map g (option_map f o)) ≡ true → is_some (option_map f o) ≡ true
some_before f g None h = h
some_before f g (Some x) h = refl

text_null_prints : (null : Bool) (n : ℕ) → n < 2 ^ 63 → Prints (said_kind (codes "TEXT") (pos n) null) joins_none (type_text (with_null null (type.Text n))) is_word_byte
text_null_prints false n small = alone (text_prints n small)
text_null_prints true n small =
    subst (λ (v : List ℕ). Prints (said_kind (codes "TEXT") (pos n) true) joins_none v is_word_byte)
    (append_assoc (codes "TEXT(" ++ decimal n) (codes ")") (32 ∷ codes "NULL"))
    (with_null_word (text_prints n small))

text_kind_prints : (size : ℤ) (null : Bool) → KindPrints (codes "TEXT") size null
text_kind_prints size null typed =
    let n = size_is size (some_before type.Text (with_null null) (text_size size) typed) in
    subst (λ (z : ℤ). Prints (said_kind (codes "TEXT") z null) joins_none (type_text (unwrap_or (option_map (with_null null) (option_map type.Text (text_size size))) type.Int)) is_word_byte) (sym n.1)
    (subst (λ (o : Option ℕ). Prints (said_kind (codes "TEXT") (pos n.0) null) joins_none (type_text (unwrap_or (option_map (with_null null) (option_map type.Text o)) type.Int)) is_word_byte) (sym n.3) (text_null_prints null n.0 n.2))

kind_prints : (kind : List ℕ) (size : ℤ) (null : Bool) → IsKind kind size → KindPrints kind size null
kind_prints kind size null (inl h) = subst (λ (k : List ℕ). KindPrints k size null) (sym h.0) (subst (λ (z : ℤ). KindPrints (codes "INT") z null) (sym h.1) (int_kind_prints null))
kind_prints kind size null (inr (inl h)) = subst (λ (k : List ℕ). KindPrints k size null) (sym h.0) (subst (λ (z : ℤ). KindPrints (codes "BOOL") z null) (sym h.1) (bool_kind_prints null))
kind_prints kind size null (inr (inr h)) = subst (λ (k : List ℕ). KindPrints k size null) (sym h) (text_kind_prints size null)

pub column_prints : (c : ColumnDef) (printed : Column) → IsColumnDef c → SaysColumn c printed → Prints (column c) joins_none (column_text printed) is_word_byte
unfolding column_text
column_prints c printed is says =
    subst (λ (x : Column). Prints (column c) joins_none (column_text x) is_word_byte) (sym says.column)
    (subst (λ (v : List ℕ). Prints (column c) joins_none v is_word_byte) (sym (append_assoc c.name (codes " ") (type_text (column_of c).ty)))
    (join (name_prints c.name is.name) (space is_word_byte refl (kind_prints c.kind c.size c.nullable is.kind says.typed))))

columns_print : (cs : List ColumnDef) (printed : List Column) → AllByRecursion IsColumnDef cs → Pairwise SaysColumn cs printed → Pairwise (λ c p. Prints (column c) joins_none (column_text p) is_word_byte) cs printed
columns_print [] [] are says = tt
columns_print [] (p ∷ ps) are says = absurd says
columns_print (c ∷ cs) [] are says = absurd says
columns_print (c ∷ cs) (p ∷ ps) are says = (column_prints c p are.0 says.0, columns_print cs ps are.1 says.1)

-- ---- columns by their names

pub comma_prints : Prints comma is_word_byte (codes ", ") joins_none
comma_prints = spaced refl (mark_prints 44 is_word_byte refl refl)

names_print : (columns : List Column) (names : List (List ℕ)) (places : List ℕ) → AllByRecursion IsName names → Pairwise (λ name col. column_name columns col ≡ name) names places
    → Pairwise (λ name col. Prints (a_name name) joins_none (column_name columns col) is_word_byte) names places
names_print columns [] [] are says = tt
names_print columns [] (p ∷ ps) are says = absurd says
names_print columns (n ∷ ns) [] are says = absurd says
names_print columns (n ∷ ns) (p ∷ ps) are says =
    (subst (λ (v : List ℕ). Prints (a_name n) joins_none v is_word_byte) (sym says.0) (name_prints n are.0), names_print columns ns ps are.1 says.1)

pub cols_prints : (table : Table) (names : List (List ℕ)) (places : List ℕ) → All IsName names → SaysColumns table.columns names places → Prints (cols names) joins_none (columns_text table.columns places) joins_none
unfolding columns_text
cols_prints table names places are says =
    join (mark_prints 40 joins_none refl refl)
    (join (separated_prints comma (codes ", ") a_name (column_name table.columns) is_word_byte comma_prints names places says.some (names_print table.columns names places (one_by_one IsName names are) says.names))
    (mark_prints 41 is_word_byte refl refl))

-- ---- limits and foreign keys

limit_prints : (table : Table) (l : LimitDef) (printed : Limit) → IsLimitDef l → SaysLimit table.columns l printed → Prints (limit l) joins_none (limit_text table.columns printed) is_word_byte
unfolding limit_text
limit_prints table l printed are says =
    let number : Prints (number l.n) joins_none (decimal printed.n) is_ascii_digit = subst (λ (z : ℤ). Prints (number z) joins_none (decimal printed.n) is_ascii_digit) (sym says.n) (number_prints printed.n says.small) in
    subst (λ (v : List ℕ). Prints (limit l) joins_none v is_word_byte) (ap (λ (v : List ℕ). codes "CARDINALITY LIMIT " ++ v) (sym (append_assoc (decimal printed.n) (codes " ") (columns_text table.columns printed.cols))))
    (join (keyword_prints CARDINALITY refl)
    (space is_word_byte refl (join (keyword_prints LIMIT refl)
    (space is_word_byte refl (join number (space is_ascii_digit refl (looser is_word_byte (λ b may. refl) (cols_prints table l.cols printed.cols are says.cols))))))))

foreign_prints : (tables : List Table) (table : Table) (f : ForeignDef) (printed : Foreign) → IsForeignDef f → SaysForeign tables table.columns f printed → Prints (foreign f) joins_none (foreign_text tables table.columns printed) is_word_byte
unfolding foreign_text
foreign_prints tables table f printed are says =
    subst (λ (v : List ℕ). Prints (foreign f) joins_none v is_word_byte) (ap (λ (v : List ℕ). codes "FOREIGN KEY " ++ v) (sym (append_assoc (columns_text table.columns printed.cols) (codes " REFERENCES ") (table_at tables printed.table).name)))
    (join (keyword_prints FOREIGN refl)
    (space is_word_byte refl (join (keyword_prints KEY refl)
    (space is_word_byte refl (join (cols_prints table f.cols printed.cols are.cols says.cols)
    (space joins_none refl (join (keyword_prints REFERENCES refl)
    (space is_word_byte refl (subst (λ (v : List ℕ). Prints (a_name f.table) joins_none v is_word_byte) (sym says.table) (name_prints f.table are.table))))))))))

limits_print : (table : Table) (ls : List LimitDef) (printed : List Limit) → AllByRecursion IsLimitDef ls → Pairwise (SaysLimit table.columns) ls printed
    → Pairwise (λ c p. Prints (a_constraint c) joins_none (limit_text table.columns p) is_word_byte) (map (λ l. constraint.Limit l) ls) printed
limits_print table [] [] are says = tt
limits_print table [] (p ∷ ps) are says = absurd says
limits_print table (l ∷ ls) [] are says = absurd says
limits_print table (l ∷ ls) (p ∷ ps) are says = (limit_prints table l p are.0 says.0, limits_print table ls ps are.1 says.1)

foreign_print : (tables : List Table) (table : Table) (fs : List ForeignDef) (printed : List Foreign) → AllByRecursion IsForeignDef fs → Pairwise (SaysForeign tables table.columns) fs printed
    → Pairwise (λ c p. Prints (a_constraint c) joins_none (foreign_text tables table.columns p) is_word_byte) (map (λ f. constraint.Foreign f) fs) printed
foreign_print tables table [] [] are says = tt
foreign_print tables table [] (p ∷ ps) are says = absurd says
foreign_print tables table (f ∷ fs) [] are says = absurd says
foreign_print tables table (f ∷ fs) (p ∷ ps) are says = (foreign_prints tables table f p are.0 says.0, foreign_print tables table fs ps are.1 says.1)

each_append : {X : Type 0} (S : X → List Shape → Type 0) (xs ys : List X) (w : List Shape) → (each S xs ⋅ each S ys) w → each S (xs ++ ys) w
each_append S [] ys w h =
    let same : w ≡ h.back = h.parts ∙ ap (λ (v : List Shape). v ++ h.back) h.fits_front in
    subst (each S ys) (sym same) h.fits_back
each_append S (x ∷ xs) ys w h =
    let g = regroup (S x) (each S xs) (each S ys) w h in
    record { front = g.front; back = g.back; fits_front = g.fits_front; fits_back = each_append S xs ys g.back g.fits_back; parts = g.parts }

abbrev items_of : List LimitDef → List ForeignDef → List Constraint
items_of ls fs = map (λ l. constraint.Limit l) ls ++ map (λ f. constraint.Foreign f) fs

limits_back : (ls : List LimitDef) (fs : List ForeignDef) → limits_of (items_of ls fs) ≡ ls
limits_back [] [] = refl
limits_back [] (f ∷ fs) = limits_back [] fs
limits_back (l ∷ ls) fs = ap (λ (v : List LimitDef). l ∷ v) (limits_back ls fs)

foreign_back : (ls : List LimitDef) (fs : List ForeignDef) → foreign_of (items_of ls fs) ≡ fs
foreign_back [] [] = refl
foreign_back [] (f ∷ fs) = ap (λ (v : List ForeignDef). f ∷ v) (foreign_back [] fs)
foreign_back (l ∷ ls) fs = foreign_back ls fs

same_parts : (ls ms : List LimitDef) (fs gs : List ForeignDef) → ls ≡ ms → fs ≡ gs → (let a : Constraints = record { limits = ls; foreign = fs } in let b : Constraints = record { limits = ms; foreign = gs } in a ≡ b)
same_parts ls ms fs gs e f = cc

constraints_print : (tables : List Table) (def : TableDef) (table : Table) → IsTableDef def → Says tables def table
    → Prints (constraints (record { limits = def.limits; foreign = def.foreign })) is_word_byte (each_after (codes ", ") (limit_text table.columns) table.limits ++ each_after (codes ", ") (foreign_text tables table.columns) table.foreign) is_word_byte
constraints_print tables def table is says =
    let ls = map (λ (l : LimitDef). constraint.Limit l) def.limits in
    let fs = map (λ (f : ForeignDef). constraint.Foreign f) def.foreign in
    respelled
    (λ w h. (items_of def.limits def.foreign, same_parts _ _ _ _ (limits_back def.limits def.foreign) (foreign_back def.limits def.foreign), each_append (λ c. comma ⋅ a_constraint c) ls fs w h))
    (join (each_prints comma (codes ", ") a_constraint (limit_text table.columns) is_word_byte comma_prints ls table.limits (limits_print table def.limits table.limits (one_by_one IsLimitDef def.limits is.limits) says.limits))
    (each_prints comma (codes ", ") a_constraint (foreign_text tables table.columns) is_word_byte comma_prints fs table.foreign (foreign_print tables table def.foreign table.foreign (one_by_one IsForeignDef def.foreign is.foreign) says.foreign)))

-- ---- the whole text

regrouped : (a b c d e f g h i : List ℕ) → ((((a ++ b) ++ c) ++ ((((d ++ e) ++ f) ++ g) ++ h)) ++ i) ≡ a ++ (b ++ (c ++ (d ++ (e ++ (f ++ ((g ++ h) ++ i))))))
regrouped a b c d e f g h i = simp append_assoc

create_prints : (tables : List Table) (def : TableDef) (table : Table) → IsTableDef def → Says tables def table → Prints (create def) joins_none (table_text tables table) joins_none
unfolding table_text items_text
create_prints tables def table is says =
    let columns = separated_texts (codes ", ") column_text table.columns in
    let key = columns_text table.columns table.key in
    let limits = each_after (codes ", ") (limit_text table.columns) table.limits in
    let foreign = each_after (codes ", ") (foreign_text tables table.columns) table.foreign in
    subst (λ (v : List ℕ). Prints (create def) joins_none v joins_none) (sym (regrouped (codes "CREATE TABLE ") table.name (codes " (") columns (codes ", PRIMARY KEY ") key limits foreign (codes ");")))
    (join (keyword_prints CREATE refl)
    (space is_word_byte refl (join (keyword_prints TABLE refl)
    (space is_word_byte refl (join (subst (λ (v : List ℕ). Prints (a_name def.name) joins_none v is_word_byte) (sym says.name) (name_prints def.name is.name))
    (space is_word_byte refl (join (mark_prints 40 joins_none refl refl)
    (join (separated_prints comma (codes ", ") column column_text is_word_byte comma_prints def.columns table.columns says.some (columns_print def.columns table.columns (one_by_one IsColumnDef def.columns is.columns) says.columns))
    (join (mark_prints 44 is_word_byte refl refl)
    (space joins_none refl (join (keyword_prints PRIMARY refl)
    (space is_word_byte refl (join (keyword_prints KEY refl)
    (space is_word_byte refl (join (looser is_word_byte (λ b may. refl) (cols_prints table def.key table.key is.key says.key))
    (join (constraints_print tables def table is says)
    (join (mark_prints 41 is_word_byte refl refl) (mark_prints 59 joins_none refl refl))))))))))))))))))

pub table_reads : (tables : List Table) (def : TableDef) (table : Table) → IsTableDef def → Says tables def table → statement_of (table_text tables table) (tokens_of (table_text tables table)) ≡ Ok (Create def)
table_reads tables def table is says =
    let text = table_text tables table in
    statement_spelled text (tokens_of text) (Create def) (whole (create def) text joins_none (create_prints tables def table is says))

pub table_utf8 : (tables : List Table) (def : TableDef) (table : Table) → IsTableDef def → Says tables def table → is_utf8 (table_text tables table) ≡ true
table_utf8 tables def table is says = whole_utf8 (create def) (table_text tables table) joins_none (create_prints tables def table is says)
