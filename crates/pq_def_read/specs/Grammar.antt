-- The grammar: how each part of a statement is spelled, and each statement.
use Rattle.std.specs.Prelude.{◌≡◌, ℕ, ℤ, Bool, true, false, List, [], Option, ◌⊎◌}
use Rattle.pq_base.specs.Comparing.{is_null_test}
use Rattle.pq_base.specs.declared.op.Op.{Op}
use Rattle.pq_base.specs.declared.op.Op.TheVariants as op
use Rattle.pq_base.specs.declared.value.Value.{Value}
use Rattle.pq_base.specs.declared.value.Value.TheVariants as value
use Rattle.pq_grammar.specs.Language.{◌⋅◌, nothing, anything, each, optional, separated_by, listed_by, made_from}
use Rattle.pq_schema.specs.declared.definition.AlterDef.{AlterDef}
use Rattle.pq_schema.specs.declared.definition.ColumnDef.{ColumnDef}
use Rattle.pq_schema.specs.declared.definition.CounterDef.{CounterDef}
use Rattle.pq_schema.specs.declared.definition.LimitDef.{LimitDef}
use Rattle.pq_schema.specs.declared.definition.ForeignDef.{ForeignDef}
use Rattle.pq_schema.specs.declared.definition.TableDef.{TableDef}
use Rattle.pq_shape.specs.Operators.{operator}
use Rattle.pq_shape.specs.Parts.{word, soft, mark, comma, name, number, text, a_constant, a_value}
use Rattle.pq_shape.specs.declared.keyword.TheConstants.{AFTER, AND, AS, BOOL, CARDINALITY, CREATE, DELETE, EXPLAIN, FOREIGN, FROM, INSERT, INT, INTO, KEY, LIMIT, PREPARE, PRIMARY, REFERENCES, RUN, SELECT, SET, SHOW, TABLE, TEXT, UPDATE, VALUES, WHERE}
use Rattle.pq_shape.specs.declared.mark.TheConstants.{CLOSE, EQUAL, OPEN, SEMICOLON}
use Rattle.pq_shape.specs.declared.soft.Soft.TheVariants as soft_word
use Rattle.pq_shape.specs.Shape.{Shape}
use Rattle.pq_def_read.specs.Definitions.{int_kind, bool_kind, text_kind, parted_constraints}
use Rattle.pq_def_read.specs.declared.definition.Constraint.{Constraint}
use Rattle.pq_def_read.specs.declared.definition.Constraint.TheVariants as constraint
use Rattle.pq_def_read.specs.declared.definition.Constraints.{Constraints}
use Rattle.pq_def_read.specs.declared.definition.Kind.{Kind}
use Rattle.pq_def_read.specs.declared.statement.Statement.{Statement}
use Rattle.pq_def_read.specs.declared.statement.Statement.TheVariants.{Create, Write, Batch, Prepare, Explain, Run, Alter, Counter, Read, Show, Select}
use Rattle.pq_def_read.specs.declared.write.Assign.{Assign}
use Rattle.pq_def_read.specs.declared.write.CondDef.{CondDef}
use Rattle.pq_def_read.specs.declared.write.SetDef.{SetDef}
use Rattle.pq_def_read.specs.declared.write.Setting.{Setting}
use Rattle.pq_def_read.specs.declared.write.Setting.TheVariants as setting
use Rattle.pq_def_read.specs.declared.write.WriteDef.{WriteDef}
use Rattle.pq_def_read.specs.declared.write.WriteDef.TheVariants.{Insert, Update, Delete}

-- "(" name { "," name } ")"
abbrev pub cols : List (List ℕ) → List Shape → Type 0
cols ns = mark OPEN ⋅ separated_by comma name ns ⋅ mark CLOSE

-- TEXT "(" number ")"
abbrev pub text_size_tokens : ℤ → List Shape → Type 0
text_size_tokens n = word TEXT ⋅ mark OPEN ⋅ number n ⋅ mark CLOSE

-- INT | BOOL | TEXT "(" number ")"
abbrev pub kind : Kind → List Shape → Type 0
kind k w = made_from text_kind text_size_tokens k w ⊎ (((k ≡ int_kind) × word INT w) ⊎ ((k ≡ bool_kind) × word BOOL w))

-- [ NULL ]
abbrev pub nullable : Bool → List Shape → Type 0
nullable true = soft soft_word.Null
nullable false = nothing

-- name kind [ NULL ]
abbrev pub column : ColumnDef → List Shape → Type 0
column c = name c.name ⋅ kind (record { name = c.kind; size = c.size }) ⋅ nullable c.nullable

-- CARDINALITY LIMIT number cols
abbrev pub limit : LimitDef → List Shape → Type 0
limit l = word CARDINALITY ⋅ word LIMIT ⋅ number l.n ⋅ cols l.cols

-- FOREIGN KEY cols REFERENCES name
abbrev pub foreign : ForeignDef → List Shape → Type 0
foreign f = word FOREIGN ⋅ word KEY ⋅ cols f.cols ⋅ word REFERENCES ⋅ name f.table

abbrev pub a_constraint : Constraint → List Shape → Type 0
a_constraint (constraint.Limit l) = limit l
a_constraint (constraint.Foreign f) = foreign f

-- { "," ( limit | foreign ) }: the limits in order, and the foreign keys in order
abbrev pub constraints : Constraints → List Shape → Type 0
constraints = made_from parted_constraints (each (λ c. comma ⋅ a_constraint c))

-- CREATE TABLE name "(" column { "," column } "," PRIMARY KEY cols { "," ( limit | foreign ) } ")"
abbrev pub create : TableDef → List Shape → Type 0
create d =
    word CREATE ⋅ word TABLE ⋅ name d.name ⋅ mark OPEN ⋅ separated_by comma column d.columns ⋅ comma ⋅ word PRIMARY
    ⋅ word KEY ⋅ cols d.key
    ⋅ constraints (record { limits = d.limits; foreign = d.foreign }) ⋅ mark CLOSE ⋅ mark SEMICOLON

-- CREATE COUNTER name OF name cols
abbrev pub counter : CounterDef → List Shape → Type 0
counter d =
    word CREATE ⋅ soft soft_word.Counter ⋅ name d.name ⋅ soft soft_word.Of ⋅ name d.table ⋅ cols d.cols ⋅ mark SEMICOLON

-- ALTER TABLE name ADD COLUMN column DEFAULT value
abbrev pub alter : AlterDef → List Shape → Type 0
alter d =
    soft soft_word.Alter ⋅ word TABLE ⋅ name d.table ⋅ soft soft_word.Add ⋅ soft soft_word.Column ⋅ column d.column
    ⋅ soft soft_word.Default ⋅ a_value d.filler ⋅ mark SEMICOLON

-- INSERT INTO name [ cols ] VALUES "(" value { "," value } ")"
abbrev pub insert : List ℕ → Option (List (List ℕ)) → List Value → List Shape → Type 0
insert table columns values = word INSERT ⋅ word INTO ⋅ name table ⋅ optional cols columns ⋅ word VALUES
    ⋅ mark OPEN ⋅ separated_by comma a_value values ⋅ mark CLOSE

-- "=" value | ADD number
abbrev pub set_to : Setting → List Shape → Type 0
set_to (setting.Is v) = mark EQUAL ⋅ a_value v
set_to (setting.Add z) = soft soft_word.Add ⋅ number z

-- name "=" value | name ADD number
abbrev pub set : SetDef → List Shape → Type 0
set s = name s.col ⋅ set_to s.to

-- name "=" value
abbrev pub assign : Assign → List Shape → Type 0
assign a = name a.col ⋅ mark EQUAL ⋅ a_value a.value

-- assign { AND assign }
abbrev pub key : List Assign → List Shape → Type 0
key = separated_by (word AND) assign

-- op const
abbrev pub compare : Op × Value → List Shape → Type 0
compare y = mark (operator y.0) ⋅ a_constant y.1

-- IS NULL
abbrev pub null_test : Op × Value → List Shape → Type 0
null_test = made_from (λ (u : Unit {0}). (op.IsNull, value.Null)) (λ u. soft soft_word.Is ⋅ soft soft_word.Null)

-- a comparison by an operator with a mark, or IS NULL
abbrev pub comparison : Op × Value → List Shape → Type 0
comparison y w = ((is_null_test y.0 ≡ false) × compare y w) ⊎ null_test y w

-- name op const | name IS NULL
abbrev pub cond : CondDef → List Shape → Type 0
cond c = name c.col ⋅ comparison (c.op, c.value)

-- cond { AND cond }
abbrev pub conds : List CondDef → List Shape → Type 0
conds = separated_by (word AND) cond

-- [ IF cond { AND cond } ]
abbrev pub conditions : List CondDef → List Shape → Type 0
conditions cs w = ((cs ≡ []) × nothing w) ⊎ (soft soft_word.If ⋅ conds cs) w

-- UPDATE name SET set { "," set } WHERE key [ IF cond { AND cond } ]
abbrev pub update : List ℕ → List SetDef → List Assign → List CondDef → List Shape → Type 0
update table sets row cs = word UPDATE ⋅ name table ⋅ word SET ⋅ separated_by comma set sets ⋅ word WHERE ⋅ key row
    ⋅ conditions cs

-- DELETE FROM name WHERE key [ IF cond { AND cond } ]
abbrev pub delete : List ℕ → List Assign → List CondDef → List Shape → Type 0
delete table row cs = word DELETE ⋅ word FROM ⋅ name table ⋅ word WHERE ⋅ key row ⋅ conditions cs

-- a write, without a mark behind it
abbrev pub write : WriteDef → List Shape → Type 0
write (Insert table columns values) = insert table columns values
write (Update table sets row cs) = update table sets row cs
write (Delete table row cs) = delete table row cs

-- BATCH write { "," write }
abbrev pub batch : List WriteDef → List Shape → Type 0
batch writes = soft soft_word.Batch ⋅ separated_by comma write writes ⋅ mark SEMICOLON

-- [ "(" [ value { "," value } ] ")" ]
abbrev pub arguments : List Value → List Shape → Type 0
arguments values w = ((values ≡ []) × nothing w) ⊎ (mark OPEN ⋅ listed_by comma a_value values ⋅ mark CLOSE) w

-- AFTER text
abbrev pub cursor : List ℕ → List Shape → Type 0
cursor t = word AFTER ⋅ text t

-- RUN name [ "(" [ value { "," value } ] ")" ] [ AFTER text ]
abbrev pub run : List ℕ → List Value → Option (List ℕ) → List Shape → Type 0
run query values after = word RUN ⋅ name query ⋅ arguments values ⋅ optional cursor after ⋅ mark SEMICOLON

-- READ name "(" value { "," value } ")"
abbrev pub read : List ℕ → List Value → List Shape → Type 0
read n values = soft soft_word.Read ⋅ name n ⋅ mark OPEN ⋅ separated_by comma a_value values ⋅ mark CLOSE
    ⋅ mark SEMICOLON

-- these tokens spell this statement; of PREPARE and EXPLAIN the head alone, with the number of its tokens, and of
-- SELECT its word
abbrev pub Spells : Statement → List Shape → Type 0
Spells (Create d) w = create d w
Spells (Write x) w = (write x ⋅ mark SEMICOLON) w
Spells (Batch writes) w = batch writes w
Spells (Prepare n from) w = (3 ≡ from) × (word PREPARE ⋅ name n ⋅ word AS ⋅ anything) w
Spells (Explain from) w = (1 ≡ from) × (word EXPLAIN ⋅ anything) w
Spells (Run query values after) w = run query values after w
Spells (Alter d) w = alter d w
Spells (Counter d) w = counter d w
Spells (Read n values) w = read n values w
Spells Show w = (word SHOW ⋅ mark SEMICOLON) w
Spells Select w = (word SELECT ⋅ anything) w
