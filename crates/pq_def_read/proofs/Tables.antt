-- The readers of the definitions of tables, added columns and counters read what the grammar says.
use Rattle.std.proofs.Common.{◌≡◌, ℕ, false, List, ◌++◌, refl}
use Rattle.pq_base.specs.declared.value.Value.{Value}
use Rattle.pq_grammar.specs.Language.{◌⋅◌, separated_by}
use Rattle.pq_grammar.specs.Reader.{begins, pair_at, skip_at, close_at}
use Rattle.pq_grammar.proofs.Steps.{Reads, never}
use Rattle.pq_grammar.proofs.Readers.{pair_reads, close_reads, map_reads}
use Rattle.pq_grammar.proofs.Lists.{then_shuts, pair_free, skip_free, close_free, same_set, regroup, ungroup}
use Rattle.pq_shape.specs.Front.{is_mark_shape, is_name_shape, is_soft_shape, soft_name, soft_at, word_at, mark_at, name_at, value_shape_at}
use Rattle.pq_shape.specs.Parts.{word, soft, mark, comma, name, a_value}
use Rattle.pq_shape.proofs.Tokens.{word_reads, soft_reads, mark_reads, name_reads, value_reads}
use Rattle.pq_shape.specs.declared.soft.Soft.TheVariants as soft_word
use Rattle.pq_shape.specs.Shape.{Shape}
use Rattle.pq_shape.specs.Shape as shape
use Rattle.pq_shape.specs.declared.keyword.TheConstants.{KEY, PRIMARY, TABLE}
use Rattle.pq_shape.specs.declared.mark.TheConstants.{CLOSE, COMMA, OPEN, SEMICOLON}
use Rattle.pq_schema.specs.declared.definition.ColumnDef.{ColumnDef}
use Rattle.pq_schema.specs.declared.definition.CounterDef.{CounterDef}
use Rattle.pq_schema.specs.declared.definition.TableDef.{TableDef}
use Rattle.pq_def_read.specs.Definitions.{cols_at, column_at, columns_at, constraints_at, statement_end_at, body_at, table_definition_at, counter_definition_at, alter_at}
use Rattle.pq_def_read.specs.Grammar.{cols, column, constraints, alter}
use Rattle.pq_def_read.specs.declared.definition.Constraints.{Constraints}
use Rattle.pq_def_read.proofs.Parts.{cols_reads, column_reads, columns_reads, constraints_reads}

abbrev pub stop : List Shape → Type 0
stop = mark CLOSE ⋅ mark SEMICOLON

pub stop_reads : Reads (λ _. stop) never statement_end_at
unfolding statement_end_at
stop_reads = skip_free (mark CLOSE) (λ _. mark SEMICOLON) never (mark_at CLOSE) (mark_at SEMICOLON) (mark_reads CLOSE) (mark_reads SEMICOLON)

pub stop_shuts : (w rest : List Shape) → stop w → begins (is_mark_shape COMMA) (w ++ rest) ≡ false
unfolding is_mark_shape
stop_shuts w rest h = then_shuts (is_mark_shape COMMA) (shape.Mark CLOSE) (mark SEMICOLON) refl w rest h

-- from the key on
abbrev body : List (List ℕ) × Constraints → List Shape → Type 0
body y = word PRIMARY ⋅ word KEY ⋅ cols y.0 ⋅ constraints y.1 ⋅ stop

body_reads : Reads body never body_at
unfolding body_at
body_reads =
    skip_free (word PRIMARY) (λ (y : List (List ℕ) × Constraints). word KEY ⋅ cols y.0 ⋅ constraints y.1 ⋅ stop) never (word_at PRIMARY) _ (word_reads PRIMARY)
    (skip_free (word KEY) (λ (y : List (List ℕ) × Constraints). cols y.0 ⋅ constraints y.1 ⋅ stop) never (word_at KEY) _ (word_reads KEY)
    (pair_free cols (λ cs. constraints cs ⋅ stop) never cols_at (close_at constraints_at statement_end_at) cols_reads
    (close_reads constraints stop (is_mark_shape COMMA) never constraints_at statement_end_at constraints_reads stop_reads (λ v rest h e. stop_shuts v rest h))))

-- the columns with the comma behind them, and then the key
abbrev from_columns : List ColumnDef × (List (List ℕ) × Constraints) → List Shape → Type 0
from_columns y = separated_by comma column y.0 ⋅ comma ⋅ body y.1

from_columns_reads : Reads from_columns never (pair_at columns_at body_at)
unfolding is_name_shape
from_columns_reads =
    same_set (λ (y : List ColumnDef × (List (List ℕ) × Constraints)). (separated_by comma column y.0 ⋅ comma) ⋅ body y.1) from_columns never (pair_at columns_at body_at)
    (λ y w h. regroup (separated_by comma column y.0) comma (body y.1) w h) (λ y w h. ungroup (separated_by comma column y.0) comma (body y.1) w h)
    (pair_reads (λ cs. separated_by comma column cs ⋅ comma) body is_name_shape never columns_at body_at columns_reads body_reads
    (λ y v rest h e. then_shuts is_name_shape (shape.Keyword PRIMARY) (word KEY ⋅ cols y.0 ⋅ constraints y.1 ⋅ stop) refl v rest h))

abbrev Table : Type 0
Table = List ℕ × (List ColumnDef × (List (List ℕ) × Constraints))

-- a table's definition, from TABLE on
abbrev pub table_definition : TableDef → List Shape → Type 0
table_definition d = word TABLE ⋅ name d.name ⋅ mark OPEN ⋅ from_columns (d.columns, (d.key, record { limits = d.limits; foreign = d.foreign }))

pub table_definition_reads : Reads table_definition never table_definition_at
unfolding table_definition_at
table_definition_reads =
    map_reads (λ (x : Table). word TABLE ⋅ name x.0 ⋅ mark OPEN ⋅ from_columns x.1) table_definition never
    (λ x. record { name = x.0; columns = x.1.0; key = x.1.1.0; limits = x.1.1.1.limits; foreign = x.1.1.1.foreign }) _
    (skip_free (word TABLE) (λ (x : Table). name x.0 ⋅ mark OPEN ⋅ from_columns x.1) never (word_at TABLE) _ (word_reads TABLE)
    (pair_free name (λ y. mark OPEN ⋅ from_columns y) never name_at (skip_at (mark_at OPEN) (pair_at columns_at body_at)) name_reads
    (skip_free (mark OPEN) from_columns never (mark_at OPEN) (pair_at columns_at body_at) (mark_reads OPEN) from_columns_reads)))
    (λ x w h. h) (λ d w h. ((d.name, (d.columns, (d.key, record { limits = d.limits; foreign = d.foreign }))), refl, h))

-- ---- counters

abbrev Counted : Type 0
Counted = List ℕ × (List ℕ × List (List ℕ))

-- a counter's definition, from COUNTER on
abbrev pub counter_definition : CounterDef → List Shape → Type 0
counter_definition d = soft soft_word.Counter ⋅ name d.name ⋅ soft soft_word.Of ⋅ name d.table ⋅ cols d.cols ⋅ mark SEMICOLON

pub counter_definition_reads : Reads counter_definition never counter_definition_at
unfolding counter_definition_at
counter_definition_reads =
    map_reads (λ (x : Counted). soft soft_word.Counter ⋅ name x.0 ⋅ soft soft_word.Of ⋅ name x.1.0 ⋅ cols x.1.1 ⋅ mark SEMICOLON) counter_definition never
    (λ x. record { name = x.0; table = x.1.0; cols = x.1.1 }) _
    (skip_free (soft soft_word.Counter) (λ (x : Counted). name x.0 ⋅ soft soft_word.Of ⋅ name x.1.0 ⋅ cols x.1.1 ⋅ mark SEMICOLON) never (soft_at soft_word.Counter) _ (soft_reads soft_word.Counter)
    (pair_free name (λ (y : List ℕ × List (List ℕ)). soft soft_word.Of ⋅ name y.0 ⋅ cols y.1 ⋅ mark SEMICOLON) never name_at _ name_reads
    (skip_free (soft soft_word.Of) (λ (y : List ℕ × List (List ℕ)). name y.0 ⋅ cols y.1 ⋅ mark SEMICOLON) never (soft_at soft_word.Of) _ (soft_reads soft_word.Of)
    (pair_free name (λ ns. cols ns ⋅ mark SEMICOLON) never name_at (close_at cols_at (mark_at SEMICOLON)) name_reads
    (close_free cols (mark SEMICOLON) never cols_at (mark_at SEMICOLON) cols_reads (mark_reads SEMICOLON))))))
    (λ x w h. h) (λ d w h. ((d.name, (d.table, d.cols)), refl, h))

-- ---- added columns

abbrev Added : Type 0
Added = List ℕ × (ColumnDef × Value)

-- from the column on
abbrev from_column : ColumnDef × Value → List Shape → Type 0
from_column y = column y.0 ⋅ soft soft_word.Default ⋅ a_value y.1 ⋅ mark SEMICOLON

from_column_reads : Reads from_column never (pair_at column_at (skip_at (soft_at soft_word.Default) (close_at value_shape_at (mark_at SEMICOLON))))
unfolding is_soft_shape
from_column_reads =
    pair_reads column (λ v. soft soft_word.Default ⋅ a_value v ⋅ mark SEMICOLON) (is_soft_shape soft_word.Null) never column_at _ column_reads
    (skip_free (soft soft_word.Default) (λ v. a_value v ⋅ mark SEMICOLON) never (soft_at soft_word.Default) _ (soft_reads soft_word.Default)
    (close_free a_value (mark SEMICOLON) never value_shape_at (mark_at SEMICOLON) value_reads (mark_reads SEMICOLON)))
    (λ y v rest h e. then_shuts (is_soft_shape soft_word.Null) (shape.Name (soft_name soft_word.Default)) (a_value y ⋅ mark SEMICOLON) refl v rest h)

pub alter_reads : Reads alter never alter_at
unfolding alter_at
alter_reads =
    map_reads (λ (x : Added). soft soft_word.Alter ⋅ word TABLE ⋅ name x.0 ⋅ soft soft_word.Add ⋅ soft soft_word.Column ⋅ from_column x.1) alter never
    (λ x. record { table = x.0; column = x.1.0; filler = x.1.1 }) _
    (skip_free (soft soft_word.Alter) (λ (x : Added). word TABLE ⋅ name x.0 ⋅ soft soft_word.Add ⋅ soft soft_word.Column ⋅ from_column x.1) never (soft_at soft_word.Alter) _ (soft_reads soft_word.Alter)
    (skip_free (word TABLE) (λ (x : Added). name x.0 ⋅ soft soft_word.Add ⋅ soft soft_word.Column ⋅ from_column x.1) never (word_at TABLE) _ (word_reads TABLE)
    (pair_free name (λ y. soft soft_word.Add ⋅ soft soft_word.Column ⋅ from_column y) never name_at _ name_reads
    (skip_free (soft soft_word.Add) (λ y. soft soft_word.Column ⋅ from_column y) never (soft_at soft_word.Add) _ (soft_reads soft_word.Add)
    (skip_free (soft soft_word.Column) from_column never (soft_at soft_word.Column) _ (soft_reads soft_word.Column) from_column_reads)))))
    (λ x w h. h) (λ d w h. ((d.table, (d.column, d.filler)), refl, h))
