-- Reading the definitions of a table, of an added column and of a counter, from left to right.
use Rattle.std.specs.Prelude.{ℕ, ℤ, pos, Bool, is_some, List, [], ◌∷◌, ◌++◌, codes}
use Rattle.pq_grammar.specs.Reader.{Reader, pair_at, skip_at, close_at, map_at, choice_at, option_at, many_at, separated_at, ended_at}
use Rattle.pq_schema.specs.declared.definition.AlterDef.{AlterDef}
use Rattle.pq_schema.specs.declared.definition.ColumnDef.{ColumnDef}
use Rattle.pq_schema.specs.declared.definition.CounterDef.{CounterDef}
use Rattle.pq_schema.specs.declared.definition.LimitDef.{LimitDef}
use Rattle.pq_schema.specs.declared.definition.ForeignDef.{ForeignDef}
use Rattle.pq_schema.specs.declared.definition.TableDef.{TableDef}
use Rattle.pq_shape.specs.Front.{is_word_shape, is_mark_shape, is_name_shape, is_soft_shape, soft_at, word_at, mark_at, name_at, number_at, value_shape_at}
use Rattle.pq_shape.specs.declared.keyword.TheConstants.{BOOL, CARDINALITY, FOREIGN, INT, KEY, LIMIT, PRIMARY, REFERENCES, TABLE, TEXT}
use Rattle.pq_shape.specs.declared.mark.TheConstants.{CLOSE, COMMA, OPEN, SEMICOLON}
use Rattle.pq_shape.specs.declared.soft.Soft.TheVariants as soft_word
use Rattle.pq_shape.specs.Shape.{Shape}
use Rattle.pq_def_read.specs.declared.definition.Constraint.{Constraint}
use Rattle.pq_def_read.specs.declared.definition.Constraint.TheVariants as constraint
use Rattle.pq_def_read.specs.declared.definition.Constraints.{Constraints}
use Rattle.pq_def_read.specs.declared.definition.Kind.{Kind}

unfoldable pub names_at : Reader Shape (List (List ℕ))
names_at = separated_at (is_mark_shape COMMA) (mark_at COMMA) name_at

unfoldable pub cols_at : Reader Shape (List (List ℕ))
cols_at = skip_at (mark_at OPEN) (close_at names_at (mark_at CLOSE))

abbrev pub int_kind : Kind
int_kind = record { name = codes "INT"; size = pos 0 }

abbrev pub bool_kind : Kind
bool_kind = record { name = codes "BOOL"; size = pos 0 }

abbrev pub text_kind : ℤ → Kind
text_kind n = record { name = codes "TEXT"; size = n }

unfoldable pub text_kind_at : Reader Shape Kind
text_kind_at = map_at text_kind (skip_at (word_at TEXT) (skip_at (mark_at OPEN) (close_at number_at (mark_at CLOSE))))

unfoldable pub kind_at : Reader Shape Kind
kind_at = choice_at (is_word_shape TEXT) text_kind_at
    (choice_at (is_word_shape INT) (map_at (λ u. int_kind) (word_at INT)) (map_at (λ u. bool_kind) (word_at BOOL)))

unfoldable pub nullable_at : Reader Shape Bool
nullable_at = map_at is_some (option_at (is_soft_shape soft_word.Null) (soft_at soft_word.Null))

unfoldable pub column_at : Reader Shape ColumnDef
column_at = map_at (λ x. record { name = x.0; kind = x.1.0.name; size = x.1.0.size; nullable = x.1.1 })
    (pair_at name_at (pair_at kind_at nullable_at))

abbrev pub ended_column_at : Reader Shape ColumnDef
ended_column_at = close_at column_at (mark_at COMMA)

-- the columns, and the comma behind each
unfoldable pub columns_at : Reader Shape (List ColumnDef)
columns_at = ended_at is_name_shape (mark_at COMMA) column_at

unfoldable pub limit_clause_at : Reader Shape LimitDef
limit_clause_at = map_at (λ x. record { n = x.0; cols = x.1 })
    (skip_at (word_at CARDINALITY) (skip_at (word_at LIMIT) (pair_at number_at cols_at)))

unfoldable pub foreign_at : Reader Shape ForeignDef
foreign_at = map_at (λ x. record { cols = x.0; table = x.1 })
    (skip_at (word_at FOREIGN) (skip_at (word_at KEY) (pair_at cols_at (skip_at (word_at REFERENCES) name_at))))

unfoldable pub constraint_at : Reader Shape Constraint
constraint_at = choice_at (is_word_shape FOREIGN) (map_at (λ f. constraint.Foreign f) foreign_at) (map_at
    (λ l. constraint.Limit l) limit_clause_at)

unfoldable pub next_constraint_at : Reader Shape Constraint
next_constraint_at = skip_at (mark_at COMMA) constraint_at

abbrev pub limits_of : List Constraint → List LimitDef
limits_of [] = []
limits_of (constraint.Limit l ∷ items) = l ∷ limits_of items
limits_of (constraint.Foreign f ∷ items) = limits_of items

abbrev pub foreign_of : List Constraint → List ForeignDef
foreign_of [] = []
foreign_of (constraint.Limit l ∷ items) = foreign_of items
foreign_of (constraint.Foreign f ∷ items) = f ∷ foreign_of items

-- the limits in order, and the foreign keys in order
abbrev pub parted_constraints : List Constraint → Constraints
parted_constraints items = record { limits = limits_of items; foreign = foreign_of items }

-- one more of its kind
abbrev pub with_constraint : Constraints → Constraint → Constraints
with_constraint held (constraint.Limit l) = record { limits = held.limits ++ l ∷ []; foreign = held.foreign }
with_constraint held (constraint.Foreign f) = record { limits = held.limits; foreign = held.foreign ++ f ∷ [] }

unfoldable pub constraints_at : Reader Shape Constraints
constraints_at = map_at parted_constraints (many_at (is_mark_shape COMMA) next_constraint_at)

unfoldable pub statement_end_at : Reader Shape (Unit {0})
statement_end_at = skip_at (mark_at CLOSE) (mark_at SEMICOLON)

-- from PRIMARY on
unfoldable pub body_at : Reader Shape (List (List ℕ) × Constraints)
body_at = skip_at (word_at PRIMARY) (skip_at (word_at KEY) (pair_at cols_at (close_at constraints_at statement_end_at)))

-- a table's definition, from TABLE on
unfoldable pub table_definition_at : Reader Shape TableDef
table_definition_at =
    map_at (λ x. record {
      name = x.0;
      columns = x.1.0;
      key = x.1.1.0;
      limits = x.1.1.1.limits;
      foreign = x.1.1.1.foreign;
    })
    (skip_at (word_at TABLE) (pair_at name_at (skip_at (mark_at OPEN) (pair_at columns_at body_at))))

-- a counter's definition, from COUNTER on
unfoldable pub counter_definition_at : Reader Shape CounterDef
counter_definition_at =
    map_at (λ x. record { name = x.0; table = x.1.0; cols = x.1.1 })
    (skip_at (soft_at soft_word.Counter) (pair_at name_at
    (skip_at (soft_at soft_word.Of) (pair_at name_at (close_at cols_at (mark_at SEMICOLON))))))

unfoldable pub alter_at : Reader Shape AlterDef
alter_at =
    map_at (λ x. record { table = x.0; column = x.1.0; filler = x.1.1 })
    (skip_at (soft_at soft_word.Alter) (skip_at (word_at TABLE)
    (pair_at name_at (skip_at (soft_at soft_word.Add) (skip_at (soft_at soft_word.Column)
    (pair_at column_at (skip_at (soft_at soft_word.Default) (close_at value_shape_at (mark_at SEMICOLON)))))))))
