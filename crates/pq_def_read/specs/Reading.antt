-- Reading a statement from left to right.
use Rattle.std.specs.Prelude.{ℕ, List, Option, Result}
use Rattle.pq_base.specs.declared.value.Value.{Value}
use Rattle.pq_grammar.specs.Reader.{Reader, pair_at, skip_at, close_at, map_at, choice_at, option_at, rest_at, listed_at, option_items, all_at}
use Rattle.pq_text.specs.declared.token.Token.{Token}
use Rattle.pq_shape.specs.Front.{is_word_shape, is_mark_shape, is_soft_shape, is_value, word_at, soft_at, mark_at, name_at, text_at, value_shape_at}
use Rattle.pq_shape.specs.Shapes.{shapes_of}
use Rattle.pq_shape.specs.declared.keyword.TheConstants.{AFTER, AS, CREATE, EXPLAIN, PREPARE, RUN, SELECT, SHOW, TABLE}
use Rattle.pq_shape.specs.declared.mark.TheConstants.{CLOSE, COMMA, OPEN, SEMICOLON}
use Rattle.pq_shape.specs.declared.soft.Soft.TheVariants as soft_word
use Rattle.pq_shape.specs.Shape.{Shape}
use Rattle.pq_def_read.specs.Definitions.{table_definition_at, counter_definition_at, alter_at, statement_end_at}
use Rattle.pq_def_read.specs.Writes.{values_clause_at, write_at, writes_at}
use Rattle.pq_def_read.specs.declared.statement.Statement.{Statement}
use Rattle.pq_def_read.specs.declared.statement.Statement.TheVariants.{Create, Write, Batch, Prepare, Explain, Run, Alter, Counter, Read, Show, Select}

-- a table or a counter
unfoldable pub create_statement_at : Reader Shape Statement
create_statement_at = skip_at (word_at CREATE) (choice_at (is_word_shape TABLE)
    (map_at (λ d. Create d) table_definition_at) (map_at (λ d. Counter d) counter_definition_at))

-- a write and the mark behind it
unfoldable pub written_at : Reader Shape Statement
written_at = map_at (λ x. Write x) (close_at write_at (mark_at SEMICOLON))

-- writes, and the mark behind the last of them
unfoldable pub batch_at : Reader Shape Statement
batch_at = map_at (λ xs. Batch xs) (skip_at (soft_at soft_word.Batch) (close_at writes_at (mark_at SEMICOLON)))

-- three tokens, and then any
unfoldable pub prepare_at : Reader Shape Statement
prepare_at = map_at (λ n. Prepare n 3) (skip_at (word_at PREPARE) (close_at name_at (skip_at (word_at AS) rest_at)))

-- one token, and then any
unfoldable pub explain_at : Reader Shape Statement
explain_at = map_at (λ u. Explain 1) (skip_at (word_at EXPLAIN) rest_at)

-- a word, and then any: the query begins with it
unfoldable pub select_at : Reader Shape Statement
select_at = map_at (λ u. Select) (skip_at (word_at SELECT) rest_at)

unfoldable pub listed_values_at : Reader Shape (List Value)
listed_values_at = listed_at is_value (is_mark_shape COMMA) (mark_at COMMA) value_shape_at

unfoldable pub arguments_at : Reader Shape (List Value)
arguments_at = map_at option_items (option_at (is_mark_shape OPEN)
    (skip_at (mark_at OPEN) (close_at listed_values_at (mark_at CLOSE))))

unfoldable pub after_at : Reader Shape (Option (List ℕ))
after_at = option_at (is_word_shape AFTER) (skip_at (word_at AFTER) text_at)

unfoldable pub run_at : Reader Shape Statement
run_at = map_at (λ x. Run x.0 x.1.0 x.1.1) (skip_at (word_at RUN)
    (pair_at name_at (pair_at arguments_at (close_at after_at (mark_at SEMICOLON)))))

unfoldable pub read_counter_at : Reader Shape Statement
read_counter_at = map_at (λ x. Read x.0 x.1) (skip_at (soft_at soft_word.Read)
    (pair_at name_at (skip_at (mark_at OPEN) (close_at values_clause_at statement_end_at))))

unfoldable pub show_at : Reader Shape Statement
show_at = map_at (λ u. Show) (skip_at (word_at SHOW) (mark_at SEMICOLON))

unfoldable pub statement_at : Reader Shape Statement
statement_at =
    choice_at (is_word_shape CREATE) create_statement_at
    (choice_at (is_word_shape PREPARE) prepare_at
    (choice_at (is_word_shape EXPLAIN) explain_at
    (choice_at (is_word_shape RUN) run_at
    (choice_at (is_word_shape SELECT) select_at
    (choice_at (is_word_shape SHOW) show_at
    (choice_at (is_soft_shape soft_word.Alter) (map_at (λ d. Alter d) alter_at)
    (choice_at (is_soft_shape soft_word.Read) read_counter_at
    (choice_at (is_soft_shape soft_word.Batch) batch_at written_at))))))))

unfoldable pub read_at : List Shape → Result Statement ℕ
read_at = all_at statement_at

-- the statement of these tokens of a text, or how many tokens are left where none goes on
abbrev pub statement_of : List ℕ → List Token → Result Statement ℕ
statement_of text ts = read_at (shapes_of text ts)
