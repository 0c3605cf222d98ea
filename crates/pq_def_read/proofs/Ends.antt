-- What takes a token at least.
use Rattle.std.proofs.Common.{is_some}
use Rattle.pq_grammar.specs.Reader.{pair_at, skip_at, test_of}
use Rattle.pq_grammar.specs.Shrinking.{Shrinks, Keeps, token_shrinks, shrinks_keeps, pair_shrinks, pair_keeps, option_keeps, close_shrinks, skip_shrinks, map_shrinks, map_keeps, choice_keeps, choice_shrinks}
use Rattle.pq_shape.specs.Front.{is_word_shape, is_soft_shape, soft_at, word_at, mark_at, name_of, name_at, number_in, number_at}
use Rattle.pq_shape.specs.declared.soft.Soft.TheVariants as soft_word
use Rattle.pq_shape.specs.declared.keyword.TheConstants.{BOOL, CARDINALITY, FOREIGN, INT, KEY, LIMIT, REFERENCES, TEXT}
use Rattle.pq_shape.specs.declared.mark.TheConstants.{CLOSE, COMMA, OPEN}
use Rattle.pq_def_read.specs.Shrinking.{word_shrinks, mark_shrinks, cols_shrinks}
use Rattle.pq_def_read.specs.declared.definition.Constraint.TheVariants as constraint
use Rattle.pq_def_read.specs.Definitions.{text_kind, int_kind, bool_kind, text_kind_at, kind_at, nullable_at, column_at, ended_column_at, cols_at, limit_clause_at, foreign_at, constraint_at, next_constraint_at}

text_kind_keeps : Keeps text_kind_at
unfolding text_kind_at
text_kind_keeps =
    map_keeps text_kind _ (shrinks_keeps _ (skip_shrinks (word_at TEXT) _ (word_shrinks TEXT)
    (shrinks_keeps _ (skip_shrinks (mark_at OPEN) _ (mark_shrinks OPEN)
    (shrinks_keeps _ (close_shrinks number_at (mark_at CLOSE) (token_shrinks number_in) (shrinks_keeps _ (mark_shrinks CLOSE))))))))

kind_keeps : Keeps kind_at
unfolding kind_at
kind_keeps =
    choice_keeps (is_word_shape TEXT) text_kind_at _ text_kind_keeps
    (choice_keeps (is_word_shape INT) _ _ (map_keeps (λ u. int_kind) (word_at INT) (shrinks_keeps _ (word_shrinks INT))) (map_keeps (λ u. bool_kind) (word_at BOOL) (shrinks_keeps _ (word_shrinks BOOL))))

nullable_keeps : Keeps nullable_at
unfolding nullable_at
nullable_keeps = map_keeps is_some _ (option_keeps (is_soft_shape soft_word.Null) (soft_at soft_word.Null) (shrinks_keeps _ (token_shrinks (test_of (is_soft_shape soft_word.Null)))))

column_shrinks : Shrinks column_at
unfolding column_at
column_shrinks = map_shrinks _ (pair_at name_at (pair_at kind_at nullable_at)) (pair_shrinks name_at (pair_at kind_at nullable_at) (token_shrinks name_of) (pair_keeps kind_at nullable_at kind_keeps nullable_keeps))

pub ended_column_shrinks : Shrinks ended_column_at
ended_column_shrinks = close_shrinks column_at (mark_at COMMA) column_shrinks (shrinks_keeps _ (mark_shrinks COMMA))

limit_shrinks : Shrinks limit_clause_at
unfolding limit_clause_at
limit_shrinks =
    map_shrinks _ (skip_at (word_at CARDINALITY) (skip_at (word_at LIMIT) (pair_at number_at cols_at)))
    (skip_shrinks (word_at CARDINALITY) _ (word_shrinks CARDINALITY)
    (shrinks_keeps _ (skip_shrinks (word_at LIMIT) (pair_at number_at cols_at) (word_shrinks LIMIT)
    (shrinks_keeps _ (pair_shrinks number_at cols_at (token_shrinks number_in) (shrinks_keeps cols_at cols_shrinks))))))

foreign_shrinks : Shrinks foreign_at
unfolding foreign_at
foreign_shrinks =
    map_shrinks _ (skip_at (word_at FOREIGN) (skip_at (word_at KEY) (pair_at cols_at (skip_at (word_at REFERENCES) name_at))))
    (skip_shrinks (word_at FOREIGN) _ (word_shrinks FOREIGN)
    (shrinks_keeps _ (skip_shrinks (word_at KEY) (pair_at cols_at (skip_at (word_at REFERENCES) name_at)) (word_shrinks KEY)
    (shrinks_keeps _ (pair_shrinks cols_at (skip_at (word_at REFERENCES) name_at) cols_shrinks (shrinks_keeps _ (skip_shrinks (word_at REFERENCES) name_at (word_shrinks REFERENCES) (shrinks_keeps name_at (token_shrinks name_of)))))))))

pub next_constraint_shrinks : Shrinks next_constraint_at
unfolding next_constraint_at constraint_at
next_constraint_shrinks =
    skip_shrinks (mark_at COMMA) constraint_at (mark_shrinks COMMA)
    (shrinks_keeps _ (choice_shrinks (is_word_shape FOREIGN) _ _ (map_shrinks (λ f. constraint.Foreign f) foreign_at foreign_shrinks) (map_shrinks (λ l. constraint.Limit l) limit_clause_at limit_shrinks)))
