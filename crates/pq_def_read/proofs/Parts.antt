-- The readers of the parts of a table's definition read what the grammar says.
use Rattle.std.proofs.Common.{◌≡◌, ℕ, ℤ, Bool, true, false, List, ◌++◌, Option, Some, None, is_some, inl, inr, refl, sym, subst}
use Rattle.pq_grammar.specs.Language.{◌⋅◌, each, optional, separated_by, made_from}
use Rattle.pq_grammar.specs.Reader.{begins, pair_at, skip_at, close_at, map_at, option_at, many_at}
use Rattle.pq_grammar.proofs.Steps.{Reads, never, begins-never, wider_reads}
use Rattle.pq_grammar.proofs.Readers.{close_reads, map_reads}
use Rattle.pq_grammar.proofs.Repeats.{many_reads}
use Rattle.pq_grammar.proofs.Options.{option_reads}
use Rattle.pq_grammar.proofs.Lists.{one_opens, then_opens, one_shuts, then_shuts, pair_free, skip_free, close_free, same_set, ended_reads}
use Rattle.pq_grammar.proofs.Choices.{made_reads, choice_reads, one_or_other}
use Rattle.pq_shape.specs.Front.{is_word_shape, is_mark_shape, is_name_shape, is_soft_shape, soft_name, soft_at, word_at, mark_at, name_at, number_at}
use Rattle.pq_shape.specs.Parts.{word, soft, mark, comma, name, number}
use Rattle.pq_shape.proofs.Tokens.{word_reads, soft_reads, soft_passes, mark_reads, name_reads, number_reads, comma_separated}
use Rattle.pq_shape.specs.declared.soft.Soft.TheVariants as soft_word
use Rattle.pq_shape.specs.Shape.{Shape}
use Rattle.pq_shape.specs.Shape as shape
use Rattle.pq_shape.specs.declared.keyword.TheConstants.{BOOL, CARDINALITY, FOREIGN, INT, KEY, LIMIT, REFERENCES, TEXT}
use Rattle.pq_shape.specs.declared.mark.TheConstants.{CLOSE, COMMA, OPEN}
use Rattle.pq_schema.specs.declared.definition.LimitDef.{LimitDef}
use Rattle.pq_schema.specs.declared.definition.ForeignDef.{ForeignDef}
use Rattle.pq_def_read.specs.Definitions.{names_at, cols_at, int_kind, bool_kind, text_kind, text_kind_at, kind_at, nullable_at, column_at, columns_at, limit_clause_at, foreign_at, constraint_at, next_constraint_at, parted_constraints, constraints_at}
use Rattle.pq_def_read.specs.Grammar.{cols, text_size_tokens, kind, nullable, column, limit, foreign, a_constraint, constraints}
use Rattle.pq_def_read.specs.declared.definition.Constraint.{Constraint}
use Rattle.pq_def_read.specs.declared.definition.Constraint.TheVariants as constraint
use Rattle.pq_def_read.specs.declared.definition.Kind.{Kind}

pub names_reads : Reads (separated_by comma name) (is_mark_shape COMMA) names_at
unfolding names_at
names_reads = comma_separated name name_at name_reads

pub cols_reads : Reads cols never cols_at
unfolding cols_at is_mark_shape
cols_reads =
    skip_free (mark OPEN) (λ ns. separated_by comma name ns ⋅ mark CLOSE) never (mark_at OPEN) (close_at names_at (mark_at CLOSE)) (mark_reads OPEN)
    (close_reads (separated_by comma name) (mark CLOSE) (is_mark_shape COMMA) never names_at (mark_at CLOSE) names_reads (mark_reads CLOSE) (λ v rest h e. one_shuts (is_mark_shape COMMA) (shape.Mark CLOSE) refl v rest h))

-- ---- kinds

size_reads : Reads text_size_tokens never (skip_at (word_at TEXT) (skip_at (mark_at OPEN) (close_at number_at (mark_at CLOSE))))
size_reads =
    skip_free (word TEXT) (λ n. mark OPEN ⋅ number n ⋅ mark CLOSE) never (word_at TEXT) (skip_at (mark_at OPEN) (close_at number_at (mark_at CLOSE))) (word_reads TEXT)
    (skip_free (mark OPEN) (λ n. number n ⋅ mark CLOSE) never (mark_at OPEN) (close_at number_at (mark_at CLOSE)) (mark_reads OPEN)
    (close_free number (mark CLOSE) never number_at (mark_at CLOSE) number_reads (mark_reads CLOSE)))

abbrev plain_kind : Kind → ℕ → Kind → List Shape → Type 0
plain_kind j k = made_from (λ (u : Unit {0}). j) (λ u. word k)

plain_reads : (j : Kind) (k : ℕ) → Reads (plain_kind j k) never (map_at (λ u. j) (word_at k))
plain_reads j k = made_reads (λ u. j) (λ u. word k) never (word_at k) (word_reads k)

kind_to : (x : Kind) (w : List Shape) → one_or_other (made_from text_kind text_size_tokens) (one_or_other (plain_kind int_kind INT) (plain_kind bool_kind BOOL)) x w → kind x w
kind_to x w (inl h) = inl h
kind_to x w (inr (inl h)) = inr (inl (sym h.1, h.2))
kind_to x w (inr (inr h)) = inr (inr (sym h.1, h.2))

kind_from : (x : Kind) (w : List Shape) → kind x w → one_or_other (made_from text_kind text_size_tokens) (one_or_other (plain_kind int_kind INT) (plain_kind bool_kind BOOL)) x w
kind_from x w (inl h) = inl h
kind_from x w (inr (inl h)) = inr (inl (tt, sym h.0, h.1))
kind_from x w (inr (inr h)) = inr (inr (tt, sym h.0, h.1))

no_size : (x : Kind) (w rest : List Shape) → one_or_other (plain_kind int_kind INT) (plain_kind bool_kind BOOL) x w → begins (is_word_shape TEXT) (w ++ rest) ≡ false
unfolding is_word_shape
no_size x w rest (inl h) = one_shuts (is_word_shape TEXT) (shape.Keyword INT) refl w rest h.2
no_size x w rest (inr h) = one_shuts (is_word_shape TEXT) (shape.Keyword BOOL) refl w rest h.2

pub kind_reads : Reads kind never kind_at
unfolding kind_at text_kind_at is_word_shape
kind_reads =
    same_set (one_or_other (made_from text_kind text_size_tokens) (one_or_other (plain_kind int_kind INT) (plain_kind bool_kind BOOL))) kind never kind_at kind_to kind_from
    (choice_reads (made_from text_kind text_size_tokens) (one_or_other (plain_kind int_kind INT) (plain_kind bool_kind BOOL)) (is_word_shape TEXT) text_kind_at _ never (made_reads text_kind text_size_tokens never _ size_reads)
    (choice_reads (plain_kind int_kind INT) (plain_kind bool_kind BOOL) (is_word_shape INT) _ _ never (plain_reads int_kind INT) (plain_reads bool_kind BOOL)
    (λ x w h. one_opens (is_word_shape INT) (shape.Keyword INT) refl w h.2) (λ y w rest h e. one_shuts (is_word_shape INT) (shape.Keyword BOOL) refl w rest h.2))
    (λ x w h. then_opens (is_word_shape TEXT) (shape.Keyword TEXT) (mark OPEN ⋅ number h.0 ⋅ mark CLOSE) refl w h.2) (λ y w rest h e. no_size y w rest h))

-- ---- columns

abbrev is_null : Shape → Bool
is_null = is_soft_shape soft_word.Null

abbrev null_word : Unit {0} → List Shape → Type 0
null_word u = soft soft_word.Null

nullable_to : (x : Option (Unit {0})) (w : List Shape) → optional null_word x w → nullable (is_some x) w
nullable_to None w h = h
nullable_to (Some u) w h = h

nullable_from : (b : Bool) (w : List Shape) → nullable b w → (x : Option (Unit {0})) × (is_some x ≡ b) × optional null_word x w
nullable_from true w h = (Some tt, refl, h)
nullable_from false w h = (None, refl, h)

nullable_reads : Reads nullable is_null nullable_at
unfolding nullable_at
nullable_reads =
    map_reads (optional null_word) nullable is_null is_some (option_at is_null (soft_at soft_word.Null))
    (option_reads null_word is_null is_null (soft_at soft_word.Null) (wider_reads null_word never is_null (soft_at soft_word.Null) (λ rest e. begins-never rest) (soft_reads soft_word.Null))
    (λ u w h. one_opens is_null (shape.Name (soft_name soft_word.Null)) (soft_passes soft_word.Null) w h) (λ rest e. e))
    nullable_to nullable_from

pub column_reads : Reads column is_null column_at
unfolding column_at
column_reads =
    map_reads (λ (x : List ℕ × (Kind × Bool)). name x.0 ⋅ kind x.1.0 ⋅ nullable x.1.1) column is_null (λ x. record { name = x.0; kind = x.1.0.name; size = x.1.0.size; nullable = x.1.1 }) (pair_at name_at (pair_at kind_at nullable_at))
    (pair_free name (λ (x : Kind × Bool). kind x.0 ⋅ nullable x.1) is_null name_at (pair_at kind_at nullable_at) name_reads (pair_free kind nullable is_null kind_at nullable_at kind_reads nullable_reads)) (λ x w h. h) (λ c w h. ((c.name, (record { name = c.kind; size = c.size }, c.nullable)), refl, h))

pub columns_reads : Reads (λ cs. separated_by comma column cs ⋅ comma) is_name_shape columns_at
unfolding columns_at is_name_shape is_soft_shape
columns_reads =
    ended_reads comma column is_name_shape is_null (mark_at COMMA) column_at (mark_reads COMMA) column_reads (λ c w h. then_opens is_name_shape (shape.Name c.name) (kind (record { name = c.kind; size = c.size }) ⋅ nullable c.nullable) refl w h)
    (λ v rest h. one_shuts is_null (shape.Mark COMMA) refl v rest h)

-- ---- limits and foreign keys

pub limit_reads : Reads limit never limit_clause_at
unfolding limit_clause_at
limit_reads =
    map_reads (λ (x : ℤ × List (List ℕ)). word CARDINALITY ⋅ word LIMIT ⋅ number x.0 ⋅ cols x.1) limit never (λ x. record { n = x.0; cols = x.1 }) _
    (skip_free (word CARDINALITY) (λ (x : ℤ × List (List ℕ)). word LIMIT ⋅ number x.0 ⋅ cols x.1) never (word_at CARDINALITY) _ (word_reads CARDINALITY)
    (skip_free (word LIMIT) (λ (x : ℤ × List (List ℕ)). number x.0 ⋅ cols x.1) never (word_at LIMIT) (pair_at number_at cols_at) (word_reads LIMIT)
    (pair_free number cols never number_at cols_at number_reads cols_reads)))
    (λ x w h. h) (λ l w h. ((l.n, l.cols), refl, h))

pub foreign_reads : Reads foreign never foreign_at
unfolding foreign_at
foreign_reads =
    map_reads (λ (x : List (List ℕ) × List ℕ). word FOREIGN ⋅ word KEY ⋅ cols x.0 ⋅ word REFERENCES ⋅ name x.1) foreign never (λ x. record { cols = x.0; table = x.1 }) _
    (skip_free (word FOREIGN) (λ (x : List (List ℕ) × List ℕ). word KEY ⋅ cols x.0 ⋅ word REFERENCES ⋅ name x.1) never (word_at FOREIGN) _ (word_reads FOREIGN)
    (skip_free (word KEY) (λ (x : List (List ℕ) × List ℕ). cols x.0 ⋅ word REFERENCES ⋅ name x.1) never (word_at KEY) (pair_at cols_at (skip_at (word_at REFERENCES) name_at)) (word_reads KEY)
    (pair_free cols (λ n. word REFERENCES ⋅ name n) never cols_at (skip_at (word_at REFERENCES) name_at) cols_reads (skip_free (word REFERENCES) name never (word_at REFERENCES) name_at (word_reads REFERENCES) name_reads))))
    (λ x w h. h) (λ f w h. ((f.cols, f.table), refl, h))

abbrev foreign_made : Constraint → List Shape → Type 0
foreign_made = made_from (λ f. constraint.Foreign f) foreign

abbrev limit_made : Constraint → List Shape → Type 0
limit_made = made_from (λ l. constraint.Limit l) limit

foreign_is : (f : ForeignDef) (x : Constraint) (w : List Shape) → constraint.Foreign f ≡ x → foreign f w → a_constraint x w
foreign_is f (constraint.Foreign g) w e h = let same : f ≡ g = cc in subst (λ (v : ForeignDef). foreign v w) same h
foreign_is f (constraint.Limit l) w e h = absurd cc

limit_is : (l : LimitDef) (x : Constraint) (w : List Shape) → constraint.Limit l ≡ x → limit l w → a_constraint x w
limit_is l (constraint.Limit m) w e h = let same : l ≡ m = cc in subst (λ (v : LimitDef). limit v w) same h
limit_is l (constraint.Foreign f) w e h = absurd cc

constraint_to : (x : Constraint) (w : List Shape) → one_or_other foreign_made limit_made x w → a_constraint x w
constraint_to x w (inl h) = foreign_is h.0 x w h.1 h.2
constraint_to x w (inr h) = limit_is h.0 x w h.1 h.2

constraint_from : (x : Constraint) (w : List Shape) → a_constraint x w → one_or_other foreign_made limit_made x w
constraint_from (constraint.Foreign f) w h = inl (f, refl, h)
constraint_from (constraint.Limit l) w h = inr (l, refl, h)

constraint_reads : Reads a_constraint never constraint_at
unfolding constraint_at is_word_shape
constraint_reads =
    same_set (one_or_other foreign_made limit_made) a_constraint never constraint_at constraint_to constraint_from
    (choice_reads foreign_made limit_made (is_word_shape FOREIGN) _ _ never (made_reads (λ f. constraint.Foreign f) foreign never foreign_at foreign_reads) (made_reads (λ l. constraint.Limit l) limit never limit_clause_at limit_reads)
    (λ x w h. then_opens (is_word_shape FOREIGN) (shape.Keyword FOREIGN) _ refl w h.2) (λ y w rest h e. then_shuts (is_word_shape FOREIGN) (shape.Keyword CARDINALITY) _ refl w rest h.2))

pub constraints_reads : Reads constraints (is_mark_shape COMMA) constraints_at
unfolding constraints_at next_constraint_at is_mark_shape
constraints_reads =
    made_reads parted_constraints (each (λ c. comma ⋅ a_constraint c)) (is_mark_shape COMMA) (many_at (is_mark_shape COMMA) next_constraint_at)
    (many_reads (λ c. comma ⋅ a_constraint c) (is_mark_shape COMMA) never (is_mark_shape COMMA) next_constraint_at (skip_free comma a_constraint never (mark_at COMMA) constraint_at (mark_reads COMMA) constraint_reads)
    (λ c w h. then_opens (is_mark_shape COMMA) (shape.Mark COMMA) (a_constraint c) refl w h) (λ u e. refl) (λ rest e. begins-never rest) (λ rest e. e))
