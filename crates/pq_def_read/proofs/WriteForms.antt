-- The reader of writes reads what the grammar says.
use Rattle.std.proofs.Common.{◌≡◌, ℕ, Bool, true, false, List, ◌++◌, Option, inl, inr, refl, subst}
use Rattle.pq_base.specs.declared.value.Value.{Value}
use Rattle.pq_grammar.specs.Language.{◌⋅◌, optional, separated_by, made_from}
use Rattle.pq_grammar.specs.Reader.{begins, pair_at, option_at}
use Rattle.pq_grammar.proofs.Steps.{Reads, never, begins-never, wider_reads}
use Rattle.pq_grammar.proofs.Readers.{pair_reads, close_reads}
use Rattle.pq_grammar.proofs.Options.{option_reads}
use Rattle.pq_grammar.proofs.Lists.{one_opens, then_opens, one_shuts, then_shuts, pair_free, skip_free, same_set, separated_reads}
use Rattle.pq_grammar.proofs.Choices.{made_reads, choice_reads, any_of, not_first, not_second, one_or_other}
use Rattle.pq_shape.specs.Front.{is_word_shape, is_mark_shape, is_soft_shape, word_at, mark_at, name_at}
use Rattle.pq_shape.specs.Parts.{word, mark, comma, name, a_value}
use Rattle.pq_shape.proofs.Tokens.{word_reads, mark_reads, name_reads, value_reads, comma_separated}
use Rattle.pq_shape.specs.declared.keyword.TheConstants.{DELETE, FROM, INSERT, INTO, SET, UPDATE, VALUES, WHERE}
use Rattle.pq_shape.specs.declared.mark.TheConstants.{CLOSE, COMMA, OPEN}
use Rattle.pq_shape.specs.Shape.{Shape}
use Rattle.pq_shape.specs.Shape as shape
use Rattle.pq_def_read.specs.Definitions.{cols_at}
use Rattle.pq_def_read.specs.Grammar.{cols, insert, set, update, delete, write}
use Rattle.pq_def_read.specs.Writes.{values_clause_at, sets_at, key_clause_at, conditions_at, insert_at, update_at, delete_at, write_at, writes_at}
use Rattle.pq_def_read.specs.declared.write.Assign.{Assign}
use Rattle.pq_def_read.specs.declared.write.CondDef.{CondDef}
use Rattle.pq_def_read.specs.declared.write.SetDef.{SetDef}
use Rattle.pq_def_read.specs.declared.write.WriteDef.{WriteDef}
use Rattle.pq_def_read.specs.declared.write.WriteDef.TheVariants.{Insert, Update, Delete}
use Rattle.pq_def_read.proofs.Parts.{cols_reads}
use Rattle.pq_def_read.proofs.Conditions.{sets_reads, is_row_more, row, row_reads}

pub values_reads : Reads (separated_by comma a_value) (is_mark_shape COMMA) values_clause_at
unfolding values_clause_at
values_reads = comma_separated a_value _ value_reads

-- ---- INSERT

option_cols : Reads (optional cols) (is_mark_shape OPEN) (option_at (is_mark_shape OPEN) cols_at)
unfolding is_mark_shape
option_cols =
    option_reads cols (is_mark_shape OPEN) (is_mark_shape OPEN) cols_at (wider_reads cols never (is_mark_shape OPEN) cols_at (λ rest e. begins-never rest) cols_reads)
    (λ ns w h. then_opens (is_mark_shape OPEN) (shape.Mark OPEN) (separated_by comma name ns ⋅ mark CLOSE) refl w h) (λ rest e. e)

abbrev Inserted : Type 0
Inserted = List ℕ × (Option (List (List ℕ)) × List Value)

abbrev inserts : Inserted → List Shape → Type 0
inserts x = insert x.0 x.1.0 x.1.1

abbrev a_insert : WriteDef → List Shape → Type 0
a_insert = made_from (λ (x : Inserted). Insert x.0 x.1.0 x.1.1) inserts

insert_reads : Reads a_insert never insert_at
unfolding insert_at is_mark_shape
insert_reads =
    made_reads (λ (x : Inserted). Insert x.0 x.1.0 x.1.1) inserts never _
    (skip_free (word INSERT) (λ (x : Inserted). word INTO ⋅ name x.0 ⋅ optional cols x.1.0 ⋅ word VALUES ⋅ mark OPEN ⋅ separated_by comma a_value x.1.1 ⋅ mark CLOSE) never (word_at INSERT) _ (word_reads INSERT)
    (skip_free (word INTO) (λ (x : Inserted). name x.0 ⋅ optional cols x.1.0 ⋅ word VALUES ⋅ mark OPEN ⋅ separated_by comma a_value x.1.1 ⋅ mark CLOSE) never (word_at INTO) _ (word_reads INTO)
    (pair_free name (λ (y : Option (List (List ℕ)) × List Value). optional cols y.0 ⋅ word VALUES ⋅ mark OPEN ⋅ separated_by comma a_value y.1 ⋅ mark CLOSE) never name_at _ name_reads
    (pair_reads (optional cols) (λ vs. word VALUES ⋅ mark OPEN ⋅ separated_by comma a_value vs ⋅ mark CLOSE) (is_mark_shape OPEN) never (option_at (is_mark_shape OPEN) cols_at) _ option_cols
    (skip_free (word VALUES) (λ vs. mark OPEN ⋅ separated_by comma a_value vs ⋅ mark CLOSE) never (word_at VALUES) _ (word_reads VALUES)
    (skip_free (mark OPEN) (λ vs. separated_by comma a_value vs ⋅ mark CLOSE) never (mark_at OPEN) _ (mark_reads OPEN)
    (close_reads (separated_by comma a_value) (mark CLOSE) (is_mark_shape COMMA) never values_clause_at (mark_at CLOSE) values_reads (mark_reads CLOSE) (λ v rest h e. one_shuts (is_mark_shape COMMA) (shape.Mark CLOSE) refl v rest h))))
    (λ vs v rest h e. then_shuts (is_mark_shape OPEN) (shape.Keyword VALUES) (mark OPEN ⋅ separated_by comma a_value vs ⋅ mark CLOSE) refl v rest h)))))

-- ---- UPDATE and DELETE

abbrev Row : Type 0
Row = List Assign × List CondDef

abbrev Updated : Type 0
Updated = List ℕ × (List SetDef × Row)

abbrev updates : Updated → List Shape → Type 0
updates x = update x.0 x.1.0 x.1.1.0 x.1.1.1

abbrev a_update : WriteDef → List Shape → Type 0
a_update = made_from (λ (x : Updated). Update x.0 x.1.0 x.1.1.0 x.1.1.1) updates

update_reads : Reads a_update is_row_more update_at
unfolding update_at is_mark_shape
update_reads =
    made_reads (λ (x : Updated). Update x.0 x.1.0 x.1.1.0 x.1.1.1) updates is_row_more _
    (skip_free (word UPDATE) (λ (x : Updated). name x.0 ⋅ word SET ⋅ separated_by comma set x.1.0 ⋅ word WHERE ⋅ row x.1.1) is_row_more (word_at UPDATE) _ (word_reads UPDATE)
    (pair_free name (λ (y : List SetDef × Row). word SET ⋅ separated_by comma set y.0 ⋅ word WHERE ⋅ row y.1) is_row_more name_at _ name_reads
    (skip_free (word SET) (λ (y : List SetDef × Row). separated_by comma set y.0 ⋅ word WHERE ⋅ row y.1) is_row_more (word_at SET) _ (word_reads SET)
    (pair_reads (separated_by comma set) (λ (y : Row). word WHERE ⋅ row y) (is_mark_shape COMMA) is_row_more sets_at _ sets_reads
    (skip_free (word WHERE) row is_row_more (word_at WHERE) (pair_at key_clause_at conditions_at) (word_reads WHERE) row_reads)
    (λ y v rest h e. then_shuts (is_mark_shape COMMA) (shape.Keyword WHERE) (row y) refl v rest h)))))

abbrev Deleted : Type 0
Deleted = List ℕ × Row

abbrev deletes : Deleted → List Shape → Type 0
deletes x = delete x.0 x.1.0 x.1.1

abbrev a_delete : WriteDef → List Shape → Type 0
a_delete = made_from (λ (x : Deleted). Delete x.0 x.1.0 x.1.1) deletes

delete_reads : Reads a_delete is_row_more delete_at
unfolding delete_at
delete_reads =
    made_reads (λ (x : Deleted). Delete x.0 x.1.0 x.1.1) deletes is_row_more _
    (skip_free (word DELETE) (λ (x : Deleted). word FROM ⋅ name x.0 ⋅ word WHERE ⋅ row x.1) is_row_more (word_at DELETE) _ (word_reads DELETE)
    (skip_free (word FROM) (λ (x : Deleted). name x.0 ⋅ word WHERE ⋅ row x.1) is_row_more (word_at FROM) _ (word_reads FROM)
    (pair_free name (λ (y : Row). word WHERE ⋅ row y) is_row_more name_at _ name_reads
    (skip_free (word WHERE) row is_row_more (word_at WHERE) (pair_at key_clause_at conditions_at) (word_reads WHERE) row_reads))))

-- ---- the choice

abbrev from_update : WriteDef → List Shape → Type 0
from_update = one_or_other a_update a_delete

abbrev from_insert : WriteDef → List Shape → Type 0
from_insert = one_or_other a_insert from_update

write_to : (x : WriteDef) (w : List Shape) → from_insert x w → write x w
write_to x w (inl h) = subst (λ (y : WriteDef). write y w) h.1 h.2
write_to x w (inr (inl h)) = subst (λ (y : WriteDef). write y w) h.1 h.2
write_to x w (inr (inr h)) = subst (λ (y : WriteDef). write y w) h.1 h.2

write_from : (x : WriteDef) (w : List Shape) → write x w → from_insert x w
write_from (Insert t cs vs) w h = inl ((t, (cs, vs)), refl, h)
write_from (Update t ss ks cs) w h = inr (inl ((t, (ss, (ks, cs))), refl, h))
write_from (Delete t ks cs) w h = inr (inr ((t, (ks, cs)), refl, h))

no_insert : (x : WriteDef) (w rest : List Shape) → from_update x w → begins (is_word_shape INSERT) (w ++ rest) ≡ false
unfolding is_word_shape
no_insert x w rest (inl h) = then_shuts (is_word_shape INSERT) (shape.Keyword UPDATE) _ refl w rest h.2
no_insert x w rest (inr h) = then_shuts (is_word_shape INSERT) (shape.Keyword DELETE) _ refl w rest h.2

pub write_reads : Reads write is_row_more write_at
unfolding write_at is_word_shape
write_reads =
    same_set from_insert write is_row_more write_at write_to write_from
    (choice_reads a_insert from_update (is_word_shape INSERT) insert_at _ is_row_more (wider_reads a_insert never is_row_more insert_at (λ rest e. begins-never rest) insert_reads)
    (choice_reads a_update a_delete (is_word_shape UPDATE) update_at delete_at is_row_more update_reads delete_reads
    (λ x w h. then_opens (is_word_shape UPDATE) (shape.Keyword UPDATE) _ refl w h.2)
    (λ x w rest h e. then_shuts (is_word_shape UPDATE) (shape.Keyword DELETE) _ refl w rest h.2))
    (λ x w h. then_opens (is_word_shape INSERT) (shape.Keyword INSERT) _ refl w h.2)
    (λ x w rest h e. no_insert x w rest h))

-- a write begins with its word
pub write_shuts : (p : Shape → Bool) → p (shape.Keyword INSERT) ≡ false → p (shape.Keyword UPDATE) ≡ false → p (shape.Keyword DELETE) ≡ false → (x : WriteDef) (w rest : List Shape) → write x w → begins p (w ++ rest) ≡ false
write_shuts p i u d (Insert t cs vs) w rest h = then_shuts p (shape.Keyword INSERT) _ i w rest h
write_shuts p i u d (Update t ss ks cs) w rest h = then_shuts p (shape.Keyword UPDATE) _ u w rest h
write_shuts p i u d (Delete t ks cs) w rest h = then_shuts p (shape.Keyword DELETE) _ d w rest h

-- ---- the writes of a batch

-- what goes on behind a write, or behind the writes of a batch
abbrev pub is_writes_more : Shape → Bool
is_writes_more = any_of (is_mark_shape COMMA) is_row_more

-- a comma goes on with no write
comma_apart : (t : Shape) → is_mark_shape COMMA t ≡ true → is_row_more t ≡ false
unfolding is_mark_shape is_word_shape is_soft_shape
comma_apart (shape.Mark m) e = refl
comma_apart (shape.Keyword k) e = absurd cc
comma_apart (shape.Name n) e = absurd cc
comma_apart (shape.Number z) e = absurd cc
comma_apart (shape.Text x) e = absurd cc
comma_apart shape.Other e = absurd cc

pub writes_reads : Reads (separated_by comma write) is_writes_more writes_at
unfolding writes_at is_mark_shape
writes_reads =
    separated_reads comma write (is_mark_shape COMMA) is_row_more is_writes_more (mark_at COMMA) write_at (mark_reads COMMA) write_reads
    (λ w h. one_opens (is_mark_shape COMMA) (shape.Mark COMMA) refl w h) comma_apart
    (not_second (is_mark_shape COMMA) is_row_more) (not_first (is_mark_shape COMMA) is_row_more)
