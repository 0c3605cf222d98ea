-- The reader of statements reads what the grammar says.
use Rattle.std.proofs.Common.{◌≡◌, ℕ, Bool, true, false, ◌||◌, List, [], ◌∷◌, ◌++◌, Option, Some, None, inl, inr, refl, ap, subst, ◌∙◌, append_assoc}
use Rattle.std.specs.List.{list_any}
use Rattle.pq_base.specs.declared.value.Value.{Value}
use Rattle.pq_grammar.specs.Language.{◌⋅◌, anything, optional, separated_by, listed_by, made_from}
use Rattle.pq_grammar.specs.Reader.{Reader, begins, skip_at, close_at, map_at, option_items, rest_at}
use Rattle.pq_grammar.proofs.Steps.{Reads, never, first_of_list, begins-never, wider_reads}
use Rattle.pq_grammar.proofs.Readers.{pair_reads, close_reads, map_reads}
use Rattle.pq_grammar.proofs.Options.{always, option_reads, rest_reads}
use Rattle.pq_grammar.proofs.Lists.{then_opens, one_shuts, then_shuts, pair_free, skip_free, close_free, same_set}
use Rattle.pq_grammar.proofs.Choices.{made_reads, choice_reads, listed_reads, begins_with, any_of, not_first, not_second, one_or_other}
use Rattle.pq_shape.specs.Front.{is_word_shape, is_mark_shape, is_constant, is_soft_shape, soft_name, is_value, word_at, soft_at, mark_at, name_at, text_at, value_shape_at}
use Rattle.pq_shape.specs.Parts.{word, soft, mark, comma, name, text, a_value}
use Rattle.pq_shape.proofs.Tokens.{word_reads, soft_reads, soft_passes, mark_reads, name_reads, text_reads, value_reads, value_opens, comma_separated}
use Rattle.pq_shape.specs.declared.soft.Soft.TheVariants as soft_word
use Rattle.pq_shape.specs.Shape.{Shape}
use Rattle.pq_shape.specs.Shape as shape
use Rattle.pq_shape.specs.declared.keyword.TheConstants.{AFTER, AS, CREATE, DELETE, EXPLAIN, INSERT, PREPARE, RUN, SELECT, SHOW, TABLE, UPDATE}
use Rattle.pq_shape.specs.declared.mark.TheConstants.{CLOSE, COMMA, OPEN, SEMICOLON}
use Rattle.pq_def_read.specs.Definitions.{table_definition_at, counter_definition_at, alter_at, statement_end_at}
use Rattle.pq_def_read.specs.Grammar.{alter, write, batch, arguments, cursor, run, read, Spells}
use Rattle.pq_def_read.specs.Reading.{create_statement_at, written_at, batch_at, prepare_at, explain_at, select_at, listed_values_at, arguments_at, after_at, run_at, read_counter_at, show_at, statement_at}
use Rattle.pq_def_read.specs.Writes.{values_clause_at, write_at, writes_at}
use Rattle.pq_def_read.specs.declared.statement.Statement.{Statement}
use Rattle.pq_def_read.specs.declared.statement.Statement.TheVariants.{Create, Write, Batch, Prepare, Explain, Run, Alter, Counter, Read, Show, Select}
use Rattle.pq_def_read.specs.declared.write.WriteDef.{WriteDef}
use Rattle.pq_def_read.proofs.Conditions.{maybe_to, maybe_from, is_row_more}
use Rattle.pq_def_read.proofs.Tables.{stop, stop_reads, stop_shuts, table_definition, table_definition_reads, counter_definition, counter_definition_reads, alter_reads}
use Rattle.pq_def_read.proofs.WriteForms.{values_reads, write_reads, write_shuts, is_writes_more, writes_reads}

-- ---- CREATE

abbrev a_table : Statement → List Shape → Type 0
a_table = made_from (λ d. Create d) table_definition

abbrev a_counter : Statement → List Shape → Type 0
a_counter = made_from (λ d. Counter d) counter_definition

abbrev a_create : Statement → List Shape → Type 0
a_create s = word CREATE ⋅ one_or_other a_table a_counter s

create_reads : Reads a_create never create_statement_at
unfolding create_statement_at is_word_shape
create_reads =
    skip_free (word CREATE) (one_or_other a_table a_counter) never (word_at CREATE) _ (word_reads CREATE)
    (choice_reads a_table a_counter (is_word_shape TABLE) (map_at (λ d. Create d) table_definition_at) (map_at (λ d. Counter d) counter_definition_at) never
    (made_reads (λ d. Create d) table_definition never table_definition_at table_definition_reads)
    (made_reads (λ d. Counter d) counter_definition never counter_definition_at counter_definition_reads)
    (λ s w h. then_opens (is_word_shape TABLE) (shape.Keyword TABLE) _ refl w h.2)
    (λ s w rest h e. then_shuts (is_word_shape TABLE) (shape.Name (soft_name soft_word.Counter)) _ refl w rest h.2))

-- what follows CREATE is a table's definition, or a counter's
created : (s : Statement) (w front back : List Shape) → word CREATE front → w ≡ front ++ back → one_or_other a_table a_counter s back → Spells s w
created s w front back first parts (inl h) = subst (λ (v : Statement). Spells v w) h.1 (record { front = front; back = back; fits_front = first; fits_back = h.2; parts = parts })
created s w front back first parts (inr h) = subst (λ (v : Statement). Spells v w) h.1 (record { front = front; back = back; fits_front = first; fits_back = h.2; parts = parts })

-- ---- writes

abbrev written : WriteDef → List Shape → Type 0
written x = write x ⋅ mark SEMICOLON

written_reads : Reads (made_from (λ x. Write x) written) never written_at
unfolding written_at is_word_shape is_soft_shape
written_reads =
    made_reads (λ x. Write x) written never _
    (close_reads write (mark SEMICOLON) is_row_more never write_at (mark_at SEMICOLON) write_reads (mark_reads SEMICOLON) (λ v rest h e. one_shuts is_row_more (shape.Mark SEMICOLON) refl v rest h))

-- ---- BATCH

batch_reads : Reads (made_from (λ xs. Batch xs) batch) never batch_at
unfolding batch_at is_word_shape is_mark_shape is_soft_shape
batch_reads =
    made_reads (λ xs. Batch xs) batch never _
    (skip_free (soft soft_word.Batch) (λ xs. separated_by comma write xs ⋅ mark SEMICOLON) never (soft_at soft_word.Batch) _ (soft_reads soft_word.Batch)
    (close_reads (separated_by comma write) (mark SEMICOLON) is_writes_more never writes_at (mark_at SEMICOLON) writes_reads (mark_reads SEMICOLON) (λ v rest h e. one_shuts is_writes_more (shape.Mark SEMICOLON) refl v rest h)))

-- ---- the heads of PREPARE, EXPLAIN and SELECT

abbrev prepares : List ℕ → List Shape → Type 0
prepares n = word PREPARE ⋅ name n ⋅ word AS ⋅ anything

prepare_reads : Reads (made_from (λ n. Prepare n 3) prepares) always prepare_at
unfolding prepare_at
prepare_reads =
    made_reads (λ n. Prepare n 3) prepares always _
    (skip_free (word PREPARE) (λ n. name n ⋅ word AS ⋅ anything) always (word_at PREPARE) _ (word_reads PREPARE)
    (close_free name (word AS ⋅ anything) always name_at (skip_at (word_at AS) rest_at) name_reads (skip_free (word AS) (λ _. anything) always (word_at AS) rest_at (word_reads AS) rest_reads)))

abbrev explains : Unit {0} → List Shape → Type 0
explains u = word EXPLAIN ⋅ anything

explain_reads : Reads (made_from (λ u. Explain 1) explains) always explain_at
unfolding explain_at
explain_reads = made_reads (λ u. Explain 1) explains always _ (skip_free (word EXPLAIN) (λ _. anything) always (word_at EXPLAIN) rest_at (word_reads EXPLAIN) rest_reads)

abbrev selects : Unit {0} → List Shape → Type 0
selects u = word SELECT ⋅ anything

select_reads : Reads (made_from (λ u. Select) selects) always select_at
unfolding select_at
select_reads = made_reads (λ u. Select) selects always _ (skip_free (word SELECT) (λ _. anything) always (word_at SELECT) rest_at (word_reads SELECT) rest_reads)

-- ---- RUN

listed_values_reads : Reads (listed_by comma a_value) (any_of (is_mark_shape COMMA) is_value) listed_values_at
unfolding listed_values_at
listed_values_reads =
    listed_reads comma a_value is_value (is_mark_shape COMMA) (any_of (is_mark_shape COMMA) is_value) (mark_at COMMA) value_shape_at
    (wider_reads (separated_by comma a_value) (is_mark_shape COMMA) (any_of (is_mark_shape COMMA) is_value) _ (not_first (is_mark_shape COMMA) is_value) (comma_separated a_value value_shape_at value_reads))
    value_opens (not_second (is_mark_shape COMMA) is_value)

abbrev in_parentheses : List Value → List Shape → Type 0
in_parentheses vs = mark OPEN ⋅ listed_by comma a_value vs ⋅ mark CLOSE

between_reads : Reads in_parentheses never (skip_at (mark_at OPEN) (close_at listed_values_at (mark_at CLOSE)))
unfolding is_mark_shape is_soft_shape is_constant
between_reads =
    skip_free (mark OPEN) (λ vs. listed_by comma a_value vs ⋅ mark CLOSE) never (mark_at OPEN) _ (mark_reads OPEN)
    (close_reads (listed_by comma a_value) (mark CLOSE) (any_of (is_mark_shape COMMA) is_value) never listed_values_at (mark_at CLOSE) listed_values_reads (mark_reads CLOSE)
    (λ v rest h e. one_shuts (any_of (is_mark_shape COMMA) is_value) (shape.Mark CLOSE) refl v rest h))

arguments_reads : Reads arguments (is_mark_shape OPEN) arguments_at
unfolding arguments_at is_mark_shape
arguments_reads =
    map_reads (optional in_parentheses) arguments (is_mark_shape OPEN) option_items _
    (option_reads in_parentheses (is_mark_shape OPEN) (is_mark_shape OPEN) _ (wider_reads _ never (is_mark_shape OPEN) _ (λ rest e. begins-never rest) between_reads)
    (λ vs w h. then_opens (is_mark_shape OPEN) (shape.Mark OPEN) (listed_by comma a_value vs ⋅ mark CLOSE) refl w h) (λ rest e. e))
    (maybe_to in_parentheses) (maybe_from in_parentheses)

after_reads : Reads (optional cursor) (is_word_shape AFTER) after_at
unfolding after_at is_word_shape
after_reads =
    option_reads cursor (is_word_shape AFTER) (is_word_shape AFTER) (skip_at (word_at AFTER) text_at)
    (wider_reads cursor never (is_word_shape AFTER) _ (λ rest e. begins-never rest) (skip_free (word AFTER) text never (word_at AFTER) text_at (word_reads AFTER) text_reads))
    (λ t w h. then_opens (is_word_shape AFTER) (shape.Keyword AFTER) (text t) refl w h) (λ rest e. e)

abbrev Started : Type 0
Started = List ℕ × (List Value × Option (List ℕ))

abbrev runs : Started → List Shape → Type 0
runs x = run x.0 x.1.0 x.1.1

-- what follows the arguments is no parenthesis
not_open : (t : Option (List ℕ)) (v rest : List Shape) → (optional cursor t ⋅ mark SEMICOLON) v → begins (is_mark_shape OPEN) (v ++ rest) ≡ false
unfolding is_mark_shape
not_open None v rest h = begins_with (is_mark_shape OPEN) (shape.Mark SEMICOLON) v rest (ap first_of_list (h.parts ∙ ap (λ (u : List Shape). u ++ h.back) h.fits_front) ∙ ap first_of_list h.fits_back)
not_open (Some t) v rest h = begins_with (is_mark_shape OPEN) (shape.Keyword AFTER) v rest (ap first_of_list (h.parts ∙ ap (λ (u : List Shape). u ++ h.back) (h.fits_front.parts ∙ ap (λ (u : List Shape). u ++ h.fits_front.back) h.fits_front.fits_front)))

run_reads : Reads (made_from (λ (x : Started). Run x.0 x.1.0 x.1.1) runs) never run_at
unfolding run_at is_word_shape
run_reads =
    made_reads (λ (x : Started). Run x.0 x.1.0 x.1.1) runs never _
    (skip_free (word RUN) (λ (x : Started). name x.0 ⋅ arguments x.1.0 ⋅ optional cursor x.1.1 ⋅ mark SEMICOLON) never (word_at RUN) _ (word_reads RUN)
    (pair_free name (λ (y : List Value × Option (List ℕ)). arguments y.0 ⋅ optional cursor y.1 ⋅ mark SEMICOLON) never name_at _ name_reads
    (pair_reads arguments (λ t. optional cursor t ⋅ mark SEMICOLON) (is_mark_shape OPEN) never arguments_at _ arguments_reads
    (close_reads (optional cursor) (mark SEMICOLON) (is_word_shape AFTER) never after_at (mark_at SEMICOLON) after_reads (mark_reads SEMICOLON) (λ v rest h e. one_shuts (is_word_shape AFTER) (shape.Mark SEMICOLON) refl v rest h))
    (λ t v rest h e. not_open t v rest h))))

-- ---- READ

abbrev Tallied : Type 0
Tallied = List ℕ × List Value

abbrev tallies : Tallied → List Shape → Type 0
tallies x = read x.0 x.1

read_reads : Reads (made_from (λ (x : Tallied). Read x.0 x.1) tallies) never read_counter_at
unfolding read_counter_at
read_reads =
    made_reads (λ (x : Tallied). Read x.0 x.1) tallies never _
    (skip_free (soft soft_word.Read) (λ (x : Tallied). name x.0 ⋅ mark OPEN ⋅ separated_by comma a_value x.1 ⋅ stop) never (soft_at soft_word.Read) _ (soft_reads soft_word.Read)
    (pair_free name (λ vs. mark OPEN ⋅ separated_by comma a_value vs ⋅ stop) never name_at _ name_reads
    (skip_free (mark OPEN) (λ vs. separated_by comma a_value vs ⋅ stop) never (mark_at OPEN) _ (mark_reads OPEN)
    (close_reads (separated_by comma a_value) stop (is_mark_shape COMMA) never values_clause_at statement_end_at values_reads stop_reads (λ v rest h e. stop_shuts v rest h)))))

-- ---- SHOW

abbrev shows : Unit {0} → List Shape → Type 0
shows u = word SHOW ⋅ mark SEMICOLON

show_reads : Reads (made_from (λ u. Show) shows) never show_at
unfolding show_at
show_reads = made_reads (λ u. Show) shows never _ (skip_free (word SHOW) (λ _. mark SEMICOLON) never (word_at SHOW) (mark_at SEMICOLON) (word_reads SHOW) (mark_reads SEMICOLON))

-- ---- the choice

abbrev Form : Type 1
Form = Statement → List Shape → Type 0

abbrev a_prepare : Form
a_prepare = made_from (λ n. Prepare n 3) prepares

abbrev a_explain : Form
a_explain = made_from (λ (u : Unit {0}). Explain 1) explains

abbrev a_run : Form
a_run = made_from (λ (x : Started). Run x.0 x.1.0 x.1.1) runs

abbrev a_select : Form
a_select = made_from (λ (u : Unit {0}). Select) selects

abbrev a_show : Form
a_show = made_from (λ (u : Unit {0}). Show) shows

abbrev a_alter : Form
a_alter = made_from (λ d. Alter d) alter

abbrev a_read : Form
a_read = made_from (λ (x : Tallied). Read x.0 x.1) tallies

abbrev a_write : Form
a_write = made_from (λ x. Write x) written

abbrev a_batch : Form
a_batch = made_from (λ xs. Batch xs) batch

abbrev from_batch : Form
from_batch = one_or_other a_batch a_write

abbrev from_read : Form
from_read = one_or_other a_read from_batch

abbrev from_alter : Form
from_alter = one_or_other a_alter from_read

abbrev from_show : Form
from_show = one_or_other a_show from_alter

abbrev from_select : Form
from_select = one_or_other a_select from_show

abbrev from_run : Form
from_run = one_or_other a_run from_select

abbrev from_explain : Form
from_explain = one_or_other a_explain from_run

abbrev from_prepare : Form
from_prepare = one_or_other a_prepare from_explain

abbrev from_create : Form
from_create = one_or_other a_create from_prepare

-- ---- each form begins with its own word

-- the first tokens of the forms from a place on
abbrev write_firsts : List Shape
write_firsts = shape.Keyword INSERT ∷ shape.Keyword UPDATE ∷ shape.Keyword DELETE ∷ []

abbrev batch_firsts : List Shape
batch_firsts = shape.Name (soft_name soft_word.Batch) ∷ write_firsts

abbrev read_firsts : List Shape
read_firsts = shape.Name (soft_name soft_word.Read) ∷ batch_firsts

abbrev alter_firsts : List Shape
alter_firsts = shape.Name (soft_name soft_word.Alter) ∷ read_firsts

abbrev show_firsts : List Shape
show_firsts = shape.Keyword SHOW ∷ alter_firsts

abbrev select_firsts : List Shape
select_firsts = shape.Keyword SELECT ∷ show_firsts

abbrev run_firsts : List Shape
run_firsts = shape.Keyword RUN ∷ select_firsts

abbrev explain_firsts : List Shape
explain_firsts = shape.Keyword EXPLAIN ∷ run_firsts

abbrev prepare_firsts : List Shape
prepare_firsts = shape.Keyword PREPARE ∷ explain_firsts

-- what the form spells begins with no token of p
abbrev Shuts : (Shape → Bool) → Form → Type 0
Shuts p S = (s : Statement) (w rest : List Shape) → S s w → begins p (w ++ rest) ≡ false

neither : (a b : Bool) → (a || b) ≡ false → (a ≡ false) × (b ≡ false)
neither true b e = absurd cc
neither false b e = (refl, e)

or_shuts : (p : Shape → Bool) (S U : Form) (t : Shape) (ts : List Shape) → (p t ≡ false → Shuts p S) → (list_any p ts ≡ false → Shuts p U) → list_any p (t ∷ ts) ≡ false → Shuts p (one_or_other S U)
or_shuts p S U t ts h k e s w rest (inl x) = h (neither (p t) (list_any p ts) e).0 s w rest x
or_shuts p S U t ts h k e s w rest (inr x) = k (neither (p t) (list_any p ts) e).1 s w rest x

writes_shut : (p : Shape → Bool) → list_any p write_firsts ≡ false → Shuts p a_write
writes_shut p e s w rest h =
    let i = neither (p (shape.Keyword INSERT)) (list_any p (shape.Keyword UPDATE ∷ shape.Keyword DELETE ∷ [])) e in
    let u = neither (p (shape.Keyword UPDATE)) (list_any p (shape.Keyword DELETE ∷ [])) i.1 in
    let d = neither (p (shape.Keyword DELETE)) false u.1 in
    let x = h.2 in
    ap (λ (v : List Shape). begins p (v ++ rest)) x.parts ∙ ap (begins p) (append_assoc x.front x.back rest) ∙ write_shuts p i.0 u.0 d.0 h.0 x.front (x.back ++ rest) x.fits_front

batches_shut : (p : Shape → Bool) → list_any p batch_firsts ≡ false → Shuts p from_batch
batches_shut p = or_shuts p a_batch a_write (shape.Name (soft_name soft_word.Batch)) write_firsts (λ e s w rest h. then_shuts p (shape.Name (soft_name soft_word.Batch)) _ e w rest h.2) (writes_shut p)

reads_shut : (p : Shape → Bool) → list_any p read_firsts ≡ false → Shuts p from_read
reads_shut p = or_shuts p a_read from_batch (shape.Name (soft_name soft_word.Read)) batch_firsts (λ e s w rest h. then_shuts p (shape.Name (soft_name soft_word.Read)) _ e w rest h.2) (batches_shut p)

alters_shut : (p : Shape → Bool) → list_any p alter_firsts ≡ false → Shuts p from_alter
alters_shut p = or_shuts p a_alter from_read (shape.Name (soft_name soft_word.Alter)) read_firsts (λ e s w rest h. then_shuts p (shape.Name (soft_name soft_word.Alter)) _ e w rest h.2) (reads_shut p)

shows_shut : (p : Shape → Bool) → list_any p show_firsts ≡ false → Shuts p from_show
shows_shut p = or_shuts p a_show from_alter (shape.Keyword SHOW) alter_firsts (λ e s w rest h. then_shuts p (shape.Keyword SHOW) _ e w rest h.2) (alters_shut p)

selects_shut : (p : Shape → Bool) → list_any p select_firsts ≡ false → Shuts p from_select
selects_shut p = or_shuts p a_select from_show (shape.Keyword SELECT) show_firsts (λ e s w rest h. then_shuts p (shape.Keyword SELECT) anything e w rest h.2) (shows_shut p)

runs_shut : (p : Shape → Bool) → list_any p run_firsts ≡ false → Shuts p from_run
runs_shut p = or_shuts p a_run from_select (shape.Keyword RUN) select_firsts (λ e s w rest h. then_shuts p (shape.Keyword RUN) _ e w rest h.2) (selects_shut p)

explains_shut : (p : Shape → Bool) → list_any p explain_firsts ≡ false → Shuts p from_explain
explains_shut p = or_shuts p a_explain from_run (shape.Keyword EXPLAIN) run_firsts (λ e s w rest h. then_shuts p (shape.Keyword EXPLAIN) anything e w rest h.2) (runs_shut p)

prepares_shut : (p : Shape → Bool) → list_any p prepare_firsts ≡ false → Shuts p from_prepare
prepares_shut p = or_shuts p a_prepare from_explain (shape.Keyword PREPARE) explain_firsts (λ e s w rest h. then_shuts p (shape.Keyword PREPARE) _ e w rest h.2) (explains_shut p)

-- ---- the statement

statement_to : (s : Statement) (w : List Shape) → from_create s w → Spells s w
statement_to s w (inl h) = created s w h.front h.back h.fits_front h.parts h.fits_back
statement_to s w (inr (inl h)) = subst (λ (v : Statement). Spells v w) h.1 (refl, h.2)
statement_to s w (inr (inr (inl h))) = subst (λ (v : Statement). Spells v w) h.1 (refl, h.2)
statement_to s w (inr (inr (inr (inl h)))) = subst (λ (v : Statement). Spells v w) h.1 h.2
statement_to s w (inr (inr (inr (inr (inl h))))) = subst (λ (v : Statement). Spells v w) h.1 h.2
statement_to s w (inr (inr (inr (inr (inr (inl h)))))) = subst (λ (v : Statement). Spells v w) h.1 h.2
statement_to s w (inr (inr (inr (inr (inr (inr (inl h))))))) = subst (λ (v : Statement). Spells v w) h.1 h.2
statement_to s w (inr (inr (inr (inr (inr (inr (inr (inl h)))))))) = subst (λ (v : Statement). Spells v w) h.1 h.2
statement_to s w (inr (inr (inr (inr (inr (inr (inr (inr (inl h))))))))) = subst (λ (v : Statement). Spells v w) h.1 h.2
statement_to s w (inr (inr (inr (inr (inr (inr (inr (inr (inr h))))))))) = subst (λ (v : Statement). Spells v w) h.1 h.2

statement_from : (s : Statement) (w : List Shape) → Spells s w → from_create s w
statement_from (Create d) w h = inl (record { front = h.front; back = h.back; fits_front = h.fits_front; fits_back = inl (d, refl, h.fits_back); parts = h.parts })
statement_from (Counter d) w h = inl (record { front = h.front; back = h.back; fits_front = h.fits_front; fits_back = inr (d, refl, h.fits_back); parts = h.parts })
statement_from (Prepare n from) w h = inr (inl (n, ap (λ (i : ℕ). Prepare n i) h.0, h.1))
statement_from (Explain from) w h = inr (inr (inl (tt, ap (λ (i : ℕ). Explain i) h.0, h.1)))
statement_from (Run n vs t) w h = inr (inr (inr (inl ((n, (vs, t)), refl, h))))
statement_from Select w h = inr (inr (inr (inr (inl (tt, refl, h)))))
statement_from Show w h = inr (inr (inr (inr (inr (inl (tt, refl, h))))))
statement_from (Alter d) w h = inr (inr (inr (inr (inr (inr (inl (d, refl, h)))))))
statement_from (Read n vs) w h = inr (inr (inr (inr (inr (inr (inr (inl ((n, vs), refl, h))))))))
statement_from (Batch xs) w h = inr (inr (inr (inr (inr (inr (inr (inr (inl (xs, refl, h)))))))))
statement_from (Write x) w h = inr (inr (inr (inr (inr (inr (inr (inr (inr (x, refl, h)))))))))

wide : (S : Form) (r : Reader Shape Statement) → Reads S never r → Reads S always r
wide S r h = wider_reads S never always r (λ rest e. begins-never rest) h

pub statement_reads : Reads Spells always statement_at
unfolding statement_at is_word_shape is_soft_shape
statement_reads =
    same_set from_create Spells always statement_at statement_to statement_from
    (choice_reads a_create from_prepare (is_word_shape CREATE) create_statement_at _ always (wide a_create create_statement_at create_reads)
    (choice_reads a_prepare from_explain (is_word_shape PREPARE) prepare_at _ always prepare_reads
    (choice_reads a_explain from_run (is_word_shape EXPLAIN) explain_at _ always explain_reads
    (choice_reads a_run from_select (is_word_shape RUN) run_at _ always (wide a_run run_at run_reads)
    (choice_reads a_select from_show (is_word_shape SELECT) select_at _ always select_reads
    (choice_reads a_show from_alter (is_word_shape SHOW) show_at _ always (wide a_show show_at show_reads)
    (choice_reads a_alter from_read (is_soft_shape soft_word.Alter) (map_at (λ d. Alter d) alter_at) _ always (wide a_alter (map_at (λ d. Alter d) alter_at) (made_reads (λ d. Alter d) alter never alter_at alter_reads))
    (choice_reads a_read from_batch (is_soft_shape soft_word.Read) read_counter_at _ always (wide a_read read_counter_at read_reads)
    (choice_reads a_batch a_write (is_soft_shape soft_word.Batch) batch_at written_at always (wide a_batch batch_at batch_reads) (wide a_write written_at written_reads)
    (λ s w h. then_opens (is_soft_shape soft_word.Batch) (shape.Name (soft_name soft_word.Batch)) _ (soft_passes soft_word.Batch) w h.2) (λ s w rest h e. writes_shut (is_soft_shape soft_word.Batch) refl s w rest h))
    (λ s w h. then_opens (is_soft_shape soft_word.Read) (shape.Name (soft_name soft_word.Read)) _ (soft_passes soft_word.Read) w h.2) (λ s w rest h e. batches_shut (is_soft_shape soft_word.Read) refl s w rest h))
    (λ s w h. then_opens (is_soft_shape soft_word.Alter) (shape.Name (soft_name soft_word.Alter)) _ (soft_passes soft_word.Alter) w h.2) (λ s w rest h e. reads_shut (is_soft_shape soft_word.Alter) refl s w rest h))
    (λ s w h. then_opens (is_word_shape SHOW) (shape.Keyword SHOW) _ refl w h.2) (λ s w rest h e. alters_shut (is_word_shape SHOW) refl s w rest h))
    (λ s w h. then_opens (is_word_shape SELECT) (shape.Keyword SELECT) anything refl w h.2) (λ s w rest h e. shows_shut (is_word_shape SELECT) refl s w rest h))
    (λ s w h. then_opens (is_word_shape RUN) (shape.Keyword RUN) _ refl w h.2) (λ s w rest h e. selects_shut (is_word_shape RUN) refl s w rest h))
    (λ s w h. then_opens (is_word_shape EXPLAIN) (shape.Keyword EXPLAIN) anything refl w h.2) (λ s w rest h e. runs_shut (is_word_shape EXPLAIN) refl s w rest h))
    (λ s w h. then_opens (is_word_shape PREPARE) (shape.Keyword PREPARE) _ refl w h.2) (λ s w rest h e. explains_shut (is_word_shape PREPARE) refl s w rest h))
    (λ s w h. then_opens (is_word_shape CREATE) (shape.Keyword CREATE) _ refl w h) (λ s w rest h e. prepares_shut (is_word_shape CREATE) refl s w rest h))
