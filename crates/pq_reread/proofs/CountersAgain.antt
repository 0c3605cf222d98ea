-- The canonical text of a counter over a valid schema is read back.
use Rattle.std.proofs.Common.{◌≡◌, ◌+◌, ◌-◌, List, [], ◌∷◌, ◌++◌, length, get_or, None, refl, sym, ap, subst, ◌∙◌, arith}
use Rattle.std.proofs.Math.Seq.{get_or-append_seam}
use Rattle.std.proofs.lemmas.List.{length-map}
use Rattle.pq_schema.specs.declared.counter.Counter.{Counter}
use Rattle.pq_schema.specs.declared.definition.CounterDef.{CounterDef}
use Rattle.pq_schema.specs.declared.made.Definition.{Definition}
use Rattle.pq_schema.specs.declared.made.Definition.TheVariants.{OfCounter}
use Rattle.pq_schema.specs.declared.table.Column.{Column}
use Rattle.pq_schema.specs.ColumnNames.{place_of}
use Rattle.pq_schema.specs.Definitions.{counter_refusal, counted_table, counter_of_def, counted_schema, new_counter}
use Rattle.pq_schema.specs.Schema.{Schema, no_definition}
use Rattle.pq_schema.specs.Tables.{table_at}
use Rattle.pq_schema.specs.Valid.{IsValid, IsCounted}
use Rattle.pq_print.specs.Canonical.{counter_text, text_of, definition_text}
use Rattle.pq_reread.specs.ReadBack.{IsCounterText, IsCounterLater}
use Rattle.pq_reread.specs.Said.{SaysCounter}
use Rattle.pq_reread.proofs.Counters.{counter_back, says_later}
use Rattle.pq_reread.proofs.Countings.{IsCounting, accepted_counter}
use Rattle.pq_reread.proofs.Defined.{names_there, ok_is}
use Rattle.pq_reread.proofs.Orders.{places_inside}

module _ (schema : Schema) (def : CounterDef) (next : Schema) (valid : IsValid schema) (is : IsCounted schema def next) where
  abbrev counter : Counter
  counter = counter_of_def schema def

  abbrev columns : List Column
  columns = (table_at schema.tables (counted_table schema def)).columns

  parts : (counter_refusal schema def ≡ None) × (counted_schema schema def ≡ next)
  unfolding new_counter
  parts = ok_is (counter_refusal schema def) (counted_schema schema def) next is.accepted

  counting : IsCounting schema def (counted_table schema def)
  counting = accepted_counter schema def parts.0

  before_says : SaysCounter schema.tables def counter
  before_says =
      let few = counting.few in
      record {
        name = refl;
        table = counting.named;
        cols = record { some = counting.some; names = names_there columns def.cols counting.known };
        few = omega (arith, few, length-map def.cols (place_of columns));
      }

  -- the counter that the definition makes says what the definition says
  pub counter_says : SaysCounter next.tables def (counter_of_def schema def)
  counter_says = subst (λ (s : Schema). SaysCounter s.tables def counter) parts.1 before_says

  pub counter_later : IsCounterLater schema.tables def (counter_of_def schema def)
  counter_later later keep =
      counter_back later def counter is.names
      (says_later schema.tables later def counter keep counting.from_one counting.there (places_inside columns def.cols counting.known) before_says)

  last_text : definition_text next (length schema.definitions + 1) ≡ counter_text next.tables counter
  unfolding definition_text
  last_text =
      let at : length schema.definitions + 1 - 1 ≡ length schema.definitions = omega arith in
      let last : Definition = OfCounter counter in
      ap (λ (s : Schema). text_of next.tables (get_or s.definitions (length schema.definitions + 1 - 1) no_definition)) (sym parts.1)
      ∙ ap (λ n. text_of next.tables (get_or (schema.definitions ++ last ∷ []) n no_definition)) at
      ∙ ap (text_of next.tables) (get_or-append_seam schema.definitions last [] no_definition)

  -- the text of the definition that comes last
  pub counter_defined : IsCounterText def (definition_text next (length schema.definitions + 1))
  counter_defined = subst (IsCounterText def) (sym last_text) (counter_back next.tables def counter is.names counter_says)
