-- Where a page begins: at the position of the cursor, in a query that has pages.
use Rattle.std.proofs.Common.{◌≡◌, ℕ, List, length, Option, Some, None, refl, sym, ap, ◌∙◌}
use Rattle.std.specs.Prelude.{true, is_some, Result, Ok, Err, IfOk}
use Rattle.std.proofs.lemmas.List.{length-map}
use Rattle.pq_base.specs.Answers.{Answers, Passes}
use Rattle.pq_base.specs.Values.{AllFit}
use Rattle.pq_base.specs.declared.refusal.Refusal.{Refusal}
use Rattle.pq_base.specs.declared.refusal.Stopped.{Stopped}
use Rattle.pq_base.specs.declared.refusal.Stopped.TheVariants as stopped
use Rattle.pq_base.specs.declared.value.Value.{Value}
use Rattle.pq_base.proofs.TypeFits.{length_from_fits}
use Rattle.pq_cursor.specs.Cursors.{IsCursorOf, position_in}
use Rattle.pq_cursor.proofs.Cursors.{cursor_again}
use Rattle.pq_nodes.specs.Combos.{position_types}
use Rattle.pq_schema.specs.Relations.{position_columns}
use Rattle.pq_schema.specs.Resolved.{ref_type}
use Rattle.pq_schema.specs.declared.query.OrderItem.{OrderItem}
use Rattle.pq_schema.specs.declared.query.Query.{Query}
use Rattle.pq_schema.specs.declared.table.Table.{Table}
use Rattle.pq_running.specs.Running.{page_size, position_dirs, page_start, begins_after, or_begins, params_refusal, cursor_start}

-- each position column has a type and a direction
pub same_long : (tables : List Table) (query : Query) → length (position_types tables query) ≡ length (position_dirs tables query)
same_long tables query =
    length-map (position_columns tables query) (λ (item : OrderItem). ref_type tables query item.col)
    ∙ sym (length-map (position_columns tables query) (λ (item : OrderItem). item.dir))

module _ (tables : List Table) (number : ℕ) (query : Query) (text : List ℕ) where
  paged_behind : (size : Option ℕ) (position : List Value) → is_some size ≡ true → page_start size (Some position) ≡ Ok (Some position)
  paged_behind None position paged = absurd cc
  paged_behind (Some k) position paged = refl

  -- in a query with pages, at the position whose cursor the text is
  pub begins_behind : is_some (page_size query.stop) ≡ true → (position : List Value) → IsCursorOf number (position_types tables query) (position_dirs tables query) text position → begins_after tables number query (Some text) ≡ Ok (Some position)
  begins_behind paged position is =
      let read : position_in number (position_types tables query) (position_dirs tables query) text ≡ Some position =
      ap (position_in number (position_types tables query) (position_dirs tables query)) is.is
      ∙ cursor_again number (position_types tables query) (position_dirs tables query) (same_long tables query) position is.fits in
      ap (page_start (page_size query.stop)) read ∙ paged_behind (page_size query.stop) position paged

-- ---- with the parameters

module _ (tables : List Table) (number : ℕ) (query : Query) (params : List Value) (after : Option (List ℕ)) where
  -- where they are not refused, at the cursor's
  pub begins_passed : params_refusal query.params params ≡ None → cursor_start tables number query params after ≡ begins_after tables number query after
  unfolding cursor_start
  begins_passed none = ap (λ (refusal : Option Refusal). or_begins refusal (begins_after tables number query after)) none

  -- and otherwise nowhere
  pub begins_refused : (stopped : Stopped) → Passes {A = Unit {0}} (Err stopped) (params_refusal query.params params) → Answers {A = Option (List Value)} (Err stopped) (cursor_start tables number query params after)
  unfolding cursor_start
  begins_refused (stopped.Refused why) is = ap (λ (refusal : Option Refusal). or_begins refusal (begins_after tables number query after)) is
  begins_refused stopped.NoMem is = tt

-- what holds in any case holds of an answer
pub whenever_ok : {A E : Type 0} (P : Type 0) (result : Result A E) → P → IfOk result (λ _. P)
whenever_ok P (Ok answer) holds = holds
whenever_ok P (Err error) holds = tt

-- ---- the length of a position

-- each value of a position has a direction
pub cursor_long : (tables : List Table) (query : Query) (position : List Value) → AllFit (position_types tables query) position → length position ≡ length (position_dirs tables query)
cursor_long tables query position fits = length_from_fits (position_types tables query) position fits ∙ same_long tables query
