-- The page of an answer, and the bound of a plan.
use Rattle.std.proofs.Common.{◌≡◌, ℕ, ◌==◌, cond, List, length, Option, Some, None, option_map, refl, sym, ap, ◌∙◌, subst}
use Rattle.std.proofs.lemmas.List.{length-map}
use Rattle.pq_base.specs.Values.{AllFit}
use Rattle.pq_base.specs.declared.number.Bound.{Bound}
use Rattle.pq_base.specs.declared.value.Value.{Value}
use Rattle.pq_schema.specs.Resolved.{IsResolved}
use Rattle.pq_schema.specs.Rows.{Rows}
use Rattle.pq_schema.specs.Schema.{Schema, IsQueryDefinition, definition_at, query_at}
use Rattle.pq_schema.specs.Valid.{IsValid}
use Rattle.pq_schema.specs.declared.query.Query.{Query}
use Rattle.pq_schema.specs.declared.table.Table.{Table}
use Rattle.pq_schema.proofs.Valid.{valid_made}
use Rattle.pq_store.specs.Counts.{Counts}
use Rattle.pq_plan.specs.Answer.{Question, position, selected_values}
use Rattle.pq_plan.specs.Cost.{cost}
use Rattle.pq_plan.specs.declared.physical.Physical.{Physical}
use Rattle.pq_nodes.specs.Operators.{IsAsked}
use Rattle.pq_runnable.specs.Runnable.{IsRunnablePlan}
use Rattle.pq_runnable.proofs.Staying.{query_resolved}
use Rattle.pq_exec.specs.Execution.{IsAnswer, RisesWithin}
use Rattle.pq_running.specs.Running.{last_of}
use Rattle.pq_exec.specs.declared.executing.Answer.{Answer}
use Rattle.pq_running.specs.Running.{Running, running_with, query_bound, position_dirs, page_size, page_combos, over_rows, next_at, next_cursor, next_of}
use Rattle.pq_pages.specs.Paging.{IsPageOver}
use Rattle.pq_pages.specs.declared.page.Page.{Page}
use Rattle.pq_cursor.specs.Cursors.{cursor_text}

-- ---- the bound

-- what a plan that costs the query's bound uses is within that bound
pub within_bound : (tables : List Table) (query : Query) (plan : Physical) → cost plan ≡ query_bound tables query → (before after : Counts) → RisesWithin (cost plan) before after → RisesWithin (query_bound tables query) before after
within_bound tables query plan is before after within = subst (λ (b : Bound). RisesWithin b before after) is within

-- ---- a query that was defined

module _ (s : Schema) (number : ℕ) (valid : IsValid s) (defined : IsQueryDefinition (definition_at s number)) (query : Query) (same : query ≡ query_at s number) where
  pub defined_asked : (params : List Value) → AllFit (query_at s number).params params → IsAsked s.tables query params
  defined_asked params fits =
      subst (λ (q : Query). IsAsked s.tables q params) (sym same)
      (record { made = valid_made valid; resolved = query_resolved s number valid defined; params_fit = fits })

  pub defined_resolved : IsResolved s.tables query
  defined_resolved = subst (λ (q : Query). IsResolved s.tables q) (sym same) (query_resolved s number valid defined)

  pub defined_plan : (plan : Physical) → IsRunnablePlan s.tables (query_at s number) plan → IsRunnablePlan s.tables query plan
  defined_plan plan is = subst (λ (q : Query). IsRunnablePlan s.tables q plan) (sym same) is

-- ---- the page

map_twice : {A B C : Type 0} (f : B → C) (g : A → B) (found : Option A) → option_map f (option_map g found) ≡ option_map (λ x. f (g x)) found
map_twice f g None = refl
map_twice f g (Some x) = refl

module _ (tables : List Table) (number : ℕ) (query : Query) (params : List Value) (after : Option (List Value)) (rows : Rows) where
  abbrev run : Running
  run = running_with number query params after

  abbrev q : Question
  q = over_rows tables rows run

  abbrev combos : List (List (List Value))
  combos = page_combos tables rows run

  next_alike : (size : Option ℕ) (count : ℕ) (last : Option (List Value)) → count ≡ length combos → last ≡ option_map (position q) (last_of combos) → next_at tables number query count last size ≡ next_of tables rows run size combos
  next_alike None count last many is = refl
  next_alike (Some k) count last many is =
      let text : List Value → List ℕ = cursor_text number (position_dirs tables query) in
      ap (λ (n : ℕ). cond (n == k) (option_map text last) None) many
      ∙ ap (λ (found : Option (List ℕ)). cond (length combos == k) found None) (ap (option_map text) is ∙ map_twice text (position q) (last_of combos))

  -- an answer with its cursor is the page
  pub answer_page : (answer : Answer) → IsAnswer tables query rows params after answer → (page : Page) → page.rows ≡ answer.rows → page.next ≡ next_cursor tables number query (length answer.rows) answer.last → IsPageOver tables rows run page
  answer_page answer is page same next = record {
    rows = same ∙ is.rows;
    next = next ∙ next_alike (page_size query.stop) (length answer.rows) answer.last (ap length is.rows ∙ length-map combos (selected_values query)) is.last;
  }
