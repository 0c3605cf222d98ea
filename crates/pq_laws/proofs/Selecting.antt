-- What a SELECT plans, what it is refused for, and what it answers.
use Rattle.std.proofs.Common.{◌≡◌, ℕ, ◌≤◌, ◌==◌, Bool, true, false, not, List, [], length, Option, Some, None, Result, Ok, Err, refl, ap, ◌∙◌, subst, arith}
use Rattle.std.specs.Prelude.{IsPermutation}
use Rattle.std.proofs.lemmas.Bool.{eqb-true}
use Rattle.pq_base.specs.declared.refusal.Refusal.{Refusal}
use Rattle.pq_base.specs.declared.refusal.Refusal.TheVariants as refusal
use Rattle.pq_base.specs.declared.value.ColType.{ColType}
use Rattle.pq_schema.specs.Definitions.{refused_if}
use Rattle.pq_schema.specs.Resolved.{IsResolved}
use Rattle.pq_schema.specs.Rows.{Rows}
use Rattle.pq_schema.specs.Tables.{table_at}
use Rattle.pq_schema.specs.Wanted.{ChosenCandidate, chosen_candidate}
use Rattle.pq_schema.specs.declared.query.Query.{Query}
use Rattle.pq_schema.specs.declared.query.Stop.TheVariants.{All}
use Rattle.pq_schema.specs.declared.table.NewIndex.{NewIndex}
use Rattle.pq_schema.specs.declared.table.Table.{Table}
use Rattle.pq_arrange.specs.Arrange.{arranged_query}
use Rattle.pq_arrange.proofs.Answers.{same_answers}
use Rattle.pq_plan.specs.Answer.{answer}
use Rattle.pq_query_read.specs.Trying.{◌>>=◌, passed_unless}
use Rattle.pq_runnable.proofs.Staying.{err_not_ok, ok_same}
use Rattle.pq_planning.specs.Planning.{PlannedDefinition, arranged_plan, as_it_is, index_refusal, once_refusal, selected_plan, with_chosen, with_no_index}
use Rattle.pq_planning.proofs.Once.{no_params}

module _ (tables : List Table) where
  by_index : (given plan : PlannedDefinition) (wanted : Option NewIndex) → (passed_unless (index_refusal tables wanted) >>= as_it_is given) ≡ Ok plan → (given ≡ plan) × (wanted ≡ None)
  by_index given plan None is = (ok_same given plan is, refl)
  by_index given plan (Some new) is = absurd (err_not_ok _ plan is)

  by_plan : (found : Result PlannedDefinition Refusal) (plan : PlannedDefinition) → (found >>= with_no_index tables) ≡ Ok plan → (found ≡ Ok plan) × (plan.chosen.wanted ≡ None)
  by_plan (Ok given) plan is =
      let both = by_index given plan given.chosen.wanted is in
      (ap (λ (p : PlannedDefinition). Ok p) both.0, subst (λ (p : PlannedDefinition). p.chosen.wanted ≡ None) both.0 both.1)
  by_plan (Err why) plan is = absurd (err_not_ok why plan is)

  module _ (query : Query) where
    abbrev behind : Option Refusal → Result PlannedDefinition Refusal
    behind found = (passed_unless found >>= λ none. Ok query) >>= arranged_plan tables >>= with_no_index tables

    by_params : (found : Option Refusal) (plan : PlannedDefinition) → behind found ≡ Ok plan → (found ≡ None) × (arranged_plan tables query ≡ Ok plan) × (plan.chosen.wanted ≡ None)
    by_params None plan is = let both = by_plan (arranged_plan tables query) plan is in (refl, both.0, both.1)
    by_params (Some why) plan is = absurd (err_not_ok why plan is)

    -- it is planned as it is explained
    pub selected_parts : (plan : PlannedDefinition) → selected_plan tables query ≡ Ok plan → (query.params ≡ []) × (arranged_plan tables query ≡ Ok plan) × (plan.chosen.wanted ≡ None)
    selected_parts plan is = let parts = by_params (once_refusal query) plan is in (no_params query parts.0, parts.1, parts.2)

    counted : (count : ℕ) (b : Bool) → (count == 0) ≡ b → 1 ≤ count → refused_if (not b) refusal.Params ≡ Some refusal.Params
    counted count true is many = absurd (let none = eqb-true count 0 is in omega (arith, many, none))
    counted count false is many = refl

    -- or refused for its parameters
    pub params_refused : 1 ≤ length query.params → selected_plan tables query ≡ Err refusal.Params
    params_refused many = ap behind (counted (length query.params) (length query.params == 0) refl many)

    -- or for the index that it wants
    pub index_refused : (plan : PlannedDefinition) (new : NewIndex) → query.params ≡ [] → arranged_plan tables query ≡ Ok plan → plan.chosen.wanted ≡ Some new
        → selected_plan tables query ≡ Err (refusal.IndexWanted (table_at tables new.table).name)
    index_refused plan new none planned wanted =
        ap (λ (types : List ColType). behind (refused_if (not (length types == 0)) refusal.Params)) none
        ∙ ap (λ (found : Result PlannedDefinition Refusal). found >>= with_no_index tables) planned
        ∙ ap (λ (index : Option NewIndex). passed_unless (index_refusal tables index) >>= as_it_is plan) wanted

    by_chosen : (taken : Query) (best : Result ChosenCandidate Refusal) (plan : PlannedDefinition) → (best >>= with_chosen taken) ≡ Ok plan → taken ≡ plan.query
    by_chosen taken (Ok best) plan is = ap (λ (p : PlannedDefinition). p.query) (ok_same (record { query = taken; chosen = best }) plan is)
    by_chosen taken (Err why) plan is = absurd (err_not_ok why plan is)

    -- without a stop the rows are those of the query as it is written
    pub selected_answers : (plan : PlannedDefinition) → selected_plan tables query ≡ Ok plan → IsResolved tables query → query.stop ≡ All → (rows : Rows)
        → IsPermutation (answer tables query rows [] None) (answer tables plan.query rows [] None)
    selected_answers plan is resolved stop rows =
        let taken : arranged_query tables query ≡ plan.query =
        by_chosen (arranged_query tables query) (chosen_candidate tables (arranged_query tables query)) plan (selected_parts plan is).1 in
        subst (λ (q : Query). IsPermutation (answer tables query rows [] None) (answer tables q rows [] None)) taken
        (same_answers tables query resolved stop tables rows [] None)
