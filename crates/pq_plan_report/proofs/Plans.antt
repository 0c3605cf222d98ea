-- The text of a plan that was computed is that of the plan that is asked for.
use Rattle.std.proofs.Common.{◌≡◌, ℕ, List, [], ◌++◌, Result, Ok, Err, ◌⊎◌, inl, inr, if◌then◌else◌, append_assoc, flat_map, refl, sym, ap, subst, ◌∙◌}
use Rattle.std.specs.Prelude.{OnOk, sum_by}
use Rattle.pq_base.specs.Answers.{Refuses}
use Rattle.pq_base.specs.declared.refusal.Refusal.{Refusal}
use Rattle.pq_base.specs.declared.refusal.Stopped.{Stopped}
use Rattle.pq_base.specs.declared.refusal.Stopped.TheVariants.{Refused}
use Rattle.pq_schema.specs.Schema.{Schema}
use Rattle.pq_schema.specs.Valid.{IsValid}
use Rattle.pq_schema.proofs.Soundness.{valid_query}
use Rattle.pq_schema.specs.declared.query.Query.{Query}
use Rattle.pq_schema.specs.declared.table.Table.{Table}
use Rattle.pq_compile.specs.Chosen.{IsCompiled}
use Rattle.pq_compile.specs.declared.compiler.Compiled.{Compiled}
use Rattle.pq_plan.specs.Cost.{IsPlanTree, cost}
use Rattle.pq_plan.specs.Nodes.{nodes, plan_nodes}
use Rattle.pq_plan.proofs.Choices.{choice_has}
use Rattle.pq_plan.proofs.PlanTree.{plan_tree}
use Rattle.pq_plan_lines.specs.Lines.{plan_lines, sum_of}
use Rattle.pq_plan_lines.specs.Texts.{line_text, rounds_text}
use Rattle.pq_nodes.specs.Rounds.{node_rounds, plan_rounds}
use Rattle.pq_statement.specs.Actions.{Action, Creates, Adds, Writes, Batches, Misreads, Prepares, Explains, Runs, Counts, Reads, Shows, Selects, action_from, action_of}
use Rattle.pq_check.specs.Checks.{check_step, checked_as}
use Rattle.pq_statement.specs.Requests.{Asks, IsPlannedAs, IsRequest}
use Rattle.pq_statement.specs.declared.requests.Request.{Request}
use Rattle.pq_statement.specs.declared.requests.Request.TheVariants as request
use Rattle.pq_planning.specs.Planned.{IsComputed}
use Rattle.pq_planning.specs.declared.planning.PlannedQuery.{PlannedQuery}
use Rattle.pq_planning.specs.Planning.{PlannedDefinition}
use Rattle.pq_print.specs.Report.{is_refusal, printed_report}
use Rattle.pq_print.specs.declared.report.Report.{Report}
use Rattle.pq_text.specs.declared.piece.Piece.{Piece}
use Rattle.pq_plan_report.specs.Plans.{IsSummed, TellsAsked, TellsPlan, TellsPlanned, TellsRequested, asked_plan, lines_of, plan_text}
use Rattle.pq_plan_report.specs.Told.{report_of, told_piece, told_plan}

-- a query, the plan that was compiled of it, and the plan that was found of the same
module _ (tables : List Table) (query : Query) (compiled : Compiled) (is : IsCompiled tables query compiled) (plan : PlannedDefinition) (same : plan.query ≡ query) (choice : plan.chosen.best.choice ≡ compiled.choice) (wanted : plan.chosen.wanted ≡ compiled.wanted) where
  nodes_are : nodes compiled.plan ≡ plan_nodes tables plan.query plan.chosen.best.choice
  nodes_are = is.plan.built ∙ (λ i. plan_nodes tables (sym same i) (sym choice i))

  lines_are : plan_lines (nodes compiled.plan) ≡ lines_of tables plan
  lines_are = ap plan_lines nodes_are

  text_is : (text : List ℕ) → text ≡ flat_map (line_text tables query compiled.wanted) (plan_lines (nodes compiled.plan)) ++ rounds_text (plan_rounds compiled.plan) → text ≡ plan_text tables plan
  unfolding plan_text
  text_is text told = told ∙ (λ i. flat_map (line_text tables (sym same i) (sym wanted i)) (lines_are i) ++ rounds_text (sum_by node_rounds (nodes_are i)))

  pub plan_told : plan.chosen.best.bound ≡ cost compiled.plan → (text : List ℕ)
      → text ≡ flat_map (line_text tables query compiled.wanted) (plan_lines (nodes compiled.plan)) ++ rounds_text (plan_rounds compiled.plan) → sum_of (plan_lines (nodes compiled.plan)) ≡ cost compiled.plan → TellsPlan tables plan text
  plan_told bound text told sums = record { text_is = text_is text told; sums = ap sum_of (sym lines_are) ∙ sums ∙ sym bound }

-- the plan of a query that was planned is a tree whose lines can be told
pub computed_tree : (schema : Schema) (computed : PlannedQuery) → IsValid schema → IsComputed schema.tables computed → IsPlanTree computed.compiled.plan
computed_tree schema computed valid are =
    let made = computed.compiled in
    plan_tree schema.tables computed.query (valid_query schema computed.query valid are.resolved) made.choice (choice_has schema.tables computed.query made.choice are.compiled.plan.candidate) made.plan are.compiled.plan.built

module _ (schema : Schema) where
  -- ---- a request

  -- a query that is prepared, explained or run once
  abbrev pub HasPlan : Request → PlannedQuery → Type 0
  HasPlan said computed = (said ≡ request.Prepare computed) ⊎ ((said ≡ request.Explain computed) ⊎ (said ≡ request.Select computed))

  pub planned_is : (said : Request) (computed : PlannedQuery) → HasPlan said computed → IsRequest schema said → IsComputed schema.tables computed
  planned_is said computed has is = elim has [
    | inl e ↦ let asks = subst (λ r. Asks schema r is.0) e is.1 in asks.0.computed_is
    | inr r ↦ elim r [
      | inl e ↦ let asks = subst (λ r. Asks schema r is.0) e is.1 in asks.0
      | inr e ↦ let asks = subst (λ r. Asks schema r is.0) e is.1 in asks.0
    ]
  ]

  planned_as : (action : PlannedDefinition → Action) (asked : Result Action Refusal) (computed : PlannedQuery) (told : List ℕ) → IsPlannedAs action asked computed
      → ((plan : PlannedDefinition) → TellsPlan schema.tables plan told → TellsAsked schema (Ok (action plan)) told) → TellsPlanned schema computed told → TellsAsked schema asked told
  planned_as action asked computed told found tells planned =
      subst (λ (a : Result Action Refusal). TellsAsked schema a told) (sym found.asks) (tells found.plan (planned found.plan found.plan_is))

  pub planned_told : (said : Request) (computed : PlannedQuery) (told : List ℕ) → HasPlan said computed → TellsPlanned schema computed told → TellsRequested schema said told
  planned_told said computed told has planned asked asks = elim has [
    | inl e ↦ planned_as Prepares asked computed told ((subst (λ r. Asks schema r asked) e asks).1) (λ plan tells. tells) planned
    | inr r ↦ elim r [
      | inl e ↦ planned_as Explains asked computed told ((subst (λ r. Asks schema r asked) e asks).1) (λ plan tells. tells) planned
      | inr e ↦ planned_as Selects asked computed told ((subst (λ r. Asks schema r asked) e asks).2) (λ plan tells. tells) planned
    ]
  ]

  none_told : {A : Type 0} (action : A → Action) (found : Result A Refusal) → ((a : A) → TellsAsked schema (Ok (action a)) []) → TellsAsked schema (action_from action found) []
  none_told action (Ok a) none = none a
  none_told action (Err why) none = tt

  asked_none : (asked is : Result Action Refusal) → asked ≡ is → TellsAsked schema is [] → TellsAsked schema asked []
  asked_none asked is e tells = subst (λ (a : Result Action Refusal). TellsAsked schema a []) (sym e) tells

  -- all others ask for no plan
  by_other : (said : Request) → ((computed : PlannedQuery) → HasPlan said computed → ⊥) → TellsRequested schema said []
  by_other (request.Create def) none asked asks = asked_none asked _ asks.1 (none_told Creates _ (λ _. refl))
  by_other (request.Alter def) none asked asks = asked_none asked _ asks.1 (none_told (λ (next : Schema). Adds def) _ (λ _. refl))
  by_other (request.Write write) none asked asks = asked_none asked _ asks.1 refl
  by_other (request.Batch writes) none asked asks = asked_none asked _ asks.1 refl
  by_other (request.Misread place cause) none asked asks = asked_none asked _ asks refl
  by_other (request.Prepare computed) none asked asks = absurd (none computed (inl refl))
  by_other (request.Explain computed) none asked asks = absurd (none computed (inr (inl refl)))
  by_other (request.Run run) none asked asks = asked_none asked _ asks.2 (none_told Runs _ (λ _. refl))
  by_other (request.Count def) none asked asks = asked_none asked _ asks.1 (none_told (λ (next : Schema). Counts def) _ (λ _. refl))
  by_other (request.Read read) none asked asks = asked_none asked _ asks.1 refl
  by_other request.Show none asked asks = asked_none asked _ asks refl
  by_other (request.Select computed) none asked asks = absurd (none computed (inr (inr refl)))

  pub other_told : (said : Request) (told : List ℕ) → ((computed : PlannedQuery) → HasPlan said computed → ⊥) → told ≡ [] → TellsRequested schema said told
  other_told said told none is = subst (TellsRequested schema said) (sym is) (by_other said none)

  -- nothing is said of what is refused
  pub refused_told : (asked : Result Action Refusal) (why : Refusal) (told : List ℕ) → asked ≡ Err why → TellsAsked schema asked told
  refused_told asked why told is = subst (λ (a : Result Action Refusal). TellsAsked schema a told) (sym is) tt

  pub stopped_told : (asked : Result Action Refusal) (stopped : Stopped) (why : Refusal) (told : List ℕ) → stopped ≡ Refused why → Refuses {A = Action} stopped asked → TellsAsked schema asked told
  stopped_told asked stopped why told is refused = refused_told asked why told (subst (λ (s : Stopped). Refuses {A = Action} s asked) is refused)

  -- ---- a piece

  -- what is told of a plan sums to its bound
  pub summed_of : (asked : Result Action Refusal) (told : List ℕ) → TellsAsked schema asked told → IsSummed schema asked
  summed_of (Ok (Creates table)) told tells = tt
  summed_of (Ok (Adds def)) told tells = tt
  summed_of (Ok (Writes write)) told tells = tt
  summed_of (Ok (Batches writes)) told tells = tt
  summed_of (Ok (Misreads place cause)) told tells = tt
  summed_of (Ok (Prepares plan)) told tells = tells.sums
  summed_of (Ok (Explains plan)) told tells = tells.sums
  summed_of (Ok (Runs running)) told tells = tt
  summed_of (Ok (Counts def)) told tells = tt
  summed_of (Ok (Reads reading)) told tells = tt
  summed_of (Ok Shows) told tells = tt
  summed_of (Ok (Selects plan)) told tells = tells.sums
  summed_of (Err why) told tells = tt

  plan_of : (action : Action) (told : List ℕ) → TellsAsked schema (Ok action) told → told ≡ asked_plan schema (Ok action)
  plan_of (Creates table) told tells = tells
  plan_of (Adds def) told tells = tells
  plan_of (Writes write) told tells = tells
  plan_of (Batches writes) told tells = tells
  plan_of (Misreads place cause) told tells = tells
  plan_of (Prepares plan) told tells = tells.text_is
  plan_of (Explains plan) told tells = tells.text_is
  plan_of (Runs running) told tells = tells
  plan_of (Counts def) told tells = tells
  plan_of (Reads reading) told tells = tells
  plan_of Shows told tells = tells
  plan_of (Selects plan) told tells = tells.text_is

  module _ (number : ℕ) where
    abbrev shown : Report → List ℕ → List ℕ
    shown report plan = if is_refusal report then [] else plan

    plan_shown : (asked : Result Action Refusal) (told : List ℕ) → TellsAsked schema asked told → shown (checked_as schema number asked).report told ≡ shown (checked_as schema number asked).report (asked_plan schema asked)
    plan_shown (Ok action) told tells = ap (shown (checked_as schema number (Ok action)).report) (plan_of action told tells)
    plan_shown (Err why) told tells = refl

    piece_shown : (piece : Piece) (told : List ℕ) → TellsAsked schema (action_of schema piece) told → shown (report_of schema number piece) told ≡ told_plan schema piece (report_of schema number piece)
    unfolding check_step
    piece_shown piece told tells = plan_shown (action_of schema piece) told tells

    pub piece_told : (piece : Piece) (plan : List ℕ) (report : Report) (old new : List ℕ) → TellsAsked schema (action_of schema piece) plan → report ≡ report_of schema number piece
        → new ≡ old ++ ((if is_refusal report then [] else plan) ++ printed_report report) → new ≡ old ++ told_piece schema number piece
    unfolding told_piece
    piece_told piece plan report old new tells is new_is =
        new_is ∙ (λ i. old ++ (shown (is i) plan ++ printed_report (is i)))
        ∙ ap (λ (t : List ℕ). old ++ (t ++ printed_report (report_of schema number piece))) (piece_shown piece plan tells)

pub report_put : {X E : Type 0} (result : Result X E) (old plan mid printed new : List ℕ) → mid ≡ old ++ plan → OnOk result (new ≡ mid ++ printed) → OnOk result (new ≡ old ++ (plan ++ printed))
report_put (Ok x) old plan mid printed new before is = is ∙ ap (λ (t : List ℕ). t ++ printed) before ∙ append_assoc old plan printed
report_put (Err e) old plan mid printed new before is = tt
