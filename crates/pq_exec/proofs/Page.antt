-- What running a plan gives is the answer of its query.
use Rattle.std.proofs.Common.{◌≡◌, suc, ◌-◌, ◌<◌, ◌≤◌, List, [], ◌∷◌, length, get_or, map, Option, None, Some, option_map, refl, sym, ap, ◌∙◌, subst, arith}
use Rattle.std.specs.Prelude.{IfSome}
use Rattle.std.specs.List.{AllByRecursion}
use Rattle.std.proofs.lemmas.List.{length-map}
use Rattle.std.proofs.lemmas.Option.{none-some}
use Rattle.pq_base.specs.Values.{AllFit}
use Rattle.pq_base.specs.declared.value.Value.{Value}
use Rattle.pq_schema.specs.declared.query.Query.{Query}
use Rattle.pq_schema.specs.declared.table.Table.{Table}
use Rattle.pq_schema.specs.Sound.{IsQuery}
use Rattle.pq_schema.proofs.Soundness.{resolved_is_query}
use Rattle.pq_store.specs.Content.{Content}
use Rattle.pq_plan.specs.declared.physical.Physical.{Physical}
use Rattle.pq_plan.specs.Answer.{Question, answered, position, selected_values}
use Rattle.pq_plan.specs.Executing.{Gives}
use Rattle.pq_plan.specs.Nodes.{nodes, run_of}
use Rattle.pq_plan.proofs.Choices.{choice_has}
use Rattle.pq_plan.proofs.Executing.{run_answers}
use Rattle.pq_nodes.specs.Combos.{FitsTables, position_types, selected_types}
use Rattle.pq_nodes.specs.Operators.{IsAsked}
use Rattle.pq_nodes.specs.Ordered.{after_nodes}
use Rattle.pq_nodes.proofs.Fitting.{selected_fits}
use Rattle.pq_nodes.proofs.InOrder.{plan_runs}
use Rattle.pq_runnable.specs.Runnable.{IsRunnablePlan}
use Rattle.pq_exec.proofs.Few.{few_given}
use Rattle.pq_exec.specs.Execution.{AreRun, RunAnswers, IsLastPosition, AnswersQuery, IsPage}
use Rattle.pq_running.specs.Running.{last_of}
use Rattle.pq_exec.specs.declared.executing.Answer.{Answer}

-- ---- lists

-- the item at the last place
pub last_at : {A : Type 0} (xs : List A) (x d : A) → 0 < length xs → x ≡ get_or xs (length xs - 1) d → last_of xs ≡ Some x
last_at [] x d some is = absurd (omega arith)
last_at (y ∷ []) x d some is = ap Some (sym is)
last_at (y ∷ z ∷ rest) x d some is =
    let whole : length (y ∷ z ∷ rest) - 1 ≡ suc (length rest) = omega arith in
    let less : length (z ∷ rest) - 1 ≡ length rest = omega arith in
    last_at (z ∷ rest) x d (omega arith) (is ∙ ap (λ k. get_or (y ∷ z ∷ rest) k d) whole ∙ ap (λ k. get_or (z ∷ rest) k d) (sym less))

none_last : {A B : Type 0} (f : A → B) (xs : List A) → option_map f (last_of xs) ≡ None → xs ≡ []
none_last f [] is = refl
none_last f (x ∷ []) is = absurd (none-some (f x) (sym is))
none_last f (x ∷ y ∷ rest) is = absurd (some_rest (none_last f (y ∷ rest) is))
  where
    some_rest : y ∷ rest ≡ [] → ⊥
    some_rest e = let long = ap length e in omega (arith, long)

some_last : {A B : Type 0} (f : A → B) (xs : List A) (at : B) → option_map f (last_of xs) ≡ Some at → 1 ≤ length xs
some_last f [] at is = absurd (none-some at is)
some_last f (x ∷ rest) at is = omega arith

each_map : {A B : Type 0} (P : A → Type 0) (Q : B → Type 0) (f : A → B) → ((x : A) → P x → Q (f x)) → (xs : List A) → AllByRecursion P xs → AllByRecursion Q (map f xs)
each_map P Q f weaker [] all = tt
each_map P Q f weaker (x ∷ xs) all = (weaker x all.0, each_map P Q f weaker xs all.1)

-- ---- a plan that was run

module _ (tables : List Table) (query : Query) (params : List Value) (cursor : Option (List Value)) (tree : Physical) (asked : IsAsked tables query params) (plan : IsRunnablePlan tables query tree) where
  sound : IsQuery tables query
  sound = resolved_is_query tables query asked.made asked.resolved

  -- all relations were read
  all_read : after_nodes 0 (nodes tree) ≡ length query.relations
  all_read =
      let choice = plan.plan.0 in
      let is = plan.plan.1 in
      ap (after_nodes 0) is.built ∙ (plan_runs tables query sound choice (choice_has tables query choice is.candidate)).1

  pub all_fit : (combos : List (List (List Value))) → AreRun tables query (nodes tree) combos → AllByRecursion (FitsTables tables query (length query.relations)) combos
  all_fit combos given = subst (λ n. AllByRecursion (FitsTables tables query n) combos) all_read given.fit

  pub plan_answers : (told : Option Content) (combos : List (List (List Value))) (answer : Answer) → RunAnswers told tables query params cursor (nodes tree) combos → answer.rows ≡ map (selected_values query) combos → IsLastPosition tables query combos answer.last → AnswersQuery told tables query params cursor answer
  plan_answers told combos answer run rows_are last_is rows others holds =
      let q : Question = record { tables = tables; query = query; rows = rows; params = params } in
      let is = plan.plan.1 in
      let gives : Gives q cursor ([] ∷ []) (nodes tree) combos = run rows others holds in
      let found : combos ≡ answered q cursor = run_answers tables query rows params sound holds.keeps.schema cursor plan.plan.0 is.candidate combos (subst (λ list. Gives q cursor ([] ∷ []) list combos) is.built gives) in
      record {
        rows = rows_are ∙ ap (map (selected_values query)) found;
        last = last_is rows params ∙ ap (λ (cs : List (List (List Value))). option_map (position q) (last_of cs)) found;
      }

  pub plan_page : (combos : List (List (List Value))) (answer : Answer) → AreRun tables query (nodes tree) combos → answer.rows ≡ map (selected_values query) combos → IsLastPosition tables query combos answer.last → (AllByRecursion (FitsTables tables query (length query.relations)) combos → IfSome answer.last (AllFit (position_types tables query))) → IsPage tables query tree answer
  plan_page combos answer given rows_are last_is fits =
      let q : Question = record { tables = tables; query = query; rows = []; params = params } in
      let at = last_is [] params in
      let long : length answer.rows ≡ length combos = ap length rows_are ∙ length-map combos (selected_values query) in
      let few = given.few in
      let paid : (run_of (nodes tree)).inputs ≤ (run_of (nodes tree)).cost.entries =
      few_given tables query asked.made asked.resolved (nodes tree) plan.runnable.each
      (let all = all_read in let some = asked.resolved.some_relations in omega arith) in
      let within = plan.runnable.paid.entries in
      record {
        few = omega arith;
        fit = subst (AllByRecursion (AllFit (selected_types tables query))) (sym rows_are)
            (each_map (FitsTables tables query (length query.relations)) (AllFit (selected_types tables query)) (selected_values query) (λ combo all. selected_fits tables query sound asked.resolved combo all) combos (all_fit combos given));
        none = λ is. rows_are ∙ ap (map (selected_values query)) (none_last (position q) combos (sym at ∙ is));
        some = with_last answer.last at (fits (all_fit combos given)) long;
      }
    where
      with_last : (last : Option (List Value)) → last ≡ option_map (position (record { tables = tables; query = query; rows = []; params = params })) (last_of combos) → IfSome last (AllFit (position_types tables query)) → length answer.rows ≡ length combos → IfSome last (λ at. AllFit (position_types tables query) at × (1 ≤ length answer.rows))
      with_last None at all long = tt
      with_last (Some p) at all long =
          let some = some_last (position (record { tables = tables; query = query; rows = []; params = params })) combos p (sym at) in
          (all, omega arith)
