-- A plan that compile made, where no index is wanted, goes over indexes that are there, and its numbers are small.
use Rattle.std.proofs.Common.{◌≡◌, ℕ, ◌+◌, ◌^◌, ◌<◌, ◌≤◌, Bool, true, false, cond, List, length, Option, Some, None, Ok, Err, is_some, nat_le, nat_lt, refl, sym, ap, ◌∙◌, subst, arith}
use Rattle.std.specs.List.{AllByRecursion}
use Rattle.std.proofs.lemmas.Bool.{or_parts, ltb-false}
use Rattle.pq_base.specs.Answers.{Refuses}
use Rattle.pq_base.specs.declared.refusal.Stopped.{Stopped}
use Rattle.pq_base.specs.declared.refusal.Stopped.TheVariants.{Refused, NoMem}
use Rattle.pq_base.specs.declared.number.Bound.{Bound}
use Rattle.pq_base.specs.declared.number.Choice.{Choice}
use Rattle.pq_base.specs.declared.number.Choice.TheVariants.{Whole, Stop}
use Rattle.pq_schema.specs.declared.query.Query.{Query}
use Rattle.pq_schema.specs.declared.table.NewIndex.{NewIndex}
use Rattle.pq_schema.specs.declared.table.Table.{Table}
use Rattle.pq_schema.specs.Relations.{relation_at, table_of, tied_set, order_rest}
use Rattle.pq_schema.specs.Schema.{Schema, IsQueryDefinition, definition_at, query_at}
use Rattle.pq_schema.specs.Sequences.{serving_access, new_index}
use Rattle.pq_schema.specs.Sound.{IsQuery}
use Rattle.pq_schema.specs.Valid.{IsValid}
use Rattle.pq_schema.specs.Wanted.{is_large, index_of, too_many_indexes, ChosenCandidate, chosen_candidate}
use Rattle.pq_plan.specs.Cost.{cost}
use Rattle.pq_plan.specs.Nodes.{nodes}
use Rattle.pq_plan.proofs.Choices.{choice_has}
use Rattle.pq_compile.specs.declared.compiler.Compiled.{Compiled}
use Rattle.pq_compile.specs.Chosen.{IsCompiled}
use Rattle.pq_runnable.specs.Grown.{IsStillChosen}
use Rattle.pq_nodes.specs.Inverse.{HasIndex}
use Rattle.pq_runnable.proofs.Indexed.{IsServed, plan_indexed}
use Rattle.pq_runnable.proofs.Staying.{err_not_ok, ok_same, pair, chosen_parts, query_chosen}
use Rattle.std.proofs.lemmas.Option.{none-some}

-- an answer without an index is one of a sequence that serves
none_wanted : (served full : Bool) (n : NewIndex) → cond served (Ok None) (cond full (Err too_many_indexes) (Ok (Some n))) ≡ Ok None → served ≡ true
none_wanted true full n is = refl
none_wanted false true n is = absurd (err_not_ok too_many_indexes None is)
none_wanted false false n is = absurd (none-some n (sym (ok_same (Some n) None is)))

pub served_choice : (tables : List Table) (query : Query) (choice : Choice) → index_of tables query choice ≡ Ok None → IsServed tables query choice
served_choice tables query Whole is = tt
served_choice tables query (Stop p) is =
    let table = table_of tables query p in
    none_wanted (is_some (serving_access table (tied_set query p) (order_rest query p))) (nat_le 16 (length table.indexes))
    (record { table = (relation_at query p).table; number = length table.indexes + 1; index = new_index table (tied_set query p) (order_rest query p) }) is

module _ (tables : List Table) (query : Query) (sound : IsQuery tables query) (made : Compiled) (is : IsCompiled tables query made) (none : made.wanted ≡ None) where
  pub compiled_indexed : AllByRecursion (HasIndex tables query) (nodes made.plan)
  compiled_indexed =
      let parts = chosen_parts tables query is.best made.wanted is.least in
      let index : index_of tables query made.choice ≡ Ok None = ap (index_of tables query) is.choice ∙ parts.index ∙ ap (λ (w : Option NewIndex). Ok w) none in
      subst (AllByRecursion (HasIndex tables query)) (sym is.plan.built)
      (plan_indexed tables query sound made.choice (choice_has tables query made.choice is.plan.candidate) (served_choice tables query made.choice index))

small_numbers : (b : Bound) → is_large b ≡ false → (b.ops ≤ 50000) × (b.entries ≤ 50000)
small_numbers b small = let parts = or_parts (nat_lt 50000 b.ops) (nat_lt 50000 b.entries) small in (ltb-false 50000 b.ops parts.0, ltb-false 50000 b.entries parts.1)

pub compiled_small : (tables : List Table) (query : Query) (made : Compiled) → IsCompiled tables query made → ((cost made.plan).ops ≤ 50000) × ((cost made.plan).entries ≤ 50000)
compiled_small tables query made is =
    let parts = chosen_parts tables query is.best made.wanted is.least in
    subst (λ (b : Bound). (b.ops ≤ 50000) × (b.entries ≤ 50000)) (sym is.numbers) (small_numbers is.best.bound parts.small)

pub few_bits : (n : ℕ) → n ≤ 50000 → n < 2 ^ 32
few_bits n few = omega arith

-- compiled again over a later catalog, a query that was defined has the candidate of its definition and wants no index
module _ (s : Schema) (n : ℕ) (valid : IsValid s) (defined : IsQueryDefinition (definition_at s n)) (made : Compiled) (is : IsCompiled s.tables (query_at s n) made) where
  abbrev still : IsStillChosen s (query_at s n)
  still = query_chosen s n valid defined

  same_chosen : pair is.best made.wanted ≡ pair still.was.defined.chosen.best None
  same_chosen = ok_same (pair is.best made.wanted) (pair still.was.defined.chosen.best None) (sym is.least ∙ still.chosen)

  pub again_none : made.wanted ≡ None
  again_none = ap (λ (c : ChosenCandidate). c.wanted) same_chosen

  pub again_best : is.best ≡ still.was.defined.chosen.best
  again_best = ap (λ (c : ChosenCandidate). c.best) same_chosen

-- and it is refused only for want of memory
pub never_refused : (s : Schema) (n : ℕ) → IsValid s → IsQueryDefinition (definition_at s n) → (stopped : Stopped) → Refuses {A = ChosenCandidate} stopped (chosen_candidate s.tables (query_at s n)) → stopped ≡ NoMem
never_refused s n valid defined (Refused why) said =
    let still : IsStillChosen s (query_at s n) = query_chosen s n valid defined in
    absurd (err_not_ok why (pair still.was.defined.chosen.best None) (sym said ∙ still.chosen))
never_refused s n valid defined NoMem said = refl
