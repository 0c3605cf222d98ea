-- The plan of a query that a text spells, as it is computed.
use Rattle.std.proofs.Common.{◌≡◌, ℕ, List, Result, Ok, Err, refl, sym, ap, subst}
use Rattle.pq_base.specs.Answers.{Answers, Refuses}
use Rattle.pq_base.specs.declared.refusal.Refusal.{Refusal}
use Rattle.pq_base.specs.declared.refusal.Stopped.{Stopped}
use Rattle.pq_base.specs.declared.refusal.Stopped.TheVariants.{Refused, NoMem}
use Rattle.pq_arrange.specs.Arrange.{arranged_query}
use Rattle.pq_arrange.specs.Laws.{IsSuccessor}
use Rattle.pq_arrange.proofs.Arranges.{arranged_resolved}
use Rattle.pq_compile.specs.Chosen.{IsCompiled}
use Rattle.pq_compile.specs.declared.compiler.Compiled.{Compiled}
use Rattle.pq_query_read.specs.Queries.{read_query_of}
use Rattle.pq_query_read.specs.Trying.{◌>>=◌}
use Rattle.pq_schema.specs.Resolved.{IsResolved}
use Rattle.pq_schema.specs.Schema.{Schema}
use Rattle.pq_schema.specs.Sound.{IsQuery}
use Rattle.pq_schema.specs.Valid.{IsValid}
use Rattle.pq_schema.specs.Wanted.{ChosenCandidate, chosen_candidate}
use Rattle.pq_schema.specs.declared.query.Query.{Query}
use Rattle.pq_schema.specs.declared.table.Table.{Table}
use Rattle.pq_schema.proofs.Soundness.{valid_query}
use Rattle.pq_text.specs.declared.token.Token.{Token}
use Rattle.pq_planning.specs.Planned.{IsPlanned}
use Rattle.pq_planning.specs.Planning.{PlannedDefinition, with_chosen, plan_of, plan_from, arranged_plan, arranged_from}
use Rattle.pq_planning.specs.declared.planning.PlannedQuery.{PlannedQuery}

-- why a query has no plan
unchosen : (tables : List Table) (query : Query) (stopped : Stopped) → Refuses {A = ChosenCandidate} stopped (chosen_candidate tables query) → Refuses {A = PlannedDefinition} stopped (plan_of tables query)
unchosen tables query (Refused why) is = ap (λ (best : Result ChosenCandidate Refusal). best >>= with_chosen query) is
unchosen tables query NoMem is = tt

-- a query with its plan
chosen : (schema : Schema) (name : List ℕ) (query : Query) (compiled : Compiled) → IsResolved schema.tables query → query.name ≡ name → IsCompiled schema.tables query compiled
    → IsPlanned schema name (plan_of schema.tables query) (record { query = query; compiled = compiled })
chosen schema name query compiled resolved named is = record {
  named = named;
  computed_is = record { resolved = resolved; compiled = is };
  plan = record { query = query; chosen = record { best = is.best; wanted = compiled.wanted } };
  plan_is = record { query = refl; choice = sym is.choice; bound = sym is.numbers; wanted = refl };
  is = ap (λ (best : Result ChosenCandidate Refusal). best >>= with_chosen query) is.least;
}

-- what is read is planned in this way, or is refused before
module _ (plan : Query → Result PlannedDefinition Refusal) (read : Result Query Refusal) where
  unread : (stopped : Stopped) → Answers {A = Query} (Err stopped) read → Refuses {A = PlannedDefinition} stopped (read >>= plan)
  unread (Refused why) is = ap (λ (r : Result Query Refusal). r >>= plan) is
  unread NoMem is = tt

  planned_read : (query : Query) → read ≡ Ok query → (read >>= plan) ≡ plan query
  planned_read query is = ap (λ (r : Result Query Refusal). r >>= plan) is

module _ (schema : Schema) (name text : List ℕ) (tokens : List Token) (from : ℕ) where
  abbrev read : Result Query Refusal
  read = read_query_of schema name text tokens from

  -- ---- as it stands

  pub plan_unread : (stopped : Stopped) → Answers {A = Query} (Err stopped) read → Refuses {A = PlannedDefinition} stopped (plan_from schema name text tokens from)
  unfolding plan_from
  plan_unread stopped is = unread (plan_of schema.tables) read stopped is

  pub plan_unchosen : (query : Query) (stopped : Stopped) → read ≡ Ok query → Refuses {A = ChosenCandidate} stopped (chosen_candidate schema.tables query) → Refuses {A = PlannedDefinition} stopped (plan_from schema name text tokens from)
  unfolding plan_from
  plan_unchosen query stopped is refused =
      subst (λ (found : Result PlannedDefinition Refusal). Refuses {A = PlannedDefinition} stopped found) (sym (planned_read (plan_of schema.tables) read query is)) (unchosen schema.tables query stopped refused)

  pub plan_chosen : (query : Query) (compiled : Compiled) → read ≡ Ok query → IsResolved schema.tables query → query.name ≡ name → IsCompiled schema.tables query compiled
      → IsPlanned schema name (plan_from schema name text tokens from) (record { query = query; compiled = compiled })
  unfolding plan_from
  plan_chosen query compiled is resolved named made =
      subst (λ (found : Result PlannedDefinition Refusal). IsPlanned schema name found (record { query = query; compiled = compiled })) (sym (planned_read (plan_of schema.tables) read query is))
      (chosen schema name query compiled resolved named made)

  -- ---- arranged

  pub arranged_unread : (stopped : Stopped) → Answers {A = Query} (Err stopped) read → Refuses {A = PlannedDefinition} stopped (arranged_from schema name text tokens from)
  unfolding arranged_from
  arranged_unread stopped is = unread (arranged_plan schema.tables) read stopped is

  -- what was read is planned as it is when it stands alone
  pub arranged_read : (written : Query) → read ≡ Ok written → arranged_plan schema.tables written ≡ arranged_from schema name text tokens from
  unfolding arranged_from
  arranged_read written is = sym (planned_read (arranged_plan schema.tables) read written is)

-- the same plan, under another name of what was read and of what was found
pub planned_as : (schema : Schema) (written name : List ℕ) (found said : Result PlannedDefinition Refusal) (computed : PlannedQuery) → written ≡ name → found ≡ said → IsPlanned schema written found computed
    → IsPlanned schema name said computed
planned_as schema written name found said computed named is planned =
    subst (λ (n : List ℕ). IsPlanned schema n said computed) named (subst (λ (f : Result PlannedDefinition Refusal). IsPlanned schema written f computed) is planned)

pub refused_as : (stopped : Stopped) (found said : Result PlannedDefinition Refusal) → found ≡ said → Refuses {A = PlannedDefinition} stopped found → Refuses {A = PlannedDefinition} stopped said
refused_as stopped found said is refused = subst (λ (f : Result PlannedDefinition Refusal). Refuses {A = PlannedDefinition} stopped f) is refused

-- a query that was read, and the one that is planned in its place
module _ (schema : Schema) (written query : Query) (arranged_is : query ≡ arranged_query schema.tables written) where
  abbrev arranges : plan_of schema.tables query ≡ arranged_plan schema.tables written
  arranges = ap (plan_of schema.tables) arranged_is

  pub written_unchosen : (stopped : Stopped) → Refuses {A = ChosenCandidate} stopped (chosen_candidate schema.tables query) → Refuses {A = PlannedDefinition} stopped (arranged_plan schema.tables written)
  written_unchosen stopped refused = refused_as stopped (plan_of schema.tables query) (arranged_plan schema.tables written) arranges (unchosen schema.tables query stopped refused)

  succeeds : IsResolved schema.tables written → IsSuccessor schema.tables written query
  succeeds resolved = subst (IsSuccessor schema.tables written) (sym arranged_is) (arranged_resolved schema.tables written resolved)

  pub written_taken : IsValid schema → IsResolved schema.tables written → IsQuery schema.tables query
  written_taken valid resolved = valid_query schema query valid (succeeds resolved).resolved

  pub written_params : IsResolved schema.tables written → query.params ≡ written.params
  written_params resolved = (succeeds resolved).params

  pub written_chosen : (compiled : Compiled) → IsResolved schema.tables written → IsCompiled schema.tables query compiled
      → IsPlanned schema written.name (arranged_plan schema.tables written) (record { query = query; compiled = compiled })
  written_chosen compiled resolved made =
      let later = succeeds resolved in
      planned_as schema written.name written.name (plan_of schema.tables query) (arranged_plan schema.tables written) (record { query = query; compiled = compiled }) refl arranges
      (chosen schema written.name query compiled later.resolved later.name made)
