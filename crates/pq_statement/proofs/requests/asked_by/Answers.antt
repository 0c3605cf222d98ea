use Rattle.std.proofs.Common.{◌≡◌, ℕ, List, Option, Ok, ap, subst, refl}
use Rattle.std.proofs.lemmas.Result.{err_from_is_err_and}
use Rattle.pq_base.specs.Answers.{Refuses}
use Rattle.pq_running.specs.Running.{Running, running_of}
use Rattle.pq_statement.specs.Actions.{Explains, Prepares, Reads, Runs, Selects, action_from}
use Rattle.pq_planning.specs.Names.{IsNamedStatement}
use Rattle.pq_planning.specs.Planned.{IsPlanned}
use Rattle.pq_planning.specs.Planning.{PlannedDefinition, arranged_from, explained_name}
use Rattle.pq_statement.specs.Readings.{reading_of}
use Rattle.pq_statement.specs.Requests.{RunsAs, reading_asked}
use Rattle.pq_statement.proofs.Asking.{asking_refused, explains, may_be_defined, prepares, selects, stopped_explained}
use Rattle.pq_text.specs.Tokens.{tokens_of}
use Rattle.pq_statement.proofs.requests.asked_by.Goals as goal

pub returns-in-Create-clause-asks : goal.returns-in-Create-clause-asks
returns-in-Create-clause-asks c = rw c.in-Create.is (subst (IsNamedStatement (tokens_of c.args.text.now)) c.in-Create.is c.requires.named, refl)

pub returns-in-Alter-clause-asks : goal.returns-in-Alter-clause-asks
returns-in-Alter-clause-asks c = rw c.in-Alter.is (subst (IsNamedStatement (tokens_of c.args.text.now)) c.in-Alter.is c.requires.named, refl)

pub returns-in-Counter-clause-asks : goal.returns-in-Counter-clause-asks
returns-in-Counter-clause-asks c = rw c.in-Counter.is (subst (IsNamedStatement (tokens_of c.args.text.now)) c.in-Counter.is c.requires.named, refl)

pub returns-in_err-read-in-Read-clause-refused : goal.returns-in_err-read-in-Read-clause-refused
returns-in_err-read-in-Read-clause-refused c =
    let p = err_from_is_err_and c.from_residual-in_err-read-in-Read.result c.from_residual-in_err-read-in-Read.ensures.1 in
    rw (p.1, p.2, c.in-Read.is) (asking_refused Reads _ _ c.in_err-read-in-Read.ensures.refused)

pub returns-in_ok-read-in-Read-clause-asks : goal.returns-in_ok-read-in-Read-clause-asks
returns-in_ok-read-in-Read-clause-asks c =
    let reads : reading_of c.args.catalog.now c.in-Read.name c.in-Read.values ≡ Ok (reading_asked c.in_ok-read-in-Read.read) = c.in_ok-read-in-Read.ensures.reads in
    rw c.in-Read.is (c.in_ok-read-in-Read.ensures.fits, ap (action_from Reads) reads)

pub returns-in_err-plan-in-Prepare-clause-refused : goal.returns-in_err-plan-in-Prepare-clause-refused
returns-in_err-plan-in-Prepare-clause-refused c =
    let p = err_from_is_err_and c.from_residual.result c.from_residual.ensures.1 in
    rw (p.1, p.2, c.in-Prepare.is) (asking_refused Prepares _ _ c.in_err-plan-in-Prepare.ensures.refused)

pub returns-in_ok-plan-in-Prepare-clause-asks : goal.returns-in_ok-plan-in-Prepare-clause-asks
returns-in_ok-plan-in-Prepare-clause-asks c =
    let named = subst (IsNamedStatement (tokens_of c.args.text.now)) c.in-Prepare.is c.requires.named in
    let e = c.in_ok-plan-in-Prepare.ensures in
    rw c.in-Prepare.is (
      may_be_defined c.args.catalog.now c.in-Prepare.name c.args.text.now (tokens_of c.args.text.now) c.in-Prepare.from _ named.0 e.planned e.free,
      prepares c.args.catalog.now c.in-Prepare.name c.args.text.now (tokens_of c.args.text.now) c.in-Prepare.from _ e.planned e.free,
    )

pub returns-in_err-plan-in-Explain-clause-refused : goal.returns-in_err-plan-in-Explain-clause-refused
returns-in_err-plan-in-Explain-clause-refused c =
    let p = err_from_is_err_and c.from_residual-in_err-plan-in-Explain.result c.from_residual-in_err-plan-in-Explain.ensures.1 in
    let refused : Refuses {A = PlannedDefinition} c.in_err-plan-in-Explain.field-0.0 (arranged_from c.args.catalog.now explained_name c.args.text.now (tokens_of c.args.text.now) c.in-Explain.from) =
    rw (← c.in_ok-name-in-Explain.ensures) c.in_err-plan-in-Explain.ensures.refused in
    rw (p.1, p.2, c.in-Explain.is) (asking_refused Explains _ _ (stopped_explained c.args.catalog.now c.args.text.now (tokens_of c.args.text.now) c.in-Explain.from _ refused))

pub returns-in_ok-plan-in-Explain-clause-asks : goal.returns-in_ok-plan-in-Explain-clause-asks
returns-in_ok-plan-in-Explain-clause-asks c =
    let planned : IsPlanned c.args.catalog.now explained_name (arranged_from c.args.catalog.now explained_name c.args.text.now (tokens_of c.args.text.now) c.in-Explain.from) c.in_ok-plan-in-Explain.plan =
    rw (← c.in_ok-name-in-Explain.ensures) c.in_ok-plan-in-Explain.ensures.planned in
    rw c.in-Explain.is (planned.computed_is, explains c.args.catalog.now c.args.text.now (tokens_of c.args.text.now) c.in-Explain.from _ planned)

pub returns-in_err-run-in-Run-clause-refused : goal.returns-in_err-run-in-Run-clause-refused
returns-in_err-run-in-Run-clause-refused c =
    let p = err_from_is_err_and c.from_residual-in_err-run-in-Run.result c.from_residual-in_err-run-in-Run.ensures.1 in
    rw (p.1, p.2, c.in-Run.is) (asking_refused Runs _ _ (subst (λ (o : Option (List ℕ)). Refuses {A = Running} c.in_err-run-in-Run.field-0.0 (running_of c.args.catalog.now c.in-Run.name c.in-Run.values o)) c.as_ref.ensures.value c.in_err-run-in-Run.ensures.refused))

pub returns-in_ok-run-in-Run-clause-asks : goal.returns-in_ok-run-in-Run-clause-asks
returns-in_ok-run-in-Run-clause-asks c =
    let found = running_of c.args.catalog.now c.in-Run.name c.in-Run.values c.in-Run.after in
    rw c.in-Run.is (found, subst (λ (o : Option (List ℕ)). RunsAs c.args.catalog.now c.in_ok-run-in-Run.run' (running_of c.args.catalog.now c.in-Run.name c.in-Run.values o)) c.as_ref.ensures.value c.in_ok-run-in-Run.ensures.runs, refl)

pub returns-in_err-plan-in-Select-clause-refused : goal.returns-in_err-plan-in-Select-clause-refused
returns-in_err-plan-in-Select-clause-refused c =
    let p = err_from_is_err_and c.from_residual-in_err-plan-in-Select.result c.from_residual-in_err-plan-in-Select.ensures.1 in
    rw (p.1, p.2, c.in-Select.is) (asking_refused Selects _ _ c.in_err-plan-in-Select.ensures.refused)

pub returns-in_ok-plan-in-Select-clause-asks : goal.returns-in_ok-plan-in-Select-clause-asks
returns-in_ok-plan-in-Select-clause-asks c =
    let e = c.in_ok-plan-in-Select.ensures in
    rw c.in-Select.is (selects c.args.catalog.now c.args.text.now (tokens_of c.args.text.now) _ e.planned e.once)

pub returns-in-Write-clause-asks : goal.returns-in-Write-clause-asks
returns-in-Write-clause-asks c = rw c.in-Write.is c.asked_write.ensures.asks

pub returns-in-Write-clause-refused : goal.returns-in-Write-clause-refused
returns-in-Write-clause-refused c = rw c.in-Write.is c.asked_write.ensures.refused
