use Rattle.std.proofs.Common.{◌≡◌, Some, None, Err, ◌∙◌, sym}
use Rattle.std.proofs.lemmas.Result.{err_from_is_err_and}
use Rattle.pq_base.specs.Answers.{Passes}
use Rattle.pq_running.specs.Running.{params_refusal}
use Rattle.pq_schema.specs.Schema.{find_counter}
use Rattle.pq_statement.specs.Readings.{reading_types}
use Rattle.pq_statement.proofs.Found.{no_such_counter, read_refused, reads_found}
use Rattle.pq_statement.proofs.requests.asked_read.Goals as goal

pub returns-in_default-clause-refused : goal.returns-in_default-clause-refused
returns-in_default-clause-refused c =
    let none : find_counter c.args.catalog.now c.args.name ≡ None = sym c.find_counter.ensures.found ∙ c.in_default.is in
    no_such_counter c.args.catalog.now c.args.name c.args.values none

pub returns-in_err-check_params-clause-refused : goal.returns-in_err-check_params-clause-refused
returns-in_err-check_params-clause-refused c =
    let p = err_from_is_err_and c.from_residual-in_err-check_params.result c.from_residual-in_err-check_params.ensures.1 in
    let found : find_counter c.args.catalog.now c.args.name ≡ Some c.in-Some.counter = sym c.find_counter.ensures.found ∙ c.in-Some.is in
    let refused : Passes {A = Unit {0}} (Err c.in_err-check_params.field-0.0) (params_refusal (reading_types c.args.catalog.now c.in-Some.counter) c.args.values) =
    rw (← c.in_ok-types.ensures.types, ← c.items.ensures, ← c.items-2.ensures) c.in_err-check_params.ensures.passes in
    rw (p.1, p.2) (read_refused c.args.catalog.now c.args.name c.args.values c.in-Some.counter c.in_err-check_params.field-0.0 found refused)

pub returns-clause-reads : goal.returns-clause-reads
returns-clause-reads c =
    let found : find_counter c.args.catalog.now c.args.name ≡ Some c.in-Some.counter = sym c.find_counter.ensures.found ∙ c.in-Some.is in
    let passed : params_refusal (reading_types c.args.catalog.now c.in-Some.counter) c.args.values ≡ None =
    rw (← c.in_ok-types.ensures.types, ← c.items.ensures, ← c.items-2.ensures) c.in_ok-check_params.ensures.passes in
    reads_found c.args.catalog.now c.args.name c.args.values c.in-Some.counter found passed
