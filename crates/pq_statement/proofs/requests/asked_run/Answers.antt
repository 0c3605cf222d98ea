use Rattle.std.proofs.Common.{◌≡◌, Some, None, Ok, ◌∙◌, sym, option_copied}
use Rattle.std.proofs.lemmas.Result.{err_from_is_err_and}
use Rattle.pq_schema.specs.Schema.{find_query, query_at}
use Rattle.pq_running.specs.Running.{cursor_start}
use Rattle.pq_statement.proofs.Found.{found_query, no_such_query, of_number, run_refused}
use Rattle.pq_statement.proofs.requests.asked_run.Goals as goal

pub begin-requires : goal.begin-requires
begin-requires c = found_query c.args.catalog.now c.args.name c.in-Some.query (sym c.find_query.ensures ∙ c.in-Some.is)

pub returns-in_default-clause-refused : goal.returns-in_default-clause-refused
returns-in_default-clause-refused c =
    let none : find_query c.args.catalog.now c.args.name ≡ None = sym c.find_query.ensures ∙ c.in_default.is in
    no_such_query c.args.catalog.now c.args.name c.args.params (option_copied c.args.after) none

pub returns-in_err-after-clause-refused : goal.returns-in_err-after-clause-refused
returns-in_err-after-clause-refused c =
    let p = err_from_is_err_and c.from_residual.result c.from_residual.ensures.1 in
    let found : find_query c.args.catalog.now c.args.name ≡ Some c.in-Some.query = sym c.find_query.ensures ∙ c.in-Some.is in
    rw (p.1, p.2) (run_refused c.args.catalog.now c.args.name c.args.params (option_copied c.args.after) c.in-Some.query _ found c.in_err-after.ensures.answer)

pub returns-clause-runs : goal.returns-clause-runs
returns-clause-runs c =
    let found : find_query c.args.catalog.now c.args.name ≡ Some c.in-Some.query = sym c.find_query.ensures ∙ c.in-Some.is in
    let begun : cursor_start c.args.catalog.now.tables c.in-Some.query (query_at c.args.catalog.now c.in-Some.query) c.args.params (option_copied c.args.after) ≡ Ok c.in_ok-after.after =
    c.in_ok-after.ensures.answer in
    record {
      number = found_query c.args.catalog.now c.args.name c.in-Some.query found;
      fits = c.in_ok-after.ensures.fits;
      cursor = c.in_ok-after.ensures.cursor;
      is = of_number c.args.catalog.now c.args.name c.args.params (option_copied c.args.after) c.in-Some.query (Ok c.in_ok-after.after) found begun;
    }
