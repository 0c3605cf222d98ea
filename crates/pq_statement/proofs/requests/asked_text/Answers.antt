use Rattle.std.proofs.Common.{◌<◌, ◌≤◌, length, refl}
use Rattle.std.proofs.lemmas.Result.{err_from_is_err_and}
use Rattle.pq_statement.proofs.Batches.{some_writes}
use Rattle.pq_statement.proofs.Statements.{too_long, asked_read, stopped_reading}
use Rattle.pq_planning.proofs.Names.{named_statement}
use Rattle.pq_text.specs.Tokens.{tokens_of}
use Rattle.pq_statement.proofs.requests.asked_text.Goals as goal

pub returns-then-bytes-gt-STATEMENT_BYTES-clause-refused :
    goal.returns-then-bytes-gt-STATEMENT_BYTES-clause-refused
returns-then-bytes-gt-STATEMENT_BYTES-clause-refused c =
    let many : 65536 < length c.args.text.now = rw (← c.bytes.ensures.value) c.if-bytes-gt-STATEMENT_BYTES.true in
    too_long c.args.catalog.now c.args.text.now many

pub returns-in_err-statement-clause-refused : goal.returns-in_err-statement-clause-refused
returns-in_err-statement-clause-refused c =
    let few : length c.args.text.now ≤ 65536 = rw (← c.bytes.ensures.value) c.if-bytes-gt-STATEMENT_BYTES.false in
    let p = err_from_is_err_and c.from_residual.result c.from_residual.ensures.1 in
    rw (p.1, p.2) (stopped_reading c.args.catalog.now c.args.text.now (tokens_of c.args.text.now) c.in_err-statement.field-0.0 few refl c.in_err-statement.ensures.stops)

pub asked_by-requires-clause-named : goal.asked_by-requires-clause-named
asked_by-requires-clause-named c = named_statement c.args.text.now (tokens_of c.args.text.now) c.in_ok-statement.statement refl c.in_ok-statement.ensures.reads

pub asked_by-requires-clause-some : goal.asked_by-requires-clause-some
asked_by-requires-clause-some c = some_writes c.in_ok-statement.statement _ c.in_ok-statement.ensures.found

pub returns-clause-asks : goal.returns-clause-asks
returns-clause-asks c =
    let few : length c.args.text.now ≤ 65536 = rw (← c.bytes.ensures.value) c.if-bytes-gt-STATEMENT_BYTES.false in
    rw (asked_read c.args.catalog.now c.args.text.now (tokens_of c.args.text.now) c.in_ok-statement.statement few refl c.in_ok-statement.ensures.reads) c.asked_by.ensures.asks

pub returns-clause-refused : goal.returns-clause-refused
returns-clause-refused c =
    let few : length c.args.text.now ≤ 65536 = rw (← c.bytes.ensures.value) c.if-bytes-gt-STATEMENT_BYTES.false in
    rw (asked_read c.args.catalog.now c.args.text.now (tokens_of c.args.text.now) c.in_ok-statement.statement few refl c.in_ok-statement.ensures.reads) c.asked_by.ensures.refused
