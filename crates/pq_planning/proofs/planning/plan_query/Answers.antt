use Rattle.std.proofs.lemmas.Result.{err_from_is_err_and}
use Rattle.pq_schema.proofs.Soundness.{valid_query}
use Rattle.pq_planning.proofs.Plans.{plan_unread, plan_unchosen, plan_chosen}
use Rattle.pq_planning.proofs.planning.plan_query.Goals as goal

pub returns-in_err-query-clause-refused : goal.returns-in_err-query-clause-refused
returns-in_err-query-clause-refused c =
    let p = err_from_is_err_and c.from_residual.result c.from_residual.ensures.1 in
    rw (p.1, p.2) (plan_unread c.args.catalog.now c.args.name c.args.text.now c.args.tokens.now c.args.from c.in_err-query.field-0.0 c.in_err-query.ensures.reads)

pub compile-requires : goal.compile-requires
compile-requires c = valid_query c.args.catalog.now c.in_ok-query.query c.known.ensures c.in_ok-query.ensures.sound.0

pub returns-in_err-compiled-clause-refused : goal.returns-in_err-compiled-clause-refused
returns-in_err-compiled-clause-refused c =
    let p = err_from_is_err_and c.from_residual-in_err-compiled.result c.from_residual-in_err-compiled.ensures.1 in
    rw (p.1, p.2) (plan_unchosen c.args.catalog.now c.args.name c.args.text.now c.args.tokens.now c.args.from c.in_ok-query.query c.in_err-compiled.field-0.0 c.in_ok-query.ensures.reads c.in_err-compiled.ensures.refused)

pub returns-clause-planned : goal.returns-clause-planned
returns-clause-planned c =
    plan_chosen c.args.catalog.now c.args.name c.args.text.now c.args.tokens.now c.args.from c.in_ok-query.query c.in_ok-compiled.compiled c.in_ok-query.ensures.reads
    c.in_ok-query.ensures.sound.0 c.in_ok-query.ensures.sound.1 c.in_ok-compiled.ensures.made
