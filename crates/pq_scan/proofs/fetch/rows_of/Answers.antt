use Rattle.pq_scan.proofs.Fetching.{rows_themselves, rows_named}
use Rattle.pq_scan.proofs.fetch.rows_of.Goals as goal

pub returns-in-Primary-clause-answer : goal.returns-in-Primary-clause-answer
returns-in-Primary-clause-answer g c = rows_themselves c.args.scan.now (g.S.Store.content c.args.calls.now.store.now) c.args.held c.in-Primary.is

pub returns-in-Secondary-clause-answer : goal.returns-in-Secondary-clause-answer
returns-in-Secondary-clause-answer g c =
    rows_named c.args.scan.now (g.S.Store.content c.args.calls.now.store.now) c.args.held c.in-Secondary.index c.in-Secondary.is c.requires.ready.sound c.items.result.now c.items.ensures c.named_rows.result c.named_rows.ensures.answer
