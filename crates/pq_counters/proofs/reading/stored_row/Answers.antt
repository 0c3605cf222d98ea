use Rattle.pq_pending.specs.Calls.{seen_world}
use Rattle.pq_calls.proofs.Shown.{no_row_explains}
use Rattle.pq_counters.proofs.reading.stored_row.Goals as goal

pub returns-in-Err-clause-asks : goal.returns-in-Err-clause-asks
returns-in-Err-clause-asks g c = record {
  uses = c.row.ensures.asks.uses;
  cause = no_row_explains c.args.catalog.now.tables c.args.table c.args.key.now c.requires.number c.requires.kinds
      (seen_world g.S.Store.content g.S.Store.faults c.args.calls.now) (seen_world g.S.Store.content g.S.Store.faults c.row.new.self) c.in-Err.error
      (rw c.table.ensures at c.in-Err.ensures.asks.cause);
  answered = c.in-Err.ensures.asks.answered;
}
