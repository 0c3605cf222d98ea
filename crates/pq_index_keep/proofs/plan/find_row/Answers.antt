use Rattle.std.specs.Prelude.{option_map}
use Rattle.pq_pending.specs.Calls.{seen_world}
use Rattle.pq_calls.specs.declared.rows.StoredRow.{StoredRow}
use Rattle.pq_calls.proofs.Shown.{no_row_explains}
use Rattle.pq_index_keep.proofs.Deleting.{told_row}
use Rattle.pq_index_keep.proofs.plan.find_row.Goals as goal

pub returns-in-Err-clause-stops : goal.returns-in-Err-clause-stops
returns-in-Err-clause-stops g c = record {
  cause =
      no_row_explains c.args.keyed.now.catalog.now.tables c.args.keyed.now.number c.args.keyed.now.key.now c.requires.number c.requires.kinds
      (seen_world g.S.Store.content g.S.Store.faults c.args.calls.now) (seen_world g.S.Store.content g.S.Store.faults c.row.new.self) c.in-Err.error
      (rw c.table_of.ensures.table at c.in-Err.ensures.asks.cause);
  answered = c.in-Err.ensures.asks.answered;
}

pub returns-in-Ok-clause-answer : goal.returns-in-Ok-clause-answer
returns-in-Ok-clause-answer g c = λ rows others s.
    told_row c.args.keyed.now.catalog.now.tables rows others _ c.args.keyed.now.number c.args.keyed.now.key.now s c.requires.sound c.requires.number c.requires.kinds (option_map (λ (stored : StoredRow). stored.row) c.in-Ok.found) (rw c.table_of.ensures.table at c.in-Ok.ensures.read)

pub returns-in-Ok-clause-read : goal.returns-in-Ok-clause-read
returns-in-Ok-clause-read g c = rw c.table_of.ensures.table at c.in-Ok.ensures.read
