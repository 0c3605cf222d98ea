use Rattle.pq_schema.specs.Tables.{table_at}
use Rattle.pq_calls.specs.Calls.{seen_world}
use Rattle.pq_entries.proofs.Naming.{rows_sequence, named_sequence, rows_first, named_first}
use Rattle.pq_entries.proofs.sequences.sequence_rows.Goals as goal

pub returns-in-Primary-clause-answer : goal.returns-in-Primary-clause-answer
returns-in-Primary-clause-answer g c =
    rows_first c.args.catalog.now.tables c.args.number c.args.access c.args.low.now c.args.high.now c.args.limit (g.S.Store.content c.args.calls.now.store.now) c.in-Primary.is c.range_rows.result c.range_rows.ensures.answer

pub returns-in_ok-found-in-Secondary-clause-answer : goal.returns-in_ok-found-in-Secondary-clause-answer
returns-in_ok-found-in-Secondary-clause-answer g c =
    named_first c.args.catalog.now.tables c.args.number c.in-Secondary.index c.args.access c.args.low.now c.args.high.now c.args.limit
    (seen_world g.S.Store.content g.S.Store.faults c.args.calls.now) (seen_world g.S.Store.content g.S.Store.faults c.range_values.new.calls) 1 c.args.limit
    c.in_ok-found-in-Secondary.found c.items.result.now c.in-Secondary.is c.in_ok-found-in-Secondary.ensures.asks.uses.reads c.items.ensures c.in_ok-found-in-Secondary.ensures.answer
    c.named_rows.result c.named_rows.ensures.answer

pub returns-in-Primary-clause-codes : goal.returns-in-Primary-clause-codes
returns-in-Primary-clause-codes g c =
    rows_sequence c.args.number (table_at c.args.catalog.now.tables c.args.number) c.args.access c.args.low.now c.args.high.now c.args.limit (g.S.Store.content c.args.calls.now.store.now) c.in-Primary.is c.range_rows.result c.range_rows.ensures.codes

pub returns-in_ok-found-in-Secondary-clause-codes : goal.returns-in_ok-found-in-Secondary-clause-codes
returns-in_ok-found-in-Secondary-clause-codes g c =
    named_sequence c.args.number c.in-Secondary.index (table_at c.args.catalog.now.tables c.args.number) c.args.access c.args.low.now c.args.high.now c.args.limit
    (g.S.Store.content c.args.calls.now.store.now) (g.S.Store.content c.range_values.new.calls.store.now)
    c.in_ok-found-in-Secondary.found c.items.result.now c.in-Secondary.is c.in_ok-found-in-Secondary.ensures.asks.uses.reads.same c.items.ensures
    c.in_ok-found-in-Secondary.ensures.fit c.in_ok-found-in-Secondary.ensures.keys
    c.named_rows.result c.named_rows.ensures.codes
