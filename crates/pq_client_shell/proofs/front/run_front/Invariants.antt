use Rattle.std.proofs.Common.{◌≡◌, ◌≤◌, false, take}
use Rattle.pq_fill.specs.declared.words.Form.TheVariants.{Run}
use Rattle.pq_shell.specs.Fold.{ServedItems}
use Rattle.pq_shell.specs.Items.{cut_items}
use Rattle.pq_shell.specs.Making.{moment}
use Rattle.pq_client_shell.proofs.front.run_front.Given as goal

abbrev pub invariant-loop-piece : goal.invariant-loop-piece
invariant-loop-piece g l = record {
  form : l.tally.form ≡ Run;
  count : l.tally.count ≡ l.piece-index;
  store_later : g.S.Store.faults l.initial.store ≤ g.S.Store.faults l.store;
  sink_later : g.O.Sink.faults l.initial.sink ≤ g.O.Sink.faults l.sink;
  served : ServedItems Run l.fn.session l.session (moment (g.S.Store.content l.initial.store) (g.O.Sink.held l.initial.sink) l.initial.meter)
      (moment (g.S.Store.content l.store) (g.O.Sink.held l.sink) l.meter) 1 (cut_items (take l.piece-index l.pieces)) false l.tally.refused;
}
