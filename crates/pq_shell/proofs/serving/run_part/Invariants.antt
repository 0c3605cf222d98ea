use Rattle.std.proofs.Common.{◌≡◌, ◌-◌, ◌≤◌, length, take}
use Rattle.pq_fill.specs.declared.words.Form.TheVariants.{Check}
use Rattle.pq_shell.specs.Making.{moment}
use Rattle.pq_shell.specs.Serving.{ProgressedRun}
use Rattle.pq_shell.proofs.serving.run_part.Given as goal

abbrev pub invariant-loop-at : goal.invariant-loop-at
invariant-loop-at g l = record {
  within : l.at ≤ length l.bytes;
  store_later : g.S.Store.faults l.initial.store ≤ g.S.Store.faults l.store;
  sink_later : g.O.Sink.faults l.initial.sink ≤ g.O.Sink.faults l.sink;
  form : l.progress.tally.form ≡ l.initial.progress.tally.form;
  unmoved : l.initial.progress.tally.form ≡ Check → (l.store ≡ l.initial.store) × (l.meter ≡ l.initial.meter);
  progressed : ProgressedRun l.initial.progress.tally.form l.initial.session l.session (moment (g.S.Store.content l.initial.store) (g.O.Sink.held l.initial.sink) l.initial.meter)
      (moment (g.S.Store.content l.store) (g.O.Sink.held l.sink) l.meter) (take l.at l.bytes) l.initial.progress l.progress;
}

abbrev pub decreases-loop-at : goal.decreases-loop-at
decreases-loop-at g l = length l.bytes - l.at
