use Rattle.std.proofs.Common.{◌≡◌, ◌+◌, ◌-◌, ◌≤◌}
use Rattle.pq_fill.specs.declared.words.Form.TheVariants.{Check}
use Rattle.pq_shell.specs.Making.{moment}
use Rattle.pq_console.specs.Reading.{script_limit}
use Rattle.pq_shell.proofs.SoFar.{ReadSoFar}
use Rattle.pq_shell.proofs.run.run_source.Given as goal

abbrev pub invariant-loop-taken : goal.invariant-loop-taken
invariant-loop-taken g l = record {
  within : l.taken ≤ script_limit;
  store_later : g.S.Store.faults l.initial.store ≤ g.S.Store.faults l.store;
  sink_later : g.O.Sink.faults l.initial.sink ≤ g.O.Sink.faults l.sink;
  source_later : g.I.Source.faults l.initial.source ≤ g.I.Source.faults l.source;
  counted : g.I.Source.count l.source ≡ g.I.Source.count l.initial.source + l.taken;
  form : l.progress.tally.form ≡ l.initial.progress.tally.form;
  unmoved : l.initial.progress.tally.form ≡ Check → (l.store ≡ l.initial.store) × (l.meter ≡ l.initial.meter);
  so_far : ReadSoFar l.initial.progress.tally.form l.taken (g.I.Source.left l.initial.source) (g.I.Source.left l.source) l.initial.session l.session
      (moment (g.S.Store.content l.initial.store) (g.O.Sink.held l.initial.sink) l.initial.meter) (moment (g.S.Store.content l.store) (g.O.Sink.held l.sink) l.meter)
      l.initial.progress l.progress;
}

abbrev pub decreases-loop-taken : goal.decreases-loop-taken
decreases-loop-taken g l = script_limit - l.taken
