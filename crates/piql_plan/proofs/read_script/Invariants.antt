use Rattle.std.proofs.Common.{◌≡◌, ◌+◌, ◌-◌, ◌≤◌, length}
use Rattle.std.specs.Io.KnownBytes.{prepend_known}
use Rattle.pq_console.specs.Reading.{script_limit}
use Rattle.piql_plan.proofs.read_script.Given as goal

abbrev pub invariant-script : goal.invariant-script
invariant-script g l = record {
  long : length l.script ≡ l.taken;
  read : g.I.Source.left l.initial.source ≡ prepend_known l.script (g.I.Source.left l.source);
  counted : g.I.Source.count l.source ≡ g.I.Source.count l.initial.source + l.taken;
  within : l.taken ≤ script_limit + 1;
  later : g.I.Source.faults l.initial.source ≤ g.I.Source.faults l.source;
}

abbrev pub decreases-script : goal.decreases-script
decreases-script g l = script_limit + 1 - l.taken
