use Rattle.std.proofs.Common.{◌≡◌, ◌+◌, ◌-◌, ◌≤◌, length}
use Rattle.std.specs.Io.KnownBytes.{prepend_known}
use Rattle.pq_console.specs.Reading.{script_limit}
use Rattle.pq_client_shell.proofs.script.read_bytes.Given as goal

abbrev pub invariant-loop-taken : goal.invariant-loop-taken
invariant-loop-taken g l = record {
  within : l.taken ≤ script_limit;
  long : length l.bytes.items ≡ l.taken;
  read : g.I.Source.left l.initial.source ≡ prepend_known l.bytes.items (g.I.Source.left l.source);
  counted : g.I.Source.count l.source ≡ g.I.Source.count l.initial.source + l.taken;
  later : g.I.Source.faults l.initial.source ≤ g.I.Source.faults l.source;
}

abbrev pub decreases-loop-taken : goal.decreases-loop-taken
decreases-loop-taken g l = script_limit - l.taken
