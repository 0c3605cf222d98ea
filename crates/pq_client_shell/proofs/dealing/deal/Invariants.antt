use Rattle.std.proofs.Common.{◌≡◌, ◌<◌}
use Rattle.pq_client_shell.specs.Dealing.{hands}
use Rattle.pq_client_shell.proofs.Dealt.{behind}
use Rattle.pq_client_shell.proofs.dealing.deal.Given as goal

abbrev pub invariant-loop-write : goal.invariant-loop-write
invariant-loop-write l = record {
  hands : l.hands.items ≡ hands l.k l.yielded;
  place : l.next ≡ behind l.k 0 l.yielded;
  within : l.next < l.k;
}
