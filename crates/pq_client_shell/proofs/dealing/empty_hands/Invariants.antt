use Rattle.std.proofs.Common.{◌≡◌, []}
use Rattle.pq_client_shell.specs.Dealing.{hands}
use Rattle.pq_client_shell.proofs.dealing.empty_hands.Given as goal

abbrev pub invariant-loop-place : goal.invariant-loop-place
invariant-loop-place l = l.hands.items ≡ hands l.place []
