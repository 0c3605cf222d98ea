use Rattle.std.proofs.Common.{◌≡◌, filter, take}
use Rattle.pq_pending.specs.Tests.{is_asked}
use Rattle.pq_pending.proofs.tests.asked_tests.Given as goal

abbrev pub invariant-loop-test : goal.invariant-loop-test
invariant-loop-test l = l.asked ≡ filter (is_asked l.pending.changes) (take l.test-index l.tests)
