use Rattle.std.proofs.Common.{◌≡◌, drop}
use Rattle.pq_test_faults.specs.Faults.{listed_fail}
use Rattle.pq_test_faults.proofs.failing.find_call.Given as goal

abbrev pub invariant-loop-fail : goal.invariant-loop-fail
invariant-loop-fail l = listed_fail l.number (drop l.fail-index l.fails) ≡ listed_fail l.number l.fails
