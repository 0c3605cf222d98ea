use Rattle.std.proofs.Common.{◌≡◌, ◌++◌, length, take}
use Rattle.std.specs.List.{flat_map}
use Rattle.pq_host.specs.Frames.{number, test_bytes}
use Rattle.pq_host.proofs.request.tests_body.Given as goal

abbrev pub invariant-loop-test : goal.invariant-loop-test
invariant-loop-test l = l.body ≡ number (length l.tests) ++ flat_map test_bytes (take l.test-index l.tests)
