use Rattle.std.proofs.Common.{◌≡◌, ◌≤◌, ◌*◌, ◌^◌, false, take, sum_by}
use Rattle.pq_store.specs.Rounds.{least_entries, most_entries}
use Rattle.pq_host.proofs.answer.unheld_entries.Given as goal

abbrev pub invariant-loop-test : goal.invariant-loop-test
invariant-loop-test l = record {
  least : l.least ≡ sum_by (least_entries false) (take l.test-index l.tests);
  most : l.most ≡ sum_by (most_entries false) (take l.test-index l.tests);
  least_fits : l.least ≤ l.test-index * (2 ^ 32);
  most_fits : l.most ≤ l.test-index * (2 ^ 32);
}
