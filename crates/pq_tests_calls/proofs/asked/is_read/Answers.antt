use Rattle.std.proofs.Common.{ℕ}
use Rattle.std.proofs.lemmas.Bool.{eqb-true}
use Rattle.pq_plan.specs.Nodes.{limit_range, stop_scan, nodes}
use Rattle.pq_tests_calls.proofs.Ready.{last_ready}
use Rattle.pq_tests_calls.proofs.asked.is_read.Goals as goal

pub returns-in-LimitRange : goal.returns-in-LimitRange
returns-in-LimitRange c = λ same.
    rw c.in-LimitRange.is (last_ready c.args.catalog.now.tables c.args.query.now (nodes c.in-LimitRange.input.value)
    (λ (rel : ℕ). limit_range rel c.in-LimitRange.limit c.in-LimitRange.n c.in-LimitRange.access) c.in-LimitRange.at c.args.rel
    (eqb-true c.in-LimitRange.at c.args.rel same) (rw c.in-LimitRange.is at c.requires))

pub returns-in-StopScan : goal.returns-in-StopScan
returns-in-StopScan c = λ same.
    rw c.in-StopScan.is (last_ready c.args.catalog.now.tables c.args.query.now (nodes c.in-StopScan.input.value)
    (λ (rel : ℕ). stop_scan rel c.in-StopScan.k c.in-StopScan.access) c.in-StopScan.at c.args.rel
    (eqb-true c.in-StopScan.at c.args.rel same) (rw c.in-StopScan.is at c.requires))
