use Rattle.std.proofs.Common.{length}
use Rattle.pq_host.proofs.payment.+pay_ranges.Given as goal

abbrev pub decreases-pay_ranges : goal.decreases-pay_ranges
decreases-pay_ranges g l = length l.asks.now
