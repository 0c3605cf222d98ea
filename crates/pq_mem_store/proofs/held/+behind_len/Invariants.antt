use Rattle.std.proofs.Common.{length}
use Rattle.pq_mem_store.proofs.held.+behind_len.Given as goal

abbrev pub decreases-behind_len : goal.decreases-behind_len
decreases-behind_len l = length l.bytes.now
