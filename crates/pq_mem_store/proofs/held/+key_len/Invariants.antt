use Rattle.std.proofs.Common.{length}
use Rattle.pq_mem_store.proofs.held.+key_len.Given as goal

abbrev pub decreases-key_len : goal.decreases-key_len
decreases-key_len l = length l.bytes.now
