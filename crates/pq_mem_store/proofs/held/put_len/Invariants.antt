use Rattle.std.proofs.Common.{◌≡◌, ◌++◌, replicate}
use Rattle.pq_mem_store.proofs.held.put_len.Given as goal

abbrev pub invariant-loop : goal.invariant-loop
invariant-loop l = l.bytes.items ≡ l.initial.bytes.items ++ replicate l.counter 255
