use Rattle.std.proofs.Common.{length, ◌-◌, ◌≡◌, ◌≤◌, ◌==◌, false, take}
use Rattle.std.specs.List.{list_any}
use Rattle.pq_key_code.proofs.decode.plain_len.Given as goal

abbrev pub invariant-loop-len : goal.invariant-loop-len
invariant-loop-len l = record { within : l.len ≤ length l.bytes; plain : list_any (λ b. b == 0) (take l.len l.bytes) ≡ false }

abbrev pub decreases-loop-len : goal.decreases-loop-len
decreases-loop-len l = length l.bytes - l.len
