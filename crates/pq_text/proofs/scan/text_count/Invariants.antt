use Rattle.std.proofs.Common.{◌≡◌, ◌+◌, ◌-◌, ◌≤◌, length, drop}
use Rattle.std.specs.Option.{option_map}
use Rattle.pq_text.specs.Forms.{text_end}
use Rattle.pq_text.proofs.scan.text_count.Given as goal

abbrev pub invariant-bytes : goal.invariant-bytes
invariant-bytes l = (l.passed ≤ length l.bytes) × (text_end l.bytes ≡ option_map (λ n. l.passed + n) (text_end (drop l.passed l.bytes)))

abbrev pub decreases-bytes : goal.decreases-bytes
decreases-bytes l = length l.bytes - l.passed
