use Rattle.std.proofs.Common.{◌≡◌, ◌-◌, ◌≤◌, length}
use Rattle.std.specs.Io.KnownBytes.{Consumes}
use Rattle.pq_host.proofs.link.Link.body.Given as goal

abbrev pub invariant-loop-alloc : goal.invariant-loop-alloc
invariant-loop-alloc g l = (length l.body ≤ l.len) × Consumes l.initial.self.left l.self.left l.body × (l.self.sent ≡ l.initial.self.sent) × (l.self.unanswered ≡ l.initial.self.unanswered)

abbrev pub decreases-loop-alloc : goal.decreases-loop-alloc
decreases-loop-alloc g l = l.len - length l.body
