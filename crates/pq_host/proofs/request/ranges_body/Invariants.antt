use Rattle.std.proofs.Common.{◌≡◌, ◌++◌, length, take}
use Rattle.std.specs.List.{flat_map}
use Rattle.pq_host.specs.Frames.{number, asked_range}
use Rattle.pq_host.proofs.request.ranges_body.Given as goal

abbrev pub invariant-loop-asked : goal.invariant-loop-asked
invariant-loop-asked l = l.body ≡ number l.limit ++ (number (length l.asks) ++ flat_map asked_range (take l.asked-index l.asks))
