use Rattle.std.proofs.Common.{◌≡◌, ◌++◌, length, take}
use Rattle.std.specs.List.{flat_map}
use Rattle.pq_host.specs.Frames.{number, asked_key}
use Rattle.pq_host.proofs.request.gets_body.Given as goal

abbrev pub invariant-loop-asked : goal.invariant-loop-asked
invariant-loop-asked l = l.body ≡ number (length l.keys) ++ flat_map asked_key (take l.asked-index l.keys)
