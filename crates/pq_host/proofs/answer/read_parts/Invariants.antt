use Rattle.std.proofs.Common.{◌≡◌, ◌++◌, take}
use Rattle.std.specs.List.{AllZip, flat_map}
use Rattle.pq_store.specs.Rounds.{IsPartAsked}
use Rattle.pq_host.specs.Frames.{part_bytes}
use Rattle.pq_host.proofs.answer.read_parts.Given as goal

abbrev pub invariant-loop-asked : goal.invariant-loop-asked
invariant-loop-asked l = AllZip (IsPartAsked l.limit) (take l.asked-index l.asks) l.found × (l.body ≡ flat_map part_bytes l.found ++ l.rest)
