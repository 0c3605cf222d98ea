use Rattle.std.proofs.Common.{◌≡◌, length, take, sum_by}
use Rattle.std.specs.List.{AllZip}
use Rattle.pq_store.specs.Rounds.{IsPartAsked}
use Rattle.pq_host.proofs.rounds.no_parts.Given as goal

abbrev pub invariant-loop-asked : goal.invariant-loop-asked
invariant-loop-asked l = AllZip (IsPartAsked l.limit) (take l._asked-index l.asks) l.found × (sum_by length l.found ≡ 0)
