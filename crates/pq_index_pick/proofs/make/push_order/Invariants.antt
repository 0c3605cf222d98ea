use Rattle.std.proofs.Common.{◌≡◌, ◌++◌, take}
use Rattle.pq_index_pick.proofs.make.push_order.Given as goal

abbrev pub invariant-loop-part : goal.invariant-loop-part
invariant-loop-part l = l.cols ≡ l.initial.cols ++ take l.part-index l.order
