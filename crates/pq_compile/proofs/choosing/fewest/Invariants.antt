use Rattle.std.proofs.Common.{◌≡◌, take, map}
use Rattle.std.specs.Prelude.{fold}
use Rattle.pq_stop_push.specs.Pushes.{held_plan}
use Rattle.pq_compile.specs.Lowered.{lesser_planned}
use Rattle.pq_compile.proofs.choosing.fewest.Given as goal

abbrev pub invariant-loop-next : goal.invariant-loop-next
invariant-loop-next l = held_plan l.best ≡ fold lesser_planned (held_plan l.fn.first) (map held_plan (take l.next-index l.rest))
