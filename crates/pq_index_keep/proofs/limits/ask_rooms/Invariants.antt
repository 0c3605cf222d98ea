use Rattle.std.proofs.Common.{◌≡◌, ◌++◌, take}
use Rattle.pq_index_keep.specs.Asking.{room_tests}
use Rattle.pq_index_keep.proofs.limits.ask_rooms.Given as goal

abbrev pub invariant-loop-limit : goal.invariant-loop-limit
invariant-loop-limit l = l.tests ≡ l.initial.tests ++ room_tests l.new.scope.now l.new.old.now l.new.number l.new.table.now l.new.row.now (take l.limit-index l.limits)
