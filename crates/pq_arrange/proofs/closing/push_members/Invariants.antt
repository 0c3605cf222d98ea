use Rattle.std.proofs.Common.{◌≡◌, ◌++◌, map, filter, take}
use Rattle.std.specs.List.{range_with_len}
use Rattle.pq_arrange.specs.Classes.{is_in}
use Rattle.pq_arrange.proofs.closing.push_members.Given as goal

abbrev pub invariant-loop-col : goal.invariant-loop-col
invariant-loop-col l = l.found ≡ l.initial.found ++ filter (is_in l.classes l.class) (map (λ col. record { rel = l.rel; col = col }) (take l.col-index (range_with_len 0 l.columns)))
