use Rattle.std.proofs.Common.{◌≡◌, ◌++◌, take, map}
use Rattle.pq_definitions.proofs.new_table.groups_of.Given as goal

abbrev pub invariant-loop-limit : goal.invariant-loop-limit
invariant-loop-limit l = l.groups ≡ map (λ limit. limit.cols) (take l.limit-index l.limit-items)

abbrev pub invariant-loop-foreign : goal.invariant-loop-foreign
invariant-loop-foreign l = l.groups ≡ map (λ limit. limit.cols) l.table.limits ++ map (λ foreign. foreign.cols) (take l.foreign-index l.foreign-items)
