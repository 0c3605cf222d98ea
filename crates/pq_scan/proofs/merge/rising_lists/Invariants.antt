use Rattle.std.proofs.Common.{◌++◌, IsPermutation, vec_len}
use Rattle.std.specs.List.{AllByRecursion}
use Rattle.pq_scan.specs.Merging.{numbered_from, numbered_items, waiting_heads, IsRisingList}
use Rattle.pq_scan.proofs.merge.rising_lists.Given as goal

abbrev pub invariant-loop-placed : goal.invariant-loop-placed
invariant-loop-placed g l = IsRisingList l.list × AllByRecursion IsRisingList l.lists.items × IsPermutation (numbered_from 0 l.fn.found.items) (numbered_from 0 l.found.items ++ (numbered_items l.list ++ waiting_heads l.lists.items))

abbrev pub decreases-loop-placed : goal.decreases-loop-placed
decreases-loop-placed g l = vec_len l.found
