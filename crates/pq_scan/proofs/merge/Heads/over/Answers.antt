use Rattle.std.proofs.Common.{List, IsPermutation, subst}
use Rattle.std.specs.BinaryHeap.{heap_items}
use Rattle.pq_scan.specs.declared.merge.Placed.{Placed}
use Rattle.pq_scan.specs.Merging.{numbered_from, waiting_heads}
use Rattle.pq_scan.proofs.Merging.{merge_made}
use Rattle.pq_scan.proofs.merge.Heads.over.Goals as goal

pub returns-clause-ready : goal.returns-clause-ready
returns-clause-ready g c =
    let lists = c.in_ok-lists.lists.items in
    (merge_made c.args.found lists (heap_items c.from.result) c.in_ok-lists.ensures.rise (subst (λ (l : List (Placed g.row.T.Denot)). IsPermutation (numbered_from 0 l) (waiting_heads lists)) c.into_vec.ensures c.in_ok-lists.ensures.same) c.from.ensures.1 c.from.ensures.2).0

pub returns-clause-merged : goal.returns-clause-merged
returns-clause-merged g c =
    let lists = c.in_ok-lists.lists.items in
    (merge_made c.args.found lists (heap_items c.from.result) c.in_ok-lists.ensures.rise (subst (λ (l : List (Placed g.row.T.Denot)). IsPermutation (numbered_from 0 l) (waiting_heads lists)) c.into_vec.ensures c.in_ok-lists.ensures.same) c.from.ensures.1 c.from.ensures.2).1
