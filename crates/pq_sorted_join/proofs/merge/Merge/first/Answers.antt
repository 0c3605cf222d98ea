use Rattle.std.proofs.Common.{List, map, take, sym, ap, ◌∙◌}
use Rattle.std.specs.BinaryHeap.{heap_items}
use Rattle.std.proofs.lemmas.List.{take-map}
use Rattle.pq_base.specs.declared.value.Value.{Value}
use Rattle.pq_local_ops.proofs.Codes.{ok_more}
use Rattle.pq_scan.specs.Merging.{item_of, merged_lists}
use Rattle.pq_sorted_join.proofs.merge.Merge.first.Goals as goal

pub returns : goal.returns
returns c =
    ok_more _ _ (λ combos is.
    is ∙ ap (map item_of) c.in_ok-first.ensures ∙ sym (take-map item_of c.args.k (merged_lists (heap_items c.self.inside.heads.heap)))
    ∙ ap (λ (l : List (List (List Value))). take c.args.k l) c.self.view_is)
    c.items_of.result c.items_of.ensures
