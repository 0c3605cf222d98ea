use Rattle.std.proofs.Common.{map, ap, ◌∙◌}
use Rattle.std.specs.BinaryHeap.{heap_items}
use Rattle.pq_base.specs.Sorting.{sort_by}
use Rattle.pq_store.specs.Content.{key_cmp}
use Rattle.pq_scan.specs.Merging.{item_of, place_of, merged_lists}
use Rattle.pq_sorted_join.proofs.Merging.{merged_order}
use Rattle.pq_sorted_join.proofs.merge.Merge.over.Goals as goal

pub returns : goal.returns
returns c =
    merged_order c.args.catalog.now.tables c.args.query.now c.in_ok-places.ensures.sound c.requires.resolved c.items.result.now c.items-2.result.now
    (c.items.ensures ∙ c.in_ok-places.ensures.places.cols) (c.items-2.ensures ∙ c.in_ok-places.ensures.places.dirs) c.args.lists
    (map item_of (merged_lists (heap_items c.in_ok-heads.heads.heap))) c.requires.columns
    (ap (map item_of) (c.in_ok-heads.ensures.merged ∙ ap (sort_by key_cmp place_of) c.in_ok-all.ensures))
