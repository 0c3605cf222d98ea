use Rattle.std.proofs.Common.{rules, arith}
use Rattle.std.specs.Ordering.{is_le}
use Rattle.std.proofs.lemmas.List.Sorted.{IsPartitionPoint-from_clause}
use Rattle.pq_store.specs.Content.{key_cmp}
use Rattle.pq_parts.proofs.Placed.{parted, some_begins, place_has}
use Rattle.pq_parts.proofs.part_store.PartStore.place.Goals as goal

pub overflow_sub-result : goal.overflow_sub-result
overflow_sub-result g c =
    let key = c.args.key.now in
    let parts = c.as_slice.result.now in
    let point = IsPartitionPoint-from_clause (λ part. is_le (key_cmp part.from key)) parts c.partition_point.result c.partition_point.ensures.partitioned
    (parted key parts (rw c.as_slice.ensures.value c.self.invariant.rising)) (λ a r f k. search rules) in
    some_begins key parts c.partition_point.result (rw c.as_slice.ensures.value c.self.invariant.first) (λ j d le lt. point.1 j d le lt)

pub returns-clause-has : goal.returns-clause-has
returns-clause-has g c =
    let key = c.args.key.now in
    let parts = c.as_slice.result.now in
    let point = IsPartitionPoint-from_clause (λ part. is_le (key_cmp part.from key)) parts c.partition_point.result c.partition_point.ensures.partitioned
    (parted key parts (rw c.as_slice.ensures.value c.self.invariant.rising)) (λ a r f k. search rules) in
    rw (← c.self.view_is, ← c.as_slice.ensures.value) (place_has key parts c.partition_point.result c.partition_point.ensures.bound
    (rw c.as_slice.ensures.value c.self.invariant.first) (λ j d lt. point.0 j d (omega arith) lt) (λ j d le lt. point.1 j d le lt))
