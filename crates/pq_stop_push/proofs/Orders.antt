-- The order parts of a relation.
use Rattle.std.proofs.Common.{ℕ, ◌<◌, ◌≤◌, length, arith}
use Rattle.std.specs.Prelude.{filter}
use Rattle.std.proofs.lemmas.List.{length-map}
use Rattle.std.proofs.lemmas.List.Sums.{length-filter, count_by-le-length}
use Rattle.std.proofs.lemmas.List.Elements.{All-map, All-filter}
use Rattle.pq_schema.specs.declared.query.Query.{Query}
use Rattle.pq_schema.specs.Sound.{AreRefs, AreParts}
use Rattle.pq_schema.specs.Relations.{order_rest, part_of, is_rest, tied_set}

pub order_columns : (query : Query) (rel : ℕ) → AreRefs query → AreParts (order_rest query rel)
order_columns query rel refs =
    All-map (λ part. part.col < 32) part_of (filter (is_rest rel (tied_set query rel)) query.order)
    (All-filter (is_rest rel (tied_set query rel)) (λ item. item.col.col < 32) query.order refs.order)

pub order_few : (query : Query) (rel : ℕ) → AreRefs query → length (order_rest query rel) ≤ 4
order_few query rel refs =
    rw (length-map (filter (is_rest rel (tied_set query rel)) query.order) part_of)
    (omega (arith, refs.few, length-filter (is_rest rel (tied_set query rel)) query.order, count_by-le-length (is_rest rel (tied_set query rel)) query.order))
