use Rattle.std.proofs.Common.{◌<◌, length, map, ap, sym, ◌∙◌, arith}
use Rattle.pq_base.specs.Sorting.{sort_by}
use Rattle.pq_store.specs.Content.{key_cmp}
use Rattle.pq_local_ops.specs.declared.sort.Coded.{Coded}
use Rattle.pq_local_ops.proofs.Codes.{few_order, ok_more, sorted_order, sorted_part}
use Rattle.pq_local_ops.specs.Ordered.{are_ordered}
use Rattle.pq_local_ops.proofs.InOrder.{left_in_order}
use Rattle.pq_local_ops.proofs.Parts.{part_same}
use Rattle.pq_local_ops.proofs.sort.sort_combos.Goals as goal

pub returns-clause-ordered : goal.returns-clause-ordered
returns-clause-ordered c =
    ok_more _ _ (λ ordered is. sorted_order c.args.catalog.now.tables c.args.query.now c.in_ok-places.ensures.sound c.requires.resolved c.items-cols.result.now c.items-dirs.result.now
    (c.items-cols.ensures ∙ c.in_ok-places.ensures.places.cols) (c.items-dirs.ensures ∙ c.in_ok-places.ensures.places.dirs) c.args.combos ordered c.requires.fit
    (is ∙ ap (map (λ (item : Coded). item.combo)) (c.in_ok-sort_coded.ensures ∙ ap (sort_by key_cmp (λ (item : Coded). item.code)) c.in_ok-items.ensures)))
    c.combos_of.result c.combos_of.ensures

pub returns-clause-part : goal.returns-clause-part
returns-clause-part c =
    ok_more _ _ (λ ordered is. sorted_part c.args.catalog.now.tables c.args.query.now c.in_ok-places.ensures.sound c.requires.resolved c.items-cols.result.now c.items-dirs.result.now
    (c.items-cols.ensures ∙ c.in_ok-places.ensures.places.cols) (c.items-dirs.ensures ∙ c.in_ok-places.ensures.places.dirs) c.args.combos ordered
    (is ∙ ap (map (λ (item : Coded). item.combo)) (c.in_ok-sort_coded.ensures ∙ ap (sort_by key_cmp (λ (item : Coded). item.code)) c.in_ok-items.ensures)))
    c.combos_of.result c.combos_of.ensures

pub returns-then-items-lt2-clause-ordered : goal.returns-then-items-lt2-clause-ordered
returns-then-items-lt2-clause-ordered c =
    let same = ap length c.items.ensures in
    let few : length c.args.combos < 2 = omega (arith, same, c.if-items-lt2.true) in
    few_order c.args.catalog.now.tables c.args.query.now c.args.combos few

pub returns-then-items-lt2-clause-part : goal.returns-then-items-lt2-clause-part
returns-then-items-lt2-clause-part c = part_same c.args.combos

pub returns-then-are_ordered-clause-ordered : goal.returns-then-are_ordered-clause-ordered
returns-then-are_ordered-clause-ordered c =
    left_in_order c.args.catalog.now.tables c.args.query.now c.items-cols.result.now c.items-dirs.result.now
    (c.items-cols.ensures ∙ c.in_ok-places.ensures.places.cols) (c.items-dirs.ensures ∙ c.in_ok-places.ensures.places.dirs) c.args.combos
    (ap (are_ordered c.items-cols.result.now c.items-dirs.result.now) (sym c.items-2.ensures) ∙ sym c.are_ordered.ensures ∙ c.if-are_ordered.true)

pub returns-then-are_ordered-clause-part : goal.returns-then-are_ordered-clause-part
returns-then-are_ordered-clause-part c = part_same c.args.combos
