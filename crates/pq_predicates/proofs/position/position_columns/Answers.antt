use Rattle.std.proofs.Common.{◌++◌, ◌-◌, ap, sym, ◌∙◌, arith, append_assoc}
use Rattle.std.specs.Prelude.{flat_map}
use Rattle.std.specs.List.{range_with_len}
use Rattle.pq_schema.specs.Relations.{key_items}
use Rattle.pq_predicates.proofs.Ranges.{flat_map_more}
use Rattle.pq_predicates.proofs.position.position_columns.Goals as goal

pub loop-rel-preserved : goal.loop-rel-preserved
loop-rel-preserved c =
    let f = key_items c.args.catalog.now.tables c.args.query.now in
    let e = flat_map_more f 1 c.loop-rel.rel (omega arith) in
    c.in_ok-push_key.ensures ∙ ap (λ xs. xs ++ f c.loop-rel.rel) c.loop-rel.invariant
    ∙ append_assoc c.args.query.now.order (flat_map f (range_with_len 1 (c.loop-rel.rel - 1))) (f c.loop-rel.rel)
    ∙ ap (λ ys. c.args.query.now.order ++ ys) (sym e)
