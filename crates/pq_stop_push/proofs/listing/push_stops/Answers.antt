use Rattle.std.proofs.Common.{◌++◌, ◌-◌, map, ap, sym, ◌∙◌, arith, append_assoc}
use Rattle.std.specs.Prelude.{flat_map}
use Rattle.std.specs.List.{range_with_len}
use Rattle.std.proofs.lemmas.List.{map-append}
use Rattle.pq_schema.specs.Candidates.{stop_at}
use Rattle.pq_predicates.proofs.Ranges.{flat_map_more}
use Rattle.pq_stop_push.specs.Pushes.{held_plan, planned_push}
use Rattle.pq_stop_push.proofs.listing.push_stops.Goals as goal

pub loop-p-preserved : goal.loop-p-preserved
loop-p-preserved c =
    let f = stop_at c.args.catalog.now.tables c.args.query.now c.args.k in
    let g = planned_push c.args.catalog.now.tables c.args.query.now in
    let so_far = flat_map f (range_with_len 1 (c.loop-p.p - 1)) in
    let more = flat_map_more f 1 c.loop-p.p (omega arith) in
    let first = map held_plan c.args.list.now in
    c.in_ok-push_stop_at.ensures ∙ ap (λ xs. xs ++ map g (f c.loop-p.p)) c.loop-p.invariant
    ∙ append_assoc first (map g so_far) (map g (f c.loop-p.p))
    ∙ ap (λ ys. first ++ ys) (sym (ap (map g) more ∙ map-append g so_far (f c.loop-p.p)))
