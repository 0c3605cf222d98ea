use Rattle.std.proofs.Common.{count_ones, slice_get, ap, ◌∙◌}
use Rattle.pq_scan.specs.Ends.{direction_of}
use Rattle.pq_scan.proofs.Ends.{direction_at}
use Rattle.pq_scan.proofs.keys.rest_direction.Goals as goal

pub returns : goal.returns
returns c =
    let scan = c.args.scan.now in
    c.direction_of.ensures ∙ ap direction_of c.part_at.ensures
    ∙ ap (λ n. direction_of (slice_get scan.sequence n)) (c.count.ensures ∙ ap count_ones c.requires.fixed_is)
    ∙ direction_at scan.sequence _
