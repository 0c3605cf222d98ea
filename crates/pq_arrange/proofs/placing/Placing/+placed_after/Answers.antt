use Rattle.std.proofs.Common.{◌≡◌, length, arith}
use Rattle.pq_arrange.specs.Placing.{without}
use Rattle.pq_arrange.proofs.Ranges.{without_numbers}
use Rattle.pq_arrange.proofs.placing.Placing.+placed_after.Goals as goal

pub placed_after-requires : goal.placed_after-requires
placed_after-requires t c =
    let here = c.in_ok-left.ensures in
    let items = c.items-3.ensures in
    let is : c.in_ok-left.left ≡ without c.next-rel.result c.args.rest = cc in
    (omega (c.decreases, c.if-count-eq0.false, arith), (c.requires.query, (c.requires.classes, without_numbers (length c.args.self.query.now.relations) c.next-rel.result c.args.rest c.in_ok-left.left is c.requires.there)))
