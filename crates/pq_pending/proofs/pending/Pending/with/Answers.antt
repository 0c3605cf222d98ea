use Rattle.std.proofs.Common.{◌+◌, List, map, sym, subst}
use Rattle.pq_content.specs.Pairs.{Change}
use Rattle.pq_content.specs.Standing.{change_of}
use Rattle.pq_pending.specs.Pending.{AreDistinct, RemovesAtMost}
use Rattle.pq_pending.proofs.Contents.{with_distinct}
use Rattle.pq_pending.proofs.Lists.{removes_with}
use Rattle.pq_pending.proofs.pending.Pending.with.Goals as goal

pub invariant_of-result : goal.invariant_of-result
invariant_of-result c =
    let old = map change_of c.self.inside.changes in
    let more = map change_of c.args.changes in (
      subst (λ (changes : List Change). AreDistinct changes) (sym c.in_ok-put_all.ensures) (with_distinct old more c.self.invariant.0),
      subst (λ (changes : List Change). RemovesAtMost (c.self.inside.removers + c.args.removers) changes) (sym c.in_ok-put_all.ensures)
          (removes_with c.self.inside.removers c.args.removers old more c.self.invariant.1 c.requires.thin),
    )
