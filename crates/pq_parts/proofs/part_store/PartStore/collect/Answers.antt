use Rattle.std.proofs.Common.{◌≡◌, length, map, ap, sym, arith, ◌∙◌}
use Rattle.std.proofs.lemmas.Result.{err_from_is_err_and}
use Rattle.pq_store.specs.Content.{entry}
use Rattle.pq_parts.specs.Spans.{spans}
use Rattle.pq_parts.proofs.Joined.{linked}
use Rattle.pq_parts.proofs.Gather.{gather_all, length-spans, asked_on}
use Rattle.pq_parts.proofs.part_store.PartStore.collect.Goals as goal

pub loop-at-preserved : goal.loop-at-preserved
loop-at-preserved g c =
    let inv = c.loop-at.invariant in
    let done = c.in_ok-take_part.ensures in
    let before = inv.faults in
    let later = done.asks.cause.later in
    let asked = inv.rounds in
    let once = done.asks.few in
    record {
      long = sym (length-spans g.S.Store.content c.take_part.new.self.parts) ∙ ap length done.asks.same ∙ length-spans g.S.Store.content c.loop-at.self.parts ∙ inv.long;
      same = done.asks.same ∙ inv.same;
      places = done.asks.places ∙ inv.places;
      faults = omega (arith, before, later);
      rounds = omega (arith, asked, once);
      gathered = rw (← inv.same) (done.gathers c.args.self.now.tally (rw inv.same inv.gathered));
    }

pub returns-in_err-take_part-clause-nodes : goal.returns-in_err-take_part-clause-nodes
returns-in_err-take_part-clause-nodes g c =
    let p = err_from_is_err_and c.from_residual.result c.from_residual.ensures.1 in
    let inv = c.loop-at.invariant in
    rw (← inv.same) (asked_on _ _ _ _ _ (c.in_err-take_part.ensures.nodes c.args.self.now.tally (rw inv.same inv.gathered)) c.from_residual.result p.0 p.1 _)

pub returns-clause-answer : goal.returns-clause-answer
returns-clause-answer g c =
    let inv = c.loop-at.invariant in
    let long = inv.long in
    let there : length (spans g.S.Store.content c.args.self.now.parts) ≡ length c.loop-at.self.parts = sym (ap length inv.same) ∙ length-spans g.S.Store.content c.loop-at.self.parts in
    let at : c.loop-at.at ≡ length (spans g.S.Store.content c.args.self.now.parts) = omega (arith, long, there) in
    gather_all (spans g.S.Store.content c.args.self.now.parts) (linked g.S.Store.content c.args.self.now.parts (rw (← c.self.view_is) c.self.invariant.rising))
    c.args.self.now.tally c.loop-at.self.tally c.args.low.now c.args.high.now c.args.limit (map entry c.loop-at.found) (rw at at inv.gathered)
