use Rattle.std.proofs.Common.{◌≡◌, ℕ, length, ap, sym, arith, ◌∙◌}
use Rattle.std.proofs.lemmas.Result.{err_from_is_err_and}
use Rattle.pq_parts.specs.Spans.{spans}
use Rattle.pq_parts.proofs.Joined.{linked}
use Rattle.pq_parts.proofs.Gather.{count_all, counts, count_error, length-spans, asked_on}
use Rattle.pq_parts.proofs.part_store.PartStore.total.Goals as goal

pub loop-at-preserved : goal.loop-at-preserved
loop-at-preserved g c =
    let inv = c.loop-at.invariant in
    let done = c.in_ok-n.ensures in
    let before = inv.faults in
    let later = done.asks.cause.later in
    let asked = inv.rounds in
    let once = done.asks.few in
    record {
      long = sym (length-spans g.S.Store.content c.count_at.new.self.parts) ∙ ap length done.asks.same ∙ length-spans g.S.Store.content c.loop-at.self.parts ∙ inv.long;
      same = done.asks.same ∙ inv.same;
      places = done.asks.places ∙ inv.places;
      faults = omega (arith, before, later);
      rounds = omega (arith, asked, once);
      counted = counts _ _ _ _ c.loop-at.at c.args.low.now c.args.high.now c.args.cap c.loop-at.n c.in_ok-n.field-0 (rw inv.same at done.number) inv.counted;
    }

pub returns-in_err-n-clause-nodes : goal.returns-in_err-n-clause-nodes
returns-in_err-n-clause-nodes g c =
    let p = err_from_is_err_and c.from_residual.result c.from_residual.ensures.1 in
    let inv = c.loop-at.invariant in
    asked_on {A = ℕ} _ _ _ _ p.0 (count_error _ _ _ _ c.loop-at.at c.args.low.now c.args.high.now c.args.cap c.loop-at.n _ (rw inv.same at c.in_err-n.ensures.number) p.0 inv.counted) c.from_residual.result p.0 p.1 _

pub returns-clause-answer : goal.returns-clause-answer
returns-clause-answer g c =
    let inv = c.loop-at.invariant in
    let long = inv.long in
    let there : length (spans g.S.Store.content c.args.self.now.parts) ≡ length c.loop-at.self.parts = sym (ap length inv.same) ∙ length-spans g.S.Store.content c.loop-at.self.parts in
    let at : c.loop-at.at ≡ length (spans g.S.Store.content c.args.self.now.parts) = omega (arith, long, there) in
    count_all (spans g.S.Store.content c.args.self.now.parts) (linked g.S.Store.content c.args.self.now.parts (rw (← c.self.view_is) c.self.invariant.rising))
    c.args.self.now.tally c.loop-at.self.tally c.args.low.now c.args.high.now c.args.cap c.loop-at.n (rw at at inv.counted)
