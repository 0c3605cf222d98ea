use Rattle.std.proofs.Common.{◌≡◌, [], length, drop, ap, sym, subst, arith, rules, ◌∙◌}
use Rattle.std.proofs.Math.Seq.{drop-length}
use Rattle.std.proofs.lemmas.Slice.Zip.{AllZip-long}
use Rattle.pq_parts.specs.Spans.{spans}
use Rattle.pq_parts.specs.Gathered.{LinkedSpans}
use Rattle.pq_parts.proofs.Joined.{linked}
use Rattle.pq_parts.proofs.Gather.{length-spans}
use Rattle.pq_parts.proofs.Ranged.{ranges_start, ranges_more, ranges_all, ranges_parts}
use Rattle.pq_parts.proofs.part_store.PartStore.fetch_parts.Goals as goal

pub loop-at-init : goal.loop-at-init
loop-at-init g c = record {
  long = search rules;
  same = c.in_ok-spread.ensures.asks.same;
  places = c.in_ok-spread.ensures.asks.places;
  faults = c.in_ok-spread.ensures.asks.cause.later;
  rounds = let spread = c.in_ok-spread.ensures.asks.few in omega (arith, spread);
  found = ranges_start _ (spans g.S.Store.content c.args.self.now.parts) c.args.limit c.args.asks.now c.in_ok-spread.spread _ (search rules) c.in_ok-spread.ensures.found;
}

pub ranges_at-requires-clause-long : goal.ranges_at-requires-clause-long
ranges_at-requires-clause-long g c = AllZip-long _ _ _ c.loop-at.invariant.found

pub loop-at-preserved : goal.loop-at-preserved
loop-at-preserved g c =
    let content = g.S.Store.content in
    let parts = c.args.self.now.parts in
    let inv = c.loop-at.invariant in
    let done = c.in_ok-ranges_at.ensures in
    let put = rw inv.same at done.put in
    let before = inv.faults in
    let later = done.asks.cause.later in
    let asked = inv.rounds in
    let once = done.asks.few in
    let links : LinkedSpans (spans content parts) = subst LinkedSpans c.in_ok-spread.ensures.asks.same (linked content c.spread_parts.new.self.parts (rw (← c.self.view_is) c.self.invariant.rising)) in
    record {
      long = sym (length-spans content c.ranges_at.new.self.parts) ∙ ap length done.asks.same ∙ length-spans content c.loop-at.self.parts ∙ inv.long;
      same = done.asks.same ∙ inv.same;
      places = done.asks.places ∙ inv.places;
      faults = omega (arith, before, later);
      rounds = omega (arith, asked, once);
      found = ranges_more c.args.limit (spans content parts) links c.loop-at.at put.span put.cut c.args.asks.now _ _ put.put inv.found;
    }

pub returns-clause-answer : goal.returns-clause-answer
returns-clause-answer g c =
    let content = g.S.Store.content in
    let list = spans content c.args.self.now.parts in
    let inv = c.loop-at.invariant in
    let long = inv.long in
    let there : length list ≡ length c.loop-at.self.parts = sym (ap length inv.same) ∙ length-spans content c.loop-at.self.parts in
    let at : c.loop-at.at ≡ length list = omega (arith, long, there) in
    let last : drop c.loop-at.at list ≡ [] = ap (λ n. drop n list) at ∙ drop-length list in
    rw (c.from_vec.ensures) (ranges_all _ c.args.limit (drop c.loop-at.at list) last c.args.asks.now c.loop-at.found.items inv.found)

pub returns-clause-parts : goal.returns-clause-parts
returns-clause-parts g c =
    let content = g.S.Store.content in
    let list = spans content c.args.self.now.parts in
    let inv = c.loop-at.invariant in
    let long = inv.long in
    let there : length list ≡ length c.loop-at.self.parts = sym (ap length inv.same) ∙ length-spans content c.loop-at.self.parts in
    let at : c.loop-at.at ≡ length list = omega (arith, long, there) in
    let last : drop c.loop-at.at list ≡ [] = ap (λ n. drop n list) at ∙ drop-length list in
    rw (c.from_vec.ensures) (ranges_parts _ c.args.limit (drop c.loop-at.at list) last c.args.asks.now c.loop-at.found.items inv.found)

pub returns-in_err-ranges_at-clause-asks : goal.returns-in_err-ranges_at-clause-asks
returns-in_err-ranges_at-clause-asks g c =
    let content = g.S.Store.content in
    let list = spans content c.args.self.now.parts in
    let inv = c.loop-at.invariant in
    let long = inv.long in
    let there : length list ≡ length c.loop-at.self.parts = sym (ap length inv.same) ∙ length-spans content c.loop-at.self.parts in
    let own = length-spans content c.args.self.now.parts in
    let asked = inv.rounds in
    let once = c.in_err-ranges_at.ensures.asks.few in
    let less = c.loop-at-test.true in
    record {
      same = c.in_err-ranges_at.ensures.asks.same ∙ inv.same;
      places = c.in_err-ranges_at.ensures.asks.places ∙ inv.places;
      cause = search rules;
      few = omega (arith, long, there, own, asked, once, less);
    }

pub returns-clause-asks : goal.returns-clause-asks
returns-clause-asks g c =
    let content = g.S.Store.content in
    let list = spans content c.args.self.now.parts in
    let inv = c.loop-at.invariant in
    let long = inv.long in
    let there : length list ≡ length c.loop-at.self.parts = sym (ap length inv.same) ∙ length-spans content c.loop-at.self.parts in
    let at : c.loop-at.at ≡ length list = omega (arith, long, there) in
    let own = length-spans content c.args.self.now.parts in
    let asked = inv.rounds in
    record { same = inv.same; places = inv.places; cause = search rules; few = omega (arith, at, own, asked) }
