use Rattle.std.proofs.Common.{◌≡◌, [], length, drop, refl, ap, sym, arith, rules, ◌∙◌}
use Rattle.std.proofs.Math.Seq.{drop-length}
use Rattle.std.proofs.lemmas.Slice.Zip.{AllZip-long}
use Rattle.pq_parts.specs.Spans.{spans}
use Rattle.pq_parts.proofs.Joined.{linked, begins_first}
use Rattle.pq_parts.proofs.Gather.{length-spans}
use Rattle.pq_parts.proofs.Fetched.{fetch_start, fetch_more, fetch_all, none_found}
use Rattle.pq_parts.proofs.part_store.PartStore.fetch.Goals as goal

pub loop-at-init : goal.loop-at-init
loop-at-init g c =
    let content = g.S.Store.content in
    let parts = c.args.self.now.parts in
    record {
      long = search rules;
      same = refl;
      places = refl;
      faults = omega arith;
      rounds = omega arith;
      found = fetch_start _ (spans content parts) (linked content parts (rw (← c.self.view_is) c.self.invariant.rising)) (begins_first content parts ∙ rw (← c.self.view_is) c.self.invariant.first) c.args.keys.now _ (search rules);
    }

pub gets_at-requires-clause-long : goal.gets_at-requires-clause-long
gets_at-requires-clause-long g c = AllZip-long _ _ _ c.loop-at.invariant.found

pub loop-at-preserved : goal.loop-at-preserved
loop-at-preserved g c =
    let content = g.S.Store.content in
    let parts = c.args.self.now.parts in
    let inv = c.loop-at.invariant in
    let done = c.in_ok-gets_at.ensures in
    let put = rw inv.same at done.put in
    let before = inv.faults in
    let later = done.asks.cause.later in
    let asked = inv.rounds in
    let once = done.asks.few in
    record {
      long = sym (length-spans content c.gets_at.new.self.parts) ∙ ap length done.asks.same ∙ length-spans content c.loop-at.self.parts ∙ inv.long;
      same = done.asks.same ∙ inv.same;
      places = done.asks.places ∙ inv.places;
      faults = omega (arith, before, later);
      rounds = omega (arith, asked, once);
      found = fetch_more (spans content parts) (linked content parts (rw (← c.self.view_is) c.self.invariant.rising)) c.loop-at.at put.span put.cut c.args.keys.now _ _ put.put inv.found;
    }

pub returns-clause-answer : goal.returns-clause-answer
returns-clause-answer g c =
    let content = g.S.Store.content in
    let list = spans content c.args.self.now.parts in
    let inv = c.loop-at.invariant in
    let long = inv.long in
    let there : length list ≡ length c.loop-at.self.parts = sym (ap length inv.same) ∙ length-spans content c.loop-at.self.parts in
    let at : c.loop-at.at ≡ length list = omega (arith, long, there) in
    let last : drop c.loop-at.at list ≡ [] = ap (λ n. drop n list) at ∙ drop-length list in
    rw (c.from_vec.ensures) (fetch_all _ (drop c.loop-at.at list) last c.args.keys.now c.loop-at.found.items inv.found)

pub returns-clause-answered : goal.returns-clause-answered
returns-clause-answered g c = rw (c.from_vec.ensures) (none_found _ _ c.args.keys.now c.loop-at.found.items c.loop-at.invariant.found)
