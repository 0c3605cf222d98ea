use Rattle.std.proofs.Common.{◌≤◌, ◌+◌, List, take, sym, subst, arith, ◌∙◌}
use Rattle.std.specs.List.{AllZip}
use Rattle.pq_store.specs.declared.store.Pair.{Pair}
use Rattle.pq_store.proofs.Rounds.{all_zip_more}
use Rattle.pq_parts.specs.Spans.{Span, spans, joined_content}
use Rattle.pq_parts.specs.Asking.{AreFoundBut, spread_calls, rounds_of}
use Rattle.pq_parts.proofs.Spread.{calls_more}
use Rattle.pq_parts.proofs.part_store.PartStore.spread_parts.Goals as goal

pub loop-asked-preserved : goal.loop-asked-preserved
loop-asked-preserved g c =
    let content = g.S.Store.content in
    let inv = c.loop-asked.invariant in
    let one = c.in_ok-pairs.ensures in
    let i = c.loop-asked.asked-index in
    let asks = c.args.asks.now in
    let limit = c.args.limit in
    let list = spans content c.args.self.now.parts in
    let pairs = c.in_ok-pairs.pairs in
    let before = inv.faults in
    let later = one.asks.cause.later in
    let asked = inv.rounds in
    let once = subst (λ (l : List Span). rounds_of g.S.Store.rounds c.spread_pairs.new.self.parts ≤ rounds_of g.S.Store.rounds c.loop-asked.self.parts + spread_calls l c.asked-item.result) inv.same one.asks.few in
    let calls = calls_more (spread_calls list) asks i c.asked-item.result c.loop-asked-test.true c.asked-item.is in
    let here : AreFoundBut (joined_content list) list limit c.asked-item.result pairs =
    subst (λ (l : List Span). AreFoundBut (joined_content l) l limit c.asked-item.result pairs) inv.same one.found in
    record {
      same = one.asks.same ∙ inv.same;
      places = one.asks.places ∙ inv.places;
      faults = omega (arith, before, later);
      rounds = omega (arith, asked, once, calls);
      found = subst (λ (l : List (List Pair)). AllZip (AreFoundBut (joined_content list) list limit) (take (i + 1) asks) l) (sym c.in_ok-push.ensures.ok)
          (all_zip_more (AreFoundBut (joined_content list) list limit) asks c.loop-asked.found i c.asked-item.result pairs c.loop-asked-test.true c.asked-item.is inv.found here);
    }
