use Rattle.std.proofs.Common.{◌≡◌, ◌+◌, ℕ, List, length, map, min, take, sym, ap, subst, ◌∙◌}
use Rattle.std.specs.Prelude.{IfSome}
use Rattle.pq_store.specs.Content.{Content, entry, pairs_within}
use Rattle.pq_store.specs.declared.store.Pair.{Pair}
use Rattle.pq_pending.specs.Pending.{counted_with, removals_within, seen_content}
use Rattle.pq_pending.proofs.Counts.{count_seen, count_stored}
use Rattle.pq_pending.proofs.calls.PendingCalls.count.Goals as goal

pub returns-then-puts_within-eq0-clause-answer : goal.returns-then-puts_within-eq0-clause-answer
returns-then-puts_within-eq0-clause-answer g c =
    count_stored c.args.low.now c.args.high.now c.args.self.now.pending.now.changes c.known.ensures.distinct c.args.cap (g.S.Store.content c.args.self.now.store.now)
    (sym c.removals_within-removed.ensures ∙ c.if-removed-eq0.true) (sym c.puts_within.ensures ∙ c.if-puts_within-eq0.true) c.stored_count.result c.stored_count.ensures.answer

pub returns-clause-answer : goal.returns-clause-answer
returns-clause-answer g c =
    let low = c.args.low.now in
    let high = c.args.high.now in
    let cap = c.args.cap in
    let changes = c.args.self.now.pending.now.changes in
    let store = g.S.Store.content c.args.self.now.store.now in
    let found = map entry c.in_ok-found.found in
    let is : c.counted.result ≡ counted_with low high cap changes found =
    c.counted.ensures
    ∙ ap (λ pending. counted_with low high cap pending.now.changes (map entry c.items.result.now)) c.in_ok-found.ensures.asks.uses.same_pending
    ∙ ap (λ (pairs : List Pair). counted_with low high cap changes (map entry pairs)) c.items.ensures in
    let part : IfSome store (λ (content : Content). found ≡ take (cap + removals_within low high changes) (pairs_within content low high)) =
    subst (λ (n : ℕ). IfSome store (λ (content : Content). found ≡ take (cap + n) (pairs_within content low high))) c.removals_within-removed.ensures c.in_ok-found.ensures.answer in
    subst (λ (n : ℕ). IfSome (seen_content changes store) (λ (content : Content). n ≡ min cap (length (pairs_within content low high)))) (sym is)
    (count_seen low high changes c.known.ensures.distinct cap store found part)
