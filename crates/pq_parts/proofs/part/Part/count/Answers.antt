use Rattle.std.proofs.Common.{◌≡◌, Ok, ◌∙◌, sym, ap, length, min, filter, arith}
use Rattle.pq_store.specs.Content.{is_within}
use Rattle.pq_parts.specs.Clips.{later}
use Rattle.pq_parts.proofs.Clips.{whatever, own_unmet, counted_within}
use Rattle.pq_parts.proofs.Asked.{not_asked, asked_once, met_once, few_counted}
use Rattle.pq_parts.proofs.part.Part.count.Goals as goal
use Rattle.pq_parts.proofs.part.Part.count.Goals.{then-cap-eq0-via-then-cap-eq0, then-cap-eq0-via-else-cap-eq0+then-not-meets}

pub returns-then-cap-eq0-clause-answer : goal.returns-then-cap-eq0-clause-answer
returns-then-cap-eq0-clause-answer g c = elim c.then-cap-eq0.branch [
  | then-cap-eq0-via-then-cap-eq0 w ↦ whatever (λ mine. 0 ≡ min c.args.cap (length (filter (is_within c.args.low.now c.args.high.now) mine))) (λ _. omega arith) _
  | then-cap-eq0-via-else-cap-eq0+then-not-meets w ↦ own_unmet _ c.args.low.now c.args.high.now (λ pairs. 0 ≡ min c.args.cap (length pairs)) (sym (w.meets.ensures g.S.Store.content) ∙ w.if-not-meets.true) (omega arith)
]

pub returns-then-cap-eq0-clause-tally : goal.returns-then-cap-eq0-clause-tally
returns-then-cap-eq0-clause-tally g c = not_asked c.args.tally.now _ c.args.cap (Ok 0)

pub returns-clause-answer : goal.returns-clause-answer
returns-clause-answer g c = counted_within _ c.args.low.now c.args.high.now c.later-low.result.now c.earlier-high.result.now c.args.cap c.count.result
    (c.later-low.ensures ∙ ap (later c.args.low.now) c.items.ensures) c.earlier-high.ensures c.count.ensures.answer

pub returns-clause-tally : goal.returns-clause-tally
returns-clause-tally g c = asked_once _ _ _ _ _ _ (met_once _ (sym (c.meets.ensures g.S.Store.content) ∙ c.if-not-meets.false)) (few_counted _ _ c.count.ensures.few) c.count.ensures.counts
