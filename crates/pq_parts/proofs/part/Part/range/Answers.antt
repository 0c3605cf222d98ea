use Rattle.std.proofs.Common.{◌≡◌, ◌∙◌, refl, sym, ap, map, take, filter}
use Rattle.pq_store.specs.Content.{entry, is_within}
use Rattle.pq_parts.specs.Clips.{later}
use Rattle.pq_parts.proofs.Clips.{whatever, take_none, own_unmet, ranged_within, piece_of}
use Rattle.pq_parts.proofs.Asked.{asked_once, met_once, few_ranged}
use Rattle.pq_parts.proofs.part.Part.range.Goals as goal
use Rattle.pq_parts.proofs.part.Part.range.Goals.{then-limit-eq0-via-then-limit-eq0, then-limit-eq0-via-else-limit-eq0+then-not-meets}

pub returns-then-limit-eq0-clause-answer : goal.returns-then-limit-eq0-clause-answer
returns-then-limit-eq0-clause-answer g c = elim c.then-limit-eq0.branch [
  | then-limit-eq0-via-then-limit-eq0 w ↦ whatever (λ mine. map entry c.new.result ≡ take c.args.limit (filter (is_within c.args.low.now c.args.high.now) mine)) (λ _. rw (c.new.ensures, w.if-limit-eq0.true) refl) _
  | then-limit-eq0-via-else-limit-eq0+then-not-meets w ↦ own_unmet _ c.args.low.now c.args.high.now (λ pairs. map entry c.new.result ≡ take c.args.limit pairs) (sym (w.meets.ensures g.S.Store.content) ∙ w.if-not-meets.true) (rw (c.new.ensures) (sym (take_none c.args.limit)))
]

pub returns-clause-answer : goal.returns-clause-answer
returns-clause-answer g c = ranged_within _ c.args.low.now c.args.high.now c.later-low.result.now c.earlier-high.result.now c.args.limit c.range.result
    (c.later-low.ensures ∙ ap (later c.args.low.now) c.items.ensures) c.earlier-high.ensures c.range.ensures.answer

pub returns-clause-part : goal.returns-clause-part
returns-clause-part g c = piece_of _ c.args.low.now c.args.high.now c.later-low.result.now c.earlier-high.result.now c.args.limit c.range.result
    (c.later-low.ensures ∙ ap (later c.args.low.now) c.items.ensures) c.earlier-high.ensures c.range.ensures.part

pub returns-clause-tally : goal.returns-clause-tally
returns-clause-tally g c = asked_once _ _ _ _ _ _ (met_once _ (sym (c.meets.ensures g.S.Store.content) ∙ c.if-not-meets.false)) (few_ranged _ _ _ _ c.range.ensures.part) c.range.ensures.counts
