use Rattle.std.proofs.Common.{◌≡◌, length, sum_by, ap, arith, ◌∙◌}
use Rattle.pq_store.proofs.Rounds.{pays_within}
use Rattle.std.proofs.lemmas.Slice.Zip.{AllZip-long}
use Rattle.pq_parts.proofs.Ranged.{parts_within, no_entries, any_parts}
use Rattle.pq_parts.proofs.part_store.PartStoreStore.ranges.Goals as goal

pub entries_of-requires : goal.entries_of-requires
entries_of-requires g c =
    let same : sum_by length c.items.result.now ≡ sum_by length c.in-Ok.found = ap (sum_by length) c.items.ensures in
    let most = parts_within c.args.limit c.args.asks.now c.in-Ok.found c.in-Ok.ensures.parts in
    let within = c.if-asks-limit.false in
    omega (arith, same, most, within)

pub pay_round-requires-clause-few : goal.pay_round-requires-clause-few
pay_round-requires-clause-few g c =
    let number : c.entries_of.result ≡ sum_by length c.in-Ok.found = c.entries_of.ensures ∙ ap (sum_by length) c.items.ensures in
    λ none. number ∙ no_entries c.args.limit c.args.asks.now c.in-Ok.found c.in-Ok.ensures.parts none

pub pay_round-requires-clause-share : goal.pay_round-requires-clause-share
pay_round-requires-clause-share g c =
    let number : c.entries_of.result ≡ sum_by length c.in-Ok.found = c.entries_of.ensures ∙ ap (sum_by length) c.items.ensures in
    let most = parts_within c.args.limit c.args.asks.now c.in-Ok.found c.in-Ok.ensures.parts in
    let left = c.requires.share.entries_left in
    record { ops_left = c.requires.share.ops_left; entries_left = omega (arith, number, most, left) }

pub returns-in-Ok-clause-paid : goal.returns-in-Ok-clause-paid
returns-in-Ok-clause-paid g c =
    let number : c.entries_of.result ≡ sum_by length c.in-Ok.found = c.entries_of.ensures ∙ ap (sum_by length) c.items.ensures in
    let most = parts_within c.args.limit c.args.asks.now c.in-Ok.found c.in-Ok.ensures.parts in
    pays_within _ _ _ _ _ _ _ _ c.pay_round.ensures.paid (omega arith) (omega (arith, number, most))

pub returns-in-Ok-clause-long : goal.returns-in-Ok-clause-long
returns-in-Ok-clause-long g c = AllZip-long _ c.args.asks.now c.in-Ok.found c.in-Ok.ensures.parts

pub returns-in-Ok-clause-answered : goal.returns-in-Ok-clause-answered
returns-in-Ok-clause-answered g c = any_parts c.in-Ok.found
