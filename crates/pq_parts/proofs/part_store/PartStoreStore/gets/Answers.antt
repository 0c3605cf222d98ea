use Rattle.std.proofs.Common.{◌≡◌, sum_by, ap, arith, ◌∙◌}
use Rattle.pq_store.specs.Rounds.{one_if_some}
use Rattle.pq_store.proofs.Rounds.{pays_within}
use Rattle.pq_parts.proofs.Paying.{asked_few, found_few}
use Rattle.pq_parts.proofs.part_store.PartStoreStore.gets.Goals as goal

pub overflow_cast-number_of : goal.overflow_cast-number_of
overflow_cast-number_of g c =
    let number : c.number_of.result ≡ sum_by one_if_some c.in-Ok.found = c.number_of.ensures ∙ ap (sum_by one_if_some) c.items.ensures in
    let few = found_few c.args.keys.now c.in-Ok.found c.in-Ok.ensures.answered in
    let most = asked_few c.args.keys.now in
    let within = c.if-keys.false in
    omega (arith, number, few, most, within)

pub pay_round-requires-clause-few : goal.pay_round-requires-clause-few
pay_round-requires-clause-few g c =
    let number : c.number_of.result ≡ sum_by one_if_some c.in-Ok.found = c.number_of.ensures ∙ ap (sum_by one_if_some) c.items.ensures in
    let few = found_few c.args.keys.now c.in-Ok.found c.in-Ok.ensures.answered in
    λ none. omega (arith, number, few, none)

pub pay_round-requires-clause-share : goal.pay_round-requires-clause-share
pay_round-requires-clause-share g c =
    let number : c.number_of.result ≡ sum_by one_if_some c.in-Ok.found = c.number_of.ensures ∙ ap (sum_by one_if_some) c.items.ensures in
    let few = found_few c.args.keys.now c.in-Ok.found c.in-Ok.ensures.answered in
    let most = asked_few c.args.keys.now in
    let left = c.requires.share.entries_left in
    record { ops_left = c.requires.share.ops_left; entries_left = omega (arith, number, few, most, left) }

pub returns-in-Ok-clause-paid : goal.returns-in-Ok-clause-paid
returns-in-Ok-clause-paid g c =
    let number : c.number_of.result ≡ sum_by one_if_some c.in-Ok.found = c.number_of.ensures ∙ ap (sum_by one_if_some) c.items.ensures in
    let few = found_few c.args.keys.now c.in-Ok.found c.in-Ok.ensures.answered in
    let most = asked_few c.args.keys.now in
    pays_within _ _ _ _ _ _ _ _ c.pay_round.ensures.paid (omega arith) (omega (arith, number, few, most))
