use Rattle.std.proofs.Common.{◌≤◌, ◌<◌, length, refl, rules}
use Rattle.pq_host.proofs.Paying.{first_afforded, none_counted, paid_behind}
use Rattle.pq_host.proofs.payment.+pay_ranges.Goals as goal

pub pay_range-requires-clause-share : goal.pay_range-requires-clause-share
pay_range-requires-clause-share g t c =
    let some : 1 ≤ length c.args.asks.now = search rules in
    first_afforded c.args.limit c.args.allowance.now c.args.asks.now c.args.parts.now c.part-item.result c.items.result.now some c.requires.parts c.part-item.is c.items.ensures c.requires.share

pub returns-then-this-lt1-clause-counted : goal.returns-then-this-lt1-clause-counted
returns-then-this-lt1-clause-counted g t c =
    let none : length c.args.parts.now < 1 = search rules in
    none_counted c.args.limit c.args.meter.now c.args.asks.now c.args.parts.now none c.requires.parts

pub returns-in-len1-up-len1-up-clause-paid : goal.returns-in-len1-up-len1-up-clause-paid
returns-in-len1-up-len1-up-clause-paid g t c =
    let some : 1 ≤ length c.args.asks.now = search rules in
    paid_behind c.args.limit _ _ _ _ _ _ c.args.asks.now _ c.args.parts.now c.part-item.result c.items.result.now some c.requires.parts c.part-item.is c.items.ensures refl c.pay_range.ensures.paid c.pay_ranges.ensures.paid
