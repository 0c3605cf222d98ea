use Rattle.std.proofs.Common.{◌≡◌, cond, length, ap, arith}
use Rattle.pq_parts.specs.Spans.{spans, joined_content}
use Rattle.pq_parts.specs.Asking.{range_calls}
use Rattle.pq_parts.proofs.Gather.{length-spans}
use Rattle.pq_parts.proofs.Ranged.{not_spread, spread_result}
use Rattle.pq_parts.proofs.part_store.PartStore.spread_range.Goals as goal

pub returns-then-lies_in_one-clause-found : goal.returns-then-lies_in_one-clause-found
returns-then-lies_in_one-clause-found g c =
    let list = spans g.S.Store.content c.args.self.now.parts in
    not_spread (joined_content list) list c.args.limit c.args.ends.now _ (c.lies_in_one.ensures.lies g.S.Store.content c.if-lies_in_one.true)

pub returns-clause-found : goal.returns-clause-found
returns-clause-found g c =
    let list = spans g.S.Store.content c.args.self.now.parts in
    spread_result (joined_content list) list c.args.limit c.args.ends.now _ _ c.collect.result c.items.ensures c.items-2.ensures c.collect.ensures.answer c.collect.ensures.part

pub returns-clause-asks : goal.returns-clause-asks
returns-clause-asks g c =
    let list = spans g.S.Store.content c.args.self.now.parts in
    let calls : range_calls list c.args.ends.now ≡ length list = ap (λ b. cond b (length list) 0) (c.lies_in_one.ensures.spread g.S.Store.content c.if-lies_in_one.false) in
    let long = length-spans g.S.Store.content c.args.self.now.parts in
    let most = c.collect.ensures.asks.few in
    record { same = c.collect.ensures.asks.same; places = c.collect.ensures.asks.places; cause = c.collect.ensures.asks.cause; few = omega (arith, calls, long, most) }
