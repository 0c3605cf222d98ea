use Rattle.std.proofs.Common.{◌≡◌, ◌+◌, Some, None, drop, rules}
use Rattle.pq_parts.specs.Spans.{first_from}
use Rattle.pq_parts.proofs.Gather.{begins_at, begins_none}
use Rattle.pq_parts.proofs.part_store.PartStore.ends_before.Goals as goal

pub returns-in-Some : goal.returns-in-Some
returns-in-Some g c =
    let begins : Some c.in-Some.next.now.from ≡ first_from (drop (c.args.at + 1) c.args.self.now.parts) =
    rw (← c.self.view_is, ← c.deref.ensures.value) (begins_at c.deref.result.now (c.args.at + 1) c.in-Some.next.now c.in-Some.ensures.lookup.3.0 c.in-Some.ensures.lookup.3.1) in
    rw (← begins) (search rules)

pub returns-in-None : goal.returns-in-None
returns-in-None g c =
    let begins : None ≡ first_from (drop (c.args.at + 1) c.args.self.now.parts) =
    rw (← c.self.view_is, ← c.deref.ensures.value) (begins_none c.deref.result.now (c.args.at + 1) c.in-None.ensures.lookup.3) in
    rw (← begins) (search rules)
