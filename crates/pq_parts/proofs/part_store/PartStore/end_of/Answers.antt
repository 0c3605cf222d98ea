use Rattle.std.proofs.Common.{◌∙◌, ◌+◌, ap, Some}
use Rattle.pq_parts.proofs.Gather.{begins_at, begins_none}
use Rattle.pq_parts.proofs.part_store.PartStore.end_of.Goals as goal

pub returns-in-None-clause-end : goal.returns-in-None-clause-end
returns-in-None-clause-end g c = rw (← c.self.view_is, ← c.deref.ensures.value) (begins_none c.deref.result.now (c.args.at + 1) c.in-None.ensures.lookup.3)

pub returns-in_ok-of_bytes-in-Some-clause-end : goal.returns-in_ok-of_bytes-in-Some-clause-end
returns-in_ok-of_bytes-in-Some-clause-end g c = rw (← c.self.view_is, ← c.deref.ensures.value)
    (ap Some (c.in_ok-of_bytes-in-Some.ensures ∙ c.items.ensures) ∙ begins_at c.deref.result.now (c.args.at + 1) c.in-Some.next.now c.in-Some.ensures.lookup.3.0 c.in-Some.ensures.lookup.3.1)
