use Rattle.std.proofs.Common.{sym, ◌∙◌}
use Rattle.pq_schema.specs.Sequences.{then_key}
use Rattle.pq_entries.proofs.Placed.{value_put, sequence_end, values_end}
use Rattle.pq_entries.proofs.keys.put_values.Goals as goal

pub loop-place-preserved : goal.loop-place-preserved
loop-place-preserved c =
    value_put (then_key c.args.parts.now c.args.set c.args.key.now) c.args.values.now c.loop-place.place c.in-Some.part c.index-values-place.result _ _ _
    (sym c.part_at.ensures ∙ c.in-Some.is) c.loop-place-test.true c.index-values-place.is c.in_ok-put_component-in-Some.ensures.ok c.loop-place.invariant

pub returns-in-None : goal.returns-in-None
returns-in-None c =
    sequence_end (then_key c.args.parts.now c.args.set c.args.key.now) c.args.values.now c.loop-place.place _ _
    (sym c.part_at.ensures ∙ c.in-None.is) c.loop-place.invariant

pub returns : goal.returns
returns c =
    values_end (then_key c.args.parts.now c.args.set c.args.key.now) c.args.values.now c.loop-place.place _ _
    c.loop-place-test.false c.loop-place.invariant
