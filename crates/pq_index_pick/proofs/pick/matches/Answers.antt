use Rattle.std.proofs.Common.{◌≡◌, ◌+◌, ap, ◌∙◌, sym, arith, true, drop}
use Rattle.std.proofs.lemmas.Option.{slice_get_within}
use Rattle.pq_schema.specs.Sequences.{then_key, same_parts}
use Rattle.pq_schema.proofs.Places.{length_then_key}
use Rattle.pq_index_pick.proofs.Matching.{one_more}
use Rattle.pq_index_pick.proofs.pick.matches.Goals as goal

pub overflow_add-from : goal.overflow_add-from
overflow_add-from c = omega (arith, c.other.invariant.within, length_then_key c.args.order.now c.args.both c.args.key.now)

pub overflow_add-from-in-other : goal.overflow_add-from-in-other
overflow_add-from-in-other c = omega (arith, c.other.invariant.within, length_then_key c.args.order.now c.args.both c.args.key.now)

pub overflow_add-other : goal.overflow_add-other
overflow_add-other c = omega (arith, c.other.invariant.within, length_then_key c.args.order.now c.args.both c.args.key.now)

pub other-smaller : goal.other-smaller
other-smaller c =
    let h = slice_get_within (then_key c.args.order.now c.args.both c.args.key.now) c.other.other c.in-Some.b (sym c.part_at.ensures ∙ c.in-Some.is) in
    omega (arith, h)

pub other-preserved : goal.other-preserved
other-preserved c =
    let seq = then_key c.args.parts.now c.args.set c.args.key.now in
    let end = then_key c.args.order.now c.args.both c.args.key.now in
    let at_b = sym c.part_at.ensures ∙ c.in-Some.is in
    let at_a = sym c.part_at-in-other.ensures ∙ c.in-Some-part_at.is in
    let same : c.same_part.result ≡ true = grind arith in
    let step = one_more seq end (c.args.from + c.other.other) c.other.other c.in-Some-part_at.a c.in-Some.b at_a at_b (sym c.same_part.ensures ∙ same) in
    let h = slice_get_within end c.other.other c.in-Some.b at_b in
    let e : c.args.from + c.other.other + 1 ≡ c.args.from + (c.other.other + 1) = omega arith in
    record {
      same = c.other.invariant.same ∙ step ∙ ap (λ n. same_parts (drop n seq) (drop (c.other.other + 1) end)) e;
      within = omega (arith, h);
    }
