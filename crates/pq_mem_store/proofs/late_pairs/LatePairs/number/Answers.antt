use Rattle.std.proofs.Common.{◌∙◌, sym}
use Rattle.pq_mem_store.specs.Split.{first_number}
use Rattle.pq_mem_store.proofs.Split.{on_ok_value, number_late, number_early, number_both}
use Rattle.pq_mem_store.proofs.late_pairs.LatePairs.number.Goals as goal

pub returns-then-is_number : goal.returns-then-is_number
returns-then-is_number c = on_ok_value c.number.result
    (λ n is. rw (← c.self.view_is) (is ∙ number_late first_number c.self.inside.marks c.self.inside.numbers c.self.invariant c.args.low.now c.args.high.now c.args.cap (sym c.is_number.ensures ∙ c.if-is_number.true)))
    c.number.ensures

pub returns-then-not-is_number : goal.returns-then-not-is_number
returns-then-not-is_number c = rw (← c.self.view_is)
    (c.in_ok-marks.ensures ∙ number_early first_number c.self.inside.marks c.self.inside.numbers c.self.invariant c.args.low.now c.args.high.now c.args.cap
    (sym c.is_number-2.ensures ∙ c.if-not-is_number.true))

pub returns : goal.returns
returns c = rw (← c.self.view_is)
    (number_both first_number c.self.inside.marks c.self.inside.numbers c.self.invariant c.args.low.now c.args.high.now c.args.cap _ _ c.in_ok-marks.ensures c.in_ok-number.ensures)
