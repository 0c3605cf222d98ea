use Rattle.std.proofs.Common.{◌∙◌, ◌-◌, ap, sym, map, take, length}
use Rattle.std.proofs.lemmas.List.{length-map}
use Rattle.pq_store.specs.Content.{entry, pairs_within}
use Rattle.pq_mem_store.specs.Split.{first_number}
use Rattle.pq_mem_store.proofs.Split.{on_ok, more_of, part_late, part_early, part_both}
use Rattle.pq_mem_store.proofs.late_pairs.LatePairs.copy_first.Goals as goal

pub returns-then-is_number : goal.returns-then-is_number
returns-then-is_number c = on_ok c.copy_first.result
    (λ copied. rw (← c.self.view_is) (part_late first_number c.self.inside.marks c.self.inside.numbers c.self.invariant c.args.low.now c.args.high.now c.args.limit (map entry c.args.copies.now) _
    (sym c.is_number.ensures ∙ c.if-is_number.true) copied))
    c.copy_first.ensures

pub returns-then-not-is_number : goal.returns-then-not-is_number
returns-then-not-is_number c = rw (← c.self.view_is)
    (part_early first_number c.self.inside.marks c.self.inside.numbers c.self.invariant c.args.low.now c.args.high.now c.args.limit (map entry c.args.copies.now) _
    (sym c.is_number-2.ensures ∙ c.if-not-is_number.true) c.in_ok-copy_first.ensures)

pub returns : goal.returns
returns c = on_ok c.copy_first-3.result
    (λ copied. rw (← c.self.view_is) (part_both first_number c.self.inside.marks c.self.inside.numbers c.self.invariant c.args.low.now c.args.high.now c.args.limit (map entry c.args.copies.now)
    (map entry c.copy_first-2.new.copies) _ (c.args.limit - (length c.items.result.now - length c.items-before.result.now)) c.in_ok-copy_first.ensures
    (ap (λ n. c.args.limit - (n - length c.items-before.result.now)) (ap length c.items.ensures ∙ sym (length-map c.copy_first-2.new.copies entry))
    ∙ ap (λ n. c.args.limit - (length (map entry c.copy_first-2.new.copies) - n)) (ap length c.items-before.ensures ∙ sym (length-map c.args.copies.now entry))
    ∙ ap (λ n. c.args.limit - n) (more_of (map entry c.args.copies.now) (take c.args.limit (pairs_within c.self.inside.marks c.args.low.now c.args.high.now)) (map entry c.copy_first-2.new.copies) c.in_ok-copy_first.ensures))
    copied))
    c.copy_first-3.ensures
