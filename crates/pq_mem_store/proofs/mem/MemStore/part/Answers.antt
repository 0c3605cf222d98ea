use Rattle.std.proofs.Common.{[], ◌++◌, ◌∙◌, ◌-◌, ap, sym, map, take, length}
use Rattle.std.proofs.lemmas.List.{length-map}
use Rattle.pq_store.specs.Content.{entry, pairs_within}
use Rattle.pq_mem_store.specs.Split.{first_late}
use Rattle.pq_mem_store.proofs.Split.{part_late, part_early, part_both}
use Rattle.pq_mem_store.proofs.mem.MemStore.part.Goals as goal

pub returns-then-is_late : goal.returns-then-is_late
returns-then-is_late c = rw (← c.self.view_is)
    (part_late first_late c.self.inside.early c.self.inside.late c.self.invariant c.args.low.now c.args.high.now c.args.limit [] _ (sym c.is_late.ensures ∙ c.if-is_late.true)
    (c.in_ok-copy_first.ensures ∙ ap (λ pairs. map entry pairs ++ take c.args.limit (pairs_within c.self.inside.late c.args.low.now c.args.high.now)) c.new-copies.ensures))

pub returns-then-not-is_late : goal.returns-then-not-is_late
returns-then-not-is_late c = rw (← c.self.view_is)
    (part_early first_late c.self.inside.early c.self.inside.late c.self.invariant c.args.low.now c.args.high.now c.args.limit [] _ (sym c.is_late-2.ensures ∙ c.if-not-is_late.true)
    (c.in_ok-copy_first-2.ensures ∙ ap (λ pairs. map entry pairs ++ take c.args.limit (pairs_within c.self.inside.early c.args.low.now c.args.high.now)) c.new-copies.ensures))

pub returns : goal.returns
returns c =
    let first = c.in_ok-copy_first-2.ensures ∙ ap (λ pairs. map entry pairs ++ take c.args.limit (pairs_within c.self.inside.early c.args.low.now c.args.high.now)) c.new-copies.ensures in
    rw (← c.self.view_is)
    (part_both first_late c.self.inside.early c.self.inside.late c.self.invariant c.args.low.now c.args.high.now c.args.limit [] (map entry c.copy_first-2.new.copies) _ (c.args.limit - length c.items.result.now)
    first (ap (λ n. c.args.limit - n) (ap length c.items.ensures ∙ sym (length-map c.copy_first-2.new.copies entry) ∙ ap length first))
    c.in_ok-copy_first-3.ensures)
