use Rattle.std.proofs.Common.{◌++◌, List, ℕ, sym, ap, ◌∙◌, append_assoc}
use Rattle.std.proofs.lemmas.List.{append-nil}
use Rattle.pq_shape.proofs.Made.{undoubled_step, undoubled_end}
use Rattle.pq_shape.proofs.next.undouble.Goals as goal

pub loop-byte-preserved : goal.loop-byte-preserved
loop-byte-preserved c =
    let step = undoubled_step c.loop-byte.quoted c.loop-byte.byte-index c.args.bytes.now c.loop-byte-test.true in
    rw (c.in_ok-quoted.ensures.bytes, c.in_ok-quoted.ensures.quote) (append_assoc c.loop-byte.plain _ _ ∙ ap (λ (v : List ℕ). c.loop-byte.plain ++ v) (sym step) ∙ c.loop-byte.invariant)

pub returns : goal.returns
returns c =
    sym (append-nil c.loop-byte.plain)
    ∙ ap (λ (v : List ℕ). c.loop-byte.plain ++ v) (sym (undoubled_end c.loop-byte.quoted c.loop-byte.byte-index c.args.bytes.now c.loop-byte-test.false))
    ∙ c.loop-byte.invariant
