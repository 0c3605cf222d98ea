use Rattle.std.proofs.Common.{sym, ◌∙◌}
use Rattle.pq_row_code.proofs.Plain.{plain_is, marked_is}
use Rattle.pq_row_code.proofs.decode.row_read.Goals as goal

pub returns-then-is_plain : goal.returns-then-is_plain
returns-then-is_plain c = rw (plain_is c.args.types.now c.args.bytes.now (sym c.is_plain.ensures ∙ c.if-is_plain.true)) at c.plain_row.ensures

pub returns-then-branch : goal.returns-then-branch
returns-then-branch c = (rw c.if-branch.true at c.in_ok-put_marked.ensures) ∙ marked_is c.args.types.now c.args.bytes.now (sym c.is_plain.ensures ∙ c.if-is_plain.false)

pub returns-else-branch : goal.returns-else-branch
returns-else-branch c = (rw c.if-branch.false at c.in_ok-put_marked.ensures) ∙ marked_is c.args.types.now c.args.bytes.now (sym c.is_plain.ensures ∙ c.if-is_plain.false)
