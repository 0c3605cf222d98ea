use Rattle.std.proofs.Common.{sym, ap, ◌∙◌, arith}
use Rattle.pq_shape.specs.Shapes.{keyword_or, name_shape}
use Rattle.pq_shape.proofs.Made.{named_word, long_word, other_word}
use Rattle.pq_shape.proofs.next.word.Goals as goal
use Rattle.pq_shape.proofs.next.word.Goals.{else-bytes-le32-via-then-bytes-le32+else-is_lowered_utf8, else-bytes-le32-via-else-bytes-le32}

pub returns-then-is_lowered_utf8-clause-shape : goal.returns-then-is_lowered_utf8-clause-shape
returns-then-is_lowered_utf8-clause-shape c =
    sym (named_word c.args.bytes.now c.if-bytes-le32.true (sym c.is_lowered_utf8.ensures ∙ c.if-is_lowered_utf8.true))
    ∙ ap (keyword_or (name_shape c.args.bytes.now)) c.in-None.ensures

pub returns-else-bytes-le32-clause-shape : goal.returns-else-bytes-le32-clause-shape
returns-else-bytes-le32-clause-shape c =
    sym (elim c.else-bytes-le32.branch [
      | else-bytes-le32-via-then-bytes-le32+else-is_lowered_utf8 w ↦ other_word c.args.bytes.now (sym w.is_lowered_utf8.ensures ∙ w.if-is_lowered_utf8.false)
      | else-bytes-le32-via-else-bytes-le32 w ↦ long_word c.args.bytes.now (omega (arith, w.if-bytes-le32.false))
    ])
    ∙ ap (keyword_or (name_shape c.args.bytes.now)) c.in-None.ensures
