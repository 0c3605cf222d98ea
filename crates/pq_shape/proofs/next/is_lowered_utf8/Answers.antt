use Rattle.std.proofs.Common.{map, ap, ◌∙◌}
use Rattle.std.specs.Char.{to_ascii_lowercase}
use Rattle.std.specs.Str.{is_utf8}
use Rattle.pq_shape.proofs.Made.{test_is}
use Rattle.pq_shape.proofs.next.is_lowered_utf8.Goals as goal

pub returns : goal.returns
returns c =
    c.is_ok.ensures.value ∙ test_is _ c.from_utf8.result _ _ c.from_utf8.ensures.cases
    ∙ ap is_utf8 (c.make_ascii_lowercase.ensures.after ∙ ap (map to_ascii_lowercase) c.copy_from_slice.ensures.after)
