use Rattle.std.proofs.Common.{◌≡◌}
use Rattle.std.specs.List.{flat_map, range_with_len}
use Rattle.pq_planning.specs.Lines.{definition_lines}
use Rattle.pq_planning.proofs.lines.show_lines.Given as goal

abbrev pub invariant-loop-place : goal.invariant-loop-place
invariant-loop-place l = l.lines ≡ flat_map (definition_lines l.catalog) (range_with_len 1 l.place)
