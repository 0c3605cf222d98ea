use Rattle.std.proofs.Common.{◌≡◌, ◌++◌, flat_map, string_bytes, take}
use Rattle.pq_plan_lines.specs.Texts.{line_text}
use Rattle.pq_plan_lines.proofs.text.put_lines.Given as goal

abbrev pub invariant-loop-line : goal.invariant-loop-line
invariant-loop-line l = string_bytes l.out ≡ string_bytes l.initial.out ++ flat_map (line_text l.tables l.query l.wanted) (take l.line-index l.lines)
