use Rattle.std.specs.Prelude.{All}
use Rattle.pq_row_code.specs.RowCode.{IsShort}
use Rattle.pq_cases.proofs.cells.push_words.Given as goal

abbrev pub invariant-loop-word : goal.invariant-loop-word
invariant-loop-word l = All IsShort l.cells.row
