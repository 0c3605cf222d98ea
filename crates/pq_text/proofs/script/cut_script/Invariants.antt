use Rattle.std.proofs.Common.{◌≡◌, ◌++◌, ℕ, List, take}
use Rattle.pq_text.specs.Parts.{joined_parts}
use Rattle.pq_text.specs.Summaries.{start_summary, pieces_from, unfinished_from}
use Rattle.pq_text.proofs.script.cut_script.Given as goal

abbrev pub invariant-loop-part : goal.invariant-loop-part
invariant-loop-part l =
    record {
      pieces : (more : List ℕ) → l.pieces ++ pieces_from l.splitter more ≡ pieces_from start_summary (joined_parts (take l.part-index l.parts) ++ more);
      rest : (more : List ℕ) → unfinished_from l.splitter more ≡ unfinished_from start_summary (joined_parts (take l.part-index l.parts) ++ more);
    }
