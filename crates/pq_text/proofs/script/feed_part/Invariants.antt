use Rattle.std.proofs.Common.{◌≡◌, ◌-◌, ◌≤◌, ◌++◌, ℕ, List, length, drop}
use Rattle.pq_text.specs.Summaries.{pieces_from, unfinished_from}
use Rattle.pq_text.proofs.script.feed_part.Given as goal

abbrev pub invariant-part : goal.invariant-part
invariant-part l =
    record {
      within : l.taken ≤ length l.part;
      pieces : (more : List ℕ) → l.pieces ++ pieces_from l.splitter (drop l.taken l.part ++ more) ≡ l.initial.pieces ++ pieces_from l.initial.splitter (l.part ++ more);
      rest : (more : List ℕ) → unfinished_from l.splitter (drop l.taken l.part ++ more) ≡ unfinished_from l.initial.splitter (l.part ++ more);
    }

abbrev pub decreases-part : goal.decreases-part
decreases-part l = length l.part - l.taken
