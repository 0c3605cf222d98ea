use Rattle.std.proofs.Common.{◌≡◌, ◌+◌, ◌≤◌, ◌++◌, length, take, drop, string_bytes}
use Rattle.std.specs.List.{AllByRecursion, list_any}
use Rattle.pq_index_keep.specs.Sound.{IsWrite}
use Rattle.pq_client_shell.specs.Lines.{skipped_text}
use Rattle.pq_client_shell.specs.Writes.{IsUncounted, is_skipped, writes_of}
use Rattle.pq_client_shell.proofs.gathered.sort_out.Given as goal

abbrev pub invariant-loop-piece : goal.invariant-loop-piece
invariant-loop-piece l = record {
  number : l.number ≡ l.first + l.piece-index;
  writes : l.sorted.writes ++ writes_of l.catalog (drop l.piece-index l.pieces) ≡ writes_of l.catalog l.pieces;
  made : AllByRecursion (IsWrite l.catalog.tables) l.sorted.writes;
  uncounted : AllByRecursion (IsUncounted l.catalog) l.sorted.writes;
  few : length l.sorted.writes ≤ l.piece-index;
  lines : string_bytes l.sorted.lines ++ skipped_text l.catalog l.number (drop l.piece-index l.pieces) ≡ skipped_text l.catalog l.first l.pieces;
  skipped : l.sorted.skipped ≡ list_any (is_skipped l.catalog) (take l.piece-index l.pieces);
}
