use Rattle.std.proofs.Common.{◌≡◌, ◌≤◌, ◌+◌, length, drop, sum_by}
use Rattle.std.specs.List.{AllZip}
use Rattle.pq_parts.specs.Spans.{spans, firsts, faults_of, joined_content}
use Rattle.pq_parts.specs.Asking.{AreFoundBut, spread_calls, rounds_of}
use Rattle.pq_parts.proofs.part_store.PartStore.fetch_parts.Given as goal

abbrev pub invariant-loop-at : goal.invariant-loop-at
invariant-loop-at g l = record {
  long : length l.self.parts ≡ l.at-end;
  same : spans g.S.Store.content l.self.parts ≡ spans g.S.Store.content l.fn.self.parts;
  places : firsts l.self.parts ≡ firsts l.fn.self.parts;
  faults : faults_of g.S.Store.faults l.fn.self.parts ≤ faults_of g.S.Store.faults l.self.parts;
  rounds : rounds_of g.S.Store.rounds l.self.parts ≤ rounds_of g.S.Store.rounds l.fn.self.parts + sum_by (spread_calls (spans g.S.Store.content l.fn.self.parts)) l.asks + l.at;
  found : AllZip (AreFoundBut (joined_content (spans g.S.Store.content l.fn.self.parts)) (drop l.at (spans g.S.Store.content l.fn.self.parts)) l.limit) l.asks l.found.items;
}
