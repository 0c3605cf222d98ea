use Rattle.std.proofs.Common.{◌≡◌, ◌≤◌, ◌+◌, length}
use Rattle.pq_parts.specs.Spans.{spans, firsts, faults_of}
use Rattle.pq_parts.specs.Asking.{rounds_of}
use Rattle.pq_parts.proofs.Gather.{IsCounted}
use Rattle.pq_parts.proofs.part_store.PartStore.total.Given as goal

abbrev pub invariant-loop-at : goal.invariant-loop-at
invariant-loop-at g l = record {
  long : length l.self.parts ≡ l.at-end;
  same : spans g.S.Store.content l.self.parts ≡ spans g.S.Store.content l.fn.self.parts;
  places : firsts l.self.parts ≡ firsts l.fn.self.parts;
  faults : faults_of g.S.Store.faults l.fn.self.parts ≤ faults_of g.S.Store.faults l.self.parts;
  rounds : rounds_of g.S.Store.rounds l.self.parts ≤ rounds_of g.S.Store.rounds l.fn.self.parts + l.at;
  counted : IsCounted (spans g.S.Store.content l.fn.self.parts) l.fn.self.tally l.self.tally l.at l.low l.high l.cap l.n;
}
