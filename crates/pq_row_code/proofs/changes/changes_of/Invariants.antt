use Rattle.std.proofs.Common.{◌≡◌, ◌-◌}
use Rattle.pq_row_code.specs.ChangeReading.{changes_at}
use Rattle.pq_row_code.proofs.ChangeLists.{list_behind}
use Rattle.pq_row_code.proofs.changes.changes_of.Given as goal

abbrev pub invariant-loop : goal.invariant-loop
invariant-loop l = list_behind l.changes (changes_at (l.count - l.counter) l.rest) ≡ changes_at l.count l.bytes
