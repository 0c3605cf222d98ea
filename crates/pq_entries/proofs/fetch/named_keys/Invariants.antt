use Rattle.std.proofs.Common.{◌≡◌, take, map}
use Rattle.pq_entries.specs.Entries.{named_at}
use Rattle.pq_entries.proofs.fetch.named_keys.Given as goal

abbrev pub invariant-loop-values : goal.invariant-loop-values
invariant-loop-values l = l.asked ≡ map (named_at l.number l.table l.index) (take l.values-index l.found)
