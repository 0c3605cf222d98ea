use Rattle.std.proofs.Common.{◌≡◌, take}
use Rattle.pq_schema.specs.Sequences.{columns_of}
use Rattle.pq_schema.specs.Tables.{types_at}
use Rattle.pq_entries.proofs.keys.types_at.Given as goal

abbrev pub invariant-loop-part : goal.invariant-loop-part
invariant-loop-part l = l.types ≡ types_at l.columns (columns_of (take l.part-index l.parts))
