use Rattle.std.proofs.Common.{◌≡◌, take}
use Rattle.pq_schema.specs.Definitions.{no_fillers}
use Rattle.pq_definitions.proofs.new_table.no_fillers.Given as goal

abbrev pub invariant-loop : goal.invariant-loop
invariant-loop l = l.fillers ≡ no_fillers (take l.index l.columns)
