use Rattle.std.proofs.Common.{ap, ◌∙◌}
use Rattle.pq_schema.specs.Keys.{dirs_of}
use Rattle.pq_schema.specs.Sequences.{sequence_of}
use Rattle.pq_schema.specs.declared.table.Table.{Table}
use Rattle.pq_calls.specs.Keys.{sequence_types}
use Rattle.pq_entries.proofs.ranges.values_in.Goals as goal

pub values_read-requires-clause-types : goal.values_read-requires-clause-types
values_read-requires-clause-types c = c.items.ensures ∙ c.in_ok-shape.ensures.types ∙ ap (λ (table : Table). sequence_types table c.args.access) c.table_of.ensures.table

pub values_read-requires-clause-dirs : goal.values_read-requires-clause-dirs
values_read-requires-clause-dirs c = c.items-2.ensures ∙ c.in_ok-shape.ensures.dirs ∙ ap (λ (table : Table). dirs_of (sequence_of table c.args.access)) c.table_of.ensures.table
