use Rattle.std.proofs.Common.{refl}
use Rattle.pq_base.specs.Columns.{set_of}
use Rattle.pq_schema.specs.Sequences.{columns_of}
use Rattle.pq_row_keys.proofs.CodedKeys.{same_then, same_else}
use Rattle.pq_row_keys.proofs.rows.same_entry.Goals as goal

pub returns-then-same_parts : goal.returns-then-same_parts
returns-then-same_parts c =
    same_then c.args.table.now c.args.index.now c.args.a.now c.args.b.now c.items-cols.result.now c.columns_in.result c.items-then-same_parts.result.now
    c.items-cols.ensures c.columns_in.ensures c.items-then-same_parts.ensures
    c.same_parts.result (rw (← c.items.ensures, ← c.items-2.ensures) c.same_parts.ensures)
    c.same_left.result c.if-same_parts.true
    (rw (← c.items-then-same_parts-2.ensures, ← c.items-then-same_parts-3.ensures) c.same_left.ensures)

pub returns-else-same_parts : goal.returns-else-same_parts
returns-else-same_parts c =
    same_else c.args.table.now c.args.index.now c.args.a.now c.args.b.now c.items-cols.result.now (set_of (columns_of c.items-cols.result.now)) c.args.table.now.key
    c.items-cols.ensures refl refl
    c.same_parts.result (rw (← c.items.ensures, ← c.items-2.ensures) c.same_parts.ensures)
    c.if-same_parts.false
