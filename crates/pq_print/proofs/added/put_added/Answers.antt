use Rattle.std.proofs.Common.{codes, string_bytes, rules}
use Rattle.pq_schema.specs.Tables.{table_at}
use Rattle.pq_print.specs.Canonical.{column_at, column_text, filler_at, added_text}
use Rattle.pq_print.specs.Values.{value_text}
use Rattle.pq_print.proofs.Joins.{joined_7}
use Rattle.pq_print.proofs.added.put_added.Goals as goal

pub returns : goal.returns
unfolding added_text
returns c =
    let table = table_at c.args.tables.now c.args.table in
    joined_7 (string_bytes c.args.out.now) (string_bytes c.push_str.new.self) (string_bytes c.push_str-2.new.self)
    (string_bytes c.push_str-3.new.self) (string_bytes c.put_column_at.new.out) (string_bytes c.push_str-4.new.self)
    (string_bytes c.put_filler.new.out) (string_bytes c.push_str-5.new.self)
    (codes "ALTER TABLE ") table.name (codes " ADD COLUMN ") (column_text (column_at table.columns c.args.col))
    (codes " DEFAULT ") (value_text (filler_at table.fillers c.args.col)) (codes ";")
    c.push_str-5.result
    c.in_ok-push_str.ensures.bytes (rw c.table_name.ensures at c.in_ok-push_str-2.ensures.bytes)
    c.in_ok-push_str-3.ensures.bytes (rw c.table_columns.ensures at c.in_ok-put_column_at.ensures)
    c.in_ok-push_str-4.ensures.bytes (rw c.table_fillers.ensures at c.in_ok-put_filler.ensures) (search rules)
