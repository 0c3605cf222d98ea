use Rattle.std.proofs.Common.{codes, string_bytes, rules}
use Rattle.pq_schema.specs.declared.table.Table.{Table}
use Rattle.pq_print.specs.Canonical.{items_text, table_text}
use Rattle.pq_print.proofs.Joins.{joined_5}
use Rattle.pq_print.proofs.table.put_table.Goals as goal

pub returns : goal.returns
unfolding table_text
returns c =
    let table : Table = record c.args.table.now { columns = c.args.columns.now } in
    joined_5 (string_bytes c.args.out.now) (string_bytes c.push_str.new.self) (string_bytes c.push_str-2.new.self)
    (string_bytes c.push_str-3.new.self) (string_bytes c.put_items.new.out) (string_bytes c.push_str-4.new.self)
    (codes "CREATE TABLE ") table.name (codes " (") (items_text c.args.tables.now table) (codes ");")
    c.push_str-4.result
    c.in_ok-push_str.ensures.bytes (rw c.as_str.ensures at c.in_ok-push_str-2.ensures.bytes) c.in_ok-push_str-3.ensures.bytes
    c.in_ok-put_items.ensures (search rules)
