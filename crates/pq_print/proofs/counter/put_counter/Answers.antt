use Rattle.std.proofs.Common.{codes, string_bytes, rules}
use Rattle.pq_schema.specs.Tables.{table_at}
use Rattle.pq_print.specs.Canonical.{columns_text, counter_text}
use Rattle.pq_print.proofs.Joins.{joined_7}
use Rattle.pq_print.proofs.counter.put_counter.Goals as goal

pub returns : goal.returns
unfolding counter_text
returns c =
    let counter = c.args.counter.now in
    let table = table_at c.args.tables.now counter.table in
    joined_7 (string_bytes c.args.out.now) (string_bytes c.push_str.new.self) (string_bytes c.push_str-2.new.self)
    (string_bytes c.push_str-3.new.self) (string_bytes c.push_str-4.new.self) (string_bytes c.push_str-5.new.self)
    (string_bytes c.put_names.new.out) (string_bytes c.push_str-6.new.self)
    (codes "CREATE COUNTER ") counter.name (codes " OF ") table.name (codes " ")
    (columns_text table.columns counter.cols) (codes ";")
    c.push_str-6.result
    c.in_ok-push_str.ensures.bytes (rw c.as_str.ensures at c.in_ok-push_str-2.ensures.bytes)
    c.in_ok-push_str-3.ensures.bytes (rw c.table_name.ensures at c.in_ok-push_str-4.ensures.bytes)
    c.in_ok-push_str-5.ensures.bytes (rw (c.table_columns.ensures, c.items.ensures) at c.in_ok-put_names.ensures) (search rules)
