use Rattle.std.proofs.Common.{codes, string_bytes, rules}
use Rattle.pq_schema.specs.Tables.{table_at}
use Rattle.pq_print.specs.Canonical.{columns_text, foreign_text}
use Rattle.pq_print.proofs.Joins.{joined_4}
use Rattle.pq_print.proofs.table.put_foreign.Goals as goal

pub returns : goal.returns
unfolding foreign_text
returns c =
    let home = c.args.home.now in
    joined_4 (string_bytes c.args.out.now) (string_bytes c.push_str.new.self) (string_bytes c.put_columns.new.out)
    (string_bytes c.push_str-2.new.self) (string_bytes c.push_str-3.new.self)
    (codes "FOREIGN KEY ") (columns_text home.columns.now c.args.foreign.now.cols) (codes " REFERENCES ") (table_at home.tables.now c.args.foreign.now.table).name
    c.push_str-3.result
    c.in_ok-push_str.ensures.bytes (rw c.items.ensures at c.in_ok-put_columns.ensures) c.in_ok-push_str-2.ensures.bytes
    (search rules)
