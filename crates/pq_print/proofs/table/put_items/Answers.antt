use Rattle.std.proofs.Common.{codes, string_bytes, rules}
use Rattle.pq_print.specs.Lists.{separate_texts, each_after}
use Rattle.pq_print.specs.Canonical.{column_text, columns_text, limit_text, foreign_text, items_text}
use Rattle.pq_print.proofs.Joins.{joined_5}
use Rattle.pq_print.proofs.table.put_items.Goals as goal

pub returns : goal.returns
unfolding items_text
returns c =
    let tables = c.args.tables.now in
    let columns = c.args.columns.now in
    let table = c.args.table.now in
    joined_5 (string_bytes c.args.out.now) (string_bytes c.put_separated.new.out) (string_bytes c.push_str.new.self)
    (string_bytes c.put_columns.new.out) (string_bytes c.put_each.new.out) (string_bytes c.put_each-2.new.out)
    (separate_texts (codes ", ") column_text columns) (codes ", PRIMARY KEY ") (columns_text columns table.key)
    (each_after (codes ", ") (limit_text columns) table.limits)
    (each_after (codes ", ") (foreign_text tables columns) table.foreign)
    c.put_each-2.result
    (search rules) c.in_ok-push_str.ensures.bytes (search rules) (search rules) (search rules)
