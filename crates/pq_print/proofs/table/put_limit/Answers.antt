use Rattle.std.proofs.Common.{codes, decimal, string_bytes}
use Rattle.pq_print.specs.Canonical.{columns_text, limit_text}
use Rattle.pq_print.proofs.Joins.{joined_4}
use Rattle.pq_print.proofs.table.put_limit.Goals as goal

pub returns : goal.returns
unfolding limit_text
returns c =
    joined_4 (string_bytes c.args.out.now) (string_bytes c.push_str.new.self) (string_bytes c.put_number.new.out)
    (string_bytes c.push_str-2.new.self) (string_bytes c.put_columns.new.out)
    (codes "CARDINALITY LIMIT ") (decimal c.args.limit.now.n) (codes " ") (columns_text c.args.home.now.columns.now c.args.limit.now.cols)
    c.put_columns.result
    c.in_ok-push_str.ensures.bytes c.in_ok-put_number.ensures c.in_ok-push_str-2.ensures.bytes
    (rw c.items.ensures at c.put_columns.ensures)
