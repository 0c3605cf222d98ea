use Rattle.std.proofs.Common.{sym, arith}
use Rattle.pq_nodes.specs.Operators.{IsReadyNode}
use Rattle.pq_tests_calls.proofs.Ready.{under}
use Rattle.pq_tests_calls.proofs.asked.+read_in.Goals as goal

pub read_in-requires : goal.read_in-requires
read_in-requires t c =
    let rest = under (IsReadyNode c.args.catalog.now.tables c.args.query.now) c.args.tree.now c.in-Some.input.now (sym c.in-Some.ensures) c.requires in
    let less = rest.0 in
    let most = c.decreases in
    (omega (arith, less, most), rest.1)
