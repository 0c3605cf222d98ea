-- Parts of combinations fit as the whole did.
use Rattle.std.proofs.Common.{◌≡◌, List, length, Option, None, Some, subst, sym, arith}
use Rattle.std.specs.Prelude.{IfSome}
use Rattle.std.specs.List.{AllByRecursion}
use Rattle.pq_base.specs.declared.value.Value.{Value}
use Rattle.pq_schema.specs.declared.query.Query.{Query}
use Rattle.pq_schema.specs.declared.table.Table.{Table}
use Rattle.pq_store.specs.Content.{Content}
use Rattle.pq_plan.specs.Nodes.{Node}
use Rattle.pq_nodes.specs.Combos.{FitsTables}
use Rattle.pq_nodes.specs.Paid.{node_size}
use Rattle.pq_local_ops.specs.Lists.{ArePart}
use Rattle.pq_exec.specs.Execution.{rows_before, rows_behind, AreGiven}

pub part_then : (a b c : List (List (List Value))) → ArePart a b → ArePart b c → ArePart a c
part_then a b c first second =
    let fewer = first.few in
    let few = second.few in
    record { few = omega arith; fit = λ tables query count all. second.fit tables query count (first.fit tables query count all) }

-- what a node that reads nothing keeps of its inputs
pub part_given : (tables : List Table) (query : Query) (node : Node) (combos found : List (List (List Value))) → node_size (length combos) node ≡ length combos → rows_behind query node ≡ rows_before query node → AllByRecursion (FitsTables tables query (rows_before query node)) combos → ArePart combos found → AreGiven tables query (length combos) node found
part_given tables query node combos found size rows all part =
    let few = part.few in
    record {
      few = omega arith;
      fit = subst (λ n. AllByRecursion (FitsTables tables query n) found) (sym rows) (part.fit tables query (rows_before query node) all);
    }

-- what is so of any content
pub in_any : (told : Option Content) (P : Type 0) → P → IfSome told (λ content. P)
in_any None P so = tt
in_any (Some content) P so = so
