use Rattle.std.proofs.Common.{◌<◌, ◌≤◌, ◌++◌, length, ap, ◌∙◌, arith}
use Rattle.std.proofs.lemmas.List.Elements.{All-weaker}
use Rattle.pq_plan.specs.Cost.{relations_read}
use Rattle.pq_plan.specs.Nodes.{nodes}
use Rattle.pq_plan.proofs.Few.{few}
use Rattle.pq_plan_lines.specs.Lines.{plan_lines, sum_of}
use Rattle.pq_plan_lines.proofs.Sums.{sum_is}
use Rattle.pq_plan_lines.proofs.node_line.plan_lines.Goals as goal

pub put_lines-requires-clause-few : goal.put_lines-requires-clause-few
put_lines-requires-clause-few c =
    let seven : length (relations_read c.args.plan.now) ≤ 7 =
    few 7 (relations_read c.args.plan.now) c.requires.once (All-weaker (λ r. r ≤ 6) (λ r. r < 7) (λ r h. omega arith) (relations_read c.args.plan.now) c.requires.six) in
    rw c.tree.ensures seven

pub returns-clause-sum : goal.returns-clause-sum
returns-clause-sum c =
    ap sum_of (c.in_ok-put_lines.ensures.lines ∙ (λ i. c.new-lines.ensures i ++ plan_lines (nodes (c.tree.ensures i)))) ∙ sum_is c.args.plan.now
