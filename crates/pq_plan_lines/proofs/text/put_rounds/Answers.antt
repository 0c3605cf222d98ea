use Rattle.std.proofs.Common.{◌<◌, ◌≤◌, length, arith}
use Rattle.std.proofs.lemmas.List.Elements.{All-weaker}
use Rattle.pq_plan.specs.Cost.{relations_read}
use Rattle.pq_plan.proofs.Few.{few}
use Rattle.pq_plan_lines.proofs.text.put_rounds.Goals as goal

pub plan_rounds-requires : goal.plan_rounds-requires
plan_rounds-requires c =
    let seven : length (relations_read c.args.plan.now) ≤ 7 =
    few 7 (relations_read c.args.plan.now) c.requires.once (All-weaker (λ r. r ≤ 6) (λ r. r < 7) (λ r h. omega arith) (relations_read c.args.plan.now) c.requires.six) in
    rw c.tree.ensures seven
