use Rattle.pq_exec.proofs.Parts.{part_then}
use Rattle.pq_exec.proofs.node.cut_page.Goals as goal

pub returns-clause-part : goal.returns-clause-part
returns-clause-part c = part_then c.args.combos c.in_ok-behind_cursor.field-0 c.first_k.result c.in_ok-behind_cursor.ensures.part c.first_k.ensures.part
