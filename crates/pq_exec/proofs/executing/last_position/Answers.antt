use Rattle.std.proofs.Common.{Some, option_map, sym, ap, ◌∙◌}
use Rattle.pq_plan.specs.Answer.{Question, position}
use Rattle.pq_exec.proofs.Page.{last_at}
use Rattle.pq_exec.proofs.executing.last_position.Goals as goal

pub returns-in_ok-position_of-in-Some-clause-last : goal.returns-in_ok-position_of-in-Some-clause-last
returns-in_ok-position_of-in-Some-clause-last c = λ rows params.
    let q : Question = record { tables = c.args.catalog.now.tables; query = c.args.query.now; rows = rows; params = params } in
    let item = rw c.items.ensures at c.in-Some.ensures.item.3 in
    let found = last_at c.args.combos.now c.in-Some.combo.now c.in-Some.combo.now item.0 (item.1 c.in-Some.combo.now) in
    ap Some (c.in_ok-position_of-in-Some.ensures.position rows params) ∙ sym (ap (option_map (position q)) found)
