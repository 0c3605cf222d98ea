use Rattle.std.proofs.Common.{◌≡◌, ◌≤◌, ◌∙◌, sym, subst, Some, length}
use Rattle.std.specs.Prelude.{IfSome}
use Rattle.std.specs.Map.{lookup}
use Rattle.pq_schema.specs.Numbered.{text_is}
use Rattle.pq_schema.specs.Schema.{find_table}
use Rattle.pq_schema.proofs.Numbered.{table_there}
use Rattle.pq_schema.proofs.catalog.Held.find_table.Goals as goal

pub returns-in-Some-clause-there : goal.returns-in-Some-clause-there
returns-in-Some-clause-there c =
    let found = subst (λ n. Some c.in-Some.number.now ≡ lookup (text_is n) c.self.inside.table_numbers.entries) c.as_str.ensures c.in-Some.ensures.value in
    let here : find_table c.args.self.now c.args.name.now ≡ Some c.in-Some.number.now = rw (← c.self.view_is) (c.self.invariant.1.table c.args.name.now ∙ sym found) in
    subst (λ r. IfSome r (λ n. (1 ≤ n) × (n ≤ length c.args.self.now.tables))) here (table_there c.args.self.now c.args.name.now)
