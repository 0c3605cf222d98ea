use Rattle.std.proofs.Common.{◌≡◌, ◌∙◌, sym, subst, Some, None}
use Rattle.std.specs.Map.{lookup}
use Rattle.pq_schema.specs.Numbered.{text_is}
use Rattle.pq_schema.proofs.catalog.Held.find_query.Goals as goal

pub returns-in-None : goal.returns-in-None
returns-in-None c =
    let none = subst (λ n. None ≡ lookup (text_is n) c.self.inside.query_numbers.entries) c.as_str.ensures c.in-None.ensures.value in
    rw (← c.self.view_is) (none ∙ sym (c.self.invariant.1.query c.args.name.now))

pub returns-in-Some : goal.returns-in-Some
returns-in-Some c =
    let found = subst (λ n. Some c.in-Some.number.now ≡ lookup (text_is n) c.self.inside.query_numbers.entries) c.as_str.ensures c.in-Some.ensures.value in
    rw (← c.self.view_is) (found ∙ sym (c.self.invariant.1.query c.args.name.now))
