use Rattle.std.proofs.Common.{◌≡◌, ◌++◌, ◌∷◌, [], ap, subst, ◌∙◌, rules}
use Rattle.pq_schema.specs.declared.made.Definition.TheVariants.{OfCounter}
use Rattle.pq_schema.specs.Numbered.{AreNumbered}
use Rattle.pq_schema.specs.Schema.{Schema, with_counter}
use Rattle.pq_schema.proofs.Numbered.{catalog_as, counter_numbered}
use Rattle.pq_schema.proofs.Valid.{valid_sound}
use Rattle.pq_schema.proofs.catalog.Held.push_counter.Goals as goal

pub invariant_of-self-2 : goal.invariant_of-self-2
invariant_of-self-2 c =
    let inside = c.self.inside in
    let now = c.args.self.now in
    let counter = c.args.counter in
    let tns = inside.table_numbers.entries in
    let qns = inside.query_numbers.entries in
    let definitions : c.put_last.new.items.items ≡ inside.definitions.items ++ OfCounter counter ∷ [] = search rules in
    catalog_as (with_counter now counter) _ _ tns qns
    (ap (λ (s : Schema). s.tables) c.self.view_is)
    (definitions ∙ ap (λ (s : Schema). s.definitions ++ OfCounter counter ∷ []) c.self.view_is)
    (valid_sound c.requires)
    (counter_numbered now tns qns (subst (λ (s : Schema). AreNumbered s tns qns) c.self.view_is c.self.invariant.1) counter)
