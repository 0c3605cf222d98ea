use Rattle.std.proofs.Common.{List, sym, ap, ◌∙◌}
use Rattle.std.specs.Prelude.{option_map, position}
use Rattle.pq_schema.specs.declared.made.Definition.{Definition}
use Rattle.pq_schema.specs.Schema.{is_counter, number_of}
use Rattle.pq_schema.proofs.Counters.{found_counter}
use Rattle.pq_schema.proofs.catalog.Catalog.find_counter.Goals as goal

pub returns-in-None-clause-found : goal.returns-in-None-clause-found
returns-in-None-clause-found c =
    let at = c.counter_place.ensures ∙ ap (λ (ds : List Definition). position (is_counter c.args.name.now) ds) c.definitions.ensures.definitions in
    ap (option_map number_of) (sym c.in-None.is ∙ at)

pub returns-in-Some-clause-found : goal.returns-in-Some-clause-found
returns-in-Some-clause-found c =
    let at = c.counter_place.ensures ∙ ap (λ (ds : List Definition). position (is_counter c.args.name.now) ds) c.definitions.ensures.definitions in
    ap (option_map number_of) (sym c.in-Some.is ∙ at)

pub returns-in-Some-clause-there : goal.returns-in-Some-clause-there
returns-in-Some-clause-there c =
    found_counter c.args.self.now c.args.name.now _ (sym (returns-in-Some-clause-found c))
