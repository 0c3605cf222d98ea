use Rattle.std.proofs.Common.{◌≡◌, ◌+◌, ◌-◌, ℕ, get_or, sym, ap, ◌∙◌, subst, arith}
use Rattle.pq_schema.specs.Schema.{no_definition}
use Rattle.pq_schema.specs.declared.made.Definition.{Definition}
use Rattle.pq_tallies.specs.Defined.{numbered_of}
use Rattle.pq_counters.specs.Bounds.{all_moves}
use Rattle.pq_counters.specs.Steps.{HasSmallCounter}
use Rattle.pq_counters.proofs.Small.{moves_more, all_taken}
use Rattle.pq_counters.proofs.bound.all_moves.Goals as goal

pub definition_moves-sum-requires-clause-columns : goal.definition_moves-sum-requires-clause-columns
definition_moves-sum-requires-clause-columns c =
    let definitions = c.args.catalog.now.definitions in
    let place : c.loop-place.place + 1 - 1 ≡ c.loop-place.place = omega arith in
    rw c.definition_at.ensures (subst (λ n. HasSmallCounter (get_or definitions n no_definition)) (sym place) (c.requires.columns c.loop-place.place no_definition (omega arith)))

pub loop-place-preserved : goal.loop-place-preserved
loop-place-preserved c =
    let definitions = c.args.catalog.now.definitions in
    let w = c.args.write.now in
    let moves = c.definition_moves-sum.result in
    let place : c.loop-place.place + 1 - 1 ≡ c.loop-place.place = omega arith in
    let at : c.definition_at.result.now ≡ get_or definitions c.loop-place.place no_definition = c.definition_at.ensures ∙ ap (λ n. get_or definitions n no_definition) place in
    let here : (number : ℕ) → moves ≡ all_moves (numbered_of number (get_or definitions c.loop-place.place no_definition)) w = λ number. subst (λ (d : Definition). moves ≡ all_moves (numbered_of number d) w) at (c.definition_moves-sum.ensures.moves number) in (
      ap (λ n. n + moves) c.loop-place.invariant.0 ∙ sym (moves_more w definitions c.loop-place.place no_definition moves (omega arith) here),
      let few = c.definition_moves-sum.ensures.few in let most = c.loop-place.invariant.1 in omega arith,
    )

pub returns-clause-moves : goal.returns-clause-moves
returns-clause-moves c = all_taken c.args.write.now c.args.catalog.now c.loop-place.place c.loop-place.sum (omega arith) c.loop-place.invariant.0
