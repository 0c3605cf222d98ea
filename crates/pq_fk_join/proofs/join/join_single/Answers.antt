use Rattle.std.proofs.Common.{◌≡◌, ◌-◌, ◌∷◌, [], List, length, sym, ap, subst, arith}
use Rattle.std.specs.List.{AllByRecursion}
use Rattle.std.proofs.lemmas.Result.{err_from_is_err_and}
use Rattle.pq_base.specs.declared.value.Value.{Value}
use Rattle.pq_schema.proofs.Soundness.{valid_query}
use Rattle.pq_calls.specs.Calls.{seen_world}
use Rattle.pq_nodes.specs.Combos.{FitsTables}
use Rattle.pq_fk_join.specs.Joined.{AddsJoined, AddsLookedUp}
use Rattle.pq_fk_join.proofs.Asked.{join_stops, one_joined, one_looked_up, one_fits}
use Rattle.pq_fk_join.proofs.join.join_single.Goals as goal

pub table_of-table-requires-clause-query : goal.table_of-table-requires-clause-query
table_of-table-requires-clause-query g c = valid_query c.args.request.now.catalog.now c.args.request.now.query.now c.known.ensures c.requires.asked.resolved

pub returns-in_err-join_one-clause-stops : goal.returns-in_err-join_one-clause-stops
returns-in_err-join_one-clause-stops g c =
    let fits = (subst (AllByRecursion (FitsTables c.args.request.now.catalog.now.tables c.args.request.now.query.now (c.args.rel - 1))) c.only-input.ensures.only c.requires.inputs).0 in
    let p = err_from_is_err_and c.from_residual-in_err-join_one.result c.from_residual-in_err-join_one.ensures.1 in
    let s = join_stops c.args.request.now.catalog.now c.args.request.now.query.now c.args.request.now.params.now c.args.rel c.only-input.result.0 c.requires.asked c.requires.lookup fits
    c.table_of-table.result.now c.table_of-table.ensures.table c.in_ok-asked.asked c.in_ok-asked.ensures g.S.Store.answers c.in_ok-code.code c.in_ok-code.ensures.answers
    (seen_world g.S.Store.content g.S.Store.faults c.args.calls.now) (seen_world g.S.Store.content g.S.Store.faults c.asked_code.new.calls)
    c.in_ok-code.ensures.answer c.in_err-join_one.field-0.0 c.in_err-join_one.ensures.cause in
    rw (p.1, p.2) (record { cause = s.0; answered = s.1 })

pub returns-clause-found : goal.returns-clause-found
returns-clause-found g c =
    let fits = (subst (AllByRecursion (FitsTables c.args.request.now.catalog.now.tables c.args.request.now.query.now (c.args.rel - 1))) c.only-input.ensures.only c.requires.inputs).0 in
    let none : length c.only-input.result.1 ≡ 0 = ap length c.only-input.ensures.left in
    record {
      few = omega (arith, c.in_ok-join_one.ensures.few, none);
      fit = one_fits c.args.request.now.catalog.now c.args.request.now.query.now c.args.request.now.params.now c.args.rel c.only-input.result.0 c.requires.asked c.requires.lookup fits
          c.table_of-table.result.now c.table_of-table.ensures.table c.in_ok-asked.asked c.in_ok-asked.ensures g.S.Store.answers c.in_ok-code.code c.in_ok-code.ensures.answers
          c.known.ensures (g.S.Store.content c.args.calls.now.store.now) c.in_ok-code.ensures.answer c.only-input.result.1 c.join_one.new.found c.in_ok-join_one.ensures.adds
          (subst (AllByRecursion (FitsTables c.args.request.now.catalog.now.tables c.args.request.now.query.now c.args.rel)) (sym c.only-input.ensures.left) tt);
    }

pub returns-clause-codes : goal.returns-clause-codes
returns-clause-codes g c =
    let fits = (subst (AllByRecursion (FitsTables c.args.request.now.catalog.now.tables c.args.request.now.query.now (c.args.rel - 1))) c.only-input.ensures.only c.requires.inputs).0 in
    let told = g.S.Store.content c.args.calls.now.store.now in
    subst (λ (inputs : List (List (List Value))). AddsJoined told c.args.request.now.catalog.now.tables c.args.request.now.query.now c.args.request.now.params.now c.args.rel inputs [] c.join_one.new.found) (sym c.only-input.ensures.only)
    (subst (λ (before : List (List (List Value))). AddsJoined told c.args.request.now.catalog.now.tables c.args.request.now.query.now c.args.request.now.params.now c.args.rel (c.only-input.result.0 ∷ []) before c.join_one.new.found) c.only-input.ensures.left
    (one_joined c.args.request.now.catalog.now c.args.request.now.query.now c.args.request.now.params.now c.args.rel c.only-input.result.0 c.requires.asked c.requires.lookup fits
    c.table_of-table.result.now c.table_of-table.ensures.table c.in_ok-asked.asked c.in_ok-asked.ensures g.S.Store.answers c.in_ok-code.code c.in_ok-code.ensures.answers
    c.known.ensures told c.in_ok-code.ensures.answer c.only-input.result.1 c.join_one.new.found c.in_ok-join_one.ensures.adds))

pub returns-clause-answer : goal.returns-clause-answer
returns-clause-answer g c =
    let fits = (subst (AllByRecursion (FitsTables c.args.request.now.catalog.now.tables c.args.request.now.query.now (c.args.rel - 1))) c.only-input.ensures.only c.requires.inputs).0 in
    let told = g.S.Store.content c.args.calls.now.store.now in
    subst (λ (inputs : List (List (List Value))). AddsLookedUp told c.args.request.now.catalog.now.tables c.args.request.now.query.now c.args.request.now.params.now c.args.rel inputs [] c.join_one.new.found) (sym c.only-input.ensures.only)
    (subst (λ (before : List (List (List Value))). AddsLookedUp told c.args.request.now.catalog.now.tables c.args.request.now.query.now c.args.request.now.params.now c.args.rel (c.only-input.result.0 ∷ []) before c.join_one.new.found) c.only-input.ensures.left
    (one_looked_up c.args.request.now.catalog.now c.args.request.now.query.now c.args.request.now.params.now c.args.rel c.only-input.result.0 c.requires.asked c.requires.lookup fits
    c.table_of-table.result.now c.table_of-table.ensures.table c.in_ok-asked.asked c.in_ok-asked.ensures g.S.Store.answers c.in_ok-code.code c.in_ok-code.ensures.answers
    c.known.ensures told c.in_ok-code.ensures.answer c.only-input.result.1 c.join_one.new.found c.in_ok-join_one.ensures.adds))
