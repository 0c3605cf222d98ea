use Rattle.std.proofs.Common.{rules, ◌≡◌, ◌-◌, ◌++◌, ◌∷◌, [], append_assoc, refl, ◌∙◌, arith}
use Rattle.std.proofs.lemmas.List.{length_push}
use Rattle.std.proofs.lemmas.Result.{err_from_is_err_and}
use Rattle.std.specs.Vec.Iter.{into_iter_items}
use Rattle.pq_schema.proofs.Soundness.{valid_query}
use Rattle.pq_store.specs.Rounds.{IsValueOf, IsValueAnswered}
use Rattle.pq_calls.specs.Calls.{seen_world}
use Rattle.pq_nodes.specs.Combos.{FitsTables}
use Rattle.pq_fk_join.specs.Joined.{tied_at}
use Rattle.pq_fk_join.proofs.Asked.{none_asked, at_here, asked_here, join_stops, one_joined, one_looked_up, one_fits}
use Rattle.pq_fk_join.proofs.Coded.{adds_more, looks_up_more}
use Rattle.pq_fk_join.proofs.join.join_several.Goals as goal

pub table_of-table-requires-clause-query : goal.table_of-table-requires-clause-query
table_of-table-requires-clause-query g c = valid_query c.args.request.now.catalog.now c.args.request.now.query.now c.known.ensures c.requires.asked.resolved

pub join_one-requires-clause-unasked : goal.join_one-requires-clause-unasked
join_one-requires-clause-unasked g c =
    let there : c.loop-input.yielded ++ c.in-Some.input ∷ into_iter_items c.next.new.self ≡ c.args.inputs = search rules in
    let at = c.index-items-place.result in
    let code = c.index-items-place-in-loop-input.result in
    let asked = c.in_ok-asked.asked in
    let codes = c.in_ok-codes.codes in
    let asked_is = c.in_ok-asked.ensures in
    none_asked g.S.Store.answers at code
    (asked_here (tied_at c.args.request.now.catalog.now.tables c.args.request.now.query.now c.args.request.now.params.now c.args.rel) c.args.inputs c.loop-input.yielded c.in-Some.input (into_iter_items c.next.new.self) there asked codes
    (search rules) c.loop-input.place c.loop-input.invariant.place at code (search rules) (search rules) (IsValueAnswered g.S.Store.answers) (search rules))

pub returns-in_err-join_one-clause-stops : goal.returns-in_err-join_one-clause-stops
returns-in_err-join_one-clause-stops g c =
    let there : c.loop-input.yielded ++ c.in-Some.input ∷ into_iter_items c.next.new.self ≡ c.args.inputs = search rules in
    let fits : FitsTables c.args.request.now.catalog.now.tables c.args.request.now.query.now (c.args.rel - 1) c.in-Some.input = search rules in
    let tied = tied_at c.args.request.now.catalog.now.tables c.args.request.now.query.now c.args.request.now.params.now c.args.rel in
    let at = c.index-items-place.result in
    let code = c.index-items-place-in-loop-input.result in
    let asked = c.in_ok-asked.asked in
    let codes = c.in_ok-codes.codes in
    let p = err_from_is_err_and c.from_residual-in_err-join_one.result c.from_residual-in_err-join_one.ensures.1 in
    let s = join_stops c.args.request.now.catalog.now c.args.request.now.query.now c.args.request.now.params.now c.args.rel c.in-Some.input c.requires.asked c.requires.lookup fits
    c.table_of-table.result.now c.table_of-table.ensures.table at
    (at_here tied c.args.inputs c.loop-input.yielded c.in-Some.input (into_iter_items c.next.new.self) there asked codes (search rules) c.loop-input.place c.loop-input.invariant.place at code (search rules) (search rules))
    g.S.Store.answers code
    (asked_here tied c.args.inputs c.loop-input.yielded c.in-Some.input (into_iter_items c.next.new.self) there asked codes (search rules) c.loop-input.place c.loop-input.invariant.place at code (search rules) (search rules) (IsValueAnswered g.S.Store.answers) (search rules))
    (seen_world g.S.Store.content g.S.Store.faults c.args.calls.now) (seen_world g.S.Store.content g.S.Store.faults c.gets.new.self)
    (asked_here tied c.args.inputs c.loop-input.yielded c.in-Some.input (into_iter_items c.next.new.self) there asked codes (search rules) c.loop-input.place c.loop-input.invariant.place at code (search rules) (search rules) (IsValueOf (g.S.Store.content c.args.calls.now.store.now)) (search rules))
    c.in_err-join_one.field-0.0 c.in_err-join_one.ensures.cause in
    rw (p.1, p.2) (record { cause = s.0; answered = s.1 })

pub loop-input-preserved : goal.loop-input-preserved
loop-input-preserved g c =
    let h = c.loop-input.invariant in
    let one = c.in_ok-join_one.ensures in
    let more = length_push c.loop-input.yielded c.in-Some.input in
    let there : c.loop-input.yielded ++ c.in-Some.input ∷ into_iter_items c.next.new.self ≡ c.args.inputs = search rules in
    let fits : FitsTables c.args.request.now.catalog.now.tables c.args.request.now.query.now (c.args.rel - 1) c.in-Some.input = search rules in
    let tables = c.args.request.now.catalog.now.tables in
    let told = g.S.Store.content c.args.calls.now.store.now in
    let tied = tied_at tables c.args.request.now.query.now c.args.request.now.params.now c.args.rel in
    let at = c.index-items-place.result in
    let code = c.index-items-place-in-loop-input.result in
    let asked = c.in_ok-asked.asked in
    let codes = c.in_ok-codes.codes in
    let at_is : at ≡ tied c.in-Some.input = at_here tied c.args.inputs c.loop-input.yielded c.in-Some.input (into_iter_items c.next.new.self) there asked codes (search rules) c.loop-input.place h.place at code (search rules) (search rules) in
    let answered : IsValueAnswered g.S.Store.answers at code = asked_here tied c.args.inputs c.loop-input.yielded c.in-Some.input (into_iter_items c.next.new.self) there asked codes (search rules) c.loop-input.place h.place at code (search rules) (search rules) (IsValueAnswered g.S.Store.answers) (search rules) in
    let value : IsValueOf told at code = asked_here tied c.args.inputs c.loop-input.yielded c.in-Some.input (into_iter_items c.next.new.self) there asked codes (search rules) c.loop-input.place h.place at code (search rules) (search rules) (IsValueOf told) (search rules) in
    let joined = one_joined c.args.request.now.catalog.now c.args.request.now.query.now c.args.request.now.params.now c.args.rel c.in-Some.input c.requires.asked c.requires.lookup fits c.table_of-table.result.now c.table_of-table.ensures.table at at_is g.S.Store.answers code answered c.known.ensures told value c.loop-input.found c.join_one.new.found one.adds in
    let looked = one_looked_up c.args.request.now.catalog.now c.args.request.now.query.now c.args.request.now.params.now c.args.rel c.in-Some.input c.requires.asked c.requires.lookup fits c.table_of-table.result.now c.table_of-table.ensures.table at at_is g.S.Store.answers code answered c.known.ensures told value c.loop-input.found c.join_one.new.found one.adds in
    record {
      whole = append_assoc c.loop-input.yielded (c.in-Some.input ∷ []) (into_iter_items c.next.new.self) ∙ there;
      place = omega (arith, more, h.place);
      few = omega (arith, more, one.few, h.few);
      left = search rules;
      fit = one_fits c.args.request.now.catalog.now c.args.request.now.query.now c.args.request.now.params.now c.args.rel c.in-Some.input c.requires.asked c.requires.lookup fits c.table_of-table.result.now c.table_of-table.ensures.table at at_is g.S.Store.answers code answered c.known.ensures told value c.loop-input.found c.join_one.new.found one.adds h.fit;
      codes = adds_more tables c.args.request.now.query.now c.args.request.now.params.now c.args.rel told told c.loop-input.yielded c.in-Some.input c.loop-input.found c.join_one.new.found refl joined h.codes;
      answer = looks_up_more tables c.args.request.now.query.now c.args.request.now.params.now c.args.rel told told c.loop-input.yielded c.in-Some.input c.loop-input.found c.join_one.new.found refl looked h.answer;
    }
