use Rattle.std.proofs.Common.{List, ◌<◌, [], length, ap, subst, sym, arith}
use Rattle.std.specs.Prelude.{IfSome}
use Rattle.std.specs.List.{AllByRecursion}
use Rattle.pq_base.specs.Values.{AllFit}
use Rattle.pq_base.specs.declared.value.Value.{Value}
use Rattle.pq_schema.specs.declared.table.Table.{Table}
use Rattle.pq_schema.specs.Rows.{types_of}
use Rattle.pq_nodes.specs.Combos.{FitsTables}
use Rattle.pq_index_scan.specs.Ranged.{AreFollowed, AddsRanged}
use Rattle.pq_index_scan.proofs.Ranging.{range_table}
use Rattle.pq_index_scan.proofs.Placed.{followed_few, followed_fit, named_ranged, named_followed}
use Rattle.pq_index_scan.proofs.limit.range_secondary.Goals as goal

pub returns-clause-few : goal.returns-clause-few
returns-clause-few g c =
    let found = ap (λ (l : List (List (List Value))). length l) c.in_ok-found.ensures in
    let few = followed_few c.args.inputs.now c.items.result.now c.in_ok-rows.rows in
    let rows = c.in_ok-rows.ensures.long in
    let values = ap (λ (l : List (List Value)). length l) c.items-values.ensures in
    let most = c.in_ok-entries.ensures.entries.few in
    omega (arith, found, few, rows, values, most)

pub returns-clause-fit : goal.returns-clause-fit
returns-clause-fit g c =
    let range = c.args.range.now in
    let tables = c.args.request.now.catalog.now.tables in
    subst (AllByRecursion (FitsTables tables c.args.request.now.query.now range.rel)) (sym c.in_ok-found.ensures)
    (followed_fit c.args.inputs.now tables c.args.request.now.query.now range.rel c.requires.range.ready.is.relation.from_one c.requires.inputs c.items.result.now c.in_ok-rows.rows
    (subst (AllByRecursion (λ place. place < length c.args.inputs.now)) (sym c.items.ensures) c.in_ok-entries.ensures.entries.within)
    (subst (λ (own : Table). AllByRecursion (AllFit (types_of own)) c.in_ok-rows.rows) (sym (range_table tables c.args.request.now.query.now range c.requires.range)) c.in_ok-rows.ensures.fit))

pub returns-clause-answer : goal.returns-clause-answer
returns-clause-answer g c =
    let range = c.args.range.now in
    let tables = c.args.request.now.catalog.now.tables in
    let told = g.S.Store.content c.args.calls.now.store.now in
    subst (AddsRanged told tables c.args.request.now.query.now c.args.request.now.params.now range.rel range.limit c.args.inputs.now []) (sym c.in_ok-found.ensures)
    (named_ranged told (g.S.Store.content c.range_entries.new.calls.store.now) tables c.args.request.now.query.now c.args.request.now.params.now range c.args.inputs.now c.args.index c.in_ok-entries.ensures.spends.uses.reads.same c.requires.secondary
    c.in_ok-entries.entries c.items-values.result.now c.in_ok-rows.rows c.items.result.now c.in_ok-entries.ensures.entries c.items-values.ensures c.items.ensures c.in_ok-rows.ensures.answer)

pub returns-clause-codes : goal.returns-clause-codes
returns-clause-codes g c =
    let range = c.args.range.now in
    let tables = c.args.request.now.catalog.now.tables in
    let told = g.S.Store.content c.args.calls.now.store.now in
    subst (λ (found : List (List (List Value))). IfSome told (AreFollowed tables c.args.request.now.query.now c.args.request.now.params.now range c.args.inputs.now found)) (sym c.in_ok-found.ensures)
    (named_followed told (g.S.Store.content c.range_entries.new.calls.store.now) tables c.args.request.now.query.now c.args.request.now.params.now range c.args.inputs.now c.args.index c.in_ok-entries.ensures.spends.uses.reads.same c.requires.secondary
    c.in_ok-entries.entries c.items-values.result.now c.in_ok-rows.rows c.items.result.now c.in_ok-entries.ensures.entries.codes c.items-values.ensures c.items.ensures c.in_ok-rows.ensures.codes)
