use Rattle.std.proofs.Common.{List, ◌-◌, [], get_or, take, subst, sym}
use Rattle.std.proofs.lemmas.List.{get_or_default}
use Rattle.std.proofs.lemmas.Result.{err_from_is_err_and}
use Rattle.pq_base.specs.declared.value.Value.{Value}
use Rattle.pq_calls.specs.Calls.{seen_world}
use Rattle.pq_calls.specs.World.{where_told}
use Rattle.pq_nodes.specs.Combos.{FitsTables}
use Rattle.pq_nodes.specs.Operators.{ShowsRead}
use Rattle.pq_entries.proofs.Naming.{each_item}
use Rattle.pq_entries.proofs.Told.{unread_explains}
use Rattle.pq_scan.proofs.Steps.{length_front}
use Rattle.pq_index_scan.specs.Ranged.{AreEntriesBehind, IsPartBehind}
use Rattle.pq_index_scan.proofs.Following.{first_more}
use Rattle.pq_index_scan.proofs.Parts.{part_at, answered_at, part_front, part_unread, part_answered}
use Rattle.pq_index_scan.proofs.Placed.{more_entries}
use Rattle.pq_index_scan.proofs.limit.range_entries.Goals as goal

pub add_part-requires-clause-front : goal.add_part-requires-clause-front
add_part-requires-clause-front g c =
    let tables = c.args.request.now.catalog.now.tables in
    let told = g.S.Store.content c.args.calls.now.store.now in
    let inputs = c.args.inputs.now in
    let place = c.loop-place.place in
    let input = get_or inputs place [] in
    let part = c.items-part.result.now in
    let behind : IsPartBehind told tables c.args.request.now.query.now c.args.request.now.params.now c.args.range.now input part =
    part_at told tables c.args.request.now.query.now c.args.request.now.params.now c.args.range.now inputs c.in_ok-parts.parts c.items.result.now place input c.index-items-place.result part
    c.in_ok-parts.ensures.parts c.loop-place-test.true (get_or_default inputs place [] input c.loop-place-test.true) c.items.ensures c.index-items-place.is c.items-part.ensures in
    part_front tables c.args.request.now.query.now c.args.request.now.params.now c.args.range.now input told part behind

pub returns-in_err-add_part-clause-stops : goal.returns-in_err-add_part-clause-stops
returns-in_err-add_part-clause-stops g c =
    let tables = c.args.request.now.catalog.now.tables in
    let told = g.S.Store.content c.args.calls.now.store.now in
    let inputs = c.args.inputs.now in
    let place = c.loop-place.place in
    let input = get_or inputs place [] in
    let part = c.items-part.result.now in
    let why = c.in_err-add_part.field-0.0 in
    let behind : IsPartBehind told tables c.args.request.now.query.now c.args.request.now.params.now c.args.range.now input part =
    part_at told tables c.args.request.now.query.now c.args.request.now.params.now c.args.range.now inputs c.in_ok-parts.parts c.items.result.now place input c.index-items-place.result part
    c.in_ok-parts.ensures.parts c.loop-place-test.true (get_or_default inputs place [] input c.loop-place-test.true) c.items.ensures c.index-items-place.is c.items-part.ensures in
    let p = err_from_is_err_and c.from_residual-in_err-add_part.result c.from_residual-in_err-add_part.ensures.1 in
    rw (p.1, p.2)
    (record {
      cause = unread_explains (where_told (ShowsRead tables)) (seen_world g.S.Store.content g.S.Store.faults c.args.calls.now) (seen_world g.S.Store.content g.S.Store.faults c.all_parts.new.calls) why
          (part_unread tables c.args.request.now.query.now c.args.request.now.params.now c.args.range.now input told part behind why c.in_err-add_part.ensures.cause c.in_err-add_part.ensures.tells);
      answered = part_answered tables c.args.request.now.query.now c.args.request.now.params.now c.args.range.now input told part behind g.S.Store.answers
          (answered_at g.S.Store.answers inputs c.in_ok-parts.parts c.items.result.now place c.index-items-place.result part c.in_ok-parts.ensures.answers c.in_ok-parts.ensures.long c.loop-place-test.true c.items.ensures c.index-items-place.is c.items-part.ensures)
          why c.in_err-add_part.ensures.tells;
    })

pub loop-place-preserved : goal.loop-place-preserved
loop-place-preserved g c =
    let tables = c.args.request.now.catalog.now.tables in
    let range = c.args.range.now in
    let told = g.S.Store.content c.args.calls.now.store.now in
    let inputs = c.args.inputs.now in
    let place = c.loop-place.place in
    let input = get_or inputs place [] in
    let part = c.items-part.result.now in
    let at = get_or_default inputs place [] input c.loop-place-test.true in
    let behind : IsPartBehind told tables c.args.request.now.query.now c.args.request.now.params.now range input part =
    part_at told tables c.args.request.now.query.now c.args.request.now.params.now range inputs c.in_ok-parts.parts c.items.result.now place input c.index-items-place.result part
    c.in_ok-parts.ensures.parts c.loop-place-test.true at c.items.ensures c.index-items-place.is c.items-part.ensures in
    let fits = each_item (FitsTables tables c.args.request.now.query.now (range.rel - 1)) inputs place input c.requires.inputs c.loop-place-test.true at in
    subst (λ (first : List (List (List Value))). AreEntriesBehind told tables c.args.request.now.query.now c.args.request.now.params.now range inputs first c.add_part.new.entries) (sym (first_more inputs place input c.loop-place-test.true at))
    (more_entries told tables c.args.request.now.query.now c.args.request.now.params.now range inputs c.requires.asked c.requires.range place input c.loop-place-test.true at fits part behind (take place inputs) (length_front inputs place c.loop-place-test.true) c.loop-place.entries c.add_part.new.entries c.loop-place.invariant c.in_ok-add_part.ensures.adds)
