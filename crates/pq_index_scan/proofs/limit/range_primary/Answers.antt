use Rattle.std.proofs.Common.{List, ◌-◌, [], take, subst, sym, arith}
use Rattle.std.specs.Prelude.{IfSome}
use Rattle.std.proofs.lemmas.Result.{err_from_is_err_and}
use Rattle.pq_base.specs.declared.value.Value.{Value}
use Rattle.pq_schema.specs.declared.table.Access.{Access}
use Rattle.pq_calls.specs.Calls.{seen_world}
use Rattle.pq_calls.specs.World.{where_told}
use Rattle.pq_nodes.specs.Combos.{FitsTables}
use Rattle.pq_nodes.specs.Operators.{ShowsRead}
use Rattle.pq_entries.specs.Entries.{OfEachRange, IsUnread}
use Rattle.pq_entries.proofs.Naming.{each_item}
use Rattle.pq_entries.proofs.Told.{unread_explains}
use Rattle.pq_index_scan.specs.Ranged.{AreFollowed, AddsRanged, IsPartBehind}
use Rattle.pq_index_scan.proofs.Following.{first_more}
use Rattle.pq_index_scan.proofs.Parts.{part_at, answered_at, part_unread, part_answered, follows_few, follows_fit, follows_rows, follows_ranged}
use Rattle.pq_index_scan.proofs.Read.{followed_next}
use Rattle.pq_index_scan.proofs.limit.range_primary.Goals as goal

pub returns-in_err-follow_part-clause-stops : goal.returns-in_err-follow_part-clause-stops
returns-in_err-follow_part-clause-stops g c =
    let tables = c.args.request.now.catalog.now.tables in
    let told = g.S.Store.content c.args.calls.now.store.now in
    let input = c.index-inputs-place.result in
    let part = c.items-in-loop-place.result.now in
    let why = c.in_err-follow_part.field-0.0 in
    let behind : IsPartBehind told tables c.args.request.now.query.now c.args.request.now.params.now c.args.range.now input part =
    part_at told tables c.args.request.now.query.now c.args.request.now.params.now c.args.range.now c.args.inputs.now c.in_ok-parts.parts c.items.result.now c.loop-place.place input c.index-items-place.result part
    c.in_ok-parts.ensures.parts c.loop-place-test.true c.index-inputs-place.is c.items.ensures c.index-items-place.is c.items-in-loop-place.ensures in
    let p = err_from_is_err_and c.from_residual-in_err-follow_part.result c.from_residual-in_err-follow_part.ensures.1 in
    rw (p.1, p.2)
    (record {
      cause = unread_explains (where_told (ShowsRead tables)) (seen_world g.S.Store.content g.S.Store.faults c.args.calls.now) (seen_world g.S.Store.content g.S.Store.faults c.all_parts.new.calls) why
          (part_unread tables c.args.request.now.query.now c.args.request.now.params.now c.args.range.now input told part behind why
          (subst (λ (a : Access). OfEachRange c.args.range.now.number a part (λ told low high limit. IsUnread (where_told (ShowsRead tables) told) why)) (sym c.requires.primary) c.in_err-follow_part.ensures.cause)
          c.in_err-follow_part.ensures.tells);
      answered = part_answered tables c.args.request.now.query.now c.args.request.now.params.now c.args.range.now input told part behind g.S.Store.answers
          (answered_at g.S.Store.answers c.args.inputs.now c.in_ok-parts.parts c.items.result.now c.loop-place.place c.index-items-place.result part c.in_ok-parts.ensures.answers c.in_ok-parts.ensures.long c.loop-place-test.true c.items.ensures c.index-items-place.is c.items-in-loop-place.ensures)
          why c.in_err-follow_part.ensures.tells;
    })

pub loop-place-preserved : goal.loop-place-preserved
loop-place-preserved g c =
    let h = c.loop-place.invariant in
    let tables = c.args.request.now.catalog.now.tables in
    let range = c.args.range.now in
    let told = g.S.Store.content c.args.calls.now.store.now in
    let input = c.index-inputs-place.result in
    let part = c.items-in-loop-place.result.now in
    let behind : IsPartBehind told tables c.args.request.now.query.now c.args.request.now.params.now range input part =
    part_at told tables c.args.request.now.query.now c.args.request.now.params.now range c.args.inputs.now c.in_ok-parts.parts c.items.result.now c.loop-place.place input c.index-items-place.result part
    c.in_ok-parts.ensures.parts c.loop-place-test.true c.index-inputs-place.is c.items.ensures c.index-items-place.is c.items-in-loop-place.ensures in
    let fits = each_item (FitsTables tables c.args.request.now.query.now (range.rel - 1)) c.args.inputs.now c.loop-place.place input c.requires.inputs c.loop-place-test.true c.index-inputs-place.is in
    let before = c.loop-place.found in
    let after = c.follow_part.new.found in
    let adds = c.in_ok-follow_part.ensures.follows in
    let few = follows_few tables c.args.request.now.query.now c.args.request.now.params.now range input told part behind c.requires.asked c.requires.range fits c.requires.primary before after adds in
    record {
      few = omega (arith, few, h.few);
      fit = follows_fit tables c.args.request.now.query.now c.args.request.now.params.now range input told part behind c.requires.asked c.requires.range fits c.requires.primary before after adds h.fit;
      codes = subst (λ (first : List (List (List Value))). IfSome told (AreFollowed tables c.args.request.now.query.now c.args.request.now.params.now range first after)) (sym (first_more c.args.inputs.now c.loop-place.place input c.loop-place-test.true c.index-inputs-place.is))
          (followed_next tables c.args.request.now.query.now c.args.request.now.params.now range told (take c.loop-place.place c.args.inputs.now) input adds.rows before after h.codes
          (follows_rows tables c.args.request.now.query.now c.args.request.now.params.now range input told part behind c.requires.asked c.requires.range fits c.requires.primary before after adds) adds.is);
      answer = subst (λ (first : List (List (List Value))). AddsRanged told tables c.args.request.now.query.now c.args.request.now.params.now range.rel range.limit first [] after) (sym (first_more c.args.inputs.now c.loop-place.place input c.loop-place-test.true c.index-inputs-place.is))
          (follows_ranged tables c.args.request.now.query.now c.args.request.now.params.now range input told part behind c.requires.asked c.requires.range fits c.requires.primary before after adds (take c.loop-place.place c.args.inputs.now) h.answer);
    }
