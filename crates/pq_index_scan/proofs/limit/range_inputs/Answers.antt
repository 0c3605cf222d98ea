use Rattle.std.proofs.Common.{length}
use Rattle.pq_index_scan.proofs.Following.{node_inputs, node_share, node_spends, node_found, node_codes, node_answers}
use Rattle.pq_index_scan.proofs.limit.range_inputs.Goals as goal

pub range_each-requires-clause-inputs : goal.range_each-requires-clause-inputs
range_each-requires-clause-inputs g c =
    let is = c.in_ok-range.ensures in
    node_inputs c.args.request.now.catalog.now.tables c.args.request.now.query.now c.in_ok-range.range is.range c.args.rel c.args.limit c.args.access is.rel is.limit is.access c.args.inputs.now c.requires.inputs

pub range_each-requires-clause-share : goal.range_each-requires-clause-share
range_each-requires-clause-share g c =
    let is = c.in_ok-range.ensures in
    node_share c.args.request.now.catalog.now.tables c.args.request.now.query.now c.in_ok-range.range is.range c.args.rel c.args.limit c.args.access is.rel is.limit is.access c.args.calls.now.allowance.now (length c.args.inputs.now) c.requires.share

pub returns-clause-spends : goal.returns-clause-spends
returns-clause-spends g c =
    let is = c.in_ok-range.ensures in
    node_spends c.args.request.now.catalog.now.tables c.args.request.now.query.now c.in_ok-range.range is.range c.args.rel c.args.limit c.args.access is.rel is.limit is.access g.S.Store c.args.calls.now c.range_each.new.calls (length c.args.inputs.now) c.range_each.ensures.spends

pub returns-clause-found : goal.returns-clause-found
returns-clause-found g c =
    let is = c.in_ok-range.ensures in
    node_found c.args.request.now.catalog.now.tables c.args.request.now.query.now c.in_ok-range.range is.range c.args.rel c.args.limit c.args.access is.rel is.limit is.access (length c.args.inputs.now) c.range_each.result c.range_each.ensures.few c.range_each.ensures.fit

pub returns-clause-answer : goal.returns-clause-answer
returns-clause-answer g c =
    let is = c.in_ok-range.ensures in
    node_answers c.args.request.now.catalog.now.tables c.args.request.now.query.now c.in_ok-range.range is.range c.args.rel c.args.limit c.args.access is.rel is.limit is.access (g.S.Store.content c.args.calls.now.store.now) c.args.request.now.params.now c.args.inputs.now c.range_each.result c.range_each.ensures.answer

pub returns-clause-codes : goal.returns-clause-codes
returns-clause-codes g c =
    let is = c.in_ok-range.ensures in
    node_codes c.args.request.now.catalog.now.tables c.args.request.now.query.now c.in_ok-range.range is.range c.args.rel c.args.limit c.args.access is.rel is.limit is.access (g.S.Store.content c.args.calls.now.store.now) c.args.request.now.params.now c.args.inputs.now c.range_each.result c.range_each.ensures.codes
