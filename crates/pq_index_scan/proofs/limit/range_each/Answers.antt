use Rattle.std.proofs.Common.{length}
use Rattle.pq_index_scan.proofs.Following.{secondary_share, secondary_spends}
use Rattle.pq_index_scan.proofs.limit.range_each.Goals as goal

pub range_secondary-requires-clause-share : goal.range_secondary-requires-clause-share
range_secondary-requires-clause-share g c =
    secondary_share c.args.request.now.catalog.now.tables c.args.request.now.query.now c.args.range.now c.requires.range c.in-Secondary.index c.in-Secondary.is c.args.calls.now.allowance.now (length c.args.inputs.now) c.requires.share

pub returns-in-Secondary-clause-spends : goal.returns-in-Secondary-clause-spends
returns-in-Secondary-clause-spends g c =
    secondary_spends c.args.request.now.catalog.now.tables c.args.request.now.query.now c.args.range.now c.requires.range c.in-Secondary.index c.in-Secondary.is g.S.Store c.args.calls.now c.range_secondary.new.calls (length c.args.inputs.now) c.range_secondary.ensures.spends
