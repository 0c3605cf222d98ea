use Rattle.pq_parts.proofs.Gather.{no_piece}
use Rattle.pq_parts.proofs.part_store.PartStore.range_at.Goals as goal

pub returns-in-Err-clause-piece : goal.returns-in-Err-clause-piece
returns-in-Err-clause-piece g c = no_piece g.S.Store.content c.args.self.now.parts c.end_of.ensures.placed c.args.at c.requires c.args.low.now c.args.high.now c.args.limit c.args.self.now.tally _
