use Rattle.pq_parts.proofs.Gather.{no_count}
use Rattle.pq_parts.proofs.part_store.PartStore.count_at.Goals as goal

pub returns-in-Err-clause-number : goal.returns-in-Err-clause-number
returns-in-Err-clause-number g c = no_count g.S.Store.content c.args.self.now.parts c.args.at c.requires c.args.low.now c.args.high.now c.args.cap c.args.self.now.tally _
