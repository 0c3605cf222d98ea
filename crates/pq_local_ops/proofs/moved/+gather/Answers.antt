use Rattle.std.proofs.Common.{rules}
use Rattle.pq_local_ops.proofs.Gathered.{gathered_more}
use Rattle.pq_local_ops.proofs.moved.+gather.Goals as goal

pub returns-in-len1-up : goal.returns-in-len1-up
returns-in-len1-up t c =
    gathered_more c.args.at c.args.values.now.items c.swap.new.self.items c.gather.new.values.items c.args.cols.now _
    c.in-len1-up.len_at_least c.requires c.swap.ensures.by_index (search rules) c.gather.ensures
