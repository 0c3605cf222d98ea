use Rattle.std.proofs.Common.{ap}
use Rattle.std.specs.List.{flat_map}
use Rattle.pq_mem_store.proofs.runs.RunsRun.new.Goals as goal

pub returns : goal.returns
returns g c = ap (flat_map g.R.Begins.pairs) c.new.ensures.items
