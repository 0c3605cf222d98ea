use Rattle.pq_runnable.proofs.Indexes.{group_found, serving_found, new_serves}
use Rattle.pq_runnable.proofs.laws.index_laws.Goals as goal

pub returns : goal.returns
returns c = record {
  group = group_found;
  serving = serving_found;
  wanted = λ tables query p resolved. new_serves tables query p resolved;
}
