use Rattle.pq_schema.proofs.Valid.{valid_small, valid_made}
use Rattle.pq_schema.proofs.Soundness.{valid_tables, valid_linked, valid_query}
use Rattle.pq_schema.proofs.laws.valid_laws.Goals as goal

pub returns : goal.returns
returns c = record {
  small = λ s v. valid_small v;
  made = λ s v. valid_made v;
  tables = valid_tables;
  linked = valid_linked;
  queries = valid_query;
}
