use Rattle.pq_schema.proofs.Soundness.{valid_query}
use Rattle.pq_local_ops.proofs.position.places_of.Goals as goal

pub position_columns-requires : goal.position_columns-requires
position_columns-requires c = valid_query c.args.catalog.now c.args.query.now c.known.ensures c.requires

pub returns-clause-sound : goal.returns-clause-sound
returns-clause-sound c = valid_query c.args.catalog.now c.args.query.now c.known.ensures c.requires
