use Rattle.pq_opening.proofs.Leaving.{held_quiet, quiet_own}
use Rattle.pq_catalog.proofs.Standing.{empty_opens}
use Rattle.pq_laws.proofs.Unique.{opened_schema, opened_rows}
use Rattle.pq_laws.proofs.laws.standing_law.Goals as goal

pub returns-clause-empty : goal.returns-clause-empty
returns-clause-empty c = empty_opens

pub returns-clause-schema : goal.returns-clause-schema
returns-clause-schema c = opened_schema

pub returns-clause-rows : goal.returns-clause-rows
returns-clause-rows c = opened_rows

pub returns-clause-quiet : goal.returns-clause-quiet
returns-clause-quiet c = held_quiet

pub returns-clause-own : goal.returns-clause-own
returns-clause-own c = quiet_own
