use Rattle.pq_added.proofs.Grown.{row_at-grown, row_pairs-grown, pairs-grown, keeps-grown}
use Rattle.pq_added.proofs.laws.column_laws.Goals as goal

pub returns-clause-found : goal.returns-clause-found
returns-clause-found c tables t column filler rows made is keeps = row_at-grown tables t column filler made is rows keeps

pub returns-clause-row_pairs : goal.returns-clause-row_pairs
returns-clause-row_pairs c tables t column filler rows made is few keeps = row_pairs-grown tables t column filler made is few rows keeps

pub returns-clause-pairs : goal.returns-clause-pairs
returns-clause-pairs c tables t column filler rows others made is few keeps = pairs-grown tables t column filler made is few rows others keeps

pub returns-clause-keeps : goal.returns-clause-keeps
returns-clause-keeps c tables t column filler rows made is few keeps fits = keeps-grown tables t column filler made is few rows keeps fits
