use Rattle.std.proofs.Common.{◌+◌, refl}
use Rattle.pq_content.proofs.Scans.{rows_under, rows_counted, entries_under, entries_counted, group_by_first}
use Rattle.pq_content.proofs.laws.range_laws.Goals as goal

pub returns-clause-rows : goal.returns-clause-rows
returns-clause-rows c tables rows others keeps catalog = rows_under tables rows others keeps.fit keeps.apart catalog

pub returns-clause-row_count : goal.returns-clause-row_count
returns-clause-row_count c tables rows others keeps catalog = rows_counted tables rows others keeps.fit keeps.apart catalog

pub returns-clause-entries : goal.returns-clause-entries
returns-clause-entries c tables rows others keeps catalog t place index has = entries_under tables rows others keeps.fit keeps.apart catalog t place index has (1 + place) refl

pub returns-clause-entry_count : goal.returns-clause-entry_count
returns-clause-entry_count c tables rows others keeps catalog t place index has = entries_counted tables rows others keeps.fit keeps.apart catalog t place index has (1 + place) refl

pub returns-clause-groups : goal.returns-clause-groups
returns-clause-groups c = group_by_first
