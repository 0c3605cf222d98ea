use Rattle.pq_serving.proofs.Whole.{stop_scans, entry_scans, row_scans, position_codes}
use Rattle.pq_serving.proofs.laws.stop_scan_laws.Goals as goal

pub returns : goal.returns
returns c = record { scans = stop_scans; entries = entry_scans; rows = row_scans; codes = position_codes }
