use Rattle.pq_content.proofs.Building.{keeps-index, none_filled, get_entry, part_written, all_filled, get_part}
use Rattle.pq_base.proofs.Members.{in_from_contains, contained}
use Rattle.pq_content.proofs.laws.build_laws.Goals as goal

pub returns-clause-keeps : goal.returns-clause-keeps
returns-clause-keeps c tables rows new = keeps-index tables rows new.table new.index

pub returns-clause-none : goal.returns-clause-none
returns-clause-none c tables rows others new is keeps = none_filled tables new.table new.index is rows others keeps.known

pub returns-clause-entry : goal.returns-clause-entry
returns-clause-entry c tables rows others t place index row there = get_entry tables rows others t place index row (in_from_contains rows (t, row) there)

pub returns-clause-write : goal.returns-clause-write
returns-clause-write c = part_written

pub returns-clause-all : goal.returns-clause-all
returns-clause-all c tables rows others new content is beside part filled = all_filled tables new.table new.index is rows others content beside part (λ row there. filled row (contained (new.table, row) rows there))

pub returns-clause-get : goal.returns-clause-get
returns-clause-get c = get_part
