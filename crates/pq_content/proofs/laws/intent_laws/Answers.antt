use Rattle.pq_content.proofs.Settling.{settles_partway, settled_at_last, settles_again, settles_once, settles_to_itself, rows_intended, inserts_of_rows, deletes_of_rows, updates_of_rows}
use Rattle.pq_content.proofs.laws.intent_laws.Goals as goal

pub returns-clause-partway : goal.returns-clause-partway
returns-clause-partway c = settles_partway

pub returns-clause-last : goal.returns-clause-last
returns-clause-last c = settled_at_last

pub returns-clause-again : goal.returns-clause-again
returns-clause-again c = settles_again

pub returns-clause-once : goal.returns-clause-once
returns-clause-once c = settles_once

pub returns-clause-itself : goal.returns-clause-itself
returns-clause-itself c = settles_to_itself

pub returns-clause-rows : goal.returns-clause-rows
returns-clause-rows c = rows_intended

pub returns-clause-insert : goal.returns-clause-insert
returns-clause-insert c = inserts_of_rows

pub returns-clause-delete : goal.returns-clause-delete
returns-clause-delete c = deletes_of_rows

pub returns-clause-update : goal.returns-clause-update
returns-clause-update c = updates_of_rows
