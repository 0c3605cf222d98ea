use Rattle.pq_reports.proofs.asking.request_of.Goals as goal

pub returns-clause-asks : goal.returns-clause-asks
returns-clause-asks c = rw (← c.catalog.ensures) c.asked.ensures.asks

pub returns-clause-refused : goal.returns-clause-refused
returns-clause-refused c = rw (← c.catalog.ensures) c.asked.ensures.refused
