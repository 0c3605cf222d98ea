use Rattle.pq_define.proofs.counter.counted_table.Goals as goal

pub returns-clause-passes : goal.returns-clause-passes
returns-clause-passes c = rw (← c.catalog.ensures) c.check_counter.ensures.passes
