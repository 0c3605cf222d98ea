use Rattle.pq_counters.proofs.bound.most_moves.Goals as goal

pub returns-in-Update-clause-moves : goal.returns-in-Update-clause-moves
returns-in-Update-clause-moves c = λ number. rw c.in-Update.is (rw c.items.ensures at (c.update_moves.ensures.moves number))
