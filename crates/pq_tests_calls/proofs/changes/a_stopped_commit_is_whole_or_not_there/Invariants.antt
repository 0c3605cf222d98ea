use Rattle.pq_tests_calls.proofs.changes.a_stopped_commit_is_whole_or_not_there.Given as goal

abbrev pub ghosts-first_unlike : goal.ghosts-first_unlike
ghosts-first_unlike g a = record { name = a.blank.name; parts = a.blank.parts }
