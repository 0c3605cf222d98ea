use Rattle.pq_tests_calls.proofs.failing_join.a_join_stops_at_the_call_that_fails.Given as goal

abbrev pub ghosts-first_unlike : goal.ghosts-first_unlike
ghosts-first_unlike g a = record { name = a.blank.name; parts = a.blank.parts }
