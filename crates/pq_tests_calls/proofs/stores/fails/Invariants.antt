use Rattle.pq_tests_calls.proofs.stores.fails.Given as goal

abbrev pub ghosts-first_unlike_failing : goal.ghosts-first_unlike_failing
ghosts-first_unlike_failing g a = record { name = a.blank.name; parts = a.blank.parts }
