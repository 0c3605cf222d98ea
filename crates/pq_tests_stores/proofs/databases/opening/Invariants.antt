use Rattle.pq_tests_stores.proofs.databases.opening.Given as goal

abbrev pub ghosts-opening_over : goal.ghosts-opening_over
ghosts-opening_over a = record { name = a.blank.name; parts = a.blank.parts }
