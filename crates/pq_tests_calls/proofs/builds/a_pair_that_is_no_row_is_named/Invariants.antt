use Rattle.pq_tests_calls.proofs.builds.a_pair_that_is_no_row_is_named.Given as goal

abbrev pub ghosts-first_unnamed : goal.ghosts-first_unnamed
ghosts-first_unnamed g a = record { name = a.blank.name; parts = a.blank.parts }
