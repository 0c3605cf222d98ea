use Rattle.pq_tests_calls.proofs.stored.defaults_are_left_out_at_the_end.Given as goal

abbrev pub ghosts-first_unlike : goal.ghosts-first_unlike
ghosts-first_unlike g a = record { name = a.blank.name; parts = a.blank.parts }
