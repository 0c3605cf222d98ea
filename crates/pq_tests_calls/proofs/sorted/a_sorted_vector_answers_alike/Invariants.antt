use Rattle.pq_tests_calls.proofs.sorted.a_sorted_vector_answers_alike.Given as goal

abbrev pub ghosts-first_unlike : goal.ghosts-first_unlike
ghosts-first_unlike g a = record { name = a.blank.name; parts = a.blank.parts }
