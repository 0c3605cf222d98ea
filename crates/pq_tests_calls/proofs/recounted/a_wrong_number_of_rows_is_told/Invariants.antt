use Rattle.pq_tests_calls.proofs.recounted.a_wrong_number_of_rows_is_told.Given as goal

abbrev pub ghosts-first_untold : goal.ghosts-first_untold
ghosts-first_untold g a = record { name = a.blank.name; parts = a.blank.parts }
