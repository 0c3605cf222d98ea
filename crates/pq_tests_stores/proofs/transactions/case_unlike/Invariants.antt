use Rattle.pq_tests_stores.proofs.transactions.case_unlike.Given as goal

abbrev pub ghosts-first_case_unlike : goal.ghosts-first_case_unlike
ghosts-first_case_unlike a = record { name = a.blank.name; parts = a.blank.parts }
