use Rattle.pq_tests_stores.proofs.frozen.what_reads_is_answered.Given as goal

abbrev pub ghosts-first_unlike : goal.ghosts-first_unlike
ghosts-first_unlike g a = record { name = a.blank.name; parts = a.blank.parts }
