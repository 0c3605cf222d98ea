use Rattle.pq_tests_stores.proofs.databases.write_unlike_in_memory.Given as goal

abbrev pub ghosts-first_write_unlike : goal.ghosts-first_write_unlike
ghosts-first_write_unlike a = record { name = a.blank.name; parts = a.blank.parts }
