use Rattle.pq_tests_stores.proofs.many_writes.both_told.Given as goal

abbrev pub ghosts-both_tell : goal.ghosts-both_tell
ghosts-both_tell a = record { name = a.blank.name; parts = a.blank.parts }
