use Rattle.pq_tests_stores.proofs.clients.other_words_touch_nothing.Given as goal

abbrev pub ghosts-first_run : goal.ghosts-first_run
ghosts-first_run g a = record { name = a.blank.name; parts = a.blank.parts }
