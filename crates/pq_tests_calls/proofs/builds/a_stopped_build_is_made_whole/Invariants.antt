use Rattle.pq_tests_calls.proofs.builds.a_stopped_build_is_made_whole.Given as goal

abbrev pub ghosts-first_build : goal.ghosts-first_build
ghosts-first_build g a = record { name = a.blank.name; parts = a.blank.parts }
