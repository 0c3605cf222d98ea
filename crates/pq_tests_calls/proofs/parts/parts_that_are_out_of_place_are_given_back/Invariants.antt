use Rattle.pq_tests_calls.proofs.parts.parts_that_are_out_of_place_are_given_back.Given as goal

abbrev pub ghosts-made_of : goal.ghosts-made_of
ghosts-made_of g a = record { name = a.nodes.name; parts = a.nodes.parts }
