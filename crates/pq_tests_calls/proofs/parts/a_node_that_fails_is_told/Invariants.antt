use Rattle.pq_tests_calls.proofs.parts.a_node_that_fails_is_told.Given as goal

abbrev pub ghosts-first_unlike_failing-N-Ledger : goal.ghosts-first_unlike_failing-N-Ledger
ghosts-first_unlike_failing-N-Ledger g a = record { name = a.nodes.name; parts = a.nodes.parts }

abbrev pub ghosts-first_unlike_failing-L-Ledger : goal.ghosts-first_unlike_failing-L-Ledger
ghosts-first_unlike_failing-L-Ledger g a = record { name = a.blank.name; parts = a.blank.parts }
