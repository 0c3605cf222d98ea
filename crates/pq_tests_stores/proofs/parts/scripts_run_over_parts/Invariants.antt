use Rattle.pq_tests_stores.proofs.parts.scripts_run_over_parts.Given as goal

abbrev pub ghosts-first_unlike-N-Ledger : goal.ghosts-first_unlike-N-Ledger
ghosts-first_unlike-N-Ledger g a = record { name = a.nodes.name; parts = a.nodes.parts }

abbrev pub ghosts-first_unlike-L-Ledger : goal.ghosts-first_unlike-L-Ledger
ghosts-first_unlike-L-Ledger g a = record { name = a.blank.name; parts = a.blank.parts }
