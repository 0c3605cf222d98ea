use Rattle.pq_tests_stores.proofs.undone.faults_kept.Given as goal

abbrev pub ghosts-faults_are_kept : goal.ghosts-faults_are_kept
ghosts-faults_are_kept a = record { name = a.blank.name; parts = a.blank.parts }
