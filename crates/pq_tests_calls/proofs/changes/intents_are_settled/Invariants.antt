use Rattle.pq_tests_calls.proofs.changes.intents_are_settled.Given as goal

abbrev pub ghosts-first_unsettled : goal.ghosts-first_unsettled
ghosts-first_unsettled g a = record { name = a.blank.name; parts = a.blank.parts }
