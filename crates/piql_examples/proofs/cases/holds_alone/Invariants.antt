use Rattle.piql_examples.proofs.cases.holds_alone.Given as goal

abbrev pub ghosts-holds : goal.ghosts-holds
ghosts-holds a = record { name = a.blank.name; parts = a.blank.parts }
