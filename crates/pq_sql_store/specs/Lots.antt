-- What is open in the database between two calls.
use Rattle.pq_sql_store.specs.declared.database.Within.{Within}
use Rattle.pq_sql_store.specs.declared.database.Within.TheVariants.{Nothing, Filling, Undone}

-- entries that wait are committed; a statement goes on
abbrev pub ended : Within → Within
ended Filling = Nothing
ended within = within

-- a lot begins where nothing is open
abbrev pub filling : Within → Within
filling Nothing = Filling
filling within = within

-- what waits for a commit is undone
abbrev pub undone : Within → Within
undone Nothing = Nothing
undone within = Undone
