-- Whether a query has a candidate.
use Rattle.std.specs.Prelude.{Bool, true, false, List, [], ◌∷◌}
use Rattle.pq_schema.specs.declared.table.Table.{Table}
use Rattle.pq_schema.specs.declared.query.Query.{Query}
use Rattle.pq_schema.specs.Candidates.{Candidate, candidates}

abbrev pub is_some_list : List Candidate → Bool
is_some_list [] = false
is_some_list (c ∷ cs) = true

abbrev pub has_candidate : List Table → Query → Bool
has_candidate tables query = is_some_list (candidates tables query)
