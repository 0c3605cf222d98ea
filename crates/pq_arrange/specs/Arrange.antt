-- The query that is planned in place of a query.
use Rattle.std.specs.Prelude.{Bool, true, false, List, [], ◌∷◌, find, unwrap_or}
use Rattle.pq_schema.specs.declared.table.Table.{Table}
use Rattle.pq_schema.specs.declared.query.Query.{Query}
use Rattle.pq_stop_push.specs.Having.{has_candidate}
use Rattle.pq_arrange.specs.Moves.{reordered_query}
use Rattle.pq_arrange.specs.Classes.{closed_query}
use Rattle.pq_arrange.specs.Placing.{arranged_order}

-- the relations in the order of their data bounds
abbrev pub rearranged_query : List Table → Query → Bool → Query
rearranged_query tables query false = reordered_query (arranged_order tables query false) query
rearranged_query tables query true = closed_query tables (reordered_query (arranged_order tables query true) query)

-- the first of the query, of it rearranged, and of it rearranged and closed, that has a candidate
abbrev pub arranged_query : List Table → Query → Query
arranged_query tables query =
    unwrap_or (find (has_candidate tables) (query ∷ rearranged_query tables query false
    ∷ rearranged_query tables query true
    ∷ [])) query
