-- A query rearranged is again one that reading gives.
use Rattle.std.proofs.Common.{◌≡◌, Bool, List, sym, subst}
use Rattle.pq_schema.specs.declared.table.Table.{Table}
use Rattle.pq_schema.specs.declared.query.Query.{Query}
use Rattle.pq_schema.specs.Resolved.{IsResolved}
use Rattle.pq_arrange.specs.Arrange.{rearranged_query}
use Rattle.pq_arrange.proofs.Arranges.{rearranged_resolved}

pub again_resolved : (tables : List Table) (query : Query) (close : Bool) (found : Query) → IsResolved tables query → found ≡ rearranged_query tables query close → IsResolved tables found
again_resolved tables query close found resolved is = subst (IsResolved tables) (sym is) (rearranged_resolved tables query resolved close).resolved
