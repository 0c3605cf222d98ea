-- What running the nodes of a plan may give: a range gives its combinations in any order, all else is as it means.
use Rattle.std.specs.Prelude.{◌≡◌, List, [], ◌∷◌, filter, Option, IsPermutation}
use Rattle.pq_base.specs.declared.value.Value.{Value}
use Rattle.pq_plan.specs.declared.physical.Physical.{Physical}
use Rattle.pq_plan.specs.Answer.{Question, in_order, first_past}
use Rattle.pq_plan.specs.Meaning.{keeps, read}
use Rattle.pq_plan.specs.Nodes.{Node, lookup, limit_range, stop_scan, keep, sort, cut, project, nodes}
use Rattle.pq_plan.specs.Running.{looked_up, ranged, limit_columns}

module _ (q : Question) (after : Option (List Value)) where
  -- what one node may make of its inputs
  abbrev pub Makes : List (List (List Value)) → Node → List (List (List Value)) → Type 0
  Makes inputs (lookup rel) found = found ≡ looked_up q rel inputs
  Makes inputs (limit_range rel limit n access) found =
      IsPermutation (ranged q rel (limit_columns q rel limit) inputs) found
  Makes inputs (stop_scan rel k access) found = found ≡ first_past q after k (in_order q (read q rel inputs))
  Makes inputs (keep rel) found = found ≡ filter (keeps q rel) inputs
  Makes inputs sort found = found ≡ in_order q inputs
  Makes inputs (cut k) found = found ≡ first_past q after k inputs
  Makes inputs project found = found ≡ inputs

  -- from the innermost node on
  abbrev pub Gives : List (List (List Value)) → List Node → List (List (List Value)) → Type 0
  Gives inputs [] found = found ≡ inputs
  Gives inputs (node ∷ rest) found = (made : List (List (List Value))) × Makes inputs node made × Gives made rest found

  -- what running a tree may give
  abbrev pub PlanGives : Physical → List (List (List Value)) → Type 0
  PlanGives tree found = Gives ([] ∷ []) (nodes tree) found
