-- The candidates of a query with their trees.
use Rattle.std.specs.Prelude.{ℕ, ◌≤◌, List, map, length, if◌then◌else◌, unwrap_or, Option, Some, None, option_and_then, ⊤}
use Rattle.pq_base.specs.declared.number.Bound.{Bound}
use Rattle.pq_base.specs.declared.number.Choice.{Choice}
use Rattle.pq_base.specs.declared.number.Choice.TheVariants.{Whole, Stop}
use Rattle.pq_schema.specs.declared.table.Table.{Table}
use Rattle.pq_schema.specs.declared.query.Query.{Query}
use Rattle.pq_schema.specs.Candidates.{Candidate as Costed, candidates, bound_at, can_stop_at, stop_size}
use Rattle.pq_plan.specs.Meaning.{Tree, Unit, Read, DataStop, StopRead, Order, Cut, Project, tree_of}
use Rattle.pq_plan.specs.Rewrites.{tree_of_reads, placed_stops, pushed_tree}
use Rattle.pq_stop_push.specs.declared.listing.Candidate.{Candidate}

-- each relation that it reads is one of the first
abbrev pub IsOver : ℕ → Tree → Type 0
IsOver count Unit = ⊤
IsOver count (Read input rel) = ((1 ≤ rel) × (rel ≤ count)) × IsOver count input
IsOver count (DataStop input rel n) = IsOver count input
IsOver count (StopRead input rel k) = ((1 ≤ rel) × (rel ≤ count)) × IsOver count input
IsOver count (Order input) = IsOver count input
IsOver count (Cut input k) = IsOver count input
IsOver count (Project input) = IsOver count input

-- the tree as built
abbrev pub built_tree : Query → Tree
built_tree query = tree_of_reads (length query.relations) (stop_size query.stop)

-- with its data stops
abbrev pub placed_tree : List Table → Query → Tree
placed_tree tables query = placed_stops (bound_at tables query) (built_tree query)

-- k of the stop candidate at the relation, where there is one
abbrev pub stop_there : List Table → Query → ℕ → Option ℕ
stop_there tables query p = option_and_then (λ k. if can_stop_at tables query p then Some k
    else None) (stop_size query.stop)

-- the tree of a candidate
abbrev pub candidate_tree : List Table → Query → Choice → Tree
candidate_tree tables query Whole = placed_tree tables query
candidate_tree tables query (Stop p) = pushed_tree p (unwrap_or (stop_size query.stop) 0) (placed_tree tables query)

-- a candidate with its cost and its tree
pub record PlannedPush : Type 0 where
  pub choice : Choice
  pub bound : Bound
  pub tree : Tree

abbrev pub planned_push : List Table → Query → Costed → PlannedPush
planned_push tables query c = record { choice = c.choice; bound = c.bound; tree = candidate_tree tables query c.choice }

-- the candidates in their order
abbrev pub planned_candidates : List Table → Query → List PlannedPush
planned_candidates tables query = map (planned_push tables query) (candidates tables query)

-- a candidate as this crate holds it
abbrev pub held_plan : Candidate → PlannedPush
held_plan c = record { choice = c.choice; bound = c.bound; tree = tree_of c.tree }
