-- The trees of a query: as built, with data stops, and with its stop pushed down.
use Rattle.std.specs.Prelude.{ℕ, zero, suc, cond, ◌==◌, Option, Some, None}
use Rattle.pq_plan.specs.Meaning.{Tree, Unit, Read, DataStop, StopRead, Order, Cut, Project}

-- the first relations, as many as are said
abbrev pub reads_tree : ℕ → Tree
reads_tree zero = Unit
reads_tree (suc i) = Read (reads_tree i) (suc i)

abbrev pub top_of : Option ℕ → Tree → Tree
top_of None tree = Order tree
top_of (Some k) tree = Cut (Order tree) k

-- of so many relations, with this stop
abbrev pub tree_of_reads : ℕ → Option ℕ → Tree
tree_of_reads m stop = Project (top_of stop (reads_tree m))

abbrev pub with_stop : Option ℕ → Tree → ℕ → Tree
with_stop None tree rel = tree
with_stop (Some n) tree rel = DataStop tree rel n

-- a DataStop with the data bound directly above each Read that has one
abbrev pub placed_stops : (ℕ → Option ℕ) → Tree → Tree
placed_stops bounds Unit = Unit
placed_stops bounds (Read input rel) = with_stop (bounds rel) (Read (placed_stops bounds input) rel) rel
placed_stops bounds (DataStop input rel n) = DataStop (placed_stops bounds input) rel n
placed_stops bounds (StopRead input rel k) = StopRead (placed_stops bounds input) rel k
placed_stops bounds (Order input) = Order (placed_stops bounds input)
placed_stops bounds (Cut input k) = Cut (placed_stops bounds input) k
placed_stops bounds (Project input) = Project (placed_stops bounds input)

-- StopRead in place of Read p, and of a DataStop above it
abbrev pub pushed_tree : ℕ → ℕ → Tree → Tree
pushed_tree p k Unit = Unit
pushed_tree p k (Read input rel) = cond (rel == p) (StopRead input rel k) (Read (pushed_tree p k input) rel)
pushed_tree p k (DataStop input rel n) =
    cond (rel == p) (pushed_tree p k input) (DataStop (pushed_tree p k input) rel n)
pushed_tree p k (StopRead input rel j) = StopRead (pushed_tree p k input) rel j
pushed_tree p k (Order input) = Order (pushed_tree p k input)
pushed_tree p k (Cut input j) = Cut (pushed_tree p k input) j
pushed_tree p k (Project input) = Project (pushed_tree p k input)
