-- Tests that are asked for at once, where changes decide some of them.
use Rattle.std.specs.Prelude.{◌≡◌, ℕ, ◌+◌, ◌-◌, ◌*◌, ◌==◌, if◌then◌else◌, ◌<◌, ◌≤◌, ◌^◌, Bool, false, not, ◌&&◌, ◌||◌, nat_lt, List, [], ◌∷◌, Option, None, is_none, is_some, option_map, unwrap_or}
use Rattle.std.specs.List.{count_by, AllByRecursion}
use Rattle.pq_content.specs.Pairs.{Change}
use Rattle.pq_store.specs.declared.store.Test.{Test}
use Rattle.pq_store.specs.declared.store.Test.TheVariants.{Has, Lacks, Full}
use Rattle.pq_pending.specs.Pending.{changed_value, removals_within, puts_within}

-- changes are of keys of the test's range, so that it is asked by itself
abbrev pub is_crowded : List Change → Test → Bool
is_crowded changes (Has key) = false
is_crowded changes (Lacks key) = false
is_crowded changes (Full ends n) =
    nat_lt 0 (removals_within ends.low ends.high changes + puts_within ends.low ends.high changes)

-- whether the test holds by the changes alone, where one of them is of its key
abbrev pub known_test : List Change → Test → Option Bool
known_test changes (Has key) = option_map is_some (changed_value changes key)
known_test changes (Lacks key) = option_map is_none (changed_value changes key)
known_test changes (Full ends n) = None

-- the store is asked the test as it is
abbrev pub is_asked : List Change → Test → Bool
is_asked changes test = not (is_crowded changes test) && is_none (known_test changes test)

-- no test behind it is asked together with those before it
abbrev pub stops : List Change → Test → Bool
stops changes test = is_crowded changes test || unwrap_or (known_test changes test) false

-- the place of the item that passes behind n others
abbrev pub place_among : {X : Type 0} → (X → Bool) → List X → ℕ → ℕ
place_among passes [] n = 0
place_among passes (x ∷ xs) n =
    if passes x then (if n == 0 then 0 else 1 + place_among passes xs (n - 1)) else 1 + place_among passes xs n

-- the place of the test that is asked behind n others
abbrev pub asked_place : List Change → List Test → ℕ → ℕ
asked_place changes tests n = place_among (is_asked changes) tests n

-- no test of the list stops
abbrev pub GoOn : List Change → List Test → Type 0
GoOn changes tests = AllByRecursion (λ test. stops changes test ≡ false) tests

-- what a test may read: of a crowded range as many pairs more as are removed of it
abbrev pub seen_entries : List Change → Test → ℕ
seen_entries changes (Has key) = 1
seen_entries changes (Lacks key) = 1
seen_entries changes (Full ends n) = n + removals_within ends.low ends.high changes

-- a count of the test's range is a number of 32 bits, and no count of nothing
abbrev pub IsCountable : List Change → Test → Type 0
IsCountable changes (Has key) = Unit {0}
IsCountable changes (Lacks key) = Unit {0}
IsCountable changes (Full ends n) = (1 ≤ n) × (n + removals_within ends.low ends.high changes < 2 ^ 32)

abbrev pub AreCountable : List Change → List Test → Type 0
AreCountable changes tests = AllByRecursion (IsCountable changes) tests

-- how often the store is asked at most: once, and for each crowded test twice more
abbrev pub held_rounds : List Change → List Test → ℕ
held_rounds changes tests = 1 + 2 * count_by (is_crowded changes) tests
