-- What is asked of a store at once, and what that costs.
use Rattle.std.specs.Prelude.{◌≡◌, ℕ, ◌≤◌, ◌+◌, ◌-◌, ◌==◌, Bool, true, false, List, [], length, map, take, drop, sum_by, min, Option, Some, None, is_some, is_none, IfSome}
use Rattle.std.specs.FinMap.{get}
use Rattle.pq_store.specs.Content.{Content, IsPartOf, entry, pairs_within}
use Rattle.pq_store.specs.Counts.{Counts, AllowedCounts}
use Rattle.pq_store.specs.declared.store.Ends.{Ends}
use Rattle.pq_store.specs.declared.store.Pair.{Pair}
use Rattle.pq_store.specs.declared.store.Test.{Test}
use Rattle.pq_store.specs.declared.store.Test.TheVariants.{Has, Lacks, Full}

-- so many operations and entries are left
pub record Affords (allowed : AllowedCounts) (ops entries : ℕ) : Type 0 where
  pub ops_left : ops ≤ allowed.left.ops
  pub entries_left : entries ≤ allowed.left.entries

-- what the meter rose by was spent, at most so much
pub record Pays (allowed_before allowed_after : AllowedCounts) (before after : Counts) (ops entries : ℕ) : Type 0 where
  pub granted : allowed_after.granted ≡ allowed_before.granted
  pub spent_ops : allowed_after.left.ops + after.ops ≡ allowed_before.left.ops + before.ops
  pub spent_entries : allowed_after.left.entries + after.entries ≡ allowed_before.left.entries + before.entries
  pub rise_ops : before.ops ≤ after.ops
  pub rise_entries : before.entries ≤ after.entries
  pub few_ops : after.ops ≤ before.ops + ops
  pub few_entries : after.entries ≤ before.entries + entries

-- the value of a key; none where no key stands
abbrev pub value_asked : Content → Option (List ℕ) → Option (List ℕ)
value_asked content None = None
value_asked content (Some key) = get content key

-- what is found is the value of the key, where the content is told
abbrev pub IsValueOf : Option Content → Option (List ℕ) → Option (List ℕ) → Type 0
IsValueOf told asked found = IfSome told (λ content. found ≡ value_asked content asked)

-- a call may answer it for its key
abbrev pub IsValueAnswered : (List ℕ → Option (List ℕ) → Type 0) → Option (List ℕ) → Option (List ℕ) → Type 0
IsValueAnswered answers None found = found ≡ None
IsValueAnswered answers (Some key) found = answers key found

-- the first pairs of a range; none where no ends stand
abbrev pub pairs_asked : Content → ℕ → Option Ends → List (List ℕ × List ℕ)
pairs_asked content limit None = []
pairs_asked content limit (Some ends) = take limit (pairs_within content ends.low ends.high)

-- what is found are the first pairs of the range, where the content is told
abbrev pub ArePairsOf : Option Content → ℕ → Option Ends → List Pair → Type 0
ArePairsOf told limit asked found = IfSome told (λ content. map entry found ≡ pairs_asked content limit asked)

-- it is what a store may answer to the range
abbrev pub IsPartAsked : ℕ → Option Ends → List Pair → Type 0
IsPartAsked limit None found = found ≡ []
IsPartAsked limit (Some ends) found = IsPartOf ends.low ends.high limit (map entry found)

-- what a test costs at most
abbrev pub test_entries : Test → ℕ
test_entries (Has key) = 1
test_entries (Lacks key) = 1
test_entries (Full ends n) = n

-- whether a test holds
abbrev pub is_held : Content → Test → Bool
is_held content (Has key) = is_some (get content key)
is_held content (Lacks key) = is_none (get content key)
is_held content (Full ends n) = min n (length (pairs_within content ends.low ends.high)) == n

-- ---- what a round is counted as

-- one where something is asked, or found
abbrev pub one_if_some : {A : Type 0} → Option A → ℕ
one_if_some None = 0
one_if_some (Some _) = 1

-- the entries that a test's get or count answers
abbrev pub found_entries : Content → Test → ℕ
found_entries content (Has key) = one_if_some (get content key)
found_entries content (Lacks key) = one_if_some (get content key)
found_entries content (Full ends n) = min n (length (pairs_within content ends.low ends.high))

-- at least and at most so many, by whether the test holds
abbrev pub least_entries : Bool → Test → ℕ
least_entries true (Has key) = 1
least_entries true (Lacks key) = 0
least_entries true (Full ends n) = n
least_entries false (Has key) = 0
least_entries false (Lacks key) = 1
least_entries false (Full ends n) = 0

abbrev pub most_entries : Bool → Test → ℕ
most_entries true (Has key) = 1
most_entries true (Lacks key) = 0
most_entries true (Full ends n) = n
most_entries false (Has key) = 0
most_entries false (Lacks key) = 1
most_entries false (Full ends n) = n - 1

-- how many tests are made, of which the one at this place is the first that holds
abbrev pub tests_made : List Test → Option ℕ → ℕ
tests_made tests None = length tests
tests_made tests (Some at) = at + 1

-- a sum over these, by whether each holds
abbrev pub sum_made : (Bool → Test → ℕ) → List Test → Option ℕ → ℕ
sum_made entries tests None = sum_by (entries false) tests
sum_made entries tests (Some at) = sum_by (entries false) (take at tests) + sum_by (entries true) (take 1 (drop at tests))

-- so many operations were counted, and entries: just those of the content where it is told, and as many in any case
pub record Counted (told : Option Content) (before after : Counts) (ops : ℕ) (entries : Content → ℕ) (least most : ℕ) : Type 0 where
  pub made : after.ops ≡ before.ops + ops
  pub found : IfSome told (λ content. after.entries ≡ before.entries + entries content)
  pub at_least : before.entries + least ≤ after.entries
  pub at_most : after.entries ≤ before.entries + most

-- a test is counted as its get or count
abbrev pub IsTestCounted : Option Content → Counts → Counts → Test → Bool → Type 0
IsTestCounted told before after test held =
    Counted told before after 1 (λ content. found_entries content test) (least_entries held test) (most_entries held test)

-- the tests up to the first that holds are counted as their gets and counts, one after the other
abbrev pub AreTestsCounted : Option Content → Counts → Counts → List Test → Option ℕ → Type 0
AreTestsCounted told before after tests at = Counted told before after (tests_made tests at)
    (λ content. sum_by (found_entries content) (take (tests_made tests at) tests))
    (sum_made least_entries tests at) (sum_made most_entries tests at)
