-- What a store holds, and what its calls answer and do.
use Rattle.std.specs.Prelude.{◌≡◌, ℕ, ◌≤◌, ◌<◌, ◌+◌, ◌^◌, Bool, true, false, ◌&&◌, ◌⊎◌, List, filter, length, map, Option, Some, None, is_none, if◌then◌else◌, Result, Ok, IsErrOf, All}
use Rattle.std.specs.Ordering.{nat_cmp, is_lt, is_le, eq_by_cmp}
use Rattle.std.specs.Cmp.Lexicographic.{slice_cmp}
use Rattle.std.specs.Coded.{Coded, coded_list, coded_ℕ}
use Rattle.std.specs.List.{AllByRecursion}
use Rattle.std.specs.FinMap.{code, FinMap, entries, get, insert, remove, is_sorted}
use Rattle.std.specs.declared.cmp.Ordering.{Ordering}
use Rattle.pq_store.specs.declared.store.Pair.{Pair}
use Rattle.pq_store.specs.declared.store.Guard.{Guard}
use Rattle.pq_store.specs.declared.store.Guard.TheVariants.{Any, Absent, Is}
use Rattle.pq_store.specs.declared.store.StoreErr.{StoreErr}
use Rattle.pq_store.specs.declared.store.StoreErr.TheVariants.{Failed}
use Rattle.pq_store.specs.declared.damage.Broke.{Broke}
use Rattle.pq_store.specs.declared.damage.Broke.TheVariants as broke

-- the order of keys, by their bytes
abbrev pub key_cmp : List ℕ → List ℕ → Ordering
key_cmp = slice_cmp nat_cmp

-- from keys to values
abbrev pub Content : Type 0
Content = FinMap (slice_cmp nat_cmp) (List ℕ)

abbrev pub content_code : Coded Content
content_code = code (coded_list coded_ℕ) (coded_list coded_ℕ)

-- a pair's key and value
abbrev pub entry : Pair → List ℕ × List ℕ
entry pair = (pair.key, pair.value)

-- a call may answer each of the pairs
abbrev pub AreAnswers : (List ℕ → Option (List ℕ) → Type 0) → List Pair → Type 0
AreAnswers answers found = AllByRecursion (λ pair. answers pair.0 (Some pair.1)) (map entry found)

-- the keys strictly rise
abbrev pub is_rising : List (List ℕ × List ℕ) → Bool
is_rising = is_sorted (slice_cmp nat_cmp)

-- low ≤ key < high
abbrev pub is_within : List ℕ → List ℕ → List ℕ × List ℕ → Bool
is_within low high pair = is_le (key_cmp low pair.0) && is_lt (key_cmp pair.0 high)

-- the pairs of the range, in order
abbrev pub pairs_within : Content → List ℕ → List ℕ → List (List ℕ × List ℕ)
pairs_within content low high = filter (is_within low high) (entries content)

-- the content with this value at the key, or with none
abbrev pub written_content : List ℕ → Option (List ℕ) → Content → Content
written_content key None content = remove content key
written_content key (Some value) content = insert content key value

-- whether a write may be made over what the key has
abbrev pub admits : Guard → Option (List ℕ) → Bool
admits Any found = true
admits Absent found = is_none found
admits (Is value) None = false
admits (Is value) (Some held) = eq_by_cmp key_cmp held value.now

-- the content after a write: another one only where the guard admits it
abbrev pub after_write : Guard → List ℕ → Option (List ℕ) → Content → Content
after_write guard key new content = if admits guard (get content key) then written_content key new content else content

-- entries that a get, a range and a count answered
abbrev pub got_entries : Result (Option (List ℕ)) StoreErr → ℕ
got_entries (Ok (Some _)) = 1
got_entries _ = 0

abbrev pub ranged_entries : Result (List Pair) StoreErr → ℕ
ranged_entries (Ok pairs) = length pairs
ranged_entries _ = 0

abbrev pub counted_entries : Result ℕ StoreErr → ℕ
counted_entries (Ok n) = n
counted_entries _ = 0

-- what a range answers, whatever the store holds
pub record IsPartOf (low high : List ℕ) (limit : ℕ) (pairs : List (List ℕ × List ℕ)) : Type 0 where
  pub few : length pairs ≤ limit
  pub within : All (λ pair. is_within low high pair ≡ true) pairs
  pub rising : is_sorted (slice_cmp nat_cmp) pairs ≡ true

-- a count of 64 bits has risen, or stands at its end
abbrev pub HasRisen : ℕ → ℕ → Type 0
HasRisen before now = (before < now) ⊎ (now + 1 ≡ 2 ^ 64)

-- the error of a failed call is told only where the count of faults has risen
pub record CausedFault {E A : Type 0} (fault : E) (before now : ℕ) (result : Result A E) : Type 0 where
  pub later : before ≤ now
  pub failed : IsErrOf result fault → HasRisen before now

-- the same of a store's own error
abbrev pub HasCause : {A : Type 0} → ℕ → ℕ → Result A StoreErr → Type 0
HasCause before now result = CausedFault Failed before now result

-- and of the error of a call over a store
abbrev pub HasBrokeCause : {A : Type 0} → ℕ → ℕ → Result A Broke → Type 0
HasBrokeCause before now result = CausedFault broke.Failed before now result
