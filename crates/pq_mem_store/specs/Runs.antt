-- Pairs in runs, one run behind the other, and where a key belongs among them.
use Rattle.std.specs.Prelude.{◌≡◌, ℕ, ◌+◌, ◌-◌, ◌<◌, ◌≤◌, Bool, true, false, not, ◌&&◌, List, [], ◌∷◌, filter, take, drop, length, IsTrue, slice_index_or}
use Rattle.std.specs.List.{flat_map}
use Rattle.std.specs.Ordering.{is_lt, is_le, eq_by_cmp}
use Rattle.pq_store.specs.Content.{key_cmp}
use Rattle.std.specs.Coded.{Coded, coded_list, coded_ℕ, coded×}
use Rattle.pq_mem_store.specs.Split.{are_before, are_from}

abbrev pub Pairs : Type 0
Pairs = List (List ℕ × List ℕ)

abbrev pub pairs_code : Coded Pairs
pairs_code = coded_list (coded× (coded_list coded_ℕ) (coded_list coded_ℕ))

-- there is a pair
abbrev pub has_pairs : Pairs → Bool
has_pairs [] = false
has_pairs (pair ∷ pairs) = true

-- the key of the first pair
abbrev pub first_key : Pairs → List ℕ
first_key [] = []
first_key (pair ∷ pairs) = pair.0

-- the first pair has this key
abbrev pub begins_with : List ℕ → Pairs → Bool
begins_with key [] = false
begins_with key (pair ∷ pairs) = eq_by_cmp key_cmp key pair.0

-- each key is greater
abbrev pub are_behind : List ℕ → Pairs → Bool
are_behind key [] = true
are_behind key (pair ∷ pairs) = is_lt (key_cmp key pair.0) && are_behind key pairs

-- those without a key
abbrev pub others : List ℕ → Pairs → Pairs
others key pairs = filter (λ pair. not (eq_by_cmp key_cmp key pair.0)) pairs

-- each run has a pair
abbrev pub all_have : {R : Type 0} → (R → Pairs) → List R → Bool
all_have pairs [] = true
all_have pairs (run ∷ runs) = has_pairs (pairs run) && all_have pairs runs

-- so many of the runs begin with a key that is no greater, where their keys rise
abbrev pub IsBegun : {R : Type 0} → (R → Pairs) → List R → List ℕ → ℕ → Type 0
IsBegun {R} pairs runs key n = (n ≤ length runs)
    × ((d : R) → 0 < n → is_le (key_cmp (first_key (pairs (slice_index_or runs (n - 1) d))) key) ≡ true)
    × ((d : R) → n < length runs → is_lt (key_cmp key (first_key (pairs (slice_index_or runs n d)))) ≡ true)

-- a key belongs into this run: those of the runs before are lesser, and those of the runs behind greater
abbrev pub IsSeat : {R : Type 0} → (R → Pairs) → List R → List ℕ → ℕ → Type 0
IsSeat pairs runs key at = (at < length runs)
    × IsTrue (are_before key (flat_map pairs (take at runs)))
    × IsTrue (are_behind key (flat_map pairs (drop (at + 1) runs)))

-- a key belongs to this place of a list of pairs: those before are lesser, and the others are not
abbrev pub IsPlace : Pairs → List ℕ → ℕ → Type 0
IsPlace pairs key at = (at ≤ length pairs)
    × IsTrue (are_before key (take at pairs))
    × IsTrue (are_from key (drop at pairs))
