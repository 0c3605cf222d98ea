-- The two parts of a store in memory: the pairs with keys below a first late one, and the others.
use Rattle.std.specs.Prelude.{map, ℕ, Bool, true, ◌&&◌, not, List, [], ◌∷◌, ◌++◌}
use Rattle.std.specs.Ordering.{is_le}
use Rattle.std.specs.FinMap.{entries, insert, from_sorted, from_entries}
use Rattle.pq_store.specs.Content.{Content, key_cmp}

-- the first key of the second part of a store in memory, and of the second part of that one
abbrev pub first_late : List ℕ
first_late = 4 ∷ []

abbrev pub first_number : List ℕ
first_number = 5 ∷ []

-- a key belongs into the second of two parts, which begins with a first one
abbrev pub is_from : List ℕ → List ℕ → Bool
is_from first key = is_le (key_cmp first key)

-- no key does
abbrev pub are_before : List ℕ → List (List ℕ × List ℕ) → Bool
are_before first [] = true
are_before first (pair ∷ pairs) = not (is_from first pair.0) && are_before first pairs

-- each key does
abbrev pub are_from : List ℕ → List (List ℕ × List ℕ) → Bool
are_from first [] = true
are_from first (pair ∷ pairs) = is_from first pair.0 && are_from first pairs

-- what both parts hold together
abbrev pub both_contents : Content → Content → Content
both_contents early late = from_sorted (entries early ++ entries late)

-- the bytes of a key and of its value
abbrev pub pair_bytes : {K X : Type 0} → (K → List ℕ) → (X → List ℕ) → K × X → List ℕ × List ℕ
pair_bytes key_bytes value_bytes pair = (key_bytes pair.0, value_bytes pair.1)

-- the content of pairs in any order
abbrev pub content_of : {K X : Type 0} → (K → List ℕ) → (X → List ℕ) → List (K × X) → Content
content_of key_bytes value_bytes pairs = from_entries (map (pair_bytes key_bytes value_bytes) pairs)

-- a content after pairs that are put in turn
abbrev pub poured : Content → List (List ℕ × List ℕ) → Content
poured content [] = content
poured content (pair ∷ pairs) = poured (insert content pair.0 pair.1) pairs
