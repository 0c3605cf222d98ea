-- What a piece of memory stands for, that has the length of a key, the key, and its value.
use Rattle.std.specs.Prelude.{ℕ, ◌+◌, ◌/◌, ◌%◌, ◌==◌, if◌then◌else◌, List, [], ◌∷◌, ◌++◌, take, drop, replicate}
use Rattle.std.specs.Coded.{Coded, coded_list, coded_ℕ, coded×}
use Rattle.std.specs.Ordering.{on}
use Rattle.std.specs.declared.cmp.Ordering.{Ordering}
use Rattle.pq_store.specs.Content.{key_cmp}

-- a length in bytes: one of 255 for each 255 in it, and the rest
abbrev pub len_bytes : ℕ → List ℕ
len_bytes n = replicate (n / 255) 255 ++ (n % 255) ∷ []

-- the length at the beginning of some bytes
abbrev pub key_len : List ℕ → ℕ
key_len [] = 0
key_len (b ∷ bs) = if b == 255 then 255 + key_len bs else b

-- what stands behind it
abbrev pub behind_len : List ℕ → List ℕ
behind_len [] = []
behind_len (b ∷ bs) = if b == 255 then behind_len bs else bs

-- the key and the value
abbrev pub held_pair : List ℕ → List ℕ × List ℕ
held_pair bytes = (take (key_len bytes) (behind_len bytes), drop (key_len bytes) (behind_len bytes))

abbrev pub held_code : Coded (List ℕ × List ℕ)
held_code = coded× (coded_list coded_ℕ) (coded_list coded_ℕ)

-- pairs are ordered by their keys
abbrev pub held_cmp : List ℕ × List ℕ → List ℕ × List ℕ → Ordering
held_cmp = on (λ pair. pair.0) key_cmp
