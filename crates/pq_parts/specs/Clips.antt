-- The ends of a part's keys, and of what it has of a range.
use Rattle.std.specs.Prelude.{ℕ, Bool, true, List, Option, Some, None, if◌then◌else◌}
use Rattle.std.specs.Ordering.{is_lt}
use Rattle.pq_store.specs.Content.{key_cmp}

-- the key stands before the end, where there is one
abbrev pub is_key_before : List ℕ → Option (List ℕ) → Bool
is_key_before key None = true
is_key_before key (Some end) = is_lt (key_cmp key end)

-- the later of two first keys
abbrev pub later : List ℕ → List ℕ → List ℕ
later a b = if is_lt (key_cmp a b) then b else a

-- the earlier of two ends, where there is a second one
abbrev pub earlier : List ℕ → Option (List ℕ) → List ℕ
earlier a None = a
earlier a (Some b) = if is_lt (key_cmp b a) then b else a
