-- The bounds of an input's range as keys, and the kinds that their values have.
use Rattle.std.specs.Prelude.{ℕ, Bool, true, false, cond, List, [], ◌∷◌, ◌++◌, map, Option}
use Rattle.std.specs.Ordering.{is_lt}
use Rattle.pq_base.specs.declared.value.Dir.{Dir}
use Rattle.pq_base.specs.declared.value.Value.{Value}
use Rattle.pq_schema.specs.Keys.{dirs_of}
use Rattle.pq_schema.specs.declared.table.KeyPart.{KeyPart}
use Rattle.pq_key_code.specs.KeyCode.{code_of}
use Rattle.pq_store.specs.Content.{key_cmp}
use Rattle.pq_plan.specs.Answer.{Question}
use Rattle.pq_serving.specs.Starts.{Bound, under}
use Rattle.pq_serving.specs.Scanning.{ties, lows, highs}

-- the code of the bound's values, and 20 behind it where the bound is past them
abbrev pub bound_key : List Dir → Bound → List ℕ
bound_key ds b = code_of ds b.values ++ cond b.past (32 ∷ []) []

abbrev pub higher : List ℕ → List ℕ → List ℕ
higher a b = cond (is_lt (key_cmp a b)) b a

abbrev pub lesser_key : List ℕ → List ℕ → List ℕ
lesser_key a b = cond (is_lt (key_cmp a b)) a b

-- the highest of a key and those of bounds, and the lowest
abbrev pub highest : List Dir → List ℕ → List Bound → List ℕ
highest ds k [] = k
highest ds k (b ∷ bs) = higher (bound_key ds b) (highest ds k bs)

abbrev pub lowest : List Dir → List ℕ → List Bound → List ℕ
lowest ds k [] = k
lowest ds k (b ∷ bs) = lesser_key (bound_key ds b) (lowest ds k bs)

module _ (q : Question) (p : ℕ) (sequence : List KeyPart) (combo : List (List Value)) where
  -- behind the tied values
  abbrev pub tied_bounds : List Bound → List Bound
  tied_bounds bs = map (under (ties q p sequence combo)) bs

  abbrev pub tied_key : Bool → List ℕ
  tied_key past = bound_key (dirs_of sequence) (record { past = past; values = ties q p sequence combo })

  -- the key at which the range of an input starts, and the one before which it ends
  abbrev pub range_low : Option (List Value) → List ℕ
  range_low after = highest (dirs_of sequence) (tied_key false) (tied_bounds (lows q p sequence combo after))

  abbrev pub range_high : List ℕ
  range_high = lowest (dirs_of sequence) (tied_key true) (tied_bounds (highs q p sequence combo))
