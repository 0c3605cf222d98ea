-- Parts whose first keys rise: which one has a key.
use Rattle.std.proofs.Common.{◌≡◌, ℕ, zero, suc, ◌-◌, ◌+◌, ◌<◌, ◌≤◌, true, false, List, [], ◌∷◌, length, get_or, IsTrue, Some, refl, arith}
use Rattle.std.specs.Ordering.{is_lt, is_le}
use Rattle.std.specs.List.Sorted.{IsPartitionedBy}
use Rattle.pq_store.specs.Content.{key_cmp}
use Rattle.pq_store.proofs.Places.{is_below_all, turned, first_below, rest_rises}
use Rattle.pq_parts.specs.declared.part.Part.{Part}
use Rattle.pq_parts.specs.Spans.{first_from, firsts, are_rising, part_has_key}
use Rattle.pq_parts.proofs.Clips.{lt_le, lt_is_le}

-- the parts behind begin above a smaller key
pub begins_above : {S : Type 0} (key : List ℕ) (parts : List (Part S)) (j : ℕ) (d : Part S) → IsTrue (is_below_all key (firsts parts)) → j < length parts
    → is_lt (key_cmp key (get_or parts j d).from) ≡ true
begins_above key [] j d below within = absurd (omega arith)
begins_above key (part ∷ parts) zero d below within = grind (arith, below)
begins_above key (part ∷ parts) (suc j) d below within = begins_above key parts j d (grind (arith, below)) (omega arith)

pub parted : {S : Type 0} (key : List ℕ) (parts : List (Part S)) → IsTrue (are_rising parts) → IsPartitionedBy (λ part. is_le (key_cmp part.from key)) parts
parted key [] up i j d le within is = absurd (omega arith)
parted key (part ∷ parts) up zero zero d le within is = is
parted key (part ∷ parts) up zero (suc j) d le within is =
    lt_is_le part.from key (lt_le part.from (get_or parts j d).from key (begins_above part.from parts j d (first_below (part.from, []) (firsts parts) up) (omega arith)) is)
parted key (part ∷ parts) up (suc i) zero d le within is = absurd (omega arith)
parted key (part ∷ parts) up (suc i) (suc j) d le within is = parted key parts (rest_rises (part.from, []) (firsts parts) up) i j d (omega arith) (omega arith) is

empty_first : (key : List ℕ) → is_le (key_cmp [] key) ≡ true
empty_first [] = refl
empty_first (x ∷ key) = refl

not_le : (a b : List ℕ) → is_le (key_cmp a b) ≡ false → is_lt (key_cmp b a) ≡ true
not_le a b above = grind (arith, above, turned b a)

has_at : {S : Type 0} (key : List ℕ) (parts : List (Part S)) (at : ℕ) → at < length parts
    → ((d : Part S) → is_le (key_cmp (get_or parts at d).from key) ≡ true)
    → ((k : ℕ) (d : Part S) → k ≡ at + 1 → k < length parts → is_le (key_cmp (get_or parts k d).from key) ≡ false)
    → IsTrue (part_has_key parts at key)
has_at key [] at within from behind = absurd (omega arith)
has_at key (part ∷ []) zero within from behind = rw (from part) refl
has_at key (part ∷ next ∷ parts) zero within from behind = rw (from part, not_le next.from key (behind (suc zero) part (omega arith) (omega arith))) refl
has_at key (part ∷ parts) (suc at) within from behind = has_at key parts at (omega arith) from (λ k d e lt. behind (suc k) d (omega arith) (omega arith))

pub some_begins : {S : Type 0} (key : List ℕ) (parts : List (Part S)) (at : ℕ) → first_from parts ≡ Some []
    → ((j : ℕ) (d : Part S) → at ≤ j → j < length parts → is_le (key_cmp (get_or parts j d).from key) ≡ false)
    → 1 ≤ at
some_begins key [] at first after = absurd (cc)
some_begins key (part ∷ parts) zero first after =
    let e : part.from ≡ [] = cc in
    let begins : is_le (key_cmp part.from key) ≡ true = rw e (empty_first key) in
    let never : is_le (key_cmp part.from key) ≡ false = after zero part (omega arith) (omega arith) in
    absurd (cc)
some_begins key (part ∷ parts) (suc at) first after = omega arith

pub place_has : {S : Type 0} (key : List ℕ) (parts : List (Part S)) (at : ℕ) → at ≤ length parts → first_from parts ≡ Some []
    → ((j : ℕ) (d : Part S) → j < at → is_le (key_cmp (get_or parts j d).from key) ≡ true)
    → ((j : ℕ) (d : Part S) → at ≤ j → j < length parts → is_le (key_cmp (get_or parts j d).from key) ≡ false)
    → IsTrue (part_has_key parts (at - 1) key)
place_has key parts at within first before after =
    let some = some_begins key parts at first after in
    has_at key parts (at - 1) (omega arith) (λ d. before (at - 1) d (omega arith)) (λ k d e lt. after k d (omega arith) lt)
