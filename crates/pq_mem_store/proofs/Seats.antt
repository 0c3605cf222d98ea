-- Pairs in runs: what stands before and behind a key, and what an edit of one run is to all of them.
use Rattle.std.proofs.Common.{◌≡◌, ℕ, ◌+◌, ◌-◌, ◌<◌, ◌≤◌, zero, suc, Bool, true, false, not, min, map, List, [], ◌∷◌, ◌++◌, take, drop, get_or, set, length, filter, IsTrue, Option, Some, None, refl, sym, ap, subst, inl, inr, ◌∙◌, append_assoc, add-one, zero-add, arith}
use Rattle.std.specs.Bool.{◌==◌}
use Rattle.std.specs.Prelude.{MatchOption, Result, Ok, Err, OnOk, OnErr}
use Rattle.std.specs.List.{flat_map, insert as insert_at, remove as remove_at}
use Rattle.std.specs.Ordering.{is_lt, is_le}
use Rattle.std.specs.declared.cmp.Ordering.{Ordering}
use Rattle.std.specs.declared.cmp.Ordering.TheVariants.{Less, Equal, Greater}
use Rattle.std.specs.FinMap.{find, put}
use Rattle.std.specs.FinMap.Entries.{by_order}
use Rattle.std.proofs.lemmas.List.{get_or_default, take-append-drop, drop_more, append-nil, set_split, drop_all, take_more_set, drop-set-lt, take-set, take_more, length-set, length-take, length-drop, length-map, length-append, map-append, take_all, take-append-le}
use Rattle.std.proofs.lemmas.Bool.{cases_lt}
use Rattle.std.proofs.lemmas.List.Concat.{flat_map-append}
use Rattle.std.proofs.lemmas.List.Elements.{filter-append}
use Rattle.pq_store.specs.Content.{key_cmp, is_rising, is_within, entry}
use Rattle.pq_store.specs.declared.store.Pair.{Pair}
use Rattle.pq_mem_store.specs.Runs.{Pairs, has_pairs, first_key, are_behind, others, all_have, IsBegun, IsSeat}
use Rattle.pq_mem_store.specs.Split.{is_from, are_before, are_from}
use Rattle.pq_store.proofs.Places.{turned, same_key, itself, below_below, below_all, first_below, rest_rises, rising_first, is_other, others_below_all}
use Rattle.pq_mem_store.proofs.Split.{find_front, put_front, find_late, put_late, others_early, none_early}

-- ---- two keys

pub not_le : (a b : List ℕ) → is_le (key_cmp a b) ≡ false → is_lt (key_cmp b a) ≡ true
not_le a b more = grind (arith, more, turned a b)

less_of : (r : Ordering) → is_lt r ≡ true → r ≡ Less
less_of Less is = refl
less_of Equal is = absurd (cc)
less_of Greater is = absurd (cc)

less_le : (a b c : List ℕ) → key_cmp a b ≡ Less → is_le (key_cmp b c) ≡ true → key_cmp a c ≡ Less
less_le a b c less le =
    elim (key_cmp b c) as (λ r. key_cmp b c ≡ r → is_le r ≡ true → key_cmp a c ≡ Less) [
      | Less ↦ λ is _. below_below a b c less is
      | Equal ↦ λ is _. subst (λ k. key_cmp a k ≡ Less) (same_key b c is) less
      | Greater ↦ λ is no. absurd (cc)
    ] refl le

le_less : (a b c : List ℕ) → is_le (key_cmp a b) ≡ true → key_cmp b c ≡ Less → key_cmp a c ≡ Less
le_less a b c le less =
    elim (key_cmp a b) as (λ r. key_cmp a b ≡ r → is_le r ≡ true → key_cmp a c ≡ Less) [
      | Less ↦ λ is _. below_below a b c is less
      | Equal ↦ λ is _. subst (λ k. key_cmp k c ≡ Less) (sym (same_key a b is)) less
      | Greater ↦ λ is no. absurd (cc)
    ] refl le

pub not_from : (key a : List ℕ) → key_cmp a key ≡ Less → is_from key a ≡ false
not_from key a less = grind (arith, less, turned key a)

-- ---- the parts of a list that rises

below_left : (key : List ℕ) (first second : Pairs) → IsTrue (are_behind key (first ++ second)) → IsTrue (are_behind key first)
below_left key [] second below = refl
below_left key (pair ∷ first) second below = grind (arith, below, below_left key first second)

below_right : (key : List ℕ) (first second : Pairs) → IsTrue (are_behind key (first ++ second)) → IsTrue (are_behind key second)
below_right key [] second below = below
below_right key (pair ∷ first) second below = below_right key first second (grind (arith, below))

pub rising_left : (first second : Pairs) → IsTrue (is_rising (first ++ second)) → IsTrue (is_rising first)
rising_left [] second up = refl
rising_left (pair ∷ first) second up =
    rising_first pair first (below_left pair.0 first second (first_below pair (first ++ second) up)) (rising_left first second (rest_rises pair (first ++ second) up))

pub rising_right : (first second : Pairs) → IsTrue (is_rising (first ++ second)) → IsTrue (is_rising second)
rising_right [] second up = up
rising_right (pair ∷ first) second up = rising_right first second (rest_rises pair (first ++ second) up)

first_less : (key : List ℕ) (pairs : Pairs) → IsTrue (has_pairs pairs) → IsTrue (are_behind key pairs) → key_cmp key (first_key pairs) ≡ Less
first_less key [] some behind = absurd (cc)
first_less key (pair ∷ pairs) some behind = less_of (key_cmp key pair.0) (grind (arith, behind))

-- what stands before a pair has lesser keys
before_first : (key : List ℕ) (first second : Pairs) → IsTrue (is_rising (first ++ second)) → IsTrue (has_pairs second) → is_le (key_cmp (first_key second) key) ≡ true
    → IsTrue (are_before key first)
before_first key [] second up some le = refl
before_first key (pair ∷ first) second up some le =
    let less = less_le pair.0 (first_key second) key (first_less pair.0 second some (below_right pair.0 first second (first_below pair (first ++ second) up))) le in
    let rest = before_first key first second (rest_rises pair (first ++ second) up) some le in
    grind (arith, not_from key pair.0 less, rest)

-- and what stands behind a greater key is greater
pub behind_first : (key : List ℕ) (pairs : Pairs) → IsTrue (is_rising pairs) → (IsTrue (has_pairs pairs) → is_lt (key_cmp key (first_key pairs)) ≡ true) → IsTrue (are_behind key pairs)
behind_first key [] up less = refl
behind_first key (pair ∷ pairs) up less =
    let first = less_of (key_cmp key pair.0) (less refl) in
    let rest = below_all key pair.0 pairs first (first_below pair pairs up) in
    grind (arith, first, rest)

pub from_below : (key low : List ℕ) (pairs : Pairs) → is_le (key_cmp key low) ≡ true → IsTrue (are_behind low pairs) → IsTrue (are_from key pairs)
from_below key low [] le behind = refl
from_below key low (pair ∷ pairs) le behind =
    let less = le_less key low pair.0 le (less_of (key_cmp low pair.0) (grind (arith, behind))) in
    let rest = from_below key low pairs le (grind (arith, behind)) in
    grind (arith, less, rest)

pub from_first : (key : List ℕ) (pairs : Pairs) → IsTrue (is_rising pairs) → (IsTrue (has_pairs pairs) → is_le (key_cmp key (first_key pairs)) ≡ true) → IsTrue (are_from key pairs)
from_first key [] up le = refl
from_first key (pair ∷ pairs) up le =
    let first = le refl in
    let rest = from_below key pair.0 pairs first (first_below pair pairs up) in
    grind (arith, first, rest)

-- ---- runs

pub read_is : {R : Type 0} (runs : List R) (at n : ℕ) (run d : R) → at < length runs → run ≡ get_or runs at run → n ≡ at → get_or runs n d ≡ run
read_is runs at n run d within is same = ap (λ k. get_or runs k d) same ∙ get_or_default runs at d run within ∙ sym is

has_put : (key value : List ℕ) (pairs : Pairs) → IsTrue (has_pairs (put key_cmp key value pairs))
has_put key value [] = refl
has_put key value (pair ∷ pairs) = elim (key_cmp key pair.0) as (λ r. IsTrue (has_pairs (by_order r ((key, value) ∷ pair ∷ pairs) ((pair.0, value) ∷ pairs) (pair ∷ put key_cmp key value pairs)))) [
  | Less ↦ refl
  | Equal ↦ refl
  | Greater ↦ refl
]

-- no pair of a range has its end or a greater key
pub none_from : (low high : List ℕ) (pairs : Pairs) → IsTrue (are_from high pairs) → filter (is_within low high) pairs ≡ []
none_from low high [] late = refl
none_from low high (pair ∷ pairs) late = grind (arith, late, turned high pair.0, none_from low high pairs)

-- a list without an element that was changed before
gone : {R : Type 0} (runs : List R) (at : ℕ) (new : R) → remove_at (set runs at new) at ≡ take at runs ++ drop (at + 1) runs
gone runs at new =
    let less : at < suc at = omega arith in
    ap (λ rs. rs ++ drop (suc at) (set runs at new)) (take-set runs at new)
    ∙ ap (λ rs. take at runs ++ rs) (drop-set-lt (suc at) runs at new less)
    ∙ ap (λ n. take at runs ++ drop n runs) (sym (add-one at))

module _ {R : Type 0} (pairs : R → Pairs) where
  have_at : (runs : List R) (at : ℕ) (d : R) → IsTrue (all_have pairs runs) → at < length runs → IsTrue (has_pairs (pairs (get_or runs at d)))
  have_at [] at d have within = absurd (omega arith)
  have_at (run ∷ runs) zero d have within = grind (arith, have)
  have_at (run ∷ runs) (suc at) d have within = have_at runs at d (grind (arith, have)) (omega arith)

  pub have_read : (runs : List R) (at : ℕ) (run : R) → IsTrue (all_have pairs runs) → at < length runs → run ≡ get_or runs at run → IsTrue (has_pairs (pairs run))
  have_read runs at run have within is = subst (λ r. IsTrue (has_pairs (pairs r))) (sym is) (have_at runs at run have within)

  have_left : (first second : List R) → IsTrue (all_have pairs (first ++ second)) → IsTrue (all_have pairs first)
  have_left [] second have = refl
  have_left (run ∷ first) second have = grind (arith, have, have_left first second)

  have_right : (first second : List R) → IsTrue (all_have pairs (first ++ second)) → IsTrue (all_have pairs second)
  have_right [] second have = have
  have_right (run ∷ first) second have = have_right first second (grind (arith, have))

  have_both : (first second : List R) → IsTrue (all_have pairs first) → IsTrue (all_have pairs second) → IsTrue (all_have pairs (first ++ second))
  have_both [] second have more = more
  have_both (run ∷ first) second have more = grind (arith, have, have_both first second)

  -- the first of all is the first of the first run
  first_joined : (first second : Pairs) → IsTrue (has_pairs first) → first_key (first ++ second) ≡ first_key first
  first_joined [] second some = absurd (cc)
  first_joined (pair ∷ first) second some = refl

  has_joined : (first second : Pairs) → IsTrue (has_pairs first) → IsTrue (has_pairs (first ++ second))
  has_joined [] second some = absurd (cc)
  has_joined (pair ∷ first) second some = refl

  -- a list of runs at one of them
  pub cut_list : (runs : List R) (at : ℕ) (d : R) → at < length runs → runs ≡ take at runs ++ (get_or runs at d ∷ drop (at + 1) runs)
  cut_list runs at d within = sym (take-append-drop at runs) ∙ ap (λ rest. take at runs ++ rest) (drop_more runs at d within)

  pub cut_flat : (runs : List R) (at : ℕ) (d : R) → at < length runs
      → flat_map pairs runs ≡ flat_map pairs (take at runs) ++ (pairs (get_or runs at d) ++ flat_map pairs (drop (at + 1) runs))
  cut_flat runs at d within = ap (flat_map pairs) (cut_list runs at d within) ∙ flat_map-append pairs (take at runs) (get_or runs at d ∷ drop (at + 1) runs)

  module _ (runs : List R) (key : List ℕ) (have : IsTrue (all_have pairs runs)) (up : IsTrue (is_rising (flat_map pairs runs))) where
    -- those before a run that begins with no greater key are lesser
    pub before_run : (at : ℕ) (d : R) → at < length runs → is_le (key_cmp (first_key (pairs (get_or runs at d))) key) ≡ true → IsTrue (are_before key (flat_map pairs (take at runs)))
    before_run at d within le =
        let some = have_at runs at d have within in
        before_first key (flat_map pairs (take at runs)) (pairs (get_or runs at d) ++ flat_map pairs (drop (at + 1) runs))
        (subst (λ ps. IsTrue (is_rising ps)) (cut_flat runs at d within) up) (has_joined (pairs (get_or runs at d)) _ some)
        (ap (λ k. is_le (key_cmp k key)) (first_joined (pairs (get_or runs at d)) _ some) ∙ le)

    -- what stands from a run on rises
    pub rising_from : (at : ℕ) → IsTrue (is_rising (flat_map pairs (drop at runs)))
    rising_from at = rising_right (flat_map pairs (take at runs)) (flat_map pairs (drop at runs))
        (subst (λ ps. IsTrue (is_rising ps)) (ap (flat_map pairs) (sym (take-append-drop at runs)) ∙ flat_map-append pairs (take at runs) (drop at runs)) up)

    -- and is greater where that run begins with a greater key
    pub behind_run : (at : ℕ) (d : R) → (at < length runs → is_lt (key_cmp key (first_key (pairs (get_or runs at d)))) ≡ true) → IsTrue (are_behind key (flat_map pairs (drop at runs)))
    behind_run at d less = elim (cases_lt at (length runs)) [
      | inl within ↦ behind_first key (flat_map pairs (drop at runs)) (rising_from at) (λ _.
          ap (λ ps. is_lt (key_cmp key (first_key (flat_map pairs ps)))) (drop_more runs at d within)
          ∙ ap (λ k. is_lt (key_cmp key k)) (first_joined (pairs (get_or runs at d)) (flat_map pairs (drop (at + 1) runs)) (have_at runs at d have within)) ∙ less within)
      | inr past ↦ subst (λ ps. IsTrue (are_behind key (flat_map pairs ps))) (sym (drop_all at runs past)) refl
    ]

    -- what stands behind the first of pairs that are greater is greater too
    behind_more : (at : ℕ) (d : R) → IsTrue (are_behind key (flat_map pairs (drop at runs))) → IsTrue (are_behind key (flat_map pairs (drop (at + 1) runs)))
    behind_more at d behind = elim (cases_lt at (length runs)) [
      | inl within ↦ below_right key (pairs (get_or runs at d)) (flat_map pairs (drop (at + 1) runs))
          (subst (λ ps. IsTrue (are_behind key (flat_map pairs ps))) (drop_more runs at d within) behind)
      | inr past ↦ subst (λ ps. IsTrue (are_behind key (flat_map pairs ps))) (sym (drop_all (at + 1) runs (omega arith))) refl
    ]

    pub is_seat : (n at : ℕ) → (d : R) → 0 < length runs → at ≡ n - 1 → IsBegun pairs runs key n → IsSeat pairs runs key at
    is_seat n at d some is begun = elim (cases_lt 0 n) [
      | inl more ↦
          let next : at + 1 ≡ n = omega arith in
          let within : at < length runs = omega (arith, begun.0) in (
            within,
            before_run at d within (ap (λ k. is_le (key_cmp (first_key (pairs (get_or runs k d))) key)) is ∙ begun.1 d more),
            subst (λ k. IsTrue (are_behind key (flat_map pairs (drop k runs)))) (sym next) (behind_run n d (begun.2 d)),
          )
      | inr none ↦
          let first : at ≡ 0 = omega arith in
          let zeroth : n ≡ at = omega arith in (
            omega arith,
            subst (λ k. IsTrue (are_before key (flat_map pairs (take k runs)))) (sym first) refl,
            behind_more at d (subst (λ k. IsTrue (are_behind key (flat_map pairs (drop k runs)))) zeroth (behind_run n d (begun.2 d))),
          )
    ]

  pub seat_of : (runs : List R) (key : List ℕ) → IsTrue (all_have pairs runs) → IsTrue (is_rising (flat_map pairs runs)) → (n at : ℕ) → 0 < length runs → at ≡ n - 1
      → IsBegun pairs runs key n → IsSeat pairs runs key at
  seat_of [] key have up n at some is begun = absurd (omega arith)
  seat_of (run ∷ runs) key have up n at some is begun = is_seat (run ∷ runs) key have up n at run some is begun

  -- ---- a run in the place of another one
  have_set : (runs : List R) (at : ℕ) (new : R) → IsTrue (all_have pairs runs) → IsTrue (has_pairs (pairs new)) → IsTrue (all_have pairs (set runs at new))
  have_set [] at new have some = refl
  have_set (run ∷ runs) zero new have some = grind (arith, have, some)
  have_set (run ∷ runs) (suc at) new have some = grind (arith, have, have_set runs at new (grind (arith, have)) some)

  flat_set : (runs : List R) (at : ℕ) (new : R) → at < length runs
      → flat_map pairs (set runs at new) ≡ flat_map pairs (take at runs) ++ (pairs new ++ flat_map pairs (drop (at + 1) runs))
  flat_set runs at new within =
      ap (flat_map pairs) (set_split runs at new within) ∙ flat_map-append pairs (take at runs) (new ∷ drop (suc at) runs)
      ∙ ap (λ n. flat_map pairs (take at runs) ++ (pairs new ++ flat_map pairs (drop n runs))) (sym (add-one at))

  -- the run at the seat of a key decides
  module _ (runs : List R) (key : List ℕ) (at : ℕ) (run : R) (is : run ≡ get_or runs at run) (seat : IsSeat pairs runs key at) where
    split : flat_map pairs runs ≡ flat_map pairs (take at runs) ++ (pairs run ++ flat_map pairs (drop (at + 1) runs))
    split = cut_flat runs at run seat.0 ∙ ap (λ r. flat_map pairs (take at runs) ++ (pairs r ++ flat_map pairs (drop (at + 1) runs))) (sym is)

    pub find_seat : find key_cmp key (pairs run) ≡ find key_cmp key (flat_map pairs runs)
    find_seat = sym (find_front key (pairs run) (flat_map pairs (drop (at + 1) runs)) seat.2)
        ∙ sym (find_late key key (flat_map pairs (take at runs)) (pairs run ++ flat_map pairs (drop (at + 1) runs)) (ap is_le (itself key)) seat.1)
        ∙ ap (find key_cmp key) (sym split)

    pub put_seat : (value : List ℕ) (new : R) → pairs new ≡ put key_cmp key value (pairs run) → flat_map pairs (set runs at new) ≡ put key_cmp key value (flat_map pairs runs)
    put_seat value new changed = flat_set runs at new seat.0
        ∙ ap (λ ps. flat_map pairs (take at runs) ++ (ps ++ flat_map pairs (drop (at + 1) runs))) changed
        ∙ ap (λ ps. flat_map pairs (take at runs) ++ ps) (sym (put_front key value (pairs run) (flat_map pairs (drop (at + 1) runs)) seat.2))
        ∙ sym (put_late key key value (flat_map pairs (take at runs)) (pairs run ++ flat_map pairs (drop (at + 1) runs)) (ap is_le (itself key)) seat.1)
        ∙ ap (put key_cmp key value) (sym split)

    others_split : others key (flat_map pairs runs) ≡ flat_map pairs (take at runs) ++ (others key (pairs run) ++ flat_map pairs (drop (at + 1) runs))
    others_split = ap (others key) split
        ∙ filter-append (is_other key) (flat_map pairs (take at runs)) (pairs run ++ flat_map pairs (drop (at + 1) runs))
        ∙ ap (λ ps. ps ++ others key (pairs run ++ flat_map pairs (drop (at + 1) runs))) (others_early key key (flat_map pairs (take at runs)) (ap is_le (itself key)) seat.1)
        ∙ ap (λ ps. flat_map pairs (take at runs) ++ ps) (filter-append (is_other key) (pairs run) (flat_map pairs (drop (at + 1) runs))
        ∙ ap (λ ps. others key (pairs run) ++ ps) (others_below_all key (flat_map pairs (drop (at + 1) runs)) seat.2))

    pub others_seat : (new : R) → pairs new ≡ others key (pairs run) → flat_map pairs (set runs at new) ≡ others key (flat_map pairs runs)
    others_seat new changed = flat_set runs at new seat.0
        ∙ ap (λ ps. flat_map pairs (take at runs) ++ (ps ++ flat_map pairs (drop (at + 1) runs))) changed ∙ sym others_split

    -- where that run goes, each of the others has pairs still
    pub have_gone : (new : R) → IsTrue (all_have pairs runs) → IsTrue (all_have pairs (remove_at (set runs at new) at))
    have_gone new have =
        let whole = subst (λ rs. IsTrue (all_have pairs rs)) (sym (take-append-drop at runs)) have in
        let more = subst (λ rs. IsTrue (all_have pairs rs)) (sym (take-append-drop (at + 1) runs)) have in
        subst (λ rs. IsTrue (all_have pairs rs)) (sym (gone runs at new))
        (have_both (take at runs) (drop (at + 1) runs) (have_left (take at runs) (drop at runs) whole) (have_right (take (at + 1) runs) (drop (at + 1) runs) more))

  -- ---- a run that is cut in two
  module _ (runs : List R) (at : ℕ) (run new part : R) (is : run ≡ get_or runs at run) (within : at < length runs) (parts : pairs new ++ pairs part ≡ pairs run) where
    cut_list_is : insert_at (set runs at new) (at + 1) part ≡ (take at runs ++ new ∷ []) ++ (part ∷ drop (at + 1) runs)
    cut_list_is = ap (λ rs. rs ++ part ∷ drop (at + 1) (set runs at new)) (take_more_set runs at new within)
        ∙ ap (λ rs. (take at runs ++ new ∷ []) ++ part ∷ rs) (drop-set-lt (at + 1) runs at new (omega arith))

    pub cut_same : flat_map pairs (insert_at (set runs at new) (at + 1) part) ≡ flat_map pairs runs
    cut_same =
        let before = flat_map pairs (take at runs) in
        let behind = flat_map pairs (drop (at + 1) runs) in
        ap (flat_map pairs) cut_list_is ∙ flat_map-append pairs (take at runs ++ new ∷ []) (part ∷ drop (at + 1) runs)
        ∙ ap (λ ps. ps ++ (pairs part ++ behind)) (flat_map-append pairs (take at runs) (new ∷ []) ∙ ap (λ ps. before ++ ps) (append-nil (pairs new)))
        ∙ append_assoc before (pairs new) (pairs part ++ behind)
        ∙ ap (λ ps. before ++ ps) (sym (append_assoc (pairs new) (pairs part) behind))
        ∙ ap (λ ps. before ++ (ps ++ behind)) (parts ∙ ap pairs is)
        ∙ sym (cut_flat runs at run within)

    pub have_cut : IsTrue (all_have pairs runs) → IsTrue (has_pairs (pairs new)) → IsTrue (has_pairs (pairs part)) → IsTrue (all_have pairs (insert_at (set runs at new) (at + 1) part))
    have_cut have some more =
        let whole = subst (λ rs. IsTrue (all_have pairs rs)) (sym (take-append-drop at runs)) have in
        let rest = have_right (take (at + 1) runs) (drop (at + 1) runs) (subst (λ rs. IsTrue (all_have pairs rs)) (sym (take-append-drop (at + 1) runs)) have) in
        let front = have_both (take at runs) (new ∷ []) (have_left (take at runs) (drop at runs) whole) (grind (arith, some)) in
        subst (λ rs. IsTrue (all_have pairs rs)) (sym cut_list_is) (have_both (take at runs ++ new ∷ []) (part ∷ drop (at + 1) runs) front (grind (arith, more, rest)))

  -- the seat of a key among runs of which that one was changed
  pub seat_set : (runs : List R) (at : ℕ) (new : R) (key : List ℕ) → IsSeat pairs runs key at → IsSeat pairs (set runs at new) key at
  seat_set runs at new key seat = (
    subst (λ n. at < n) (sym (length-set runs at new)) seat.0,
    subst (λ rs. IsTrue (are_before key (flat_map pairs rs))) (sym (take-set runs at new)) seat.1,
    subst (λ rs. IsTrue (are_behind key (flat_map pairs rs))) (sym (drop-set-lt (at + 1) runs at new (omega arith))) seat.2,
  )

  -- the same pairs in a run
  pub same_set : (runs : List R) (at : ℕ) (run new : R) → run ≡ get_or runs at run → at < length runs → pairs new ≡ pairs run → flat_map pairs (set runs at new) ≡ flat_map pairs runs
  same_set runs at run new is within same = flat_set runs at new within
      ∙ ap (λ ps. flat_map pairs (take at runs) ++ (ps ++ flat_map pairs (drop (at + 1) runs))) (same ∙ ap pairs is) ∙ sym (cut_flat runs at run within)

  pub have_same : (runs : List R) (at : ℕ) (run new : R) → run ≡ get_or runs at run → at < length runs → pairs new ≡ pairs run → IsTrue (all_have pairs runs) → IsTrue (all_have pairs (set runs at new))
  have_same runs at run new is within same have = have_set runs at new have (subst (λ ps. IsTrue (has_pairs ps)) (sym same) (have_read runs at run have within is))

  pub have_put : (runs : List R) (at : ℕ) (key value : List ℕ) (old : Pairs) (new : R) → pairs new ≡ put key_cmp key value old → IsTrue (all_have pairs runs) → IsTrue (all_have pairs (set runs at new))
  have_put runs at key value old new is have = have_set runs at new have (subst (λ ps. IsTrue (has_pairs ps)) (sym is) (has_put key value old))

  -- ---- the runs in which a range stands
  module _ (runs : List R) (low : List ℕ) (at : ℕ) (seat : IsSeat pairs runs low at) where
    pub within_seat : (high : List ℕ) → filter (is_within low high) (flat_map pairs (drop at runs)) ≡ filter (is_within low high) (flat_map pairs runs)
    within_seat high =
        ap (λ ps. ps ++ filter (is_within low high) (flat_map pairs (drop at runs))) (sym (none_early low low high (flat_map pairs (take at runs)) (ap is_le (itself low)) seat.1))
        ∙ sym (filter-append (is_within low high) (flat_map pairs (take at runs)) (flat_map pairs (drop at runs)))
        ∙ ap (filter (is_within low high)) (sym (flat_map-append pairs (take at runs) (drop at runs)) ∙ ap (flat_map pairs) (take-append-drop at runs))

  pub have_from : (runs : List R) (at : ℕ) → IsTrue (all_have pairs runs) → IsTrue (all_have pairs (drop at runs))
  have_from runs at have = have_right (take at runs) (drop at runs) (subst (λ rs. IsTrue (all_have pairs rs)) (sym (take-append-drop at runs)) have)

  -- no pair of a range stands from a run on that begins with no lesser key than its end
  pub none_from_run : (runs : List R) (low high : List ℕ) (at : ℕ) (run : R) → IsTrue (all_have pairs runs) → IsTrue (is_rising (flat_map pairs runs)) → at < length runs → run ≡ get_or runs at run
      → is_le (key_cmp high (first_key (pairs run))) ≡ true → filter (is_within low high) (flat_map pairs (drop at runs)) ≡ []
  none_from_run runs low high at run have up within is le =
      none_from low high (flat_map pairs (drop at runs)) (from_first high (flat_map pairs (drop at runs)) (rising_from runs high have up at) (λ _.
      ap (λ ps. is_le (key_cmp high (first_key (flat_map pairs ps)))) (drop_more runs at run within)
      ∙ ap (λ k. is_le (key_cmp high k)) (first_joined (pairs (get_or runs at run)) (flat_map pairs (drop (at + 1) runs)) (have_at runs at run have within))
      ∙ ap (λ r. is_le (key_cmp high (first_key (pairs r)))) (sym is) ∙ le))

  -- a loop over runs, one further
  pub flat_more : (runs : List R) (at : ℕ) (run : R) → at < length runs → run ≡ get_or runs at run → flat_map pairs (take (at + 1) runs) ≡ flat_map pairs (take at runs) ++ pairs run
  flat_more runs at run within is = ap (flat_map pairs) (take_more runs at run within) ∙ flat_map-append pairs (take at runs) (get_or runs at run ∷ [])
      ∙ ap (λ ps. flat_map pairs (take at runs) ++ ps) (append-nil (pairs (get_or runs at run)) ∙ ap pairs (sym is))

  pub flat_rest : (runs : List R) (at : ℕ) → flat_map pairs runs ≡ flat_map pairs (take at runs) ++ flat_map pairs (drop at runs)
  flat_rest runs at = ap (flat_map pairs) (sym (take-append-drop at runs)) ∙ flat_map-append pairs (take at runs) (drop at runs)

  -- ---- the first run
  pub first_run : (runs : List R) (run : R) → IsTrue (all_have pairs runs) → IsTrue (has_pairs (flat_map pairs runs)) → run ≡ get_or runs 0 run → first_key (pairs run) ≡ first_key (flat_map pairs runs)
  first_run [] run have some is = absurd (cc)
  first_run (head ∷ runs) run have some is = ap (λ r. first_key (pairs r)) is ∙ sym (first_joined (pairs head) (flat_map pairs runs) (grind (arith, have)))

  pub has_flat : (runs : List R) → IsTrue (all_have pairs runs) → 0 < length runs → IsTrue (has_pairs (flat_map pairs runs))
  has_flat [] have some = absurd (omega arith)
  has_flat (run ∷ runs) have some = has_joined (pairs run) (flat_map pairs runs) (grind (arith, have))

  pub none_flat : (runs : List R) (b : Bool) → IsTrue (all_have pairs runs) → b ≡ (length runs == 0) → b ≡ not (has_pairs (flat_map pairs runs))
  none_flat [] b have is = is
  none_flat (run ∷ runs) b have is = is ∙ none ∙ ap not (sym (has_flat (run ∷ runs) have (omega arith)))
    where
      none : (length (run ∷ runs) == 0) ≡ false
      none = grind arith

  -- each part of a list of runs is one
  pub parts_are : (runs first rest : List R) → first ++ rest ≡ runs → IsTrue (all_have pairs runs) → IsTrue (is_rising (flat_map pairs runs))
      → (IsTrue (all_have pairs first) × IsTrue (is_rising (flat_map pairs first))) × (IsTrue (all_have pairs rest) × IsTrue (is_rising (flat_map pairs rest)))
  parts_are runs first rest is have up =
      let whole = subst (λ rs. IsTrue (all_have pairs rs)) (sym is) have in
      let rises = subst (λ ps. IsTrue (is_rising ps)) (ap (flat_map pairs) (sym is) ∙ flat_map-append pairs first rest) up in
      ((have_left first rest whole, rising_left (flat_map pairs first) (flat_map pairs rest) rises), (have_right first rest whole, rising_right (flat_map pairs first) (flat_map pairs rest) rises))

  -- the only run
  pub only_run : (runs new : List R) (run empty : R) (key value : List ℕ) → length runs ≡ 0 → pairs empty ≡ [] → pairs run ≡ put key_cmp key value (pairs empty) → new ≡ runs ++ run ∷ []
      → IsTrue (all_have pairs new) × (flat_map pairs new ≡ put key_cmp key value (flat_map pairs runs))
  only_run [] new run empty key value none bare made is = (
    subst (λ rs. IsTrue (all_have pairs rs)) (sym is) (grind (arith, subst (λ ps. IsTrue (has_pairs ps)) (sym made) (has_put key value (pairs empty)))),
    ap (flat_map pairs) is ∙ append-nil (pairs run) ∙ made ∙ ap (put key_cmp key value) bare,
  )
  only_run (other ∷ runs) new run empty key value none bare made is = absurd (omega arith)

  -- a run without pairs may go
  pub gone_same : (runs : List R) (at : ℕ) (run : R) → at < length runs → run ≡ get_or runs at run → pairs run ≡ [] → flat_map pairs (remove_at runs at) ≡ flat_map pairs runs
  gone_same runs at run within is none =
      ap (λ n. flat_map pairs (take at runs ++ drop n runs)) (sym (add-one at))
      ∙ flat_map-append pairs (take at runs) (drop (at + 1) runs)
      ∙ ap (λ ps. flat_map pairs (take at runs) ++ (ps ++ flat_map pairs (drop (at + 1) runs))) (sym none ∙ ap pairs is)
      ∙ sym (cut_flat runs at run within)

  pub have_back : (runs : List R) (at : ℕ) (run : R) → at < length runs → run ≡ get_or runs at run → IsTrue (has_pairs (pairs run)) → IsTrue (all_have pairs (remove_at runs at)) → IsTrue (all_have pairs runs)
  have_back runs at run within is some have =
      let whole = subst (λ n. IsTrue (all_have pairs (take at runs ++ drop n runs))) (sym (add-one at)) have in
      let kept = subst (λ r. IsTrue (has_pairs (pairs r))) is some in
      let rest = have_right (take at runs) (drop (at + 1) runs) whole in
      subst (λ rs. IsTrue (all_have pairs rs)) (sym (cut_list runs at run within))
      (have_both (take at runs) (get_or runs at run ∷ drop (at + 1) runs) (have_left (take at runs) (drop (at + 1) runs) whole) (grind (arith, kept, rest)))

pub none_of : (ps : Pairs) (b : Bool) → b ≡ not (has_pairs ps) → b ≡ true → ps ≡ []
none_of [] b is told = refl
none_of (p ∷ ps) b is told = absurd (cc)

pub some_of : (ps : Pairs) (b : Bool) → b ≡ not (has_pairs ps) → b ≡ false → IsTrue (has_pairs ps)
some_of [] b is told = absurd (cc)
some_of (p ∷ ps) b is told = refl

-- ---- a loop over parts of pairs that copies the first ones, and one that counts them
take_take : (n : ℕ) (first second : Pairs) → take n (take n first ++ second) ≡ take n (first ++ second)
take_take zero first second = refl
take_take (suc n) [] second = refl
take_take (suc n) (pair ∷ first) second = ap (λ ps. pair ∷ ps) (take_take n first second)

take_past : (first second : Pairs) (n : ℕ) → take (length first + n) (first ++ second) ≡ first ++ take n second
take_past [] second n = ap (λ k. take k second) (zero-add n)
take_past (pair ∷ first) second n = ap (λ k. take k (pair ∷ (first ++ second))) (suc-add (length first) n) ∙ ap (λ ps. pair ∷ ps) (take_past first second n)
  where
    suc-add : (m k : ℕ) → suc m + k ≡ suc (m + k)
    suc-add m k = omega arith

pub range_start : (most : ℕ) (copies : List Pair) → length copies ≤ most → map entry copies ≡ take most (map entry copies ++ [])
range_start most copies few = sym (ap (take most) (append-nil (map entry copies)) ∙ take_all most (map entry copies) (subst (λ n. n ≤ most) (sym (length-map copies entry)) few))

pub range_limit : (copies : List Pair) (part : Pairs) (most limit : ℕ) → most ≡ length copies + limit → take most (map entry copies ++ part) ≡ map entry copies ++ take limit part
range_limit copies part most limit is = ap (λ n. take n (map entry copies ++ part)) (is ∙ ap (λ n. n + limit) (sym (length-map copies entry))) ∙ take_past (map entry copies) part limit

pub range_more : (most : ℕ) (old before after done part more : Pairs) → before ≡ take most (old ++ done) → after ≡ take most (before ++ part) → more ≡ done ++ part → after ≡ take most (old ++ more)
range_more most old before after done part more so_far step is =
    step ∙ ap (λ ps. take most (ps ++ part)) so_far ∙ take_take most (old ++ done) part
    ∙ ap (take most) (append_assoc old done part ∙ ap (λ ps. old ++ ps) (sym is))

pub range_push : (most : ℕ) (old done more : Pairs) (before after : List Pair) (copy : Pair) (pair : List ℕ × List ℕ) → map entry before ≡ take most (old ++ done) → length before ≤ most → (length before ≡ most → ⊥)
    → after ≡ before ++ copy ∷ [] → entry copy ≡ pair → more ≡ done ++ pair ∷ [] → (length after ≤ most) × (map entry after ≡ take most (old ++ more))
range_push most old done more before after copy pair so_far few apart pushed copy_is is =
    let longer : length after ≤ most = omega (arith, ap length pushed ∙ length-append before (copy ∷ [])) in
    let added = ap (map entry) pushed ∙ map-append entry before (copy ∷ []) ∙ ap (λ p. map entry before ++ p ∷ []) copy_is in
    let whole = take_all most (map entry after) (subst (λ n. n ≤ most) (sym (length-map after entry)) longer) in
    (longer, range_more most old (map entry before) (map entry after) done (pair ∷ []) more so_far (sym whole ∙ ap (take most) added) is)

pub range_full : (most : ℕ) (old done part more : Pairs) (copies : List Pair) → map entry copies ≡ take most (old ++ done) → length copies ≡ most → more ≡ done ++ part → map entry copies ≡ take most (old ++ more)
range_full most old done part more copies so_far full is =
    let long : most ≤ length (old ++ done) = omega (arith, length-take most (old ++ done), ap length so_far, length-map copies entry) in
    so_far ∙ sym (take-append-le most (old ++ done) part long) ∙ ap (take most) (append_assoc old done part ∙ ap (λ ps. old ++ ps) (sym is))

pub count_more : (cap n m : ℕ) (done part more : Pairs) → n ≡ min cap (length done) → m ≡ min (cap - n) (length part) → more ≡ done ++ part → n + m ≡ min cap (length more)
count_more cap n m done part more so_far step is = omega (arith, ap length is ∙ length-append done part)

pub count_full : (cap n : ℕ) (done part more : Pairs) → n ≡ min cap (length done) → n ≡ cap → more ≡ done ++ part → n ≡ min cap (length more)
count_full cap n done part more so_far full is = omega (arith, ap length is ∙ length-append done part)

module _ {R : Type 0} (pairs : R → Pairs) (low high : List ℕ) where
  pub within_more : (runs : List R) (at : ℕ) (run : R) → at < length runs → run ≡ get_or runs at run
      → filter (is_within low high) (flat_map pairs (take (at + 1) runs)) ≡ filter (is_within low high) (flat_map pairs (take at runs)) ++ filter (is_within low high) (pairs run)
  within_more runs at run within is = ap (filter (is_within low high)) (flat_more pairs runs at run within is) ∙ filter-append (is_within low high) (flat_map pairs (take at runs)) (pairs run)

  pub within_rest : (runs : List R) (at : ℕ) → filter (is_within low high) (flat_map pairs runs)
      ≡ filter (is_within low high) (flat_map pairs (take at runs)) ++ filter (is_within low high) (flat_map pairs (drop at runs))
  within_rest runs at = ap (filter (is_within low high)) (flat_rest pairs runs at) ∙ filter-append (is_within low high) (flat_map pairs (take at runs)) (flat_map pairs (drop at runs))

  -- the pairs of the range in the runs from its seat on
  pub within_whole : (held seen runs : List R) (all : Pairs) → flat_map pairs held ≡ all → seen ≡ held
      → filter (is_within low high) (flat_map pairs runs) ≡ filter (is_within low high) (flat_map pairs seen) → filter (is_within low high) all ≡ filter (is_within low high) (flat_map pairs runs)
  within_whole held seen runs all view is same = sym (same ∙ ap (λ rs. filter (is_within low high) (flat_map pairs rs)) is ∙ ap (filter (is_within low high)) view)

  -- a run that begins behind the range ends it
  pub within_done : (runs : List R) (at : ℕ) (run : R) → IsTrue (all_have pairs runs) → IsTrue (is_rising (flat_map pairs runs)) → at < length runs → run ≡ get_or runs at run
      → is_le (key_cmp high (first_key (pairs run))) ≡ true → filter (is_within low high) (flat_map pairs runs) ≡ filter (is_within low high) (flat_map pairs (take at runs))
  within_done runs at run have up within is le = within_rest runs at
      ∙ ap (λ ps. filter (is_within low high) (flat_map pairs (take at runs)) ++ ps) (none_from_run pairs runs low high at run have up within is le)
      ∙ append-nil (filter (is_within low high) (flat_map pairs (take at runs)))

module _ {R : Type 0} (pairs : R → Pairs) where
  -- what a cut answers, in each case
  pub unchanged : (cut : Option R) (old new : R) → cut ≡ None
      → MatchOption cut (pairs new ≡ pairs old) (λ part. (pairs new ++ pairs part ≡ pairs old) × IsTrue (has_pairs (pairs new)) × IsTrue (has_pairs (pairs part))) → pairs new ≡ pairs old
  unchanged None old new is told = told
  unchanged (Some part) old new is told = absurd (cc)

  pub parted : (cut : Option R) (part old new : R) → cut ≡ Some part
      → MatchOption cut (pairs new ≡ pairs old) (λ part. (pairs new ++ pairs part ≡ pairs old) × IsTrue (has_pairs (pairs new)) × IsTrue (has_pairs (pairs part)))
      → (pairs new ++ pairs part ≡ pairs old) × IsTrue (has_pairs (pairs new)) × IsTrue (has_pairs (pairs part))
  parted cut part old new is told =
      subst (λ c. MatchOption c (pairs new ≡ pairs old) (λ part. (pairs new ++ pairs part ≡ pairs old) × IsTrue (has_pairs (pairs new)) × IsTrue (has_pairs (pairs part)))) is told

  -- each run has pairs still, whether a pair was put or not
  pub have_either : {E A : Type 0} (runs : List R) (at : ℕ) (key value : List ℕ) (old new : R) (result : Result A E) → old ≡ get_or runs at old → at < length runs → IsTrue (all_have pairs runs)
      → OnOk result (pairs new ≡ put key_cmp key value (pairs old)) → OnErr result (pairs new ≡ pairs old) → IsTrue (all_have pairs (set runs at new))
  have_either runs at key value old new (Ok _) is within have ok err = have_put pairs runs at key value (pairs old) new ok have
  have_either runs at key value old new (Err _) is within have ok err = have_same pairs runs at old new is within err have

-- the parts of a list that is cut
pub cut_off : {R : Type 0} (runs first rest : List R) (at : ℕ) → first ≡ take at runs → rest ≡ drop at runs → 0 < at → at < length runs
    → (first ++ rest ≡ runs) × (0 < length first) × (0 < length rest)
cut_off runs first rest at first_is rest_is some more = (
  ap (λ rs. rs ++ rest) first_is ∙ ap (λ rs. take at runs ++ rs) rest_is ∙ take-append-drop at runs,
  subst (λ rs. 0 < length rs) (sym first_is) (simp length-take (omega arith)),
  subst (λ rs. 0 < length rs) (sym rest_is) (simp length-drop (omega arith)),
)
