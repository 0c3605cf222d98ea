-- A list of pairs at the place of a key.
use Rattle.std.proofs.Common.{◌≡◌, ℕ, ◌+◌, ◌<◌, ◌≤◌, zero, suc, Bool, true, false, not, cond, List, [], ◌∷◌, ◌++◌, take, drop, get_or, set, length, filter, IsTrue, Some, None, refl, sym, ap, subst, inl, inr, ◌∙◌, add-one, arith}
use Rattle.std.specs.Bool.{◌==◌}
use Rattle.std.specs.List.{flat_map, insert as insert_at, remove as remove_at}
use Rattle.std.specs.Ordering.{is_lt, is_le, is_eq, eq_by_cmp}
use Rattle.std.specs.declared.cmp.Ordering.{Ordering}
use Rattle.std.specs.declared.cmp.Ordering.TheVariants.{Less, Equal, Greater}
use Rattle.std.specs.FinMap.{find, put}
use Rattle.std.specs.FinMap.Entries.{by_order}
use Rattle.std.proofs.lemmas.List.{take-append-drop, drop_more, set_split, drop_all, append-nil, take_more}
use Rattle.std.proofs.lemmas.Bool.{cases_lt}
use Rattle.std.proofs.lemmas.List.Elements.{filter-append}
use Rattle.pq_store.specs.Content.{key_cmp, is_rising, is_within}
use Rattle.pq_mem_store.specs.Runs.{Pairs, has_pairs, first_key, begins_with, are_behind, others, all_have, IsPlace}
use Rattle.pq_mem_store.specs.Split.{is_from, are_before, are_from}
use Rattle.pq_store.proofs.Places.{turned, same_key, itself, is_other, others_below_all}
use Rattle.pq_mem_store.proofs.Split.{find_none, put_first, find_late, put_late, others_early, none_early}
use Rattle.pq_mem_store.proofs.Seats.{not_le, not_from, rising_left, rising_right, behind_first, from_first, from_below, read_is, before_run, none_from}

-- a pair as a run of its own
abbrev pub alone : List ℕ × List ℕ → Pairs
alone pair = pair ∷ []

alone_flat : (pairs : Pairs) → flat_map alone pairs ≡ pairs
alone_flat [] = refl
alone_flat (pair ∷ pairs) = ap (λ ps. pair ∷ ps) (alone_flat pairs)

pub alone_have : (pairs : Pairs) → IsTrue (all_have alone pairs)
alone_have [] = refl
alone_have (pair ∷ pairs) = alone_have pairs

equal_of : (r : Ordering) → is_eq r ≡ true → r ≡ Equal
equal_of Less is = absurd (cc)
equal_of Equal is = refl
equal_of Greater is = absurd (cc)

greater_than : (key a : List ℕ) → is_le (key_cmp key a) ≡ true → eq_by_cmp key_cmp key a ≡ false → is_lt (key_cmp key a) ≡ true
greater_than key a le apart = grind (arith, le, apart)

before_push : (key : List ℕ) (pairs : Pairs) (pair : List ℕ × List ℕ) → IsTrue (are_before key pairs) → is_from key pair.0 ≡ false → IsTrue (are_before key (pairs ++ pair ∷ []))
before_push key [] pair before less = grind (arith, less)
before_push key (first ∷ pairs) pair before less = grind (arith, before, before_push key pairs pair)

pub behind_begins : (key : List ℕ) (pairs : Pairs) → IsTrue (are_behind key pairs) → begins_with key pairs ≡ false
behind_begins key [] behind = refl
behind_begins key (pair ∷ pairs) behind = grind (arith, behind)

-- ---- where a key belongs
module _ (pairs : Pairs) (key : List ℕ) (up : IsTrue (is_rising pairs)) where
  rises : IsTrue (is_rising (flat_map alone pairs))
  rises = subst (λ ps. IsTrue (is_rising ps)) (sym (alone_flat pairs)) up

  pub rises_from : (at : ℕ) → IsTrue (is_rising (drop at pairs))
  rises_from at = rising_right (take at pairs) (drop at pairs) (subst (λ ps. IsTrue (is_rising ps)) (sym (take-append-drop at pairs)) up)

  before_at : (at : ℕ) → at < length pairs → ((d : List ℕ × List ℕ) → is_le (key_cmp (get_or pairs at d).0 key) ≡ true) → IsTrue (are_before key (take at pairs))
  before_at at within le = subst (λ ps. IsTrue (are_before key ps)) (alone_flat (take at pairs)) (before_run alone pairs key (alone_have pairs) rises at ([], []) within (le ([], [])))

  -- those up to a lesser one are lesser
  pub before_next : (at : ℕ) (pair : List ℕ × List ℕ) → at < length pairs → pair ≡ get_or pairs at pair → key_cmp pair.0 key ≡ Less → IsTrue (are_before key (take (at + 1) pairs))
  before_next at pair within is less =
      let before = before_at at within (λ d. ap (λ p. is_le (key_cmp p.0 key)) (read_is pairs at at pair d within is refl) ∙ ap is_le less) in
      subst (λ ps. IsTrue (are_before key ps)) (sym (take_more pairs at pair within ∙ ap (λ p. take at pairs ++ p ∷ []) (sym is)))
      (before_push key (take at pairs) pair before (not_from key pair.0 less))

  -- and those from a greater one on are greater
  pub behind_here : (at : ℕ) (pair : List ℕ × List ℕ) → at < length pairs → pair ≡ get_or pairs at pair → key_cmp pair.0 key ≡ Greater → IsTrue (are_behind key (drop at pairs))
  behind_here at pair within is more = behind_first key (drop at pairs) (rises_from at) (λ _.
      ap (λ ps. is_lt (key_cmp key (first_key ps))) (drop_more pairs at pair within) ∙ ap (λ p. is_lt (key_cmp key p.0)) (sym is) ∙ not_le pair.0 key (ap is_le more))

  pub place_between : (at : ℕ) → at ≤ length pairs → IsTrue (are_before key (take at pairs)) → IsTrue (are_behind key (drop at pairs)) → IsPlace pairs key at
  place_between at within before behind = (within, before, from_below key key (drop at pairs) (ap is_le (itself key)) behind)

  pub place_equal : (at : ℕ) (pair : List ℕ × List ℕ) → at < length pairs → pair ≡ get_or pairs at pair → key_cmp pair.0 key ≡ Equal → IsPlace pairs key at
  place_equal at pair within is equal = (
    omega (arith, within),
    before_at at within (λ d. ap (λ p. is_le (key_cmp p.0 key)) (read_is pairs at at pair d within is refl) ∙ ap is_le equal),
    from_first key (drop at pairs) (rises_from at) (λ _.
        ap (λ ps. is_le (key_cmp key (first_key ps))) (drop_more pairs at pair within) ∙ ap (λ p. is_le (key_cmp key p.0)) (sym is)
        ∙ ap (λ k. is_le (key_cmp key k)) (same_key pair.0 key equal) ∙ ap is_le (itself key)),
  )

  pub equal_begins : (at : ℕ) (pair : List ℕ × List ℕ) → at < length pairs → pair ≡ get_or pairs at pair → key_cmp pair.0 key ≡ Equal → begins_with key (drop at pairs) ≡ true
  equal_begins at pair within is equal = ap (begins_with key) (drop_more pairs at pair within) ∙ ap (λ p. eq_by_cmp key_cmp key p.0) (sym is)
      ∙ ap (λ k. eq_by_cmp key_cmp key k) (same_key pair.0 key equal) ∙ ap is_eq (itself key)

  -- ---- what stands at the place
  module _ (at : ℕ) (place : IsPlace pairs key at) where
    cut : pairs ≡ take at pairs ++ drop at pairs
    cut = sym (take-append-drop at pairs)

    pub found_within : begins_with key (drop at pairs) ≡ true → at < length pairs
    found_within found = elim (cases_lt at (length pairs)) [
      | inl within ↦ within
      | inr past ↦ absurd (nothing (subst (λ ps. begins_with key ps ≡ true) (drop_all at pairs past) found))
    ]
      where
        nothing : ¬ (false ≡ true)
        nothing is = cc

    found_key : (d : List ℕ × List ℕ) → begins_with key (drop at pairs) ≡ true → key_cmp key (get_or pairs at d).0 ≡ Equal
    found_key d found = equal_of (key_cmp key (get_or pairs at d).0) (ap (begins_with key) (sym (drop_more pairs at d (found_within found))) ∙ found)

    absent_behind : begins_with key (drop at pairs) ≡ false → IsTrue (are_behind key (drop at pairs))
    absent_behind apart = behind_first key (drop at pairs) (rises_from at) (λ some. less (drop at pairs) place.2 apart some)
      where
        less : (rest : Pairs) → IsTrue (are_from key rest) → begins_with key rest ≡ false → IsTrue (has_pairs rest) → is_lt (key_cmp key (first_key rest)) ≡ true
        less [] late apart some = absurd (cc)
        less (pair ∷ rest) late apart some = greater_than key pair.0 (grind (arith, late)) apart

    find_from : find key_cmp key pairs ≡ find key_cmp key (drop at pairs)
    find_from = ap (find key_cmp key) cut ∙ find_late key key (take at pairs) (drop at pairs) (ap is_le (itself key)) place.1

    put_from : (value : List ℕ) → put key_cmp key value pairs ≡ take at pairs ++ put key_cmp key value (drop at pairs)
    put_from value = ap (put key_cmp key value) cut ∙ put_late key key value (take at pairs) (drop at pairs) (ap is_le (itself key)) place.1

    others_from : others key pairs ≡ take at pairs ++ others key (drop at pairs)
    others_from = ap (others key) cut ∙ filter-append (is_other key) (take at pairs) (drop at pairs)
        ∙ ap (λ ps. ps ++ others key (drop at pairs)) (others_early key key (take at pairs) (ap is_le (itself key)) place.1)

    pub find_found : (d : List ℕ × List ℕ) → begins_with key (drop at pairs) ≡ true → find key_cmp key pairs ≡ Some (get_or pairs at d).1
    find_found d found = find_from ∙ ap (find key_cmp key) (drop_more pairs at d (found_within found))
        ∙ ap (λ r. cond (is_eq r) (Some (get_or pairs at d).1) (find key_cmp key (drop (at + 1) pairs))) (found_key d found)

    pub find_absent : begins_with key (drop at pairs) ≡ false → find key_cmp key pairs ≡ None
    find_absent apart = find_from ∙ find_none key (drop at pairs) (absent_behind apart)

    pub put_found : (value : List ℕ) → begins_with key (drop at pairs) ≡ true → set pairs at (key, value) ≡ put key_cmp key value pairs
    put_found value found =
        let d : List ℕ × List ℕ = ([], []) in
        let rest = drop (at + 1) pairs in
        set_split pairs at (key, value) (found_within found)
        ∙ ap (λ n. take at pairs ++ (key, value) ∷ drop n pairs) (sym (add-one at))
        ∙ ap (λ k. take at pairs ++ (k, value) ∷ rest) (same_key key (get_or pairs at d).0 (found_key d found))
        ∙ ap (λ r. take at pairs ++ by_order r ((key, value) ∷ get_or pairs at d ∷ rest) (((get_or pairs at d).0, value) ∷ rest) (get_or pairs at d ∷ put key_cmp key value rest)) (sym (found_key d found))
        ∙ ap (λ ps. take at pairs ++ put key_cmp key value ps) (sym (drop_more pairs at d (found_within found)))
        ∙ sym (put_from value)

    pub put_absent : (value : List ℕ) → begins_with key (drop at pairs) ≡ false → insert_at pairs at (key, value) ≡ put key_cmp key value pairs
    put_absent value apart = ap (λ ps. take at pairs ++ ps) (sym (put_first key value (drop at pairs) (absent_behind apart))) ∙ sym (put_from value)

    pub others_found : begins_with key (drop at pairs) ≡ true → remove_at pairs at ≡ others key pairs
    others_found found =
        let d : List ℕ × List ℕ = ([], []) in
        let rest = drop (at + 1) pairs in
        let same = same_key key (get_or pairs at d).0 (found_key d found) in
        let late = rises_first (get_or pairs at d) rest (subst (λ ps. IsTrue (is_rising ps)) (drop_more pairs at d (found_within found)) (rises_from at)) in
        ap (λ n. take at pairs ++ drop n pairs) (sym (add-one at))
        ∙ ap (λ ps. take at pairs ++ ps) (sym (others_below_all key rest (subst (λ k. IsTrue (are_behind k rest)) (sym same) late)))
        ∙ ap (λ r. take at pairs ++ cond (not (is_eq r)) (get_or pairs at d ∷ others key rest) (others key rest)) (sym (found_key d found))
        ∙ ap (λ ps. take at pairs ++ others key ps) (sym (drop_more pairs at d (found_within found)))
        ∙ sym others_from
      where
        rises_first : (pair : List ℕ × List ℕ) (rest : Pairs) → IsTrue (is_rising (pair ∷ rest)) → IsTrue (are_behind pair.0 rest)
        rises_first pair rest up = grind (arith, up)

    pub others_absent : begins_with key (drop at pairs) ≡ false → pairs ≡ others key pairs
    others_absent apart = cut ∙ ap (λ ps. take at pairs ++ ps) (sym (others_below_all key (drop at pairs) (absent_behind apart))) ∙ sym others_from

-- ---- the pairs of a range
from_take : (key : List ℕ) (n : ℕ) (pairs : Pairs) → IsTrue (are_from key pairs) → IsTrue (are_from key (take n pairs))
from_take key zero pairs late = refl
from_take key (suc n) [] late = refl
from_take key (suc n) (pair ∷ pairs) late = grind (arith, late, from_take key n pairs)

all_within : (low high : List ℕ) (pairs : Pairs) → IsTrue (are_from low pairs) → IsTrue (are_before high pairs) → filter (is_within low high) pairs ≡ pairs
all_within low high [] late early = refl
all_within low high (pair ∷ pairs) late early = grind (arith, late, early, turned high pair.0, all_within low high pairs)

pub within_part : (pairs : Pairs) (low high : List ℕ) (start end : ℕ) → IsPlace pairs low start → IsPlace (drop start pairs) high end
    → take end (drop start pairs) ≡ filter (is_within low high) pairs
within_part pairs low high start end first last =
    let rest = drop start pairs in
    let part = take end rest in
    sym (ap (filter (is_within low high)) (sym (take-append-drop start pairs)) ∙ filter-append (is_within low high) (take start pairs) rest
    ∙ ap (λ ps. ps ++ filter (is_within low high) rest) (none_early low low high (take start pairs) (ap is_le (itself low)) first.1)
    ∙ ap (filter (is_within low high)) (sym (take-append-drop end rest)) ∙ filter-append (is_within low high) part (drop end rest)
    ∙ ap (λ ps. filter (is_within low high) part ++ ps) (none_from low high (drop end rest) last.2)
    ∙ append-nil (filter (is_within low high) part)
    ∙ all_within low high part (from_take low end rest first.2) last.1)

-- ---- what a block answers
pub empty_is : (pairs : Pairs) (b : Bool) → b ≡ (length pairs == 0) → b ≡ not (has_pairs pairs)
empty_is [] b is = is
empty_is (pair ∷ pairs) b is = is ∙ none
  where
    none : (length (pair ∷ pairs) == 0) ≡ false
    none = grind arith

pub has_some : (pairs : Pairs) → 0 < length pairs → IsTrue (has_pairs pairs)
has_some [] some = absurd (omega arith)
has_some (pair ∷ pairs) some = refl

pub take_next : (pairs : Pairs) (at : ℕ) (pair : List ℕ × List ℕ) → at < length pairs → pair ≡ get_or pairs at pair → take (at + 1) pairs ≡ take at pairs ++ pair ∷ []
take_next pairs at pair within is = take_more pairs at pair within ∙ ap (λ p. take at pairs ++ p ∷ []) (sym is)

pub parts_rise : (pairs first rest : Pairs) → first ++ rest ≡ pairs → IsTrue (is_rising pairs) → IsTrue (is_rising first) × IsTrue (is_rising rest)
parts_rise pairs first rest is up =
    let rises = subst (λ ps. IsTrue (is_rising ps)) (sym is) up in
    (rising_left first rest rises, rising_right first rest rises)
