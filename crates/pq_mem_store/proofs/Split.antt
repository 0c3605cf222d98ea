-- What two parts hold together, where no key of the first is late and each of the second is.
use Rattle.std.proofs.Common.{◌≡◌, ℕ, ◌+◌, ◌-◌, zero, suc, true, false, cond, take, min, length, List, [], ◌∷◌, ◌++◌, IsTrue, Some, None, refl, sym, ap, subst, append_assoc, ◌∙◌, arith, filter}
use Rattle.std.specs.Prelude.{Result, Ok, Err, IfOk, OnOk, OnErr}
use Rattle.std.specs.Ordering.{eq_by_cmp}
use Rattle.std.specs.declared.cmp.Ordering.TheVariants.{Less}
use Rattle.std.specs.FinMap as map
use Rattle.std.specs.FinMap.{put, entries, insert, remove, get}
use Rattle.std.proofs.lemmas.List.{length-append, append-nil}
use Rattle.std.proofs.lemmas.List.Elements.{filter-append}
use Rattle.pq_store.specs.Content.{key_cmp, is_rising, Content, is_within, pairs_within}
use Rattle.pq_mem_store.specs.Split.{is_from, are_before, are_from, both_contents}
use Rattle.pq_store.proofs.Places.{Pairs, is_below_all, is_other, turned, same_key, below_below, first_below, rest_rises, rising_first, others_below_all}
use Rattle.pq_store.proofs.Views.{seen_none, seen_entries, rising_put}
use Rattle.pq_store.proofs.Uses.{rises, entries-insert, entries-remove}

-- how many there are more
pub more_of : (given more first : Pairs) → first ≡ given ++ more → length first - length given ≡ length more
more_of given more first is = ap (λ pairs. length pairs - length given) is ∙ ap (λ n. n - length given) (length-append given more) ∙ (omega arith)

-- ---- what a call did
pub on_ok : {A E P Q : Type 0} (result : Result A E) → (P → Q) → OnOk result P → OnOk result Q
on_ok (Ok _) more p = more p
on_ok (Err _) more p = p

pub on_err : {A E P Q : Type 0} (result : Result A E) → (P → Q) → OnErr result P → OnErr result Q
on_err (Ok _) more p = p
on_err (Err _) more p = more p

pub rising_either : {A E : Type 0} (result : Result A E) (key value : List ℕ) (old new : Pairs) → OnOk result (new ≡ put key_cmp key value old) → OnErr result (new ≡ old)
    → IsTrue (is_rising old) → IsTrue (is_rising new)
rising_either (Ok _) key value old new ok err up = rising_put key value old new up (sym ok)
rising_either (Err _) key value old new ok err up = subst (λ pairs. IsTrue (is_rising pairs)) (sym err) up

pub on_ok_value : {A E : Type 0} {P Q : A → Type 0} (result : Result A E) → ((x : A) → P x → Q x) → IfOk result P → IfOk result Q
on_ok_value (Ok x) more p = more x p
on_ok_value (Err _) more p = p

pub either_way : {A E : Type 0} (P : Content → Type 0) (result : Result A E) (new inserted old : Content) → OnOk result (new ≡ inserted) → OnErr result (new ≡ old)
    → P inserted → P old → P new
either_way P (Ok _) new inserted old ok err p q = subst P (sym ok) p
either_way P (Err _) new inserted old ok err p q = subst P (sym err) q

-- ---- what stands behind greater keys

pub find_none : (key : List ℕ) (pairs : Pairs) → IsTrue (is_below_all key pairs) → map.find key_cmp key pairs ≡ None
find_none key [] below = refl
find_none key (pair ∷ pairs) below = grind (arith, below, find_none key pairs)

pub find_front : (key : List ℕ) (first second : Pairs) → IsTrue (is_below_all key second) → map.find key_cmp key (first ++ second) ≡ map.find key_cmp key first
find_front key [] second below = find_none key second below
find_front key (pair ∷ first) second below = ap (cond (eq_by_cmp key_cmp key pair.0) (Some pair.1)) (find_front key first second below)

pub put_first : (key value : List ℕ) (pairs : Pairs) → IsTrue (is_below_all key pairs) → put key_cmp key value pairs ≡ (key, value) ∷ pairs
put_first key value [] below = refl
put_first key value (pair ∷ pairs) below = grind (arith, below)

pub put_front : (key value : List ℕ) (first second : Pairs) → IsTrue (is_below_all key second) → put key_cmp key value (first ++ second) ≡ put key_cmp key value first ++ second
put_front key value [] second below = put_first key value second below
put_front key value (pair ∷ first) second below = grind (arith, put_front key value first second below)

module _ (bound : List ℕ) where
  -- an early key is below a late one
  early_below : (a b : List ℕ) → is_from bound a ≡ false → is_from bound b ≡ true → key_cmp a b ≡ Less
  early_below a b early late = grind (arith, early, late, turned bound a, below_below a bound b, same_key bound b)

  below_late : (key : List ℕ) (pairs : Pairs) → is_from bound key ≡ false → IsTrue (are_from bound pairs) → IsTrue (is_below_all key pairs)
  below_late key [] early late = refl
  below_late key (pair ∷ pairs) early late = grind (arith, early, late, early_below key pair.0, below_late key pairs)

  below_append : (key : List ℕ) (first second : Pairs) → IsTrue (is_below_all key first) → IsTrue (is_below_all key second) → IsTrue (is_below_all key (first ++ second))
  below_append key [] second below more = more
  below_append key (pair ∷ first) second below more = grind (arith, below, more, below_append key first second)

  -- ---- lists of pairs
  module _ (second : Pairs) (late : IsTrue (are_from bound second)) where
    rising_both : (first : Pairs) → IsTrue (are_before bound first) → IsTrue (is_rising first) → IsTrue (is_rising second) → IsTrue (is_rising (first ++ second))
    rising_both [] early up more = more
    rising_both (pair ∷ first) early up more =
        rising_first pair (first ++ second)
        (below_append pair.0 first second (first_below pair first up) (below_late pair.0 second (grind (arith, early)) late))
        (rising_both first (grind (arith, early)) (rest_rises pair first up) more)

    find_early : (key : List ℕ) (first : Pairs) → is_from bound key ≡ false → map.find key_cmp key (first ++ second) ≡ map.find key_cmp key first
    find_early key first early = find_front key first second (below_late key second early late)

    put_early : (key value : List ℕ) (first : Pairs) → is_from bound key ≡ false → put key_cmp key value (first ++ second) ≡ put key_cmp key value first ++ second
    put_early key value first early = put_front key value first second (below_late key second early late)

  pub find_late : (key : List ℕ) (first second : Pairs) → is_from bound key ≡ true → IsTrue (are_before bound first) → map.find key_cmp key (first ++ second) ≡ map.find key_cmp key second
  find_late key [] second late early = refl
  find_late key (pair ∷ first) second late early = grind (arith, early, late, turned key pair.0, early_below pair.0 key, find_late key first second)

  pub put_late : (key value : List ℕ) (first second : Pairs) → is_from bound key ≡ true → IsTrue (are_before bound first) → put key_cmp key value (first ++ second) ≡ first ++ put key_cmp key value second
  put_late key value [] second late early = refl
  put_late key value (pair ∷ first) second late early = grind (arith, early, late, turned key pair.0, early_below pair.0 key, put_late key value first second)

  early_put : (key value : List ℕ) (pairs : Pairs) → is_from bound key ≡ false → IsTrue (are_before bound pairs) → IsTrue (are_before bound (put key_cmp key value pairs))
  early_put key value [] is early = grind (arith, is)
  early_put key value (pair ∷ pairs) is early = grind (arith, is, early, early_put key value pairs)

  late_put : (key value : List ℕ) (pairs : Pairs) → is_from bound key ≡ true → IsTrue (are_from bound pairs) → IsTrue (are_from bound (put key_cmp key value pairs))
  late_put key value [] is late = grind (arith, is)
  late_put key value (pair ∷ pairs) is late = grind (arith, is, late, late_put key value pairs)

  pub others_early : (key : List ℕ) (pairs : Pairs) → is_from bound key ≡ true → IsTrue (are_before bound pairs) → filter (is_other key) pairs ≡ pairs
  others_early key [] late early = refl
  others_early key (pair ∷ pairs) late early = grind (arith, early, late, turned key pair.0, early_below pair.0 key, others_early key pairs)

  early_others : (key : List ℕ) (pairs : Pairs) → IsTrue (are_before bound pairs) → IsTrue (are_before bound (filter (is_other key) pairs))
  early_others key [] early = refl
  early_others key (pair ∷ pairs) early = grind (arith, early, early_others key pairs)

  late_others : (key : List ℕ) (pairs : Pairs) → IsTrue (are_from bound pairs) → IsTrue (are_from bound (filter (is_other key) pairs))
  late_others key [] late = refl
  late_others key (pair ∷ pairs) late = grind (arith, late, late_others key pairs)

  -- a range from a late key on has no early ones
  pub none_early : (low high : List ℕ) (pairs : Pairs) → is_from bound low ≡ true → IsTrue (are_before bound pairs) → filter (is_within low high) pairs ≡ []
  none_early low high [] late early = refl
  none_early low high (pair ∷ pairs) late early = grind (arith, early, late, turned low pair.0, early_below pair.0 low, none_early low high pairs)

  -- and one up to an early key no late ones
  none_late : (low high : List ℕ) (pairs : Pairs) → is_from bound high ≡ false → IsTrue (are_from bound pairs) → filter (is_within low high) pairs ≡ []
  none_late low high [] early late = refl
  none_late low high (pair ∷ pairs) early late = grind (arith, early, late, turned pair.0 high, early_below high pair.0, none_late low high pairs)

  -- the first pairs of two lists
  take_both : (n : ℕ) (first second : Pairs) → take n (first ++ second) ≡ take n first ++ take (n - length (take n first)) second
  take_both zero first second = refl
  take_both (suc n) [] second = let whole : suc n - 0 ≡ suc n = omega arith in rw whole refl
  take_both (suc n) (pair ∷ first) second =
      let less : suc n - suc (length (take n first)) ≡ n - length (take n first) = omega arith in
      rw less (ap (λ pairs. pair ∷ pairs) (take_both n first second))

  -- ---- contents
  none : entries (map.empty {K = List ℕ} {X = List ℕ} {R = key_cmp}) ≡ []
  none = ap entries (sym seen_none) ∙ seen_entries [] refl

  pub none_held : (content : Content) → content ≡ map.empty → entries content ≡ []
  none_held content is = ap entries is ∙ none

  pub are_none : IsTrue (are_before bound (entries (map.empty {K = List ℕ} {X = List ℕ} {R = key_cmp}))) × IsTrue (are_from bound (entries (map.empty {K = List ℕ} {X = List ℕ} {R = key_cmp})))
  are_none = (rw none refl, rw none refl)

  pub both_none : both_contents map.empty map.empty ≡ map.empty
  both_none = ap (λ pairs. map.from_sorted (pairs ++ pairs)) none ∙ seen_none

  module _ (early late : Content) (are : IsTrue (are_before bound (entries early)) × IsTrue (are_from bound (entries late))) where
    pub entries_both : entries (both_contents early late) ≡ entries early ++ entries late
    entries_both = seen_entries (entries early ++ entries late) (rising_both (entries late) are.1 (entries early) are.0 (rises early) (rises late))

    find_both : (key : List ℕ) → get (both_contents early late) key ≡ map.find key_cmp key (entries early ++ entries late)
    find_both key = map.get-entries (both_contents early late) key ∙ ap (map.find key_cmp key) entries_both

    pub get_early : (key : List ℕ) → is_from bound key ≡ false → get (both_contents early late) key ≡ get early key
    get_early key is = find_both key ∙ find_early (entries late) are.1 key (entries early) is ∙ sym (map.get-entries early key)

    pub get_late : (key : List ℕ) → is_from bound key ≡ true → get (both_contents early late) key ≡ get late key
    get_late key is = find_both key ∙ find_late key (entries early) (entries late) is are.0 ∙ sym (map.get-entries late key)

    pub within_both : (low high : List ℕ) → pairs_within (both_contents early late) low high ≡ pairs_within early low high ++ pairs_within late low high
    within_both low high = ap (filter (is_within low high)) entries_both ∙ filter-append (is_within low high) (entries early) (entries late)

    -- a range from a late key on, and one up to an early key
    pub within_late : (low high : List ℕ) → is_from bound low ≡ true → pairs_within early low high ≡ []
    within_late low high is = none_early low high (entries early) is are.0

    pub within_early : (low high : List ℕ) → is_from bound high ≡ false → pairs_within late low high ≡ []
    within_early low high is = none_late low high (entries late) is are.1

    -- the first pairs of a range, and how many it has, from the two parts
    module _ (low high : List ℕ) (limit : ℕ) where
      pub part_late : (given answer : Pairs) → is_from bound low ≡ true → answer ≡ given ++ take limit (pairs_within late low high) → answer ≡ given ++ take limit (pairs_within (both_contents early late) low high)
      part_late given answer is found = found ∙ ap (λ pairs. given ++ take limit pairs) (sym (within_both low high ∙ ap (λ pairs. pairs ++ pairs_within late low high) (within_late low high is)))

      pub part_early : (given answer : Pairs) → is_from bound high ≡ false → answer ≡ given ++ take limit (pairs_within early low high) → answer ≡ given ++ take limit (pairs_within (both_contents early late) low high)
      part_early given answer is found = found ∙ ap (λ pairs. given ++ take limit pairs) (sym (within_both low high ∙ ap (λ pairs. pairs_within early low high ++ pairs) (within_early low high is) ∙ append-nil (pairs_within early low high)))

      pub part_both : (given first answer : Pairs) (left : ℕ) → first ≡ given ++ take limit (pairs_within early low high) → left ≡ limit - length (take limit (pairs_within early low high))
          → answer ≡ first ++ take left (pairs_within late low high) → answer ≡ given ++ take limit (pairs_within (both_contents early late) low high)
      part_both given first answer left found left_is more =
          more ∙ ap (λ pairs. pairs ++ take left (pairs_within late low high)) found
          ∙ append_assoc given (take limit (pairs_within early low high)) (take left (pairs_within late low high))
          ∙ ap (λ n. given ++ (take limit (pairs_within early low high) ++ take n (pairs_within late low high))) left_is
          ∙ ap (λ pairs. given ++ pairs) (sym (ap (take limit) (within_both low high) ∙ take_both limit (pairs_within early low high) (pairs_within late low high)))

      pub number_late : is_from bound low ≡ true → min limit (length (pairs_within late low high)) ≡ min limit (length (pairs_within (both_contents early late) low high))
      number_late is = ap (λ pairs. min limit (length pairs)) (sym (within_both low high ∙ ap (λ pairs. pairs ++ pairs_within late low high) (within_late low high is)))

      pub number_early : is_from bound high ≡ false → min limit (length (pairs_within early low high)) ≡ min limit (length (pairs_within (both_contents early late) low high))
      number_early is = ap (λ pairs. min limit (length pairs)) (sym (within_both low high ∙ ap (λ pairs. pairs_within early low high ++ pairs) (within_early low high is) ∙ append-nil (pairs_within early low high)))

      pub number_both : (first second : ℕ) → first ≡ min limit (length (pairs_within early low high)) → second ≡ min (limit - first) (length (pairs_within late low high))
          → first + second ≡ min limit (length (pairs_within (both_contents early late) low high))
      number_both first second is more =
          ap (λ n. first + n) more ∙ ap (λ n. n + min (limit - n) (length (pairs_within late low high))) is
          ∙ parts limit (length (pairs_within early low high)) (length (pairs_within late low high))
          ∙ ap (min limit) (sym (length-append (pairs_within early low high) (pairs_within late low high)))
          ∙ ap (λ pairs. min limit (length pairs)) (sym (within_both low high))
        where
          parts : (limit a b : ℕ) → min limit a + min (limit - min limit a) b ≡ min limit (a + b)
          parts limit a b = omega arith

  -- the first part after a change of an early key, and the second one after that of a late key
  module _ (early late : Content) (are : IsTrue (are_before bound (entries early)) × IsTrue (are_from bound (entries late))) (key value : List ℕ) where
    are_inserted_early : is_from bound key ≡ false → IsTrue (are_before bound (entries (insert early key value)))
    are_inserted_early is = subst (λ pairs. IsTrue (are_before bound pairs)) (sym (entries-insert early key value)) (early_put key value (entries early) is are.0)

    are_inserted_late : is_from bound key ≡ true → IsTrue (are_from bound (entries (insert late key value)))
    are_inserted_late is = subst (λ pairs. IsTrue (are_from bound pairs)) (sym (entries-insert late key value)) (late_put key value (entries late) is are.1)

    insert_early : is_from bound key ≡ false → both_contents (insert early key value) late ≡ insert (both_contents early late) key value
    insert_early is =
        map.same_entries_map _ _ (entries_both (insert early key value) late (are_inserted_early is, are.1)
        ∙ ap (λ pairs. pairs ++ entries late) (entries-insert early key value)
        ∙ sym (put_early (entries late) are.1 key value (entries early) is)
        ∙ ap (put key_cmp key value) (sym (entries_both early late are))
        ∙ sym (entries-insert (both_contents early late) key value))

    insert_late : is_from bound key ≡ true → both_contents early (insert late key value) ≡ insert (both_contents early late) key value
    insert_late is =
        map.same_entries_map _ _ (entries_both early (insert late key value) (are.0, are_inserted_late is)
        ∙ ap (λ pairs. entries early ++ pairs) (entries-insert late key value)
        ∙ sym (put_late key value (entries early) (entries late) is are.0)
        ∙ ap (put key_cmp key value) (sym (entries_both early late are))
        ∙ sym (entries-insert (both_contents early late) key value))

    -- a pair is put into its part, or nothing is changed
    module _ {A E : Type 0} (result : Result A E) (new : Content) where
      pub put_in_early : is_from bound key ≡ false → OnOk result (new ≡ insert early key value) → OnErr result (new ≡ early)
          → IsTrue (are_before bound (entries new)) × IsTrue (are_from bound (entries late))
      put_in_early is ok err = (either_way (λ m. IsTrue (are_before bound (entries m))) result new _ early ok err (are_inserted_early is) are.0, are.1)

      pub put_in_late : is_from bound key ≡ true → OnOk result (new ≡ insert late key value) → OnErr result (new ≡ late)
          → IsTrue (are_before bound (entries early)) × IsTrue (are_from bound (entries new))
      put_in_late is ok err = (are.0, either_way (λ m. IsTrue (are_from bound (entries m))) result new _ late ok err (are_inserted_late is) are.1)

      pub early_put_is : is_from bound key ≡ false → OnOk result (new ≡ insert early key value) → OnOk result (both_contents new late ≡ insert (both_contents early late) key value)
      early_put_is is = on_ok result (λ put. ap (λ m. both_contents m late) put ∙ insert_early is)

      pub late_put_is : is_from bound key ≡ true → OnOk result (new ≡ insert late key value) → OnOk result (both_contents early new ≡ insert (both_contents early late) key value)
      late_put_is is = on_ok result (λ put. ap (both_contents early) put ∙ insert_late is)

  module _ (early late : Content) (are : IsTrue (are_before bound (entries early)) × IsTrue (are_from bound (entries late))) (key : List ℕ) where
    pub are_removed_early : IsTrue (are_before bound (entries (remove early key)))
    are_removed_early = subst (λ pairs. IsTrue (are_before bound pairs)) (sym (entries-remove early key)) (early_others key (entries early) are.0)

    pub are_removed_late : IsTrue (are_from bound (entries (remove late key)))
    are_removed_late = subst (λ pairs. IsTrue (are_from bound pairs)) (sym (entries-remove late key)) (late_others key (entries late) are.1)

    others_both : filter (is_other key) (entries (both_contents early late)) ≡ filter (is_other key) (entries early) ++ filter (is_other key) (entries late)
    others_both = ap (filter (is_other key)) (entries_both early late are) ∙ filter-append (is_other key) (entries early) (entries late)

    pub remove_early : is_from bound key ≡ false → both_contents (remove early key) late ≡ remove (both_contents early late) key
    remove_early is =
        map.same_entries_map _ _ (entries_both (remove early key) late (are_removed_early, are.1)
        ∙ ap (λ pairs. pairs ++ entries late) (entries-remove early key)
        ∙ ap (λ pairs. filter (is_other key) (entries early) ++ pairs) (sym (others_below_all key (entries late) (below_late key (entries late) is are.1)))
        ∙ sym (entries-remove (both_contents early late) key ∙ others_both))

    pub remove_late : is_from bound key ≡ true → both_contents early (remove late key) ≡ remove (both_contents early late) key
    remove_late is =
        map.same_entries_map _ _ (entries_both early (remove late key) (are.0, are_removed_late)
        ∙ ap (λ pairs. entries early ++ pairs) (entries-remove late key)
        ∙ ap (λ pairs. pairs ++ filter (is_other key) (entries late)) (sym (others_early key (entries early) is are.0))
        ∙ sym (entries-remove (both_contents early late) key ∙ others_both))
