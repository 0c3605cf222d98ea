-- What an edit of a list of pairs does to the content that it stands for.
use Rattle.std.proofs.Common.{◌≡◌, zero, suc, ◌∷◌, take, ℕ, Bool, true, false, not, cond, List, [], length, IsTrue, Option, None, refl, sym, ap, subst, ◌∙◌, arith, filter}
use Rattle.std.specs.Prelude.{T}
use Rattle.std.specs.Ordering.{eq_by_cmp}
use Rattle.std.proofs.lemmas.Cmp.{nat_list_cmp_total, eq_by_cmp_equiv}
use Rattle.std.specs.FinMap as map
use Rattle.std.specs.FinMap.Entries.{find-where_key, is_sorted-put, is_sorted-where_key}
use Rattle.pq_store.specs.Content.{key_cmp, is_rising, Content, is_within, pairs_within, IsPartOf}
use Rattle.std.proofs.lemmas.List.{length-take}
use Rattle.std.proofs.lemmas.List.Elements.{filter_passes, All-take}
use Rattle.pq_store.proofs.Places.{is_below_all, first_below, rest_rises, Pairs, is_other, same_key}

holds : (b : Bool) → IsTrue b → T b
holds b h = subst T (sym h) tt

pub told : (b : Bool) → T b → IsTrue b
told true h = refl
told false h = absurd h

flipped : (a b : Bool) → a ≡ b → (found : Option (List ℕ)) → cond (not a) found None ≡ cond b None found
flipped true true e found = refl
flipped false false e found = refl
flipped true false e found = absurd (cc)
flipped false true e found = absurd (cc)

-- the content that a list of pairs stands for
abbrev pub seen : Pairs → Content
seen pairs = map.from_sorted pairs

pub seen_entries : (pairs : Pairs) → IsTrue (is_rising pairs) → map.entries (seen pairs) ≡ pairs
seen_entries pairs up = map.entries-from_sorted key_cmp pairs (holds _ up)

pub seen_get : (pairs : Pairs) (key : List ℕ) → IsTrue (is_rising pairs) → map.get (seen pairs) key ≡ map.find key_cmp key pairs
seen_get pairs key up = map.get-from_sorted key_cmp pairs key (holds _ up)

pub seen_none : seen [] ≡ map.empty
seen_none = map.empty_of_len (seen []) (map.len-entries (seen []) ∙ ap (λ pairs. length pairs) (seen_entries [] refl))

pub rising_put : (key value : List ℕ) (old new : Pairs) → IsTrue (is_rising old) → map.put key_cmp key value old ≡ new → IsTrue (is_rising new)
rising_put key value old new up is = told _ (subst (λ pairs. T (is_rising pairs)) is (is_sorted-put key_cmp nat_list_cmp_total key value old (holds _ up)))

pub seen_put : (key value : List ℕ) (old new : Pairs) → IsTrue (is_rising old) → map.put key_cmp key value old ≡ new → seen new ≡ map.insert (seen old) key value
seen_put key value old new up is =
    map.same_entries_map _ _ (seen_entries new (rising_put key value old new up is) ∙ sym is
    ∙ sym (map.entries-insert nat_list_cmp_total (seen old) key value ∙ ap (map.put key_cmp key value) (seen_entries old up)))

pub rising_others : (key : List ℕ) (old new : Pairs) → IsTrue (is_rising old) → filter (is_other key) old ≡ new → IsTrue (is_rising new)
rising_others key old new up is = told _ (subst (λ pairs. T (is_rising pairs)) is (is_sorted-where_key key_cmp (λ x. not (eq_by_cmp key_cmp key x)) old (holds _ up)))

pub seen_others : (key : List ℕ) (old new : Pairs) → IsTrue (is_rising old) → filter (is_other key) old ≡ new → seen new ≡ map.remove (seen old) key
seen_others key old new up is = map.same_map nat_list_cmp_total same_key _ _ (λ q.
    seen_get new q (rising_others key old new up is)
    ∙ ap (map.find key_cmp q) (sym is)
    ∙ find-where_key key_cmp (λ x. not (eq_by_cmp key_cmp key x)) q (λ x t. ap (λ y. not (eq_by_cmp key_cmp key y)) (sym (same_key q x t))) old
    ∙ flipped _ _ ((eq_by_cmp_equiv nat_list_cmp_total).symm key q) _
    ∙ sym (map.get-remove nat_list_cmp_total (seen old) key q ∙ ap (cond (eq_by_cmp key_cmp q key) None) (seen_get old q up)))

pub seen_within : (low high : List ℕ) (pairs : Pairs) → IsTrue (is_rising pairs) → pairs_within (seen pairs) low high ≡ filter (is_within low high) pairs
seen_within low high pairs up = ap (filter (is_within low high)) (seen_entries pairs up)

below_take : (key : List ℕ) (n : ℕ) (pairs : Pairs) → IsTrue (is_below_all key pairs) → IsTrue (is_below_all key (take n pairs))
below_take key zero pairs below = refl
below_take key (suc n) [] below = refl
below_take key (suc n) (pair ∷ pairs) below = grind (arith, below, below_take key n pairs)

rising_take : (n : ℕ) (pairs : Pairs) → IsTrue (is_rising pairs) → IsTrue (is_rising (take n pairs))
rising_take zero pairs up = refl
rising_take (suc n) [] up = refl
rising_take (suc n) (pair ∷ pairs) up = grind (arith, below_take pair.0 n pairs (first_below pair pairs up), rising_take n pairs (rest_rises pair pairs up))

-- the first pairs of a range are at most as many, lie in it and rise
pub part_of : (content : Content) (low high : List ℕ) (limit : ℕ) → IsPartOf low high limit (take limit (pairs_within content low high))
part_of content low high limit = record {
  few = simp length-take (omega arith);
  within = All-take (λ pair. is_within low high pair ≡ true) limit _ (filter_passes (is_within low high) (map.entries content));
  rising = rising_take limit (pairs_within content low high) (told _ (is_sorted-filter low high (map.entries content) (map.entries_sorted content)));
}
  where
    is_sorted-filter : (low high : List ℕ) (pairs : Pairs) → T (is_rising pairs) → T (is_rising (filter (is_within low high) pairs))
    is_sorted-filter low high pairs up = is_sorted-where_key key_cmp (λ key. is_within low high (key, [])) pairs up
