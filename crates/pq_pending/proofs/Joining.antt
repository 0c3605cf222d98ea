-- Values that are asked for at once, place by place.
use Rattle.std.proofs.Common.{◌≡◌, ◌≤◌, ◌<◌, ◌+◌, ℕ, zero, suc, cond, List, [], ◌∷◌, ◌++◌, length, map, take, get_or, Option, None, Some, refl, sym, ap, ◌∙◌, subst, arith}
use Rattle.std.proofs.lemmas.List.{take_all}
use Rattle.std.specs.Prelude.{IfOk, Result, is_none}
use Rattle.std.specs.List.{AllZip}
use Rattle.pq_content.specs.Pairs.{Change}
use Rattle.pq_store.specs.Content.{Content}
use Rattle.pq_store.specs.Rounds.{IsValueOf, IsValueAnswered}
use Rattle.pq_store.specs.declared.damage.Broke.{Broke}
use Rattle.pq_pending.specs.Gets.{open_key, joined_value, joined_values}
use Rattle.pq_pending.specs.Pending.{changed_value, value_or, AreDistinct, seen_content, seen_value, seen_answers}
use Rattle.pq_pending.proofs.Contents.{value_changed, value_same}
use Rattle.pq_pending.proofs.Lists.{seen_none}

-- a value more
pub joined_more : (changes : List Change) (keys stored : List (Option (List ℕ))) (i : ℕ) (key value : Option (List ℕ)) → i < length keys → length stored ≡ length keys → key ≡ get_or keys i key → value ≡ get_or stored i value
    → joined_values changes (take (i + 1) keys) (take (i + 1) stored) ≡ joined_values changes (take i keys) (take i stored) ++ joined_value changes key value ∷ []
joined_more changes [] stored i key value less long at at' = absurd (omega arith)
joined_more changes (k ∷ keys) [] i key value less long at at' = absurd (omega arith)
joined_more changes (k ∷ keys) (v ∷ stored) zero key value less long at at' =
    ap (λ z. joined_value changes z v ∷ []) (sym at) ∙ ap (λ z. joined_value changes key z ∷ []) (sym at')
joined_more changes (k ∷ keys) (v ∷ stored) (suc i) key value less long at at' =
    let next : suc i + 1 ≡ suc (i + 1) = omega arith in
    ap (λ n. joined_values changes (take n (k ∷ keys)) (take n (v ∷ stored))) next
    ∙ ap (λ l. joined_value changes k v ∷ l) (joined_more changes keys stored i key value (omega arith) (omega arith) at at')

pub joined_pushed : (changes : List Change) (keys stored values new : List (Option (List ℕ))) (i : ℕ) (key value joined : Option (List ℕ)) → i < length keys → length stored ≡ length keys → key ≡ get_or keys i key → value ≡ get_or stored i value
    → values ≡ joined_values changes (take i keys) (take i stored) → joined ≡ joined_value changes key value → new ≡ values ++ joined ∷ [] → new ≡ joined_values changes (take (i + 1) keys) (take (i + 1) stored)
joined_pushed changes keys stored values new i key value joined less long at at' before one pushed =
    pushed
    ∙ ap (λ vs. vs ++ joined ∷ []) before
    ∙ ap (λ v. joined_values changes (take i keys) (take i stored) ++ v ∷ []) one
    ∙ sym (joined_more changes keys stored i key value less long at at')

-- all of them
pub joined_whole : (changes : List Change) (keys stored values : List (Option (List ℕ))) (i : ℕ) → length keys ≤ i → length stored ≡ length keys → values ≡ joined_values changes (take i keys) (take i stored) → values ≡ joined_values changes keys stored
joined_whole changes keys stored values i all long is =
    subst (λ ks. values ≡ joined_values changes ks stored) (take_all i keys all) (subst (λ vs. values ≡ joined_values changes (take i keys) vs) (take_all i stored (omega arith)) is)

pub joined_length : (changes : List Change) (keys stored : List (Option (List ℕ))) → length stored ≡ length keys → length (joined_values changes keys stored) ≡ length keys
joined_length changes [] stored long = refl
joined_length changes (k ∷ keys) [] long = absurd (omega arith)
joined_length changes (k ∷ keys) (v ∷ stored) long = omega (arith, joined_length changes keys stored (omega arith))

-- ---- each of them is the value of its key

one_joined : (changes : List Change) → AreDistinct changes → (told : Option Content) (key stored : Option (List ℕ)) → IsValueOf told (open_key changes key) stored → IsValueOf (seen_content changes told) key (joined_value changes key stored)
one_joined changes apart None None stored is = tt
one_joined changes apart (Some content) None stored is = refl
one_joined changes apart told (Some key) stored is = by (changed_value changes key) refl is
  where
    by : (given : Option (Option (List ℕ))) → changed_value changes key ≡ given → IsValueOf told (cond (is_none given) (Some key) None) stored → IsValueOf (seen_content changes told) (Some key) (value_or given stored)
    by None same is = value_same changes apart told key stored (sym same) is
    by (Some new) same is = value_changed changes apart told key new (sym same)

pub joined_are : (changes : List Change) → AreDistinct changes → (told : Option Content) (keys stored : List (Option (List ℕ))) → AllZip (IsValueOf told) (map (open_key changes) keys) stored → AllZip (IsValueOf (seen_content changes told)) keys (joined_values changes keys stored)
joined_are changes apart told [] [] h = tt
joined_are changes apart told [] (v ∷ stored) h = absurd h
joined_are changes apart told (k ∷ keys) [] h = absurd h
joined_are changes apart told (k ∷ keys) (v ∷ stored) h = (one_joined changes apart told k v h.0, joined_are changes apart told keys stored h.1)

module _ (answers : List ℕ → Option (List ℕ) → Type 0) (changes : List Change) where
  one_answered : (key stored : Option (List ℕ)) → IsValueAnswered answers (open_key changes key) stored → IsValueAnswered (seen_answers answers changes) key (joined_value changes key stored)
  one_answered None stored is = refl
  one_answered (Some key) stored is = by (changed_value changes key) is
    where
      by : (given : Option (Option (List ℕ))) → IsValueAnswered answers (cond (is_none given) (Some key) None) stored → seen_value (answers key) given (value_or given stored)
      by None is = is
      by (Some new) is = refl

  pub joined_answered : (keys stored : List (Option (List ℕ))) → AllZip (IsValueAnswered answers) (map (open_key changes) keys) stored → AllZip (IsValueAnswered (seen_answers answers changes)) keys (joined_values changes keys stored)
  joined_answered [] [] h = tt
  joined_answered [] (v ∷ stored) h = absurd h
  joined_answered (k ∷ keys) [] h = absurd h
  joined_answered (k ∷ keys) (v ∷ stored) h = (one_answered k v h.0, joined_answered keys stored h.1)

  -- where nothing is pending
  pub answered_none : changes ≡ [] → (keys : List (Option (List ℕ))) (result : Result (List (Option (List ℕ))) Broke) → IfOk result (AllZip (IsValueAnswered answers) keys) → IfOk result (AllZip (IsValueAnswered (seen_answers answers changes)) keys)
  answered_none none keys result h = subst (λ cs. IfOk result (AllZip (IsValueAnswered (seen_answers answers cs)) keys)) (sym none) h

pub values_none : (changes : List Change) (told : Option Content) → changes ≡ [] → (keys : List (Option (List ℕ))) (result : Result (List (Option (List ℕ))) Broke) → IfOk result (AllZip (IsValueOf told) keys) → IfOk result (AllZip (IsValueOf (seen_content changes told)) keys)
values_none changes told none keys result h =
    subst (λ cs. IfOk result (AllZip (IsValueOf (seen_content cs told)) keys)) (sym none) (subst (λ o. IfOk result (AllZip (IsValueOf o) keys)) (sym (seen_none told)) h)
