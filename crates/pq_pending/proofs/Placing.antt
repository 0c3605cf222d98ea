-- The places of changes by their keys, as more changes come.
use Rattle.std.proofs.Common.{◌≡◌, ◌<◌, ◌+◌, ◌++◌, ℕ, zero, suc, Bool, true, false, cond, List, [], ◌∷◌, length, get_or, set, Option, Some, None, refl, sym, ap, ◌∙◌, arith}
use Rattle.std.proofs.lemmas.Iterator.Adapters.{position_from-zero}
use Rattle.std.proofs.lemmas.List.Quantifiers.{position-Some}
use Rattle.std.specs.Cmp.Lexicographic.{pointwise, texts_ties}
use Rattle.std.specs.List.{position, position_from}
use Rattle.std.specs.Map.{lookup}
use Rattle.std.specs.Ordering.{eq_by_cmp}
use Rattle.std.specs.Prelude.{nat_eq}
use Rattle.std.specs.Global.{Vec}
use Rattle.indexmap.specs.IndexMap.{insert_entry}
use Rattle.pq_content.proofs.Keys.{same_key}
use Rattle.pq_row_code.specs.declared.changes.Change.{Change as Coded}
use Rattle.pq_store.specs.Content.{key_cmp}
use Rattle.pq_pending.specs.Placed.{HavePlaces, is_of}
use Rattle.pq_pending.proofs.Contents.{turned}

-- ---- one place more in the map

abbrev pub same_bytes : Vec ℕ → Vec ℕ → Bool
same_bytes a b = pointwise nat_eq a.items b.items

abbrev at : List ℕ → List (Vec ℕ × ℕ) → Option ℕ
at key places = lookup (λ (held : Vec ℕ). pointwise nat_eq key held.items) places

same_text : (a b : List ℕ) → pointwise nat_eq a b ≡ true → a ≡ b
same_text a b is = same_key a b (sym (texts_ties a b) ∙ is)

put_there : (key : List ℕ) (places : List (Vec ℕ × ℕ)) (new : Vec ℕ) (place : ℕ) → at key (insert_entry same_bytes places new place) ≡ cond (pointwise nat_eq key new.items) (Some place) (at key places)
put_there key [] new place = refl
put_there key (held ∷ rest) new place = either (put_there key rest new place) (pointwise nat_eq new.items held.0.items) refl
  where
    later : (b c : Bool) (x y z : Option ℕ) → (b ≡ true → c ≡ true → ⊥) → cond b x (cond c y z) ≡ cond c y (cond b x z)
    later true true x y z apart = absurd (apart refl refl)
    later true false x y z apart = refl
    later false c x y z apart = refl

    hidden : (b c : Bool) (x y z : Option ℕ) → c ≡ b → cond b x z ≡ cond c x (cond b y z)
    hidden true c x y z same = ap (λ d. cond d x y) (sym same)
    hidden false c x y z same = ap (λ d. cond d x z) (sym same)

    either : at key (insert_entry same_bytes rest new place) ≡ cond (pointwise nat_eq key new.items) (Some place) (at key rest)
        → (b : Bool) → pointwise nat_eq new.items held.0.items ≡ b
        → at key (cond b ((held.0, place) ∷ rest) (held ∷ insert_entry same_bytes rest new place)) ≡ cond (pointwise nat_eq key new.items) (Some place) (cond (pointwise nat_eq key held.0.items) (Some held.1) (at key rest))
    either step true is =
        hidden (pointwise nat_eq key held.0.items) (pointwise nat_eq key new.items) (Some place) (Some held.1) (at key rest)
        (ap (pointwise nat_eq key) (same_text new.items held.0.items is))
    either step false is =
        ap (cond (pointwise nat_eq key held.0.items) (Some held.1)) step
        ∙ later (pointwise nat_eq key held.0.items) (pointwise nat_eq key new.items) (Some held.1) (Some place) (at key rest)
        (λ p q. cc (sym is ∙ ap (λ k. pointwise nat_eq k held.0.items) (sym (same_text key new.items q)) ∙ p))

-- ---- one change more in the list

abbrev first_or : Option ℕ → Option ℕ → Option ℕ
first_or (Some place) other = Some place
first_or None other = other

place_last : (key : List ℕ) (start : ℕ) (changes : List Coded) (change : Coded) → position_from (is_of key) start (changes ++ change ∷ []) ≡ first_or (position_from (is_of key) start changes) (cond (is_of key change) (Some (start + length changes)) None)
place_last key start [] change = ap (λ n. cond (is_of key change) (Some n) None) (omega arith)
place_last key start (first ∷ changes) change =
    elim (is_of key first) as (λ b. cond b (Some start) (position_from (is_of key) (start + 1) (changes ++ change ∷ [])) ≡ first_or (cond b (Some start) (position_from (is_of key) (start + 1) changes)) (cond (is_of key change) (Some (start + length (first ∷ changes))) None)) [
      | true ↦ refl
      | false ↦ place_last key (start + 1) changes change ∙ ap (λ n. first_or (position_from (is_of key) (start + 1) changes) (cond (is_of key change) (Some n) None)) (omega arith)
    ]

place_set : (key : List ℕ) (start : ℕ) (changes : List Coded) (place : ℕ) (change : Coded) → place < length changes → is_of key (get_or changes place change) ≡ is_of key change → position_from (is_of key) start (set changes place change) ≡ position_from (is_of key) start changes
place_set key start [] place change within same = absurd (omega arith)
place_set key start (first ∷ changes) zero change within same = ap (λ b. cond b (Some start) (position_from (is_of key) (start + 1) changes)) (sym same)
place_set key start (first ∷ changes) (suc place) change within same =
    ap (cond (is_of key first) (Some start)) (place_set key (start + 1) changes place change (omega arith) same)

module _ (places : List (Vec ℕ × ℕ)) (changes : List Coded) (have : HavePlaces places changes) where
  pub place_is : (key : List ℕ) → at key places ≡ position (is_of key) changes
  place_is key = have key ∙ sym (position_from-zero (is_of key) changes)

  pub put_over : (place : ℕ) (change : Coded) → position (is_of change.key) changes ≡ Some place → HavePlaces places (set changes place change)
  put_over place change found key =
      let there = position-Some (is_of change.key) changes place change found in
      have key ∙ sym (place_set key 0 changes place change there.0 (ap (λ k. eq_by_cmp key_cmp k key) (same_key _ _ there.1)))

  pub put_last : (change : Coded) (new : Vec ℕ) → new.items ≡ change.key → position (is_of change.key) changes ≡ None → HavePlaces (insert_entry same_bytes places new (length changes)) (changes ++ change ∷ [])
  put_last change new copied none key =
      put_there key places new (length changes)
      ∙ ap (λ b. cond b (Some (length changes)) (at key places)) (ap (pointwise nat_eq key) copied ∙ texts_ties key change.key ∙ turned key change.key)
      ∙ by (is_of key change) refl
      ∙ ap (λ n. first_or (position_from (is_of key) 0 changes) (cond (is_of key change) (Some n) None)) from_zero
      ∙ sym (place_last key 0 changes change)
    where
      from_zero : length changes ≡ 0 + length changes
      from_zero = omega arith

      by : (b : Bool) → is_of key change ≡ b → cond b (Some (length changes)) (at key places) ≡ first_or (position_from (is_of key) 0 changes) (cond b (Some (length changes)) None)
      by true is = ap (λ found. first_or found (Some (length changes))) (sym (absent is))
        where
          absent : is_of key change ≡ true → position_from (is_of key) 0 changes ≡ None
          absent is = ap (λ k. position_from (is_of k) 0 changes) (sym (same_key change.key key is)) ∙ sym (position_from-zero (is_of change.key) changes) ∙ none
      by false is = have key ∙ kept (position_from (is_of key) 0 changes)
        where
          kept : (found : Option ℕ) → found ≡ first_or found None
          kept None = refl
          kept (Some place) = refl
