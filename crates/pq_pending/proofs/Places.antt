-- The place of a key's change in a list of changes.
use Rattle.std.proofs.Common.{◌≡◌, ◌<◌, ◌+◌, ◌++◌, ℕ, zero, suc, Bool, true, false, cond, List, [], ◌∷◌, length, map, get_or, set, Some, None, refl, sym, ap, ◌∙◌, arith}
use Rattle.std.specs.List.{position, position_from}
use Rattle.std.specs.Ordering.{eq_by_cmp}
use Rattle.std.proofs.lemmas.Iterator.Adapters.{position_from-zero}
use Rattle.std.proofs.lemmas.List.Quantifiers.{position-Some}
use Rattle.pq_row_code.specs.declared.changes.Change.{Change as Coded}
use Rattle.pq_content.specs.Standing.{change_of}
use Rattle.pq_store.specs.Content.{key_cmp}
use Rattle.pq_pending.specs.Pending.{with_change, changed_value}
use Rattle.pq_pending.specs.Placed.{is_of as names}

module _ (key : List ℕ) where
  abbrev is_of : Coded → Bool
  is_of change = names key change

  -- ---- at the first place

  value_there : (changes : List Coded) (place : ℕ) (d : Coded) → place < length changes → is_of (get_or changes place d) ≡ true → ((k : ℕ) → k < place → is_of (get_or changes k d) ≡ false) → Some (get_or changes place d).new ≡ changed_value (map change_of changes) key
  value_there [] place d within here before = absurd (omega arith)
  value_there (change ∷ changes) zero d within here before = ap (λ b. cond b (Some change.new) (changed_value (map change_of changes) key)) (sym here)
  value_there (change ∷ changes) (suc place) d within here before =
      value_there changes place d (omega arith) here (λ k less. before (suc k) (omega arith))
      ∙ ap (λ b. cond b (Some change.new) (changed_value (map change_of changes) key)) (sym (before 0 (omega arith)))

  pub value_at : (changes : List Coded) (place : ℕ) (d : Coded) → position is_of changes ≡ Some place → Some (get_or changes place d).new ≡ changed_value (map change_of changes) key
  value_at changes place d found =
      let there = position-Some is_of changes place d found in
      value_there changes place d there.0 there.1 there.2

  with_there : (changes : List Coded) (place : ℕ) (change : Coded) → change.key ≡ key → place < length changes → is_of (get_or changes place change) ≡ true → ((k : ℕ) → k < place → is_of (get_or changes k change) ≡ false) → map change_of (set changes place change) ≡ with_change (map change_of changes) (change_of change)
  with_there [] place change at within here before = absurd (omega arith)
  with_there (first ∷ changes) zero change at within here before =
      ap (λ b. cond b (change_of change ∷ map change_of changes) (change_of first ∷ with_change (map change_of changes) (change_of change))) (sym (ap (eq_by_cmp key_cmp first.key) at ∙ here))
  with_there (first ∷ changes) (suc place) change at within here before =
      ap (λ rest. change_of first ∷ rest) (with_there changes place change at (omega arith) here (λ k less. before (suc k) (omega arith)))
      ∙ ap (λ b. cond b (change_of change ∷ map change_of changes) (change_of first ∷ with_change (map change_of changes) (change_of change))) (sym (ap (eq_by_cmp key_cmp first.key) at ∙ before 0 (omega arith)))

  pub with_at : (changes : List Coded) (place : ℕ) (change : Coded) → change.key ≡ key → position is_of changes ≡ Some place → map change_of (set changes place change) ≡ with_change (map change_of changes) (change_of change)
  with_at changes place change at found =
      let there = position-Some is_of changes place change found in
      with_there changes place change at there.0 there.1 there.2

  -- ---- where there is none

  value_past : (changes : List Coded) (start : ℕ) → position_from is_of start changes ≡ None → None ≡ changed_value (map change_of changes) key
  value_past [] start none = refl
  value_past (change ∷ changes) start none =
      elim (is_of change) as (λ b. cond b (Some start) (position_from is_of (start + 1) changes) ≡ None → None ≡ cond b (Some change.new) (changed_value (map change_of changes) key)) [
        | true ↦ λ is. absurd (cc)
        | false ↦ λ is. value_past changes (start + 1) is
      ] none

  pub value_none : (changes : List Coded) → position is_of changes ≡ None → None ≡ changed_value (map change_of changes) key
  value_none changes none = value_past changes 0 (sym (position_from-zero is_of changes) ∙ none)

  with_past : (changes : List Coded) (start : ℕ) (change : Coded) → change.key ≡ key → position_from is_of start changes ≡ None → map change_of (changes ++ change ∷ []) ≡ with_change (map change_of changes) (change_of change)
  with_past [] start change at none = refl
  with_past (first ∷ changes) start change at none =
      elim (is_of first) as (λ b. is_of first ≡ b → cond b (Some start) (position_from is_of (start + 1) changes) ≡ None → change_of first ∷ map change_of (changes ++ change ∷ []) ≡ with_change (change_of first ∷ map change_of changes) (change_of change)) [
        | true ↦ λ here is. absurd (cc)
        | false ↦ λ here is.
            ap (λ rest. change_of first ∷ rest) (with_past changes (start + 1) change at is)
            ∙ ap (λ b. cond b (change_of change ∷ map change_of changes) (change_of first ∷ with_change (map change_of changes) (change_of change))) (sym (ap (eq_by_cmp key_cmp first.key) at ∙ here))
      ] refl none

  pub with_none : (changes : List Coded) (change : Coded) → change.key ≡ key → position is_of changes ≡ None → map change_of (changes ++ change ∷ []) ≡ with_change (map change_of changes) (change_of change)
  with_none changes change at none = with_past changes 0 change at (sym (position_from-zero is_of changes) ∙ none)
