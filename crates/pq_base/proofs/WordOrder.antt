-- Words that rise.
use Rattle.std.proofs.Common.{add-one, ◌≡◌, ℕ, zero, suc, ◌+◌, ◌-◌, ◌<◌, ◌≤◌, List, [], ◌∷◌, length, get_or, Some, inl, inr, refl, sym, ap, subst, ◌∙◌, arith}
use Rattle.std.proofs.lemmas.Bool.{cases_lt}
use Rattle.std.proofs.lemmas.Option.{get_or_from_slice_get, slice_get_past}
use Rattle.std.proofs.lemmas.Map.Text.{is_eq-slice_cmp}
use Rattle.std.specs.Cmp.Lexicographic.{same_text, slice_cmp}
use Rattle.std.specs.Ordering.{is_eq, is_lt, nat_cmp}
use Rattle.std.specs.Prelude.{Bool, true, false, if◌then◌else◌}
use Rattle.std.specs.Prelude.{slice_get}
use Rattle.std.specs.Ordering.{ordering_reverse}
use Rattle.std.proofs.lemmas.Cmp.{nat_list_cmp_total}
use Rattle.std.specs.declared.cmp.Ordering.{Ordering}
use Rattle.std.specs.declared.cmp.Ordering.TheVariants.{Less, Equal, Greater}
use Rattle.pq_base.specs.Words.{IsRising}

abbrev pub AllBelow : List (List ℕ) → List ℕ → ℕ → Type 0
AllBelow words w low = (k : ℕ) → k < low → slice_cmp nat_cmp (get_or words k []) w ≡ Less

abbrev pub AllAbove : List (List ℕ) → List ℕ → ℕ → Type 0
AllAbove words w high = (k : ℕ) → high ≤ k → k < length words → slice_cmp nat_cmp (get_or words k []) w ≡ Greater

pub rises_far : (words : List (List ℕ)) → IsRising words → (i d : ℕ) → i + suc d < length words → slice_cmp nat_cmp (get_or words i []) (get_or words (i + suc d) []) ≡ Less
rises_far words h i zero lt = subst (λ (j : ℕ). slice_cmp nat_cmp (get_or words i []) (get_or words j []) ≡ Less) (omega arith) (h i (omega arith))
rises_far words h i (suc d) lt =
    let last : slice_cmp nat_cmp (get_or words (i + suc d) []) (get_or words (i + suc (suc d)) []) ≡ Less = subst (λ (j : ℕ). slice_cmp nat_cmp (get_or words (i + suc d) []) (get_or words j []) ≡ Less) (omega arith) (h (i + suc d) (omega arith)) in
    nat_list_cmp_total.trans (get_or words i []) (get_or words (i + suc d) []) (get_or words (i + suc (suc d)) []) (rises_far words h i d (omega arith)) last

pub rises_between : (words : List (List ℕ)) → IsRising words → (i j : ℕ) → i < j → j < length words → slice_cmp nat_cmp (get_or words i []) (get_or words j []) ≡ Less
rises_between words h i j lt in_words =
    let e : i + suc (j - (i + 1)) ≡ j = omega arith in
    subst (λ (k : ℕ). slice_cmp nat_cmp (get_or words i []) (get_or words k []) ≡ Less) e (rises_far words h i (j - (i + 1)) (omega arith))

reversed : (x y : List ℕ) (o : Ordering) → slice_cmp nat_cmp x y ≡ o → slice_cmp nat_cmp y x ≡ ordering_reverse o
reversed x y o e = nat_list_cmp_total.antisymm y x ∙ ap ordering_reverse e

pub below_middle : (words : List (List ℕ)) (w : List ℕ) (middle : ℕ) → IsRising words → middle < length words → slice_cmp nat_cmp (get_or words middle []) w ≡ Less → AllBelow words w (middle + 1)
below_middle words w middle h in_words is k lt =
    elim (cases_lt k middle) [
      | inl less ↦ nat_list_cmp_total.trans (get_or words k []) (get_or words middle []) w (rises_between words h k middle less in_words) is
      | inr le ↦ let e : middle ≡ k = omega arith in subst (λ (j : ℕ). slice_cmp nat_cmp (get_or words j []) w ≡ Less) e is
    ]

pub above_middle : (words : List (List ℕ)) (w : List ℕ) (middle : ℕ) → IsRising words → slice_cmp nat_cmp (get_or words middle []) w ≡ Greater → AllAbove words w middle
above_middle words w middle h is k le in_words =
    elim (cases_lt middle k) [
      | inl less ↦ reversed w (get_or words k []) Less (nat_list_cmp_total.trans w (get_or words middle []) (get_or words k []) (reversed (get_or words middle []) w Greater is) (rises_between words h middle k less in_words))
      | inr ge ↦ let e : middle ≡ k = omega arith in subst (λ (j : ℕ). slice_cmp nat_cmp (get_or words j []) w ≡ Greater) e is
    ]

not_less : (w : List ℕ) → slice_cmp nat_cmp w w ≡ Less → ⊥
not_less w e = let f = reversed w w Less e in absurd cc

not_greater : (w : List ℕ) → slice_cmp nat_cmp w w ≡ Greater → ⊥
not_greater w e = let f = reversed w w Greater e in absurd cc

slice_get_below : (words : List (List ℕ)) (place : ℕ) (w : List ℕ) → slice_get words place ≡ Some w → place < length words
slice_get_below words place w e =
    elim (cases_lt place (length words)) [
      | inl lt ↦ lt
      | inr le ↦ let f = slice_get_past words place le in absurd cc
    ]

pub none_is : (words : List (List ℕ)) (w : List ℕ) (low high : ℕ) → AllBelow words w low → AllAbove words w high → high ≤ low → (place : ℕ) → slice_get words place ≡ Some w → ⊥
none_is words w low high below above le place e =
    let in_words : place < length words = slice_get_below words place w e in
    let is : get_or words place [] ≡ w = get_or_from_slice_get words place w [] e in
    elim (cases_lt place low) [
      | inl lt ↦ not_less w (subst (λ (v : List ℕ). slice_cmp nat_cmp v w ≡ Less) is (below place lt))
      | inr ge ↦ not_greater w (subst (λ (v : List ℕ). slice_cmp nat_cmp v w ≡ Greater) is (above place (omega arith) in_words))
    ]

pub same_word : (x y : List ℕ) → slice_cmp nat_cmp x y ≡ Equal → x ≡ y
same_word x y e = same_text x y (ap is_eq (sym e) ∙ is_eq-slice_cmp x y)

-- a test that computes
abbrev pub rises_test : List (List ℕ) → Bool
rises_test [] = true
rises_test (w ∷ []) = true
rises_test (w ∷ v ∷ ws) = if is_lt (slice_cmp nat_cmp w v) then rises_test (v ∷ ws) else false

less_from_test : (o : Ordering) (b : Bool) → (if is_lt o then b else false) ≡ true → (o ≡ Less) × (b ≡ true)
less_from_test Less b e = (refl, e)
less_from_test Equal b e = absurd cc
less_from_test Greater b e = absurd cc

pub rising_from_test : (words : List (List ℕ)) → rises_test words ≡ true → IsRising words
rising_from_test [] e k lt = absurd (omega arith)
rising_from_test (w ∷ []) e k lt = absurd (omega arith)
rising_from_test (w ∷ v ∷ ws) e zero lt = (less_from_test (slice_cmp nat_cmp w v) (rises_test (v ∷ ws)) e).0
rising_from_test (w ∷ v ∷ ws) e (suc k) lt =
    let h : slice_cmp nat_cmp (get_or (v ∷ ws) k []) (get_or (v ∷ ws) (k + 1) []) ≡ Less = rising_from_test (v ∷ ws) (less_from_test (slice_cmp nat_cmp w v) (rises_test (v ∷ ws)) e).1 k (omega arith) in
    subst (λ (j : ℕ). slice_cmp nat_cmp (get_or (v ∷ ws) k []) (get_or (w ∷ v ∷ ws) j []) ≡ Less) (suc_plus k) (rw add-one at h)
  where
    suc_plus : (k : ℕ) → suc (suc k) ≡ suc k + 1
    suc_plus k = omega arith
