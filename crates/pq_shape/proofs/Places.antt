-- The place of a word in a list of different words.
use Rattle.std.proofs.Common.{◌≡◌, ℕ, zero, suc, ◌+◌, ◌<◌, ◌≤◌, Bool, true, false, cond, ltb, List, [], ◌∷◌, length, map, Some, None, inl, inr, refl, sym, ap, subst, ◌∙◌, arith}
use Rattle.std.proofs.lemmas.Bool.{cases_lt, ltb-true, true≢false}
use Rattle.std.specs.Prelude.{slice_get, slice_index, bytes_eq}
use Rattle.std.proofs.lemmas.Slice.Eq.{bytes_eq-Decides}
use Rattle.std.proofs.lemmas.List.{length-map}
use Rattle.pq_base.specs.Words.{uppercase_byte, keywords}
use Rattle.pq_shape.specs.Letters.{letter_places}
use Rattle.pq_shape.specs.Shapes.{word_place}

same_true : (w : List ℕ) → bytes_eq w w ≡ true
same_true w = grind (arith, bytes_eq-Decides w w)

same_is : (v w : List ℕ) → bytes_eq v w ≡ true → v ≡ w
same_is v w e = grind (arith, bytes_eq-Decides v w)

-- none of these words is v
absent : List ℕ → List (List ℕ) → Bool
absent v [] = true
absent v (w ∷ ws) = cond (bytes_eq v w) false (absent v ws)

distinct : List (List ℕ) → Bool
distinct [] = true
distinct (w ∷ ws) = cond (absent w ws) (distinct ws) false

both_true : (a b : Bool) → cond a b false ≡ true → (a ≡ true) × (b ≡ true)
both_true true b e = (refl, e)
both_true false b e = absurd cc

neither : (a b : Bool) → cond a false b ≡ true → (a ≡ false) × (b ≡ true)
neither true b e = absurd cc
neither false b e = (refl, e)

some_is : (v w : List ℕ) → Some v ≡ Some w → v ≡ w
some_is v w e = cc

absent_at : (v : List ℕ) (ws : List (List ℕ)) (w : List ℕ) (k : ℕ) → absent v ws ≡ true → slice_get ws k ≡ Some w → bytes_eq v w ≡ false
unfolding absent
absent_at v [] w k h e = absurd cc
absent_at v (u ∷ ws) w zero h e = ap (bytes_eq v) (sym (some_is u w e)) ∙ (neither (bytes_eq v u) (absent v ws) h).0
absent_at v (u ∷ ws) w (suc k) h e = absent_at v ws w k (neither (bytes_eq v u) (absent v ws) h).1 e

place_found : (vs : List (List ℕ)) (w : List ℕ) (k : ℕ) → distinct vs ≡ true → slice_get vs k ≡ Some w → word_place vs w ≡ Some k
unfolding distinct word_place
place_found [] w k h e = absurd cc
place_found (v ∷ vs) w zero h e = rw (some_is v w e, same_true w) refl
place_found (v ∷ vs) w (suc k) h e =
    let d = both_true (absent v vs) (distinct vs) h in
    rw (absent_at v vs w k d.0 e, place_found vs w k d.1 e) refl

none_by : (b : Bool) (v : List ℕ) (vs : List (List ℕ)) (w : List ℕ) → bytes_eq v w ≡ b → ((k : ℕ) → slice_get (v ∷ vs) k ≡ Some w → ⊥) → word_place vs w ≡ None → word_place (v ∷ vs) w ≡ None
unfolding word_place
none_by true v vs w is h e = absurd (h 0 (ap (λ (u : List ℕ). Some u) (same_is v w is)))
none_by false v vs w is h e = rw (is, e) refl

pub place_none : (vs : List (List ℕ)) (w : List ℕ) → ((k : ℕ) → slice_get vs k ≡ Some w → ⊥) → word_place vs w ≡ None
unfolding word_place
place_none [] w h = refl
place_none (v ∷ vs) w h = none_by (bytes_eq v w) v vs w refl h (place_none vs w (λ k e. h (suc k) e))

keywords_distinct : distinct keywords ≡ true
unfolding distinct absent
keywords_distinct = refl

pub keyword_found : (w : List ℕ) (k : ℕ) → slice_get keywords k ≡ Some w → word_place keywords w ≡ Some k
keyword_found w k e = place_found keywords w k keywords_distinct e

-- a word of another length is another one
pub other_length : (v bs : List ℕ) → (length v ≡ length bs → ⊥) → bytes_eq v (map uppercase_byte bs) ≡ false
other_length v bs ne = by_test (bytes_eq v (map uppercase_byte bs)) refl
  where
    by_test : (is : Bool) → bytes_eq v (map uppercase_byte bs) ≡ is → is ≡ false
    by_test false e = refl
    by_test true e = absurd (ne (ap length (same_is v (map uppercase_byte bs) e) ∙ length-map bs uppercase_byte))

-- a word of the table, and whether it is w
pub keyword_here : (v w : List ℕ) (k : ℕ) → slice_get keywords k ≡ Some v → bytes_eq v w ≡ true → Some k ≡ word_place keywords w
keyword_here v w k e is = sym (keyword_found w k (e ∙ ap (λ (u : List ℕ). Some u) (same_is v w is)))

pub keyword_beyond : (v w : List ℕ) (place : ℕ) → slice_get keywords place ≡ Some v → bytes_eq v w ≡ false → ((k : ℕ) → k < place → slice_get keywords k ≡ Some w → ⊥)
    → (k : ℕ) → k < place + 1 → slice_get keywords k ≡ Some w → ⊥
keyword_beyond v w place e isnt before k lt at =
    elim (cases_lt k place) [
      | inl less ↦ before k less at
      | inr ge ↦
          let same : place ≡ k = omega arith in
          let is : v ≡ w = some_is v w (sym e ∙ ap (slice_get keywords) same ∙ at) in
          true≢false (sym (same_true w) ∙ ap (λ (u : List ℕ). bytes_eq u w) (sym is) ∙ isnt)
    ]

abbrev IsAmong : ℕ × ℕ → ℕ → Type 0
IsAmong places k = (places.0 ≤ k) × (k < places.1)

is_among : ℕ × ℕ → ℕ → Bool
is_among places k = cond (ltb places.0 (k + 1)) (ltb k places.1) false

among_here : (places : ℕ × ℕ) (k : ℕ) → is_among places k ≡ true → IsAmong places k
unfolding is_among
among_here places k h =
    let b = both_true (ltb places.0 (k + 1)) (ltb k places.1) h in
    (omega (arith, ltb-true places.0 (k + 1) b.0), ltb-true k places.1 b.1)

-- each of these words, the first of which stands at k, is among the places of its first letter
stand_among : ℕ → List (List ℕ) → Bool
stand_among k [] = true
stand_among k (w ∷ ws) = cond (is_among (letter_places (slice_index w 0)) k) (stand_among (k + 1) ws) false

stands_at : (ws : List (List ℕ)) (k place : ℕ) (w : List ℕ) → stand_among k ws ≡ true → slice_get ws place ≡ Some w → IsAmong (letter_places (slice_index w 0)) (k + place)
unfolding stand_among
stands_at [] k place w h e = absurd cc
stands_at (v ∷ vs) k zero w h e =
    let b = both_true (is_among (letter_places (slice_index v 0)) k) (stand_among (k + 1) vs) h in
    let same : k ≡ k + 0 = omega arith in
    subst (λ (n : ℕ). IsAmong (letter_places (slice_index w 0)) n) same
    (subst (λ (u : List ℕ). IsAmong (letter_places (slice_index u 0)) k) (some_is v w e) (among_here _ k b.0))
stands_at (v ∷ vs) k (suc place) w h e =
    let b = both_true (is_among (letter_places (slice_index v 0)) k) (stand_among (k + 1) vs) h in
    let same : (k + 1) + place ≡ k + suc place = omega arith in
    subst (λ (n : ℕ). IsAmong (letter_places (slice_index w 0)) n) same (stands_at vs (k + 1) place w b.1 e)

keywords_stand : stand_among 0 keywords ≡ true
unfolding stand_among is_among letter_places
keywords_stand = refl

first_raised : (bs : List ℕ) → slice_index (map uppercase_byte bs) 0 ≡ uppercase_byte (slice_index bs 0)
first_raised [] = refl
first_raised (b ∷ bs) = refl

pub keyword_among : (bs : List ℕ) (capital from to : ℕ) → capital ≡ uppercase_byte (slice_index bs 0) → (from, to) ≡ letter_places capital
    → (place : ℕ) → slice_get keywords place ≡ Some (map uppercase_byte bs) → (from ≤ place) × (place < to)
keyword_among bs capital from to e f place at =
    let here : IsAmong (letter_places (slice_index (map uppercase_byte bs) 0)) (0 + place) = stands_at keywords 0 place (map uppercase_byte bs) keywords_stand at in
    let same : 0 + place ≡ place = omega arith in
    let letter : letter_places (slice_index (map uppercase_byte bs) 0) ≡ (from, to) = ap letter_places (first_raised bs ∙ sym e) ∙ sym f in
    subst (λ (places : ℕ × ℕ). IsAmong places place) letter (subst (λ (n : ℕ). IsAmong (letter_places (slice_index (map uppercase_byte bs) 0)) n) same here)
