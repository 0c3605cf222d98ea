-- Where a text ends.
use Rattle.std.proofs.Common.{◌≡◌, ℕ, zero, suc, ◌+◌, ◌≤◌, ◌<◌, Bool, true, false, eqb, List, [], ◌∷◌, length, take, Option, Some, None, refl, sym, ap, ◌∙◌, arith}
use Rattle.std.specs.Option.{option_map}
use Rattle.pq_text.specs.Forms.{text_end}

pub text_other_at : (b : ℕ) (bs : List ℕ) → eqb b 39 ≡ false → text_end (b ∷ bs) ≡ option_map (λ n. n + 1) (text_end bs)
unfolding text_end
text_other_at b [] e = rw e refl
text_other_at b (c ∷ bs) e = rw e refl

pub text_double_at : (b c : ℕ) (bs : List ℕ) → eqb b 39 ≡ true → eqb c 39 ≡ true → text_end (b ∷ c ∷ bs) ≡ option_map (λ n. n + 2) (text_end bs)
unfolding text_end
text_double_at b c bs e f = rw (e, f) refl

pub text_ends_at : (b c : ℕ) (bs : List ℕ) → eqb b 39 ≡ true → eqb c 39 ≡ false → text_end (b ∷ c ∷ bs) ≡ Some 1
unfolding text_end
text_ends_at b c bs e f = rw (e, f) refl

pub text_last_at : (b : ℕ) → eqb b 39 ≡ true → text_end (b ∷ []) ≡ Some 1
unfolding text_end
text_last_at b e = rw e refl

some_before : (k : ℕ) (o : Option ℕ) (n : ℕ) → option_map (λ m. m + k) o ≡ Some n → (m : ℕ) × (o ≡ Some m) × (n ≡ m + k)
some_before k None n e = absurd cc
some_before k (Some m) n e = (m, refl, cc)

abbrev Within : List ℕ → Type 0
Within bs = (n : ℕ) → text_end bs ≡ Some n → (0 < n) × (n ≤ length bs)

within_two : (b c : ℕ) (bs : List ℕ) → Within bs → Within (c ∷ bs) → (q r : Bool) → eqb b 39 ≡ q → eqb c 39 ≡ r → Within (b ∷ c ∷ bs)
within_two b c bs later next true true q r n e =
    let before = some_before 2 (text_end bs) n (sym (text_double_at b c bs q r) ∙ e) in
    let inside = later before.0 before.1 in
    (omega (arith, before.2), omega (arith, before.2, inside.1))
within_two b c bs later next true false q r n e =
    let one : Some n ≡ Some 1 = sym e ∙ text_ends_at b c bs q r in
    let is : n ≡ 1 = cc in
    (omega arith, omega arith)
within_two b c bs later next false r q s n e =
    let before = some_before 1 (text_end (c ∷ bs)) n (sym (text_other_at b (c ∷ bs) q) ∙ e) in
    let inside = next before.0 before.1 in
    (omega (arith, before.2), omega (arith, before.2, inside.1))

within_one : (b : ℕ) (q : Bool) → eqb b 39 ≡ q → Within (b ∷ [])
unfolding text_end
within_one b true q n e =
    let one : Some n ≡ Some 1 = sym e ∙ text_last_at b q in
    let is : n ≡ 1 = cc in
    (omega arith, omega arith)
within_one b false q n e = let none = sym (text_other_at b [] q) ∙ e in absurd cc

pub text_end_within : (bs : List ℕ) → Within bs
unfolding text_end
text_end_within [] n e = absurd cc
text_end_within (b ∷ []) n e = within_one b (eqb b 39) refl n e
text_end_within (b ∷ c ∷ bs) n e = within_two b c bs (text_end_within bs) (text_end_within (c ∷ bs)) (eqb b 39) (eqb c 39) refl refl n e

abbrev Stays : List ℕ → Type 0
Stays bs = (n i : ℕ) → text_end bs ≡ Some n → n ≤ i → text_end (take i bs) ≡ Some n

stays_two : (b c : ℕ) (bs : List ℕ) → Stays bs → Stays (c ∷ bs) → (q r : Bool) → eqb b 39 ≡ q → eqb c 39 ≡ r → Stays (b ∷ c ∷ bs)
stays_two b c bs later next q r f g n zero e le = let inside = text_end_within (b ∷ c ∷ bs) n e in absurd (omega arith)
stays_two b c bs later next true true q r n (suc zero) e le =
    let before = some_before 2 (text_end bs) n (sym (text_double_at b c bs q r) ∙ e) in
    absurd (omega (arith, before.2))
stays_two b c bs later next true true q r n (suc (suc i)) e le =
    let before = some_before 2 (text_end bs) n (sym (text_double_at b c bs q r) ∙ e) in
    text_double_at b c (take i bs) q r ∙ ap (option_map (λ m. m + 2)) (later before.0 i before.1 (omega (arith, before.2))) ∙ ap (λ (m : ℕ). Some m) (sym before.2)
stays_two b c bs later next true false q r n (suc zero) e le = text_last_at b q ∙ sym (text_ends_at b c bs q r) ∙ e
stays_two b c bs later next true false q r n (suc (suc i)) e le = text_ends_at b c (take i bs) q r ∙ sym (text_ends_at b c bs q r) ∙ e
stays_two b c bs later next false r q s n (suc i) e le =
    let before = some_before 1 (text_end (c ∷ bs)) n (sym (text_other_at b (c ∷ bs) q) ∙ e) in
    text_other_at b (take i (c ∷ bs)) q ∙ ap (option_map (λ m. m + 1)) (next before.0 i before.1 (omega (arith, before.2))) ∙ ap (λ (m : ℕ). Some m) (sym before.2)

-- a text that has ended stays ended, whatever stands behind it
pub text_end_take : (bs : List ℕ) → Stays bs
unfolding text_end
text_end_take [] n i e le = absurd cc
text_end_take (b ∷ []) n zero e le = let inside = text_end_within (b ∷ []) n e in absurd (omega arith)
text_end_take (b ∷ []) n (suc zero) e le = e
text_end_take (b ∷ []) n (suc (suc i)) e le = e
text_end_take (b ∷ c ∷ bs) n i e le = stays_two b c bs (text_end_take bs) (text_end_take (c ∷ bs)) (eqb b 39) (eqb c 39) refl refl n i e le
