-- The longest beginning of a list whose elements pass a test.
use Rattle.std.proofs.Common.{◌≡◌, ℕ, zero, suc, ◌≤◌, ◌<◌, Bool, true, false, List, [], ◌∷◌, length, take, refl, ap, ◌∙◌, arith}
use Rattle.std.proofs.lemmas.List.Sums.{take_while-cons}
use Rattle.std.specs.List.{list_all, take_while}

pub while_true : (p : ℕ → Bool) (b : ℕ) (bs : List ℕ) → p b ≡ true → take_while p (b ∷ bs) ≡ b ∷ take_while p bs
while_true p b bs e = take_while-cons p b bs ∙ rw e refl

pub while_false : (p : ℕ → Bool) (b : ℕ) (bs : List ℕ) → p b ≡ false → take_while p (b ∷ bs) ≡ []
while_false p b bs e = take_while-cons p b bs ∙ rw e refl

front_by : (p : ℕ → Bool) (b : ℕ) (bs : List ℕ) → list_all p (take (length (take_while p bs)) bs) ≡ true → (v : Bool) → p b ≡ v → list_all p (take (length (take_while p (b ∷ bs))) (b ∷ bs)) ≡ true
front_by p b bs rest true e = ap (λ (v : List ℕ). list_all p (take (length v) (b ∷ bs))) (while_true p b bs e) ∙ rw e rest
front_by p b bs rest false e = ap (λ (v : List ℕ). list_all p (take (length v) (b ∷ bs))) (while_false p b bs e)

pub all_front : (p : ℕ → Bool) (bs : List ℕ) → list_all p (take (length (take_while p bs)) bs) ≡ true
all_front p [] = refl
all_front p (b ∷ bs) = front_by p b bs (all_front p bs) (p b) refl

past_by : (p : ℕ → Bool) (b : ℕ) (bs : List ℕ) (i : ℕ) → (length (take_while p bs) < i → list_all p (take i bs) ≡ false) → (v : Bool) → p b ≡ v → length (take_while p (b ∷ bs)) < suc i → list_all p (take (suc i) (b ∷ bs)) ≡ false
past_by p b bs i rest true e more = let len = ap length (while_true p b bs e) in rw e (rest (omega arith))
past_by p b bs i rest false e more = rw e refl

pub all_past : (p : ℕ → Bool) (bs : List ℕ) (i : ℕ) → length (take_while p bs) < i → i ≤ length bs → list_all p (take i bs) ≡ false
all_past p [] i lt le = absurd (omega arith)
all_past p (b ∷ bs) zero lt le = absurd (omega arith)
all_past p (b ∷ bs) (suc i) lt le = past_by p b bs i (λ more. all_past p bs i more (omega arith)) (p b) refl lt

within_by : (p : ℕ → Bool) (b : ℕ) (bs : List ℕ) → length (take_while p bs) ≤ length bs → (v : Bool) → p b ≡ v → length (take_while p (b ∷ bs)) ≤ length (b ∷ bs)
within_by p b bs rest true e = let len = ap length (while_true p b bs e) in omega arith
within_by p b bs rest false e = let len = ap length (while_false p b bs e) in omega arith

pub while_within : (p : ℕ → Bool) (bs : List ℕ) → length (take_while p bs) ≤ length bs
while_within p [] = omega arith
while_within p (b ∷ bs) = within_by p b bs (while_within p bs) (p b) refl
