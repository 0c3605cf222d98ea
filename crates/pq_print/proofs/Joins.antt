-- Texts that are put behind one another.
use Rattle.std.proofs.Common.{◌≡◌, ◌∙◌, ap, List, ◌++◌, append_assoc, ℕ, Result, Ok, Err, OnOk}

joined : (a b d x y : List ℕ) → b ≡ a ++ x → d ≡ b ++ y → d ≡ a ++ (x ++ y)
joined a b d x y e f = f ∙ ap (λ t. t ++ y) e ∙ append_assoc a x y

-- the last text is put by a call that may fail
joined_last : {V E : Type 0} (a b d x y : List ℕ) (r : Result V E) → b ≡ a ++ x → OnOk r (d ≡ b ++ y) → OnOk r (d ≡ a ++ (x ++ y))
joined_last a b d x y (Ok v) e f = joined a b d x y e f
joined_last a b d x y (Err v) e f = tt

pub joined_4 : {V E : Type 0} (a b1 b2 b3 d x1 x2 x3 y : List ℕ) (r : Result V E) → b1 ≡ a ++ x1 → b2 ≡ b1 ++ x2 → b3 ≡ b2 ++ x3 → OnOk r (d ≡ b3 ++ y) → OnOk r (d ≡ a ++ (x1 ++ x2 ++ x3 ++ y))
joined_4 a b1 b2 b3 d x1 x2 x3 y r e1 e2 e3 f =
    joined_last a b3 d (x1 ++ x2 ++ x3) y r (joined a b2 b3 (x1 ++ x2) x3 (joined a b1 b2 x1 x2 e1 e2) e3) f

pub joined_5 : {V E : Type 0} (a b1 b2 b3 b4 d x1 x2 x3 x4 y : List ℕ) (r : Result V E) → b1 ≡ a ++ x1 → b2 ≡ b1 ++ x2 → b3 ≡ b2 ++ x3 → b4 ≡ b3 ++ x4 → OnOk r (d ≡ b4 ++ y) → OnOk r (d ≡ a ++ (x1 ++ x2 ++ x3 ++ x4 ++ y))
joined_5 a b1 b2 b3 b4 d x1 x2 x3 x4 y r e1 e2 e3 e4 f =
    let e = joined a b2 b3 (x1 ++ x2) x3 (joined a b1 b2 x1 x2 e1 e2) e3 in
    joined_last a b4 d (x1 ++ x2 ++ x3 ++ x4) y r (joined a b3 b4 (x1 ++ x2 ++ x3) x4 e e4) f

pub joined_7 : {V E : Type 0} (a b1 b2 b3 b4 b5 b6 d x1 x2 x3 x4 x5 x6 y : List ℕ) (r : Result V E) → b1 ≡ a ++ x1 → b2 ≡ b1 ++ x2 → b3 ≡ b2 ++ x3 → b4 ≡ b3 ++ x4 → b5 ≡ b4 ++ x5 → b6 ≡ b5 ++ x6 → OnOk r (d ≡ b6 ++ y)
    → OnOk r (d ≡ a ++ (x1 ++ x2 ++ x3 ++ x4 ++ x5 ++ x6 ++ y))
joined_7 a b1 b2 b3 b4 b5 b6 d x1 x2 x3 x4 x5 x6 y r e1 e2 e3 e4 e5 e6 f =
    let e = joined a b2 b3 (x1 ++ x2) x3 (joined a b1 b2 x1 x2 e1 e2) e3 in
    let g = joined a b4 b5 (x1 ++ x2 ++ x3 ++ x4) x5 (joined a b3 b4 (x1 ++ x2 ++ x3) x4 e e4) e5 in
    joined_last a b6 d (x1 ++ x2 ++ x3 ++ x4 ++ x5 ++ x6) y r (joined a b5 b6 (x1 ++ x2 ++ x3 ++ x4 ++ x5) x6 g e6) f
