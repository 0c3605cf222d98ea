-- Codes of values as far as there are directions.
use Rattle.std.proofs.Common.{◌≡◌, ℕ, zero, suc, List, [], ◌∷◌, ◌++◌, length, drop, refl, ap, ◌∙◌, append_assoc}
use Rattle.pq_base.specs.declared.value.Dir.{Dir}
use Rattle.pq_base.specs.declared.value.Value.{Value}
use Rattle.pq_key_code.specs.KeyCode.{component, code_of}

pub nil_behind : (code : List ℕ) → code ++ [] ≡ code
nil_behind [] = refl
nil_behind (b ∷ bs) = ap (λ code. b ∷ code) (nil_behind bs)

no_values : (ds : List Dir) → code_of ds [] ≡ []
no_values [] = refl
no_values (d ∷ ds) = refl

pub one_value : (d : Dir) (ds : List Dir) (x : Value) → code_of (d ∷ ds) (x ∷ []) ≡ component d x
one_value d ds x = ap (λ code. component d x ++ code) (no_values ds) ∙ nil_behind (component d x)

nothing_left : (n : ℕ) (xs : List Value) → code_of (drop n []) xs ≡ []
nothing_left zero xs = refl
nothing_left (suc n) xs = refl

-- the code of values behind others
pub code_behind : (ds : List Dir) (xs ys : List Value) → code_of ds xs ++ code_of (drop (length xs) ds) ys ≡ code_of ds (xs ++ ys)
code_behind [] xs ys = nothing_left (length xs) ys
code_behind (d ∷ ds) [] ys = refl
code_behind (d ∷ ds) (x ∷ xs) ys =
    append_assoc (component d x) (code_of ds xs) (code_of (drop (length xs) ds) ys) ∙ ap (λ code. component d x ++ code) (code_behind ds xs ys)
