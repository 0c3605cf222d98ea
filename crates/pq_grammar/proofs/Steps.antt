-- What a reader of a set of token lists does, and the steps by which readers are taken apart.
use Rattle.std.proofs.Common.{◌≡◌, ℕ, Bool, true, false, List, [], ◌∷◌, ◌++◌, length, Option, Some, None, Result, Ok, Err, ◌⊎◌, inl, inr, refl, ap}
use Rattle.pq_grammar.specs.Reader.{◌>>=◌, Reader, begins}

-- ---- steps

pub bind_ok : {A B : Type 0} (r : Result A ℕ) (f : A → Result B ℕ) (y : B) → (r >>= f) ≡ Ok y → (x : A) × (r ≡ Ok x) × (f x ≡ Ok y)
bind_ok (Ok x) f y e = (x, refl, e)
bind_ok (Err d) f y e = absurd cc

pub bind_err : {A B : Type 0} (r : Result A ℕ) (f : A → Result B ℕ) (n : ℕ) → (r >>= f) ≡ Err n → (r ≡ Err n) ⊎ ((x : A) × (r ≡ Ok x) × (f x ≡ Err n))
bind_err (Ok x) f n e = inr (x, refl, e)
bind_err (Err d) f n e = inl cc

abbrev pub done : {A : Type 0} → A → Result A ℕ
done x = Ok x

abbrev pub failed : {A : Type 0} → ℕ → Result A ℕ
failed n = Err n

pub ok_is : {A : Type 0} (x y : A) → done x ≡ done y → x ≡ y
ok_is x y e = cc

pub err_is : {A : Type 0} (m n : ℕ) → failed {A = A} m ≡ failed {A = A} n → m ≡ n
err_is m n e = cc

pub ok_not_err : {A : Type 0} (x : A) (n : ℕ) → done x ≡ failed n → ⊥
ok_not_err x n e = cc

-- ---- the first token

abbrev pub first_of_list : {T : Type 0} → List T → Option T
first_of_list [] = None
first_of_list (t ∷ ts) = Some t

pub begins-append : {T : Type 0} (p : T → Bool) (w rest : List T) → begins p w ≡ true → begins p (w ++ rest) ≡ true
begins-append p [] rest e = absurd cc
begins-append p (t ∷ w) rest e = e

-- two lists with the same first token begin alike
pub begins-same : {T : Type 0} (p : T → Bool) (a b : List T) → first_of_list b ≡ first_of_list a → begins p b ≡ begins p a
begins-same p [] [] e = refl
begins-same p [] (t ∷ b) e = absurd cc
begins-same p (t ∷ a) [] e = absurd cc
begins-same {T} p (t ∷ a) (u ∷ b) e = let same : u ≡ t = cc in ap p same

pub first-append : {T : Type 0} (w a b : List T) → first_of_list b ≡ first_of_list a → first_of_list (w ++ b) ≡ first_of_list (w ++ a)
first-append [] a b e = e
first-append (t ∷ w) a b e = refl

abbrev pub never : {T : Type 0} → T → Bool
never t = false

pub begins-never : {T : Type 0} (w : List T) → begins never w ≡ false
begins-never [] = refl
begins-never (t ∷ w) = refl

-- ---- readers

-- It read front as x, and does so before each rest that begins as this one does.
pub record Found {T X : Type 0} (S : X → List T → Type 0) (r : Reader T X) (ts : List T) (x : X) (rest : List T) : Type 0 where
  pub front : List T
  pub spells : S x front
  pub parts : ts ≡ front ++ rest
  pub kept : (b : List T) → first_of_list b ≡ first_of_list rest → r (front ++ b) ≡ Ok (x, b)

-- It stopped at rest: what stands before it begins something, and it stops there before each rest that begins as this one does.
pub record Stuck {T X : Type 0} (S : X → List T → Type 0) (r : Reader T X) (ts : List T) (n : ℕ) : Type 0 where
  pub front : List T
  pub rest : List T
  pub parts : ts ≡ front ++ rest
  pub left : n ≡ length rest
  pub value : X
  pub completion : List T
  pub spells : S value (front ++ completion)
  pub kept : (b : List T) → first_of_list b ≡ first_of_list rest → r (front ++ b) ≡ Err (length b)

-- The reader r reads what S spells, if what follows begins with no token of more.
pub record Reads {T X : Type 0} (S : X → List T → Type 0) (more : T → Bool) (r : Reader T X) : Type 0 where
  pub value : X
  pub sample : List T
  pub sampled : S value sample
  pub found : (ts : List T) (x : X) (rest : List T) → r ts ≡ Ok (x, rest) → Found S r ts x rest
  pub only : (x : X) (w rest : List T) → S x w → begins more rest ≡ false → r (w ++ rest) ≡ Ok (x, rest)
  pub stuck : (ts : List T) (n : ℕ) → r ts ≡ Err n → Stuck S r ts n

-- more tokens that must not follow
pub wider_reads : {T X : Type 0} (S : X → List T → Type 0) (more wider : T → Bool) (r : Reader T X) → ((rest : List T) → begins wider rest ≡ false → begins more rest ≡ false) → Reads S more r → Reads S wider r
wider_reads S more wider r h p =
    record { value = p.value; sample = p.sample; sampled = p.sampled; found = p.found; only = λ x w rest s e. p.only x w rest s (h rest e); stuck = p.stuck }
