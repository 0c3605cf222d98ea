-- Readers of one set or another, of lists that may be empty, and of what a function makes.
use Rattle.std.proofs.Common.{◌≡◌, ℕ, Bool, true, false, cond, List, [], ◌∷◌, ◌++◌, Option, Some, None, Result, Ok, Err, ◌⊎◌, inl, inr, refl, ap, ◌∙◌}
use Rattle.pq_grammar.specs.Language.{◌⋅◌, one, optional, separated_by, listed_by, made_from}
use Rattle.pq_grammar.specs.Reader.{◌>>=◌, Reader, begins, test_of, test_at, map_at, choice_at, option_at, separated_at, option_items, listed_at}
use Rattle.pq_grammar.proofs.Steps.{Reads, never, first_of_list, begins-append}
use Rattle.pq_grammar.proofs.Readers.{read, one_reads, same_reads, map_reads}
use Rattle.pq_grammar.proofs.Options.{either_reads, option_reads, Either, either_at}

-- spelled by one set or by the other
abbrev pub one_or_other : {T X : Type 0} → (X → List T → Type 0) → (X → List T → Type 0) → X → List T → Type 0
one_or_other S U x w = S x w ⊎ U x w

-- ---- one token

test_by : {T : Type 0} (b : Bool) (u t : T) (x : Unit {0}) → (b ≡ true → u ≡ t) → cond b (Some tt) None ≡ Some x → u ≡ t
test_by true u t x h e = h refl
test_by false u t x h e = absurd cc

pub test_reads : {T : Type 0} (p : T → Bool) (t : T) → p t ≡ true → ((u : T) → p u ≡ true → u ≡ t) → Reads (λ (_ : Unit {0}). one t) never (test_at p)
test_reads p t is back = one_reads (test_of p) (λ _. t) tt (λ u x e. test_by (p u) u t x (back u) e) (λ x. rw is refl)

-- ---- what begins with one token

pub begins_with : {T : Type 0} (p : T → Bool) (t : T) (w rest : List T) → first_of_list w ≡ Some t → begins p (w ++ rest) ≡ p t
begins_with p t [] rest e = absurd cc
begins_with {T} p t (u ∷ w) rest e = let same : u ≡ t = cc in ap p same

pub first_of_then : {T : Type 0} (t : T) (B : List T → Type 0) (w : List T) → (one t ⋅ B) w → first_of_list w ≡ Some t
first_of_then {T} t B w h = ap first_of_list (h.parts ∙ ap (λ (v : List T). v ++ h.back) h.fits_front)

-- ---- one of two tests

abbrev pub any_of : {T : Type 0} → (T → Bool) → (T → Bool) → T → Bool
any_of p q t = cond (p t) true (q t)

neither : (a b : Bool) → cond a true b ≡ false → (a ≡ false) × (b ≡ false)
neither true b e = absurd cc
neither false b e = (refl, e)

pub not_first : {T : Type 0} (p q : T → Bool) (rest : List T) → begins (any_of p q) rest ≡ false → begins p rest ≡ false
not_first p q [] e = refl
not_first p q (t ∷ rest) e = (neither (p t) (q t) e).0

pub not_second : {T : Type 0} (p q : T → Bool) (rest : List T) → begins (any_of p q) rest ≡ false → begins q rest ≡ false
not_second p q [] e = refl
not_second p q (t ∷ rest) e = (neither (p t) (q t) e).1

-- ---- what a function makes

pub made_reads : {T A B : Type 0} (f : A → B) (S : A → List T → Type 0) (m : T → Bool) (r : Reader T A) → Reads S m r → Reads (made_from f S) m (map_at f r)
made_reads f S m r h = map_reads S (made_from f S) m f r h (λ x w s. (x, refl, s)) (λ y w s. s)

-- ---- a choice by the first token

merged : {A : Type 0} → A ⊎ A → A
merged (inl x) = x
merged (inr x) = x

choice_by : {T A : Type 0} (b : Bool) (r s : Result (A × List T) ℕ) → cond b r s ≡ (cond b (r >>= λ a. read {X = A ⊎ A} (inl a.0) a.1) (s >>= λ a. read {X = A ⊎ A} (inr a.0) a.1) >>= λ c. read (merged c.0) c.1)
unfolding merged
choice_by true (Ok a) s = refl
choice_by true (Err n) s = refl
choice_by false r (Ok a) = refl
choice_by false r (Err n) = refl

choice_same : {T A : Type 0} (p : T → Bool) (r s : Reader T A) (ts : List T) → choice_at p r s ts ≡ map_at merged (either_at p r s) ts
choice_same p r s ts = choice_by (begins p ts) (r ts) (s ts)

merged_to : {T A : Type 0} (S U : A → List T → Type 0) (x : A ⊎ A) (w : List T) → Either S U x w → one_or_other S U (merged x) w
unfolding merged
merged_to S U (inl x) w h = inl h
merged_to S U (inr x) w h = inr h

merged_from : {T A : Type 0} (S U : A → List T → Type 0) (y : A) (w : List T) → one_or_other S U y w → (x : A ⊎ A) × (merged x ≡ y) × Either S U x w
unfolding merged
merged_from S U y w (inl h) = (inl y, refl, h)
merged_from S U y w (inr h) = (inr y, refl, h)

pub choice_reads : {T A : Type 0} (S U : A → List T → Type 0) (p : T → Bool) (r s : Reader T A) (m : T → Bool)
    → Reads S m r → Reads U m s → ((x : A) (w : List T) → S x w → begins p w ≡ true) → ((y : A) (w rest : List T) → U y w → begins m rest ≡ false → begins p (w ++ rest) ≡ false)
    → Reads (one_or_other S U) m (choice_at p r s)
choice_reads {T} {A} S U p r s m h k opens shuts =
    same_reads (one_or_other S U) m (map_at merged (either_at p r s)) (choice_at p r s) (choice_same p r s)
    (map_reads (Either S U) (one_or_other S U) m merged (either_at p r s) (either_reads S U p r s m h k opens shuts) (merged_to S U) (merged_from S U))

-- ---- none or more, with a list of B between them

pub separated_opens : {T X : Type 0} (o : T → Bool) (B : List T → Type 0) (S : X → List T → Type 0) → ((x : X) (w : List T) → S x w → begins o w ≡ true) → (xs : List X) (w : List T) → separated_by B S xs w → begins o w ≡ true
separated_opens o B S opens [] w h = absurd h
separated_opens o B S opens (x ∷ xs) w h = ap (begins o) h.parts ∙ begins-append o h.front h.back (opens x h.front h.fits_front)

listed_to : {T X : Type 0} (B : List T → Type 0) (S : X → List T → Type 0) (x : Option (List X)) (w : List T) → optional (separated_by B S) x w → listed_by B S (option_items x) w
listed_to B S None w h = h
listed_to B S (Some []) w h = absurd h
listed_to B S (Some (x ∷ xs)) w h = h

listed_from : {T X : Type 0} (B : List T → Type 0) (S : X → List T → Type 0) (y : List X) (w : List T) → listed_by B S y w → (x : Option (List X)) × (option_items x ≡ y) × optional (separated_by B S) x w
listed_from B S [] w h = (None, refl, h)
listed_from B S (x ∷ xs) w h = (Some (x ∷ xs), refl, h)

pub listed_reads : {T X : Type 0} (B : List T → Type 0) (S : X → List T → Type 0) (o p g : T → Bool) (s : Reader T (Unit {0})) (r : Reader T X) → Reads (separated_by B S) g (separated_at p s r)
    → ((x : X) (w : List T) → S x w → begins o w ≡ true) → ((rest : List T) → begins g rest ≡ false → begins o rest ≡ false) → Reads (listed_by B S) g (listed_at o p s r)
listed_reads B S o p g s r h opens shuts =
    map_reads (optional (separated_by B S)) (listed_by B S) g option_items (option_at o (separated_at p s r))
    (option_reads (separated_by B S) o g (separated_at p s r) h (separated_opens o B S opens) shuts) (listed_to B S) (listed_from B S)
