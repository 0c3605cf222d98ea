-- A choice by the first token, nothing, whatever is left, and an option.
use Rattle.std.proofs.Common.{◌≡◌, ℕ, Bool, true, false, cond, List, [], ◌∷◌, ◌++◌, Option, Some, None, Result, Ok, Err, ◌⊎◌, inl, inr, refl, sym, ap, subst, ◌∙◌, if◌then◌else◌}
use Rattle.std.proofs.lemmas.List.{append-nil}
use Rattle.pq_grammar.specs.Language.{nothing, anything, optional}
use Rattle.pq_grammar.specs.Reader.{◌>>=◌, Reader, begins, map_at, nothing_at, rest_at, option_at}
use Rattle.pq_grammar.proofs.Steps.{bind_ok, bind_err, ok_is, first_of_list, begins-append, begins-same, first-append, Found, Stuck, Reads}
use Rattle.pq_grammar.proofs.Readers.{same_reads, map_reads, read}

-- the first where one of its tokens comes, else the second
abbrev pub either_at : {T A B : Type 0} → (T → Bool) → Reader T A → Reader T B → Reader T (A ⊎ B)
either_at p r s ts = if begins p ts then (r ts >>= λ a. Ok (inl a.0, a.1)) else (s ts >>= λ b. Ok (inr b.0, b.1))

-- ---- a choice by the first token

abbrev pub Either : {T A B : Type 0} → (A → List T → Type 0) → (B → List T → Type 0) → A ⊎ B → List T → Type 0
Either S U (inl x) w = S x w
Either S U (inr y) w = U y w

either_first : {T A B : Type 0} (p : T → Bool) (r : Reader T A) (s : Reader T B) (ts : List T) → begins p ts ≡ true → either_at p r s ts ≡ (r ts >>= λ a. read (inl a.0) a.1)
either_first p r s ts e = rw e refl

either_second : {T A B : Type 0} (p : T → Bool) (r : Reader T A) (s : Reader T B) (ts : List T) → begins p ts ≡ false → either_at p r s ts ≡ (s ts >>= λ a. read (inr a.0) a.1)
either_second p r s ts e = rw e refl

inl_reads : {T A B : Type 0} (S : A → List T → Type 0) (U : B → List T → Type 0) (p : T → Bool) (r : Reader T A) (s : Reader T B) (m : T → Bool)
    → Reads S m r → (ts : List T) → begins p ts ≡ true → (x : A ⊎ B) (rest : List T) → either_at p r s ts ≡ Ok (x, rest) → Found (Either S U) (either_at p r s) ts x rest
inl_reads {T} {A} {B} S U p r s m h ts is x rest e =
    let a = bind_ok (r ts) (λ a. read {T = T} {X = A ⊎ B} (inl a.0) a.1) (x, rest) (sym (either_first p r s ts is) ∙ e) in
    let f = h.found ts a.0.0 a.0.1 a.1 in
    let made : (A ⊎ B) × List T = (inl a.0.0, a.0.1) in
    subst (λ (z : (A ⊎ B) × List T). Found (Either S U) (either_at p r s) ts z.0 z.1) (ok_is made (x, rest) a.2)
    (record {
      front = f.front;
      spells = f.spells;
      parts = f.parts;
      kept = λ b same.
          let again : begins p (f.front ++ b) ≡ true = begins-same p (f.front ++ a.0.1) (f.front ++ b) (first-append f.front a.0.1 b same) ∙ ap (begins p) (sym f.parts) ∙ is in
          either_first p r s (f.front ++ b) again ∙ rw (f.kept b same) refl;
    })

inr_reads : {T A B : Type 0} (S : A → List T → Type 0) (U : B → List T → Type 0) (p : T → Bool) (r : Reader T A) (s : Reader T B) (m : T → Bool)
    → Reads U m s → (ts : List T) → begins p ts ≡ false → (x : A ⊎ B) (rest : List T) → either_at p r s ts ≡ Ok (x, rest) → Found (Either S U) (either_at p r s) ts x rest
inr_reads {T} {A} {B} S U p r s m h ts is x rest e =
    let a = bind_ok (s ts) (λ a. read {T = T} {X = A ⊎ B} (inr a.0) a.1) (x, rest) (sym (either_second p r s ts is) ∙ e) in
    let f = h.found ts a.0.0 a.0.1 a.1 in
    let made : (A ⊎ B) × List T = (inr a.0.0, a.0.1) in
    subst (λ (z : (A ⊎ B) × List T). Found (Either S U) (either_at p r s) ts z.0 z.1) (ok_is made (x, rest) a.2)
    (record {
      front = f.front;
      spells = f.spells;
      parts = f.parts;
      kept = λ b same.
          let again : begins p (f.front ++ b) ≡ false = begins-same p (f.front ++ a.0.1) (f.front ++ b) (first-append f.front a.0.1 b same) ∙ ap (begins p) (sym f.parts) ∙ is in
          either_second p r s (f.front ++ b) again ∙ rw (f.kept b same) refl;
    })

inl_stuck : {T A B : Type 0} (S : A → List T → Type 0) (U : B → List T → Type 0) (p : T → Bool) (r : Reader T A) (s : Reader T B) (m : T → Bool)
    → Reads S m r → (ts : List T) → begins p ts ≡ true → (n : ℕ) → either_at p r s ts ≡ Err n → Stuck (Either S U) (either_at p r s) ts n
inl_stuck {T} {A} {B} S U p r s m h ts is n e =
    elim (bind_err (r ts) (λ a. read {T = T} {X = A ⊎ B} (inl a.0) a.1) n (sym (either_first p r s ts is) ∙ e)) [
      | inl first ↦
          let f = h.stuck ts n first in
          record {
            front = f.front;
            rest = f.rest;
            parts = f.parts;
            left = f.left;
            value = inl f.value;
            completion = f.completion;
            spells = f.spells;
            kept = λ b same.
                let again : begins p (f.front ++ b) ≡ true = begins-same p (f.front ++ f.rest) (f.front ++ b) (first-append f.front f.rest b same) ∙ ap (begins p) (sym f.parts) ∙ is in
                either_first p r s (f.front ++ b) again ∙ rw (f.kept b same) refl;
          }
      | inr a ↦ absurd cc
    ]

inr_stuck : {T A B : Type 0} (S : A → List T → Type 0) (U : B → List T → Type 0) (p : T → Bool) (r : Reader T A) (s : Reader T B) (m : T → Bool)
    → Reads U m s → (ts : List T) → begins p ts ≡ false → (n : ℕ) → either_at p r s ts ≡ Err n → Stuck (Either S U) (either_at p r s) ts n
inr_stuck {T} {A} {B} S U p r s m h ts is n e =
    elim (bind_err (s ts) (λ a. read {T = T} {X = A ⊎ B} (inr a.0) a.1) n (sym (either_second p r s ts is) ∙ e)) [
      | inl first ↦
          let f = h.stuck ts n first in
          record {
            front = f.front;
            rest = f.rest;
            parts = f.parts;
            left = f.left;
            value = inr f.value;
            completion = f.completion;
            spells = f.spells;
            kept = λ b same.
                let again : begins p (f.front ++ b) ≡ false = begins-same p (f.front ++ f.rest) (f.front ++ b) (first-append f.front f.rest b same) ∙ ap (begins p) (sym f.parts) ∙ is in
                either_second p r s (f.front ++ b) again ∙ rw (f.kept b same) refl;
          }
      | inr a ↦ absurd cc
    ]

either_found : {T A B : Type 0} (S : A → List T → Type 0) (U : B → List T → Type 0) (p : T → Bool) (r : Reader T A) (s : Reader T B) (m : T → Bool)
    → Reads S m r → Reads U m s → (b : Bool) (ts : List T) → begins p ts ≡ b → (x : A ⊎ B) (rest : List T) → either_at p r s ts ≡ Ok (x, rest) → Found (Either S U) (either_at p r s) ts x rest
either_found S U p r s m h k true ts is x rest e = inl_reads S U p r s m h ts is x rest e
either_found S U p r s m h k false ts is x rest e = inr_reads S U p r s m k ts is x rest e

either_stuck : {T A B : Type 0} (S : A → List T → Type 0) (U : B → List T → Type 0) (p : T → Bool) (r : Reader T A) (s : Reader T B) (m : T → Bool)
    → Reads S m r → Reads U m s → (b : Bool) (ts : List T) → begins p ts ≡ b → (n : ℕ) → either_at p r s ts ≡ Err n → Stuck (Either S U) (either_at p r s) ts n
either_stuck S U p r s m h k true ts is n e = inl_stuck S U p r s m h ts is n e
either_stuck S U p r s m h k false ts is n e = inr_stuck S U p r s m k ts is n e

either_only : {T A B : Type 0} (S : A → List T → Type 0) (U : B → List T → Type 0) (p : T → Bool) (r : Reader T A) (s : Reader T B) (m : T → Bool)
    → Reads S m r → Reads U m s → ((x : A) (w : List T) → S x w → begins p w ≡ true) → ((y : B) (w rest : List T) → U y w → begins m rest ≡ false → begins p (w ++ rest) ≡ false)
    → (x : A ⊎ B) (w rest : List T) → Either S U x w → begins m rest ≡ false → either_at p r s (w ++ rest) ≡ Ok (x, rest)
either_only S U p r s m h k opens shuts (inl x) w rest e ends =
    either_first p r s (w ++ rest) (begins-append p w rest (opens x w e)) ∙ rw (h.only x w rest e ends) refl
either_only S U p r s m h k opens shuts (inr y) w rest e ends =
    either_second p r s (w ++ rest) (shuts y w rest e ends) ∙ rw (k.only y w rest e ends) refl

pub either_reads : {T A B : Type 0} (S : A → List T → Type 0) (U : B → List T → Type 0) (p : T → Bool) (r : Reader T A) (s : Reader T B) (m : T → Bool)
    → Reads S m r → Reads U m s → ((x : A) (w : List T) → S x w → begins p w ≡ true) → ((y : B) (w rest : List T) → U y w → begins m rest ≡ false → begins p (w ++ rest) ≡ false)
    → Reads (Either S U) m (either_at p r s)
either_reads S U p r s m h k opens shuts =
    record {
      value = inl h.value;
      sample = h.sample;
      sampled = h.sampled;
      found = λ ts x rest e. either_found S U p r s m h k (begins p ts) ts refl x rest e;
      only = either_only S U p r s m h k opens shuts;
      stuck = λ ts n e. either_stuck S U p r s m h k (begins p ts) ts refl n e;
    }

-- ---- nothing

pub nothing_reads : {T : Type 0} (m : T → Bool) → Reads (λ (_ : Unit {0}). nothing) m nothing_at
nothing_reads {T} m =
    record {
      value = tt;
      sample = [];
      sampled = refl;
      found = λ ts x rest e.
          let h : ts ≡ rest = ap (λ (q : Unit {0} × List T). q.1) (ok_is (tt, ts) (x, rest) e) in
          record { front = []; spells = refl; parts = h; kept = λ b same. refl };
      only = λ x w rest h e. ap (λ (v : List T). nothing_at (v ++ rest)) h;
      stuck = λ ts n e. absurd cc;
    }

-- ---- whatever is left

abbrev pub always : {T : Type 0} → T → Bool
always t = true

nothing_follows : {T : Type 0} (b : List T) → begins always b ≡ false → b ≡ []
nothing_follows [] e = refl
nothing_follows (t ∷ b) e = absurd cc

no_first : {T : Type 0} (b : List T) → first_of_list b ≡ None → b ≡ []
no_first [] e = refl
no_first (t ∷ b) e = absurd cc

pub rest_reads : {T : Type 0} → Reads (λ (_ : Unit {0}). anything {T = T}) always rest_at
rest_reads {T} =
    record {
      value = tt;
      sample = [];
      sampled = tt;
      found = λ ts x rest e.
          let h : [] ≡ rest = ap (λ (q : Unit {0} × List T). q.1) (ok_is (tt, []) (x, rest) e) in
          record { front = ts; spells = tt; parts = sym (append-nil ts) ∙ ap (λ (v : List T). ts ++ v) h; kept = λ b same. ap (λ (v : List T). read tt v) (sym (no_first b (same ∙ ap first_of_list (sym h)))) };
      only = λ x w rest h e. ap (λ (v : List T). read tt v) (sym (nothing_follows rest e));
      stuck = λ ts n e. absurd cc;
    }

-- ---- an option

to_option : {A : Type 0} → A ⊎ Unit {0} → Option A
to_option (inl x) = Some x
to_option (inr u) = None

option_same : {T A : Type 0} (p : T → Bool) (r : Reader T A) (ts : List T) → option_at p r ts ≡ map_at to_option (either_at p r nothing_at) ts
unfolding to_option
option_same {T} {A} p r ts = by_first p r ts (begins p ts) (r ts)
  where
    by_first : {T A : Type 0} (p : T → Bool) (r : Reader T A) (ts : List T) (b : Bool) (a : Result (A × List T) ℕ)
        → cond b (a >>= λ a. read {X = Option A} (Some a.0) a.1) (read None ts) ≡ (cond b (a >>= λ a. read {X = A ⊎ Unit {0}} (inl a.0) a.1) (read (inr tt) ts) >>= λ c. read (to_option c.0) c.1)
    by_first p r ts true (Ok a) = refl
    by_first p r ts true (Err n) = refl
    by_first p r ts false a = refl

option_from : {T A : Type 0} (S : A → List T → Type 0) (y : Option A) (w : List T) → optional S y w → (x : A ⊎ Unit {0}) × (to_option x ≡ y) × Either S (λ _. nothing) x w
unfolding to_option
option_from S None w h = (inr tt, refl, h)
option_from S (Some x) w h = (inl x, refl, h)

option_to : {T A : Type 0} (S : A → List T → Type 0) (x : A ⊎ Unit {0}) (w : List T) → Either S (λ _. nothing) x w → optional S (to_option x) w
unfolding to_option
option_to S (inl x) w h = h
option_to S (inr u) w h = h

pub option_reads : {T A : Type 0} (S : A → List T → Type 0) (p m : T → Bool) (r : Reader T A)
    → Reads S m r → ((x : A) (w : List T) → S x w → begins p w ≡ true) → ((rest : List T) → begins m rest ≡ false → begins p rest ≡ false) → Reads (optional S) m (option_at p r)
option_reads {T} {A} S p m r h opens shuts =
    same_reads (optional S) m (map_at to_option (either_at p r nothing_at)) (option_at p r) (option_same p r)
    (map_reads (Either S (λ (_ : Unit {0}). nothing)) (optional S) m to_option (either_at p r nothing_at)
    (either_reads S (λ _. nothing) p r nothing_at m h (nothing_reads m) opens (λ y w rest e ends. shuts_after p m shuts w rest e ends))
    (option_to S) (option_from S))
  where
    shuts_after : {T : Type 0} (p m : T → Bool) → ((rest : List T) → begins m rest ≡ false → begins p rest ≡ false) → (w rest : List T) → w ≡ [] → begins m rest ≡ false → begins p (w ++ rest) ≡ false
    shuts_after {T} p m shuts w rest e ends = ap (λ (v : List T). begins p (v ++ rest)) e ∙ shuts rest ends
