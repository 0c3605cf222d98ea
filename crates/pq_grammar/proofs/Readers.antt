-- One token, two parts and another value: the ways to join readers keep what they do.
use Rattle.std.proofs.Common.{◌≡◌, ℕ, suc, Bool, false, List, [], ◌∷◌, ◌++◌, length, Option, Some, None, Result, Ok, Err, inl, inr, refl, sym, ap, subst, ◌∙◌, append_assoc}
use Rattle.pq_grammar.specs.Language.{◌⋅◌, one}
use Rattle.pq_grammar.specs.Reader.{◌>>=◌, Reader, begins, picked_token, token_at, pair_at, skip_at, close_at, map_at}
use Rattle.pq_grammar.proofs.Steps.{bind_ok, bind_err, done, ok_is, err_is, first_of_list, first-append, never, Found, Stuck, Reads}

-- ---- one token

one_found : {T X : Type 0} (f : T → Option X) (make : X → T) → ((t : T) (x : X) → f t ≡ Some x → t ≡ make x)
    → (o : Option X) (t : T) (ts : List T) (x : X) (rest : List T) → f t ≡ o → picked_token o ts ≡ Ok (x, rest) → Found (λ y. one (make y)) (token_at f) (t ∷ ts) x rest
one_found f make back None t ts x rest is e = absurd cc
one_found {T} {X} f make back (Some y) t ts x rest is e =
    let h : y ≡ x = ap (λ (q : X × List T). q.0) (ok_is (y, ts) (x, rest) e) in
    let k : ts ≡ rest = ap (λ (q : X × List T). q.1) (ok_is (y, ts) (x, rest) e) in
    let n : f t ≡ Some x = is ∙ ap (λ (v : X). Some v) h in
    let m : t ≡ make x = back t x n in
    record { front = make x ∷ []; spells = refl; parts = cc; kept = λ b same. ap (λ (o : Option X). picked_token o b) (ap f (sym m) ∙ n) }

one_stuck : {T X : Type 0} (f : T → Option X) (make : X → T) (some : X)
    → (o : Option X) (t : T) (ts : List T) (n : ℕ) → f t ≡ o → picked_token o ts ≡ Err n → Stuck (λ y. one (make y)) (token_at f) (t ∷ ts) n
one_stuck f make some (Some y) t ts n is e = absurd cc
one_stuck {T} {X} f make some None t ts n is e =
    record {
      front = [];
      rest = t ∷ ts;
      parts = refl;
      left = sym (err_is {A = X × List T} (suc (length ts)) n e);
      value = some;
      completion = make some ∷ [];
      spells = refl;
      kept = stays f t ts is;
    }
  where
    stays : {T X : Type 0} (f : T → Option X) (t : T) (ts : List T) → f t ≡ None → (b : List T) → first_of_list b ≡ first_of_list (t ∷ ts) → token_at f b ≡ Err (length b)
    stays f t ts is [] same = absurd cc
    stays {T} {X} f t ts is (u ∷ b) same = let h : u ≡ t = cc in ap (λ (o : Option X). picked_token o b) (ap f h ∙ is)

one_reads_found : {T X : Type 0} (f : T → Option X) (make : X → T) → ((t : T) (x : X) → f t ≡ Some x → t ≡ make x) → (ts : List T) (x : X) (rest : List T) → token_at f ts ≡ Ok (x, rest) → Found (λ y. one (make y)) (token_at f) ts x rest
one_reads_found f make back [] x rest e = absurd cc
one_reads_found f make back (t ∷ ts) x rest e = one_found f make back (f t) t ts x rest refl e

one_at_end : {T X : Type 0} (f : T → Option X) (b : List T) → first_of_list b ≡ None → token_at f b ≡ Err (length b)
one_at_end f [] e = refl
one_at_end f (t ∷ b) e = absurd cc

one_reads_stuck : {T X : Type 0} (f : T → Option X) (make : X → T) (some : X) (ts : List T) (n : ℕ) → token_at f ts ≡ Err n → Stuck (λ y. one (make y)) (token_at f) ts n
one_reads_stuck {T} {X} f make some [] n e = record { front = []; rest = []; parts = refl; left = sym (err_is {A = X × List T} 0 n e); value = some; completion = make some ∷ []; spells = refl; kept = λ b same. one_at_end f b same }
one_reads_stuck f make some (t ∷ ts) n e = one_stuck f make some (f t) t ts n refl e

pub one_reads : {T X : Type 0} (f : T → Option X) (make : X → T) → X → ((t : T) (x : X) → f t ≡ Some x → t ≡ make x) → ((x : X) → f (make x) ≡ Some x)
    → Reads (λ y. one (make y)) never (token_at f)
one_reads {T} {X} f make some back forth =
    record {
      value = some;
      sample = make some ∷ [];
      sampled = refl;
      found = one_reads_found f make back;
      only = λ x w rest s e. ap (λ (v : List T). token_at f (v ++ rest)) s ∙ ap (λ (o : Option X). picked_token o rest) (forth x);
      stuck = one_reads_stuck f make some;
    }

-- ---- one token of some values alone

part_is : {T X : Type 0} (f : T → Option X) (P : X → Type 0) → ((t : T) (x : X) → f t ≡ Some x → P x) → (o : Option X) (t : T) (ts : List T) (x : X) (rest : List T) → f t ≡ o → picked_token o ts ≡ Ok (x, rest) → P x
part_is f P has None t ts x rest is e = absurd cc
part_is {T} {X} f P has (Some y) t ts x rest is e =
    let h : y ≡ x = ap (λ (q : X × List T). q.0) (ok_is (y, ts) (x, rest) e) in
    has t x (is ∙ ap (λ (v : X). Some v) h)

part_found : {T X : Type 0} (f : T → Option X) (make : X → T) (P : X → Type 0) → ((t : T) (x : X) → f t ≡ Some x → P x) → ((t : T) (x : X) → f t ≡ Some x → t ≡ make x) → (ts : List T) (x : X) (rest : List T) → token_at f ts ≡ Ok (x, rest) → Found (λ y w. P y × one (make y) w) (token_at f) ts x rest
part_found f make P has back [] x rest e = absurd cc
part_found f make P has back (t ∷ ts) x rest e =
    let one = one_found f make back (f t) t ts x rest refl e in
    record { front = one.front; spells = (part_is f P has (f t) t ts x rest refl e, one.spells); parts = one.parts; kept = one.kept }

part_stuck : {T X : Type 0} (f : T → Option X) (make : X → T) (P : X → Type 0) (some : X) → P some
    → (o : Option X) (t : T) (ts : List T) (n : ℕ) → f t ≡ o → picked_token o ts ≡ Err n → Stuck (λ y w. P y × one (make y) w) (token_at f) (t ∷ ts) n
part_stuck f make P some has (Some y) t ts n is e = absurd cc
part_stuck {T} {X} f make P some has None t ts n is e =
    record {
      front = [];
      rest = t ∷ ts;
      parts = refl;
      left = sym (err_is {A = X × List T} (suc (length ts)) n e);
      value = some;
      completion = make some ∷ [];
      spells = (has, refl);
      kept = stays f t ts is;
    }
  where
    stays : {T X : Type 0} (f : T → Option X) (t : T) (ts : List T) → f t ≡ None → (b : List T) → first_of_list b ≡ first_of_list (t ∷ ts) → token_at f b ≡ Err (length b)
    stays f t ts is [] same = absurd cc
    stays {T} {X} f t ts is (u ∷ b) same = let h : u ≡ t = cc in ap (λ (o : Option X). picked_token o b) (ap f h ∙ is)

part_all_stuck : {T X : Type 0} (f : T → Option X) (make : X → T) (P : X → Type 0) (some : X) → P some → (ts : List T) (n : ℕ) → token_at f ts ≡ Err n → Stuck (λ y w. P y × one (make y) w) (token_at f) ts n
part_all_stuck {T} {X} f make P some has [] n e = record { front = []; rest = []; parts = refl; left = sym (err_is {A = X × List T} 0 n e); value = some; completion = make some ∷ []; spells = (has, refl); kept = λ b same. one_at_end f b same }
part_all_stuck f make P some has (t ∷ ts) n e = part_stuck f make P some has (f t) t ts n refl e

-- the values that are read are those of which P holds
pub part_reads : {T X : Type 0} (f : T → Option X) (make : X → T) (P : X → Type 0) (some : X) → P some → ((t : T) (x : X) → f t ≡ Some x → P x) → ((t : T) (x : X) → f t ≡ Some x → t ≡ make x) → ((x : X) → P x → f (make x) ≡ Some x)
    → Reads (λ y w. P y × one (make y) w) never (token_at f)
part_reads {T} {X} f make P some p has back forth =
    record {
      value = some;
      sample = make some ∷ [];
      sampled = (p, refl);
      found = part_found f make P has back;
      only = λ x w rest s e. ap (λ (v : List T). token_at f (v ++ rest)) s.1 ∙ ap (λ (o : Option X). picked_token o rest) (forth x s.0);
      stuck = part_all_stuck f make P some p;
    }

-- ---- two parts

pair_found : {T A B : Type 0} (S : A → List T → Type 0) (U : B → List T → Type 0) (m k : T → Bool) (r : Reader T A) (s : Reader T B)
    → Reads S m r → Reads U k s → (ts : List T) (x : A × B) (rest : List T) → pair_at r s ts ≡ Ok (x, rest) → Found (λ y. S y.0 ⋅ U y.1) (pair_at r s) ts x rest
pair_found {T} {A} {B} S U m k r s p q ts x rest e =
    let a = bind_ok (r ts) (λ a. s a.1 >>= λ b. Ok ((a.0, b.0), b.1)) (x, rest) e in
    let b = bind_ok (s a.0.1) (λ b. Ok ((a.0.0, b.0), b.1)) (x, rest) a.2 in
    let f = p.found ts a.0.0 a.0.1 a.1 in
    let g = q.found a.0.1 b.0.0 b.0.1 b.1 in
    let made : (A × B) × List T = ((a.0.0, b.0.0), b.0.1) in
    subst (λ (y : (A × B) × List T). Found (λ z. S z.0 ⋅ U z.1) (pair_at r s) ts y.0 y.1) (ok_is made (x, rest) b.2)
    (record {
      front = f.front ++ g.front;
      spells = record { front = f.front; back = g.front; fits_front = f.spells; fits_back = g.spells; parts = refl };
      parts = f.parts ∙ ap (λ (v : List T). f.front ++ v) g.parts ∙ sym (append_assoc f.front g.front b.0.1);
      kept = λ c same.
          let one : r (f.front ++ (g.front ++ c)) ≡ Ok (a.0.0, g.front ++ c) = f.kept (g.front ++ c) (first-append g.front b.0.1 c same ∙ ap first_of_list (sym g.parts)) in
          ap (pair_at r s) (append_assoc f.front g.front c) ∙ rw (one, g.kept c same) refl;
    })

pair_stuck : {T A B : Type 0} (S : A → List T → Type 0) (U : B → List T → Type 0) (m k : T → Bool) (r : Reader T A) (s : Reader T B)
    → Reads S m r → Reads U k s → (ts : List T) (n : ℕ) → pair_at r s ts ≡ Err n → Stuck (λ y. S y.0 ⋅ U y.1) (pair_at r s) ts n
pair_stuck {T} {A} {B} S U m k r s p q ts n e =
    elim (bind_err (r ts) (λ a. s a.1 >>= λ b. Ok ((a.0, b.0), b.1)) n e) [
      | inl first ↦
          let f = p.stuck ts n first in
          record {
            front = f.front;
            rest = f.rest;
            parts = f.parts;
            left = f.left;
            value = (f.value, q.value);
            completion = f.completion ++ q.sample;
            spells = record { front = f.front ++ f.completion; back = q.sample; fits_front = f.spells; fits_back = q.sampled; parts = sym (append_assoc f.front f.completion q.sample) };
            kept = λ b same. rw (f.kept b same) refl;
          }
      | inr a ↦
          let f = p.found ts a.0.0 a.0.1 a.1 in
          elim (bind_err (s a.0.1) (λ b. Ok ((a.0.0, b.0), b.1)) n a.2) [
            | inl second ↦
                let g = q.stuck a.0.1 n second in
                record {
                  front = f.front ++ g.front;
                  rest = g.rest;
                  parts = f.parts ∙ ap (λ (v : List T). f.front ++ v) g.parts ∙ sym (append_assoc f.front g.front g.rest);
                  left = g.left;
                  value = (a.0.0, g.value);
                  completion = g.completion;
                  spells = record { front = f.front; back = g.front ++ g.completion; fits_front = f.spells; fits_back = g.spells; parts = append_assoc f.front g.front g.completion };
                  kept = λ c same.
                      let one : r (f.front ++ (g.front ++ c)) ≡ Ok (a.0.0, g.front ++ c) = f.kept (g.front ++ c) (first-append g.front g.rest c same ∙ ap first_of_list (sym g.parts)) in
                      ap (pair_at r s) (append_assoc f.front g.front c) ∙ rw (one, g.kept c same) refl;
                }
            | inr b ↦ absurd cc
          ]
    ]

pub pair_reads : {T A B : Type 0} (S : A → List T → Type 0) (U : B → List T → Type 0) (m k : T → Bool) (r : Reader T A) (s : Reader T B)
    → Reads S m r → Reads U k s → ((y : B) (v rest : List T) → U y v → begins k rest ≡ false → begins m (v ++ rest) ≡ false) → Reads (λ y. S y.0 ⋅ U y.1) k (pair_at r s)
pair_reads {T} {A} {B} S U m k r s p q apart =
    record {
      value = (p.value, q.value);
      sample = p.sample ++ q.sample;
      sampled = record { front = p.sample; back = q.sample; fits_front = p.sampled; fits_back = q.sampled; parts = refl };
      found = pair_found S U m k r s p q;
      only = λ x w rest h e.
          let first : r (h.front ++ (h.back ++ rest)) ≡ Ok (x.0, h.back ++ rest) = p.only x.0 h.front (h.back ++ rest) h.fits_front (apart x.1 h.back rest h.fits_back e) in
          let second : s (h.back ++ rest) ≡ Ok (x.1, rest) = q.only x.1 h.back rest h.fits_back e in
          ap (λ (v : List T). pair_at r s (v ++ rest)) h.parts ∙ ap (pair_at r s) (append_assoc h.front h.back rest) ∙ rw (first, second) refl;
      stuck = pair_stuck S U m k r s p q;
    }

-- ---- another reader that does the same

pub same_reads : {T X : Type 0} (S : X → List T → Type 0) (m : T → Bool) (r s : Reader T X) → ((ts : List T) → s ts ≡ r ts) → Reads S m r → Reads S m s
same_reads {T} {X} S m r s h p =
    record {
      value = p.value;
      sample = p.sample;
      sampled = p.sampled;
      found = λ ts x rest e. let f = p.found ts x rest (sym (h ts) ∙ e) in record { front = f.front; spells = f.spells; parts = f.parts; kept = λ b same. h (f.front ++ b) ∙ f.kept b same };
      only = λ x w rest y e. h (w ++ rest) ∙ p.only x w rest y e;
      stuck = λ ts n e.
          let f = p.stuck ts n (sym (h ts) ∙ e) in
          record { front = f.front; rest = f.rest; parts = f.parts; left = f.left; value = f.value; completion = f.completion; spells = f.spells; kept = λ b same. h (f.front ++ b) ∙ f.kept b same };
    }

-- ---- another value

pub map_reads : {T A B : Type 0} (S : A → List T → Type 0) (U : B → List T → Type 0) (m : T → Bool) (f : A → B) (r : Reader T A)
    → Reads S m r → ((x : A) (w : List T) → S x w → U (f x) w) → ((y : B) (w : List T) → U y w → (x : A) × (f x ≡ y) × S x w) → Reads U m (map_at f r)
map_reads {T} {A} {B} S U m f r p to from =
    record {
      value = f p.value;
      sample = p.sample;
      sampled = to p.value p.sample p.sampled;
      found = λ ts y rest e.
          let a = bind_ok (r ts) (λ a. Ok (f a.0, a.1)) (y, rest) e in
          let g = p.found ts a.0.0 a.0.1 a.1 in
          let made : B × List T = (f a.0.0, a.0.1) in
          subst (λ (z : B × List T). Found U (map_at f r) ts z.0 z.1) (ok_is made (y, rest) a.2)
          (record { front = g.front; spells = to a.0.0 g.front g.spells; parts = g.parts; kept = λ b same. rw (g.kept b same) refl });
      only = λ y w rest u e.
          let x = from y w u in
          rw (p.only x.0 w rest x.2 e) (ap (λ (v : B). done (v, rest)) x.1);
      stuck = λ ts n e.
          elim (bind_err (r ts) (λ a. Ok (f a.0, a.1)) n e) [
            | inl first ↦
                let g = p.stuck ts n first in
                record { front = g.front; rest = g.rest; parts = g.parts; left = g.left; value = f g.value; completion = g.completion; spells = to g.value (g.front ++ g.completion) g.spells; kept = λ b same. rw (g.kept b same) refl }
            | inr a ↦ absurd cc
          ];
    }

-- ---- the forms in which one part stands for nothing

abbrev pub read : {T X : Type 0} → X → List T → Result (X × List T) ℕ
read x rest = Ok (x, rest)

skip_second : {T B : Type 0} (b : Result (B × List T) ℕ) → b ≡ ((b >>= λ b. read {X = Unit {0} × B} (tt, b.0) b.1) >>= λ c. read c.0.1 c.1)
skip_second (Ok b) = refl
skip_second (Err n) = refl

skip_first : {T B : Type 0} (s : Reader T B) (a : Result (Unit {0} × List T) ℕ) → (a >>= λ a. s a.1) ≡ ((a >>= λ a. s a.1 >>= λ b. read {X = Unit {0} × B} (a.0, b.0) b.1) >>= λ c. read c.0.1 c.1)
skip_first s (Ok a) = skip_second (s a.1)
skip_first s (Err n) = refl

skip_same : {T B : Type 0} (r : Reader T (Unit {0})) (s : Reader T B) (ts : List T) → skip_at r s ts ≡ map_at (λ (x : Unit {0} × B). x.1) (pair_at r s) ts
skip_same r s ts = skip_first s (r ts)

pub skip_reads : {T B : Type 0} (A : List T → Type 0) (U : B → List T → Type 0) (m k : T → Bool) (r : Reader T (Unit {0})) (s : Reader T B)
    → Reads (λ _. A) m r → Reads U k s → ((y : B) (v rest : List T) → U y v → begins k rest ≡ false → begins m (v ++ rest) ≡ false) → Reads (λ y. A ⋅ U y) k (skip_at r s)
skip_reads {T} {B} A U m k r s p q apart =
    same_reads _ k (map_at (λ (x : Unit {0} × B). x.1) (pair_at r s)) (skip_at r s) (skip_same r s)
    (map_reads (λ (x : Unit {0} × B). A ⋅ U x.1) (λ y. A ⋅ U y) k (λ x. x.1) (pair_at r s) (pair_reads (λ _. A) U m k r s p q apart) (λ x w h. h) (λ y w h. ((tt, y), refl, h)))

close_second : {T A : Type 0} (x : A) (b : Result (Unit {0} × List T) ℕ) → (b >>= λ b. read x b.1) ≡ ((b >>= λ b. read {X = A × Unit {0}} (x, b.0) b.1) >>= λ c. read c.0.0 c.1)
close_second x (Ok b) = refl
close_second x (Err n) = refl

close_first : {T A : Type 0} (s : Reader T (Unit {0})) (a : Result (A × List T) ℕ) → (a >>= λ a. s a.1 >>= λ b. read a.0 b.1) ≡ ((a >>= λ a. s a.1 >>= λ b. read {X = A × Unit {0}} (a.0, b.0) b.1) >>= λ c. read c.0.0 c.1)
close_first s (Ok a) = close_second a.0 (s a.1)
close_first s (Err n) = refl

close_same : {T A : Type 0} (r : Reader T A) (s : Reader T (Unit {0})) (ts : List T) → close_at r s ts ≡ map_at (λ (x : A × Unit {0}). x.0) (pair_at r s) ts
close_same r s ts = close_first s (r ts)

pub close_reads : {T A : Type 0} (S : A → List T → Type 0) (B : List T → Type 0) (m k : T → Bool) (r : Reader T A) (s : Reader T (Unit {0}))
    → Reads S m r → Reads (λ _. B) k s → ((v rest : List T) → B v → begins k rest ≡ false → begins m (v ++ rest) ≡ false) → Reads (λ y. S y ⋅ B) k (close_at r s)
close_reads {T} {A} S B m k r s p q apart =
    same_reads _ k (map_at (λ (x : A × Unit {0}). x.0) (pair_at r s)) (close_at r s) (close_same r s)
    (map_reads (λ (x : A × Unit {0}). S x.0 ⋅ B) (λ y. S y ⋅ B) k (λ x. x.0) (pair_at r s) (pair_reads S (λ _. B) m k r s p q (λ y. apart)) (λ x w h. h) (λ y w h. ((y, tt), refl, h)))
