-- Repetition.
use Rattle.std.proofs.Common.{◌≡◌, ℕ, zero, suc, ◌≤◌, Bool, true, false, List, [], ◌∷◌, ◌++◌, length, Result, Ok, Err, inl, inr, refl, sym, ap, subst, ◌∙◌, append_assoc, arith, length-append}
use Rattle.std.proofs.lemmas.List.{append-nil}
use Rattle.pq_grammar.specs.Language.{each}
use Rattle.pq_grammar.specs.Reader.{◌>>=◌, Reader, begins, many_within, many_at}
use Rattle.pq_grammar.proofs.Steps.{bind_ok, bind_err, done, ok_is, ok_not_err, first_of_list, begins-append, begins-same, first-append, Reads}
use Rattle.pq_grammar.proofs.Readers.{read}

-- ---- repetition

pub record ManyFound {T X : Type 0} (S : X → List T → Type 0) (p : T → Bool) (r : Reader T X) (ts : List T) (xs : List X) (rest : List T) : Type 0 where
  pub front : List T
  pub spells : each S xs front
  pub parts : ts ≡ front ++ rest
  pub kept : (k : ℕ) (b : List T) → first_of_list b ≡ first_of_list rest → length (front ++ b) ≤ k → many_within k p r (front ++ b) ≡ Ok (xs, b)

pub record ManyStuck {T X : Type 0} (S : X → List T → Type 0) (p : T → Bool) (r : Reader T X) (ts : List T) (n : ℕ) : Type 0 where
  pub front : List T
  pub rest : List T
  pub parts : ts ≡ front ++ rest
  pub left : n ≡ length rest
  pub value : List X
  pub completion : List T
  pub spells : each S value (front ++ completion)
  pub kept : (k : ℕ) (b : List T) → first_of_list b ≡ first_of_list rest → length (front ++ b) ≤ k → many_within k p r (front ++ b) ≡ Err (length b)

-- the items, and then the next
unfoldable pub cons : {T X : Type 0} → X → List X × List T → Result (List X × List T) ℕ
cons x b = Ok (x ∷ b.0, b.1)

pub cons_ok : {T X : Type 0} (x : X) (b : List X × List T) → cons x b ≡ done (x ∷ b.0, b.1)
unfolding cons
cons_ok x b = refl

pub many_stops : {T X : Type 0} (p : T → Bool) (r : Reader T X) (k : ℕ) (ts : List T) → begins p ts ≡ false → many_within k p r ts ≡ Ok ([], ts)
unfolding many_within
many_stops p r zero ts e = refl
many_stops p r (suc k) ts e = rw e refl

pub many_goes : {T X : Type 0} (p : T → Bool) (r : Reader T X) (k : ℕ) (ts : List T) → begins p ts ≡ true → many_within (suc k) p r ts ≡ (r ts >>= λ a. many_within k p r a.1 >>= cons a.0)
unfolding many_within cons
many_goes p r k ts e = rw e refl

-- what begins so is no empty list
pub is_longer : {T : Type 0} (p : T → Bool) (w rest : List T) (n : ℕ) → begins p w ≡ true → length (w ++ rest) ≤ suc n → length rest ≤ n
is_longer p [] rest n e le = absurd cc
is_longer p (t ∷ w) rest n e le = omega (arith, length-append w rest)

-- a bound on what begins so is above 0
is_above : {T : Type 0} (p : T → Bool) (w : List T) (k : ℕ) → begins p w ≡ true → length w ≤ k → (j : ℕ) × (k ≡ suc j)
is_above p [] k e le = absurd cc
is_above p (t ∷ w) zero e le = absurd (omega arith)
is_above p (t ∷ w) (suc k) e le = (k, refl)

many_goes_at : {T X : Type 0} (p : T → Bool) (r : Reader T X) (k : ℕ) (w rest : List T) (x : X) (y : Result (List X × List T) ℕ) → begins p w ≡ true → length (w ++ rest) ≤ k → r (w ++ rest) ≡ Ok (x, rest)
    → ((j : ℕ) → length rest ≤ j → (many_within j p r rest >>= cons x) ≡ y) → many_within k p r (w ++ rest) ≡ y
many_goes_at p r zero w rest x y e le is then = let none = is_above p (w ++ rest) zero (begins-append p w rest e) le in absurd (omega (arith, none.1))
many_goes_at p r (suc k) w rest x y e le is then = many_goes p r k (w ++ rest) (begins-append p w rest e) ∙ rw is (then k (is_longer p w rest k e le))

none_found : {T X : Type 0} (S : X → List T → Type 0) (p : T → Bool) (r : Reader T X) (ts : List T) (xs : List X) (rest : List T) → begins p ts ≡ false → read [] ts ≡ read xs rest → ManyFound S p r ts xs rest
none_found {T} {X} S p r ts xs rest is e =
    subst (λ (z : List X × List T). ManyFound S p r ts z.0 z.1) (ok_is ([], ts) (xs, rest) e)
    (record { front = []; spells = refl; parts = refl; kept = λ k b same le. many_stops p r k b (begins-same p ts b same ∙ is) })

pub many_found : {T X : Type 0} (S : X → List T → Type 0) (p m : T → Bool) (r : Reader T X) → Reads S m r → ((x : X) (w : List T) → S x w → begins p w ≡ true)
    → (n : ℕ) (c : Bool) (ts : List T) → begins p ts ≡ c → length ts ≤ n → (xs : List X) (rest : List T) → many_within n p r ts ≡ Ok (xs, rest) → ManyFound S p r ts xs rest
many_found S p m r h opens n false ts is le xs rest e = none_found S p r ts xs rest is (sym (many_stops p r n ts is) ∙ e)
many_found S p m r h opens zero true ts is le xs rest e = let none = is_above p ts zero is le in absurd (omega (arith, none.1))
many_found {T} {X} S p m r h opens (suc n) true ts is le xs rest e =
    let a = bind_ok (r ts) (λ a. many_within n p r a.1 >>= cons a.0) (xs, rest) (sym (many_goes p r n ts is) ∙ e) in
    let b = bind_ok (many_within n p r a.0.1) (cons a.0.0) (xs, rest) a.2 in
    let f = h.found ts a.0.0 a.0.1 a.1 in
    let open_here = opens a.0.0 f.front f.spells in
    let g = many_found S p m r h opens n (begins p a.0.1) a.0.1 refl (is_longer p f.front a.0.1 n open_here (subst (λ (v : List T). length v ≤ suc n) f.parts le)) b.0.0 b.0.1 b.1 in
    subst (λ (z : List X × List T). ManyFound S p r ts z.0 z.1) (ok_is (a.0.0 ∷ b.0.0, b.0.1) (xs, rest) (sym (cons_ok a.0.0 b.0) ∙ b.2))
    (record {
      front = f.front ++ g.front;
      spells = record { front = f.front; back = g.front; fits_front = f.spells; fits_back = g.spells; parts = refl };
      parts = f.parts ∙ ap (λ (v : List T). f.front ++ v) g.parts ∙ sym (append_assoc f.front g.front b.0.1);
      kept = λ k c same le.
          let one : r (f.front ++ (g.front ++ c)) ≡ Ok (a.0.0, g.front ++ c) = f.kept (g.front ++ c) (first-append g.front b.0.1 c same ∙ ap first_of_list (sym g.parts)) in
          ap (many_within k p r) (append_assoc f.front g.front c)
          ∙ many_goes_at p r k f.front (g.front ++ c) a.0.0 (Ok (a.0.0 ∷ b.0.0, c)) open_here (subst (λ (v : List T). length v ≤ k) (append_assoc f.front g.front c) le) one
          (λ j short. rw (g.kept j c same short) (unfold cons in refl));
    })

pub many_stuck : {T X : Type 0} (S : X → List T → Type 0) (p m : T → Bool) (r : Reader T X) → Reads S m r → ((x : X) (w : List T) → S x w → begins p w ≡ true)
    → (n : ℕ) (c : Bool) (ts : List T) → begins p ts ≡ c → length ts ≤ n → (d : ℕ) → many_within n p r ts ≡ Err d → ManyStuck S p r ts d
many_stuck {T} {X} S p m r h opens n false ts is le d e = absurd (ok_not_err {A = List X × List T} ([], ts) d (sym (many_stops p r n ts is) ∙ e))
many_stuck S p m r h opens zero true ts is le d e = let none = is_above p ts zero is le in absurd (omega (arith, none.1))
many_stuck {T} {X} S p m r h opens (suc n) true ts is le d e =
    elim (bind_err (r ts) (λ a. many_within n p r a.1 >>= cons a.0) d (sym (many_goes p r n ts is) ∙ e)) [
      | inl first ↦
          let f = h.stuck ts d first in
          record {
            front = f.front;
            rest = f.rest;
            parts = f.parts;
            left = f.left;
            value = f.value ∷ [];
            completion = f.completion;
            spells = record { front = f.front ++ f.completion; back = []; fits_front = f.spells; fits_back = refl; parts = sym (append-nil (f.front ++ f.completion)) };
            kept = λ k b same le.
                let again : begins p (f.front ++ b) ≡ true = begins-same p (f.front ++ f.rest) (f.front ++ b) (first-append f.front f.rest b same) ∙ ap (begins p) (sym f.parts) ∙ is in
                let j = is_above p (f.front ++ b) k again le in
                ap (λ (i : ℕ). many_within i p r (f.front ++ b)) j.1 ∙ many_goes p r j.0 (f.front ++ b) again ∙ rw (f.kept b same) refl;
          }
      | inr a ↦
          let f = h.found ts a.0.0 a.0.1 a.1 in
          let open_here = opens a.0.0 f.front f.spells in
          elim (bind_err (many_within n p r a.0.1) (cons a.0.0) d a.2) [
            | inl second ↦
                let g = many_stuck S p m r h opens n (begins p a.0.1) a.0.1 refl (is_longer p f.front a.0.1 n open_here (subst (λ (v : List T). length v ≤ suc n) f.parts le)) d second in
                record {
                  front = f.front ++ g.front;
                  rest = g.rest;
                  parts = f.parts ∙ ap (λ (v : List T). f.front ++ v) g.parts ∙ sym (append_assoc f.front g.front g.rest);
                  left = g.left;
                  value = a.0.0 ∷ g.value;
                  completion = g.completion;
                  spells = record { front = f.front; back = g.front ++ g.completion; fits_front = f.spells; fits_back = g.spells; parts = append_assoc f.front g.front g.completion };
                  kept = λ k c same le.
                      let one : r (f.front ++ (g.front ++ c)) ≡ Ok (a.0.0, g.front ++ c) = f.kept (g.front ++ c) (first-append g.front g.rest c same ∙ ap first_of_list (sym g.parts)) in
                      ap (many_within k p r) (append_assoc f.front g.front c)
                      ∙ many_goes_at p r k f.front (g.front ++ c) a.0.0 (Err (length c)) open_here (subst (λ (v : List T). length v ≤ k) (append_assoc f.front g.front c) le) one
                      (λ j short. rw (g.kept j c same short) refl);
                }
            | inr b ↦ absurd (unfold cons in cc)
          ]
    ]

-- what follows an item goes on with no token of m
pub many_apart : {T X : Type 0} (S : X → List T → Type 0) (p m : T → Bool) → ((x : X) (w : List T) → S x w → begins p w ≡ true) → ((t : T) → p t ≡ true → m t ≡ false)
    → (xs : List X) (w rest : List T) → each S xs w → begins m rest ≡ false → begins m (w ++ rest) ≡ false
many_apart {T} S p m opens apart [] w rest h e = ap (λ (v : List T). begins m (v ++ rest)) h ∙ e
many_apart {T} S p m opens apart (x ∷ xs) w rest h e =
    ap (λ (v : List T). begins m (v ++ rest)) h.parts ∙ ap (begins m) (append_assoc h.front h.back rest) ∙ begins_apart p m apart h.front (h.back ++ rest) (opens x h.front h.fits_front)
  where
    begins_apart : {T : Type 0} (p m : T → Bool) → ((t : T) → p t ≡ true → m t ≡ false) → (w rest : List T) → begins p w ≡ true → begins m (w ++ rest) ≡ false
    begins_apart p m apart [] rest e = absurd cc
    begins_apart p m apart (t ∷ w) rest e = apart t e

many_only : {T X : Type 0} (S : X → List T → Type 0) (p m : T → Bool) (r : Reader T X) → Reads S m r → ((x : X) (w : List T) → S x w → begins p w ≡ true) → ((t : T) → p t ≡ true → m t ≡ false)
    → (xs : List X) (w rest : List T) → each S xs w → begins m rest ≡ false → begins p rest ≡ false → (k : ℕ) → length (w ++ rest) ≤ k → many_within k p r (w ++ rest) ≡ Ok (xs, rest)
many_only {T} S p m r h opens apart [] w rest s e stop k le = ap (λ (v : List T). many_within k p r (v ++ rest)) s ∙ many_stops p r k rest stop
many_only {T} S p m r h opens apart (x ∷ xs) w rest s e stop k le =
    let whole : w ++ rest ≡ s.front ++ (s.back ++ rest) = ap (λ (v : List T). v ++ rest) s.parts ∙ append_assoc s.front s.back rest in
    ap (many_within k p r) whole
    ∙ many_goes_at p r k s.front (s.back ++ rest) x (Ok (x ∷ xs, rest)) (opens x s.front s.fits_front) (subst (λ (v : List T). length v ≤ k) whole le)
    (h.only x s.front (s.back ++ rest) s.fits_front (many_apart S p m opens apart xs s.back rest s.fits_back e))
    (λ j short. rw (many_only S p m r h opens apart xs s.back rest s.fits_back e stop j short) (unfold cons in refl))

pub many_reads : {T X : Type 0} (S : X → List T → Type 0) (p m g : T → Bool) (r : Reader T X) → Reads S m r
    → ((x : X) (w : List T) → S x w → begins p w ≡ true) → ((t : T) → p t ≡ true → m t ≡ false)
    → ((rest : List T) → begins g rest ≡ false → begins m rest ≡ false) → ((rest : List T) → begins g rest ≡ false → begins p rest ≡ false) → Reads (each S) g (many_at p r)
many_reads {T} {X} S p m g r h opens apart to_m to_p =
    record {
      value = [];
      sample = [];
      sampled = refl;
      found = λ ts xs rest e.
          let f = many_found S p m r h opens (length ts) (begins p ts) ts refl (omega arith) xs rest e in
          record { front = f.front; spells = f.spells; parts = f.parts; kept = λ b same. f.kept (length (f.front ++ b)) b same (omega arith) };
      only = λ xs w rest s e. many_only S p m r h opens apart xs w rest s (to_m rest e) (to_p rest e) (length (w ++ rest)) (omega arith);
      stuck = λ ts d e.
          let f = many_stuck S p m r h opens (length ts) (begins p ts) ts refl (omega arith) d e in
          record { front = f.front; rest = f.rest; parts = f.parts; left = f.left; value = f.value; completion = f.completion; spells = f.spells; kept = λ b same. f.kept (length (f.front ++ b)) b same (omega arith) };
    }
