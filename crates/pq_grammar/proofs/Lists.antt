-- Readers of lists with separators, and the conditions that most parts meet by their first token.
use Rattle.std.proofs.Common.{◌≡◌, Bool, true, false, List, [], ◌∷◌, ◌++◌, refl, sym, ap, ◌∙◌, append_assoc}
use Rattle.pq_grammar.specs.Language.{◌⋅◌, one, each, separated_by}
use Rattle.pq_grammar.specs.Reader.{Reader, begins, pair_at, skip_at, close_at, many_at, separated_at, ended_at}
use Rattle.std.proofs.lemmas.List.{append-nil}
use Rattle.pq_grammar.proofs.Steps.{Reads, never, begins-never, begins-append}
use Rattle.pq_grammar.proofs.Readers.{pair_reads, skip_reads, close_reads, map_reads}
use Rattle.pq_grammar.proofs.Repeats.{many_reads, many_apart}

-- ---- the first token of a part

pub one_opens : {T : Type 0} (p : T → Bool) (t : T) → p t ≡ true → (w : List T) → one t w → begins p w ≡ true
one_opens p t e w h = ap (begins p) h ∙ e

pub then_opens : {T : Type 0} (p : T → Bool) (t : T) (B : List T → Type 0) → p t ≡ true → (w : List T) → (one t ⋅ B) w → begins p w ≡ true
then_opens {T} p t B e w h = ap (begins p) (h.parts ∙ ap (λ (v : List T). v ++ h.back) h.fits_front) ∙ e

pub one_shuts : {T : Type 0} (p : T → Bool) (t : T) → p t ≡ false → (w rest : List T) → one t w → begins p (w ++ rest) ≡ false
one_shuts {T} p t e w rest h = ap (λ (v : List T). begins p (v ++ rest)) h ∙ e

pub then_shuts : {T : Type 0} (p : T → Bool) (t : T) (B : List T → Type 0) → p t ≡ false → (w rest : List T) → (one t ⋅ B) w → begins p (w ++ rest) ≡ false
then_shuts {T} p t B e w rest h = ap (λ (v : List T). begins p (v ++ rest)) (h.parts ∙ ap (λ (v : List T). v ++ h.back) h.fits_front) ∙ e

-- ---- joining where anything may follow the first part

pub pair_free : {T A B : Type 0} (S : A → List T → Type 0) (U : B → List T → Type 0) (k : T → Bool) (r : Reader T A) (s : Reader T B) → Reads S never r → Reads U k s → Reads (λ y. S y.0 ⋅ U y.1) k (pair_at r s)
pair_free S U k r s p q = pair_reads S U never k r s p q (λ y v rest u e. begins-never (v ++ rest))

pub skip_free : {T B : Type 0} (A : List T → Type 0) (U : B → List T → Type 0) (k : T → Bool) (r : Reader T (Unit {0})) (s : Reader T B) → Reads (λ _. A) never r → Reads U k s → Reads (λ y. A ⋅ U y) k (skip_at r s)
skip_free A U k r s p q = skip_reads A U never k r s p q (λ y v rest u e. begins-never (v ++ rest))

pub close_free : {T A : Type 0} (S : A → List T → Type 0) (B : List T → Type 0) (k : T → Bool) (r : Reader T A) (s : Reader T (Unit {0})) → Reads S never r → Reads (λ _. B) k s → Reads (λ y. S y ⋅ B) k (close_at r s)
close_free S B k r s p q = close_reads S B never k r s p q (λ v rest u e. begins-never (v ++ rest))

-- the same reader, for a set that is the same
pub same_set : {T X : Type 0} (S U : X → List T → Type 0) (m : T → Bool) (r : Reader T X) → ((x : X) (w : List T) → S x w → U x w) → ((x : X) (w : List T) → U x w → S x w) → Reads S m r → Reads U m r
same_set S U m r to from p =
    record {
      value = p.value;
      sample = p.sample;
      sampled = to p.value p.sample p.sampled;
      found = λ ts x rest e. let f = p.found ts x rest e in record { front = f.front; spells = to x f.front f.spells; parts = f.parts; kept = f.kept };
      only = λ x w rest u e. p.only x w rest (from x w u) e;
      stuck = λ ts n e. let f = p.stuck ts n e in record { front = f.front; rest = f.rest; parts = f.parts; left = f.left; value = f.value; completion = f.completion; spells = to f.value (f.front ++ f.completion) f.spells; kept = f.kept };
    }

pub regroup : {T : Type 0} (A B C : List T → Type 0) (w : List T) → ((A ⋅ B) ⋅ C) w → (A ⋅ (B ⋅ C)) w
regroup {T} A B C w h =
    let i = h.fits_front in
    record {
      front = i.front;
      back = i.back ++ h.back;
      fits_front = i.fits_front;
      fits_back = record { front = i.back; back = h.back; fits_front = i.fits_back; fits_back = h.fits_back; parts = refl };
      parts = h.parts ∙ ap (λ (v : List T). v ++ h.back) i.parts ∙ append_assoc i.front i.back h.back;
    }

pub ungroup : {T : Type 0} (A B C : List T → Type 0) (w : List T) → (A ⋅ (B ⋅ C)) w → ((A ⋅ B) ⋅ C) w
ungroup {T} A B C w h =
    let i = h.fits_back in
    record {
      front = h.front ++ i.front;
      back = i.back;
      fits_back = i.fits_back;
      fits_front = record { front = h.front; back = i.front; fits_front = h.fits_front; fits_back = i.fits_front; parts = refl };
      parts = h.parts ∙ ap (λ (v : List T). h.front ++ v) i.parts ∙ sym (append_assoc h.front i.front i.back);
    }

-- ---- one or more, with a list of B between them

separated_from : {T X : Type 0} (B : List T → Type 0) (S : X → List T → Type 0) (y : List X) (w : List T) → separated_by B S y w → (x : X × List X) × (x.0 ∷ x.1 ≡ y) × (S x.0 ⋅ each (λ z. B ⋅ S z) x.1) w
separated_from B S [] w h = absurd h
separated_from B S (x ∷ xs) w h = ((x, xs), refl, h)

-- what begins with a list of B
pub front_opens : {T : Type 0} (p : T → Bool) (B C : List T → Type 0) → ((w : List T) → B w → begins p w ≡ true) → (w : List T) → (B ⋅ C) w → begins p w ≡ true
front_opens p B C opens w h = ap (begins p) h.parts ∙ begins-append p h.front h.back (opens h.front h.fits_front)

pub separated_reads : {T X : Type 0} (B : List T → Type 0) (S : X → List T → Type 0) (p m g : T → Bool) (s : Reader T (Unit {0})) (r : Reader T X) → Reads (λ _. B) never s → Reads S m r
    → ((w : List T) → B w → begins p w ≡ true) → ((u : T) → p u ≡ true → m u ≡ false) → ((rest : List T) → begins g rest ≡ false → begins m rest ≡ false) → ((rest : List T) → begins g rest ≡ false → begins p rest ≡ false)
    → Reads (separated_by B S) g (separated_at p s r)
separated_reads {T} {X} B S p m g s r q h is apart to_m to_p =
    let opens : (x : X) (w : List T) → (B ⋅ S x) w → begins p w ≡ true = λ x w. front_opens p B (S x) is w in
    map_reads (λ (x : X × List X). S x.0 ⋅ each (λ y. B ⋅ S y) x.1) (separated_by B S) g (λ x. x.0 ∷ x.1) (pair_at r (many_at p (skip_at s r)))
    (pair_reads S (each (λ y. B ⋅ S y)) m g r (many_at p (skip_at s r)) h
    (many_reads (λ y. B ⋅ S y) p m g (skip_at s r) (skip_free (B) S m s r q h) opens apart to_m to_p)
    (λ xs v rest u e. many_apart (λ y. B ⋅ S y) p m opens apart xs v rest u (to_m rest e)))
    (λ x w h. h) (separated_from B S)

-- ---- one or more with a list of B behind each are one or more with a list of B between them, and one at the end

shift_to : {T X : Type 0} (B : List T → Type 0) (S : X → List T → Type 0) (x : X) (xs : List X) (w : List T) → ((S x ⋅ B) ⋅ each (λ y. S y ⋅ B) xs) w → (separated_by B S (x ∷ xs) ⋅ B) w
shift_to {T} B S x [] w h =
    let i = h.fits_front in
    record {
      front = i.front;
      back = i.back;
      fits_back = i.fits_back;
      fits_front = record { front = i.front; back = []; fits_front = i.fits_front; fits_back = refl; parts = sym (append-nil i.front) };
      parts = h.parts ∙ ap (λ (v : List T). h.front ++ v) h.fits_back ∙ append-nil h.front ∙ i.parts;
    }
shift_to {T} B S x (y ∷ xs) w h =
    let i = h.fits_front in
    -- (S y ⋅ t) ⋅ rest of the list
    let j = shift_to B S y xs h.back h.fits_back in
    let k = j.fits_front in
    -- S x ⋅ (t ⋅ S y) ⋅ each ..
    record {
      front = i.front ++ ((i.back ++ k.front) ++ k.back);
      back = j.back;
      fits_back = j.fits_back;
      fits_front = record {
        front = i.front;
        back = (i.back ++ k.front) ++ k.back;
        fits_front = i.fits_front;
        parts = refl;
        fits_back = record { front = i.back ++ k.front; back = k.back; fits_back = k.fits_back; parts = refl; fits_front = record { front = i.back; back = k.front; fits_front = i.fits_back; fits_back = k.fits_front; parts = refl } };
      };
      parts = h.parts ∙ ap (λ (v : List T). v ++ h.back) i.parts ∙ ap (λ (v : List T). (i.front ++ i.back) ++ v) (j.parts ∙ ap (λ (v : List T). v ++ j.back) k.parts) ∙ simp append_assoc;
    }

shift_from : {T X : Type 0} (B : List T → Type 0) (S : X → List T → Type 0) (x : X) (xs : List X) (w : List T) → (separated_by B S (x ∷ xs) ⋅ B) w → ((S x ⋅ B) ⋅ each (λ y. S y ⋅ B) xs) w
shift_from {T} B S x [] w h =
    let i = h.fits_front in
    record {
      front = i.front ++ h.back;
      back = [];
      fits_back = refl;
      fits_front = record { front = i.front; back = h.back; fits_front = i.fits_front; fits_back = h.fits_back; parts = refl };
      parts = h.parts ∙ ap (λ (v : List T). v ++ h.back) (i.parts ∙ ap (λ (v : List T). i.front ++ v) i.fits_back ∙ append-nil i.front) ∙ sym (append-nil (i.front ++ h.back));
    }
shift_from {T} B S x (y ∷ xs) w h =
    let i = h.fits_front in
    let k = i.fits_back in
    let l = k.fits_front in
    let j = shift_from B S y xs ((l.back ++ k.back) ++ h.back)
    (record { front = l.back ++ k.back; back = h.back; fits_back = h.fits_back; parts = refl; fits_front = record { front = l.back; back = k.back; fits_front = l.fits_back; fits_back = k.fits_back; parts = refl } }) in
    record {
      front = i.front ++ l.front;
      back = (l.back ++ k.back) ++ h.back;
      fits_back = j;
      fits_front = record { front = i.front; back = l.front; fits_front = i.fits_front; fits_back = l.fits_front; parts = refl };
      parts = h.parts ∙ ap (λ (v : List T). v ++ h.back) (i.parts ∙ ap (λ (v : List T). i.front ++ v) (k.parts ∙ ap (λ (v : List T). v ++ k.back) l.parts)) ∙ simp append_assoc;
    }

ended_from : {T X : Type 0} (B : List T → Type 0) (S : X → List T → Type 0) (y : List X) (w : List T) → (separated_by B S y ⋅ B) w → (x : X × List X) × (x.0 ∷ x.1 ≡ y) × ((S x.0 ⋅ B) ⋅ each (λ z. S z ⋅ B) x.1) w
ended_from B S [] w h = absurd h.fits_front
ended_from B S (x ∷ xs) w h = ((x, xs), refl, shift_from B S x xs w h)

pub closed_opens : {T X : Type 0} (p : T → Bool) (S : X → List T → Type 0) (B : List T → Type 0) → ((x : X) (w : List T) → S x w → begins p w ≡ true) → (x : X) (w : List T) → (S x ⋅ B) w → begins p w ≡ true
closed_opens p S B opens x w h = ap (begins p) h.parts ∙ begins-append p h.front h.back (opens x h.front h.fits_front)

pub ended_reads : {T X : Type 0} (B : List T → Type 0) (S : X → List T → Type 0) (p m : T → Bool) (s : Reader T (Unit {0})) (r : Reader T X) → Reads (λ _. B) never s → Reads S m r
    → ((x : X) (w : List T) → S x w → begins p w ≡ true) → ((v rest : List T) → B v → begins m (v ++ rest) ≡ false) → Reads (λ xs. separated_by B S xs ⋅ B) p (ended_at p s r)
ended_reads {T} {X} B S p m s r q h opens shuts =
    let closed : Reads (λ y. S y ⋅ B) never (close_at r s) = close_reads S B m never r s h q (λ v rest b _. shuts v rest b) in
    map_reads (λ (x : X × List X). (S x.0 ⋅ B) ⋅ each (λ y. S y ⋅ B) x.1) (λ xs. separated_by B S xs ⋅ B) p (λ x. x.0 ∷ x.1) (pair_at (close_at r s) (many_at p (close_at r s)))
    (pair_free (λ y. S y ⋅ B) (each (λ y. S y ⋅ B)) p (close_at r s) (many_at p (close_at r s)) closed
    (many_reads (λ y. S y ⋅ B) p never p (close_at r s) closed (closed_opens p S (B) opens) (λ u e. refl) (λ rest e. begins-never rest) (λ rest e. e)))
    (λ x w h. shift_to B S x.0 x.1 w h) (ended_from B S)
