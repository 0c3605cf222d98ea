-- Bytes that leave the state as it is.
use Rattle.std.proofs.Common.{◌≡◌, ℕ, zero, suc, ◌+◌, ◌≤◌, Bool, true, false, not, cond, ◌||◌, ◌&&◌, List, [], ◌∷◌, ◌++◌, length, take, drop, Option, Some, None, refl, sym, ap, ◌∙◌, arith, drop-drop}
use Rattle.std.proofs.lemmas.List.{take-append-drop, length-take-le}
use Rattle.std.proofs.lemmas.List.Folds.{length-prefix_len}
use Rattle.std.specs.List.{prefix_len, take_while, list_all, list_any}
use Rattle.std.specs.Option.{option_map}
use Rattle.pq_text.specs.Cutting.{next, cuts, shows, is_quiet, state_behind, is_solid, first_cut}
use Rattle.pq_text.specs.declared.state.State.{State}
use Rattle.pq_text.specs.declared.state.State.TheVariants as state
use Rattle.pq_text.proofs.CutSteps.{run_append, solid_append}
use Rattle.pq_text.proofs.Steps.{moved}

pub no_dash_quiet : (bs : List ℕ) → length (take_while (is_quiet state.Dash) bs) ≡ 0
no_dash_quiet [] = refl
no_dash_quiet (b ∷ bs) = refl

record Stays (s t : State) (cut : Bool) : Type 0 where
  same : t ≡ s
  uncut : cut ≡ false

plain_stays : (x y z : Bool) → not (x || y || z) ≡ true → Stays state.Plain (cond x state.Text (cond y state.Dash state.Plain)) z
plain_stays false false false e = record { same = refl; uncut = refl }
plain_stays false false true e = absurd cc
plain_stays false true z e = absurd cc
plain_stays true y z e = absurd cc

text_stays : (x : Bool) → not x ≡ true → Stays state.Text (cond x state.Plain state.Text) false
text_stays false e = record { same = refl; uncut = refl }
text_stays true e = absurd cc

comment_stays : (x : Bool) → not x ≡ true → Stays state.Comment (cond x state.Plain state.Comment) false
comment_stays false e = record { same = refl; uncut = refl }
comment_stays true e = absurd cc

stays : (s : State) (b : ℕ) → is_quiet s b ≡ true → Stays s (next s b) (cuts s b)
stays state.Plain b e = plain_stays _ _ _ e
stays state.Dash b e = absurd cc
stays state.Text b e = text_stays _ e
stays state.Comment b e = comment_stays _ e

both : (a b : Bool) → (a && b) ≡ true → (a ≡ true) × (b ≡ true)
both true b e = (refl, e)
both false b e = absurd cc

quiet_state : (s : State) (xs : List ℕ) → list_all (is_quiet s) xs ≡ true → state_behind s xs ≡ s
unfolding state_behind
quiet_state s [] e = refl
quiet_state s (x ∷ xs) e =
    let q = both (is_quiet s x) (list_all (is_quiet s) xs) e in
    ap (λ (t : State). state_behind t xs) (stays s x q.0).same ∙ quiet_state s xs q.1

quiet_solid : (s : State) (xs : List ℕ) → list_all (is_quiet s) xs ≡ true → is_solid s xs ≡ list_any (shows s) xs
unfolding is_solid
quiet_solid s [] e = refl
quiet_solid s (x ∷ xs) e =
    let q = both (is_quiet s x) (list_all (is_quiet s) xs) e in
    ap (λ (b : Bool). shows s x || b) (ap (λ (t : State). is_solid t xs) (stays s x q.0).same ∙ quiet_solid s xs q.1)

none_more : (o : Option ℕ) → o ≡ option_map (λ n. n + 0) o
none_more None = refl
none_more (Some n) = let e : n ≡ n + 0 = omega arith in ap (λ (m : ℕ). Some m) e

one_more : (k : ℕ) (o : Option ℕ) → option_map (λ n. n + 1) (option_map (λ n. n + k) o) ≡ option_map (λ n. n + suc k) o
one_more k None = refl
one_more k (Some n) = let e : n + k + 1 ≡ n + suc k = omega arith in ap (λ (m : ℕ). Some m) e

uncut_first : (s : State) (x : ℕ) (xs : List ℕ) → cuts s x ≡ false → first_cut s (x ∷ xs) ≡ option_map (λ n. n + 1) (first_cut (next s x) xs)
unfolding first_cut
uncut_first s x xs e = rw e refl

quiet_cut : (s : State) (xs ys : List ℕ) → list_all (is_quiet s) xs ≡ true → first_cut s (xs ++ ys) ≡ option_map (λ n. n + length xs) (first_cut s ys)
quiet_cut s [] ys e = none_more (first_cut s ys)
quiet_cut s (x ∷ xs) ys e =
    let q = both (is_quiet s x) (list_all (is_quiet s) xs) e in
    let here = stays s x q.0 in
    uncut_first s x (xs ++ ys) here.uncut
    ∙ ap (option_map (λ n. n + 1)) (ap (λ (t : State). first_cut t (xs ++ ys)) here.same ∙ quiet_cut s xs ys q.1)
    ∙ one_more (length xs) (first_cut s ys)

and_true : (a b : Bool) → a ≡ true → b ≡ true → (a && b) ≡ true
and_true true b e f = f
and_true false b e f = absurd cc

prefix_by : (p : ℕ → Bool) (x : ℕ) (xs : List ℕ) (v : Bool) → p x ≡ v → list_all p (take (prefix_len p xs) xs) ≡ true → list_all p (take (cond v (1 + prefix_len p xs) 0) (x ∷ xs)) ≡ true
prefix_by p x xs true is e =
    let more : 1 + prefix_len p xs ≡ suc (prefix_len p xs) = omega arith in
    ap (λ (k : ℕ). list_all p (take k (x ∷ xs))) more ∙ and_true (p x) (list_all p (take (prefix_len p xs) xs)) is e
prefix_by p x xs false is e = refl

prefix_passes : (p : ℕ → Bool) (xs : List ℕ) → list_all p (take (prefix_len p xs) xs) ≡ true
prefix_passes p [] = refl
prefix_passes p (x ∷ xs) = prefix_by p x xs (p x) refl (prefix_passes p xs)

abbrev no_bytes : List ℕ
no_bytes = []

take_none : (n : ℕ) → take n no_bytes ≡ no_bytes
take_none zero = refl
take_none (suc n) = refl

take_part : (i n : ℕ) (xs : List ℕ) → take (i + n) xs ≡ take i xs ++ take n (drop i xs)
take_part zero n xs = ap (λ (k : ℕ). take k xs) (omega arith)
take_part (suc i) n [] = take_none (suc i + n) ∙ sym (take_none n)
take_part (suc i) n (x ∷ xs) =
    let e : suc i + n ≡ suc (i + n) = omega arith in
    ap (λ (k : ℕ). take k (x ∷ xs)) e ∙ ap (λ (ys : List ℕ). x ∷ ys) (take_part i n xs)

-- bytes at this place that leave the state as it is
quiet_part : (t : State) (bs : List ℕ) (len n : ℕ) → n ≡ length (take_while (is_quiet t) (drop len bs)) → list_all (is_quiet t) (take n (drop len bs)) ≡ true
quiet_part t bs len n e = rw (e ∙ length-prefix_len (is_quiet t) (drop len bs)) (prefix_passes (is_quiet t) (drop len bs))

pub quiet_run : (s t : State) (bs : List ℕ) (len n : ℕ) → n ≡ length (take_while (is_quiet t) (drop len bs)) → t ≡ state_behind s (take len bs) → t ≡ state_behind s (take (len + n) bs)
quiet_run s t bs len n e f =
    sym (ap (state_behind s) (take_part len n bs) ∙ run_append s (take len bs) (take n (drop len bs)) ∙ ap (λ (u : State). state_behind u (take n (drop len bs))) (sym f) ∙ quiet_state t (take n (drop len bs)) (quiet_part t bs len n e))

pub quiet_shows : (s t : State) (bs : List ℕ) (len n : ℕ) (solid : Bool) → n ≡ length (take_while (is_quiet t) (drop len bs)) → t ≡ state_behind s (take len bs) → solid ≡ is_solid s (take len bs)
    → (solid || list_any (shows t) (take n (drop len bs))) ≡ is_solid s (take (len + n) bs)
quiet_shows s t bs len n solid e f g =
    sym (ap (is_solid s) (take_part len n bs) ∙ solid_append s (take len bs) (take n (drop len bs))
    ∙ ap (λ (b : Bool). b || is_solid (state_behind s (take len bs)) (take n (drop len bs))) (sym g)
    ∙ ap (λ (b : Bool). solid || b) (ap (λ (u : State). is_solid u (take n (drop len bs))) (sym f) ∙ quiet_solid t (take n (drop len bs)) (quiet_part t bs len n e)))

pub quiet_later : (s t : State) (bs : List ℕ) (len n : ℕ) → n ≡ length (take_while (is_quiet t) (drop len bs)) → n ≤ length (drop len bs) → first_cut s bs ≡ option_map (λ m. len + m) (first_cut t (drop len bs))
    → first_cut s bs ≡ option_map (λ m. (len + n) + m) (first_cut t (drop (len + n) bs))
quiet_later s t bs len n e le f =
    let size : length (take n (drop len bs)) ≡ n = length-take-le n (drop len bs) le in
    let here : first_cut t (drop len bs) ≡ option_map (λ m. m + n) (first_cut t (drop (len + n) bs)) =
    ap (first_cut t) (sym (take-append-drop n (drop len bs)))
    ∙ quiet_cut t (take n (drop len bs)) (drop n (drop len bs)) (quiet_part t bs len n e)
    ∙ ap (λ (k : ℕ). option_map (λ m. m + k) (first_cut t (drop n (drop len bs)))) size
    ∙ ap (λ (v : List ℕ). option_map (λ m. m + n) (first_cut t v)) (drop-drop n len bs) in
    f ∙ ap (option_map (λ m. len + m)) here ∙ moved len n (first_cut t (drop (len + n) bs))
