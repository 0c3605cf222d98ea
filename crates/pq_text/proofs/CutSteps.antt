-- A scan for a cut, byte by byte.
use Rattle.std.proofs.Common.{◌≡◌, ℕ, ◌+◌, ◌≤◌, ◌<◌, Bool, true, false, cond, ◌||◌, List, [], ◌∷◌, ◌++◌, length, take, drop, get_or, Option, Some, None, refl, sym, ap, ◌∙◌, arith, length-drop}
use Rattle.std.proofs.lemmas.List.{take_more, nil_from_length}
use Rattle.std.specs.Option.{option_map}
use Rattle.pq_text.specs.Cutting.{next, cuts, shows, state_behind, is_solid, first_cut}
use Rattle.pq_text.specs.declared.state.State.{State}
use Rattle.pq_text.proofs.Steps.{at_drop, moved}

pub run_append : (s : State) (xs ys : List ℕ) → state_behind s (xs ++ ys) ≡ state_behind (state_behind s xs) ys
unfolding state_behind
run_append s [] ys = refl
run_append s (x ∷ xs) ys = run_append (next s x) xs ys

pub or_assoc : (a b c : Bool) → ((a || b) || c) ≡ (a || (b || c))
or_assoc true b c = refl
or_assoc false b c = refl

or_false : (a : Bool) → (a || false) ≡ a
or_false true = refl
or_false false = refl

pub solid_append : (s : State) (xs ys : List ℕ) → is_solid s (xs ++ ys) ≡ (is_solid s xs || is_solid (state_behind s xs) ys)
unfolding state_behind is_solid
solid_append s [] ys = refl
solid_append s (x ∷ xs) ys = ap (λ (b : Bool). shows s x || b) (solid_append (next s x) xs ys) ∙ sym (or_assoc (shows s x) (is_solid (next s x) xs) (is_solid (state_behind (next s x) xs) ys))

run_last : (s : State) (xs : List ℕ) (b : ℕ) → state_behind s (xs ++ b ∷ []) ≡ next (state_behind s xs) b
unfolding state_behind
run_last s xs b = run_append s xs (b ∷ [])

solid_last : (s : State) (xs : List ℕ) (b : ℕ) → is_solid s (xs ++ b ∷ []) ≡ (is_solid s xs || shows (state_behind s xs) b)
unfolding is_solid
solid_last s xs b = solid_append s xs (b ∷ []) ∙ ap (λ (c : Bool). is_solid s xs || c) (or_false (shows (state_behind s xs) b))

pub run_step : (s t : State) (bs : List ℕ) (len : ℕ) → len < length bs → t ≡ state_behind s (take len bs) → next t (get_or bs len 0) ≡ state_behind s (take (len + 1) bs)
run_step s t bs len lt e = ap (λ (u : State). next u (get_or bs len 0)) e ∙ sym (run_last s (take len bs) (get_or bs len 0)) ∙ ap (state_behind s) (sym (take_more bs len 0 lt))

pub solid_step : (s t : State) (bs : List ℕ) (len : ℕ) (solid : Bool) → len < length bs → t ≡ state_behind s (take len bs) → solid ≡ is_solid s (take len bs) → (solid || shows t (get_or bs len 0)) ≡ is_solid s (take (len + 1) bs)
solid_step s t bs len solid lt e f = rw (e, f) (sym (solid_last s (take len bs) (get_or bs len 0)) ∙ ap (is_solid s) (sym (take_more bs len 0 lt)))

cut_drop : (s : State) (bs : List ℕ) (i : ℕ) → i < length bs → first_cut s (drop i bs) ≡ cond (cuts s (get_or bs i 0)) (Some 1) (option_map (λ n. n + 1) (first_cut (next s (get_or bs i 0)) (drop (i + 1) bs)))
unfolding first_cut
cut_drop s bs i lt = ap (first_cut s) (at_drop bs i lt)

pub cut_start : (s : State) (bs : List ℕ) → first_cut s bs ≡ option_map (λ n. 0 + n) (first_cut s bs)
cut_start s bs = by_cut (first_cut s bs)
  where
    by_cut : (o : Option ℕ) → o ≡ option_map (λ n. 0 + n) o
    by_cut None = refl
    by_cut (Some n) = let e : n ≡ 0 + n = omega arith in ap (λ (m : ℕ). Some m) e

pub cut_found : (s t : State) (bs : List ℕ) (len : ℕ) → len < length bs → first_cut s bs ≡ option_map (λ n. len + n) (first_cut t (drop len bs)) → cuts t (get_or bs len 0) ≡ true → first_cut s bs ≡ Some (len + 1)
cut_found s t bs len lt e c =
    let here : first_cut t (drop len bs) ≡ Some 1 = cut_drop t bs len lt ∙ ap (λ (v : Bool). cond v (Some 1) (option_map (λ n. n + 1) (first_cut (next t (get_or bs len 0)) (drop (len + 1) bs)))) c in
    e ∙ ap (option_map (λ n. len + n)) here

pub cut_later : (s t : State) (bs : List ℕ) (len : ℕ) → len < length bs → first_cut s bs ≡ option_map (λ n. len + n) (first_cut t (drop len bs)) → cuts t (get_or bs len 0) ≡ false → first_cut s bs ≡ option_map (λ n. (len + 1) + n) (first_cut (next t (get_or bs len 0)) (drop (len + 1) bs))
cut_later s t bs len lt e c =
    let here : first_cut t (drop len bs) ≡ option_map (λ n. n + 1) (first_cut (next t (get_or bs len 0)) (drop (len + 1) bs)) =
    cut_drop t bs len lt ∙ ap (λ (v : Bool). cond v (Some 1) (option_map (λ n. n + 1) (first_cut (next t (get_or bs len 0)) (drop (len + 1) bs)))) c in
    e ∙ ap (option_map (λ n. len + n)) here ∙ moved len 1 (first_cut (next t (get_or bs len 0)) (drop (len + 1) bs))

pub cut_none : (s t : State) (bs : List ℕ) (len : ℕ) → length bs ≤ len → first_cut s bs ≡ option_map (λ n. len + n) (first_cut t (drop len bs)) → first_cut s bs ≡ None
unfolding first_cut
cut_none s t bs len le e = e ∙ ap (λ (v : List ℕ). option_map (λ n. len + n) (first_cut t v)) (nil_from_length (drop len bs) (omega (arith, length-drop len bs)))
