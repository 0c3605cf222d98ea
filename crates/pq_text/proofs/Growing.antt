-- Summaries of more bytes, and what a part takes from the pieces that follow.
use Rattle.std.proofs.Common.{◌≡◌, ℕ, suc, ◌+◌, ◌<◌, Bool, true, false, cond, ltb, ◌||◌, List, [], ◌∷◌, ◌++◌, length, take, Option, Some, None, refl, sym, ap, subst, ◌∙◌, arith, append_assoc, length-append}
use Rattle.std.proofs.lemmas.Bool.{lt-ltb, ltb-true}
use Rattle.std.proofs.lemmas.List.{take_all}
use Rattle.std.specs.Option.{option_map}
use Rattle.pq_text.specs.Cutting.{next, cuts, state_behind, is_solid, first_cut}
use Rattle.pq_text.specs.Pieces.{piece_limit, piece_list}
use Rattle.pq_text.specs.Summaries.{Summary, start_summary, is_long, grown_summary, told_of, pieces_from, unfinished_from}
use Rattle.pq_text.specs.declared.piece.Piece.{Piece}
use Rattle.pq_text.specs.declared.state.State.{State}
use Rattle.pq_text.proofs.CutSteps.{run_append, solid_append, or_assoc}

same_summary : (s t : State) (k l : List ℕ) (a b c d : Bool) → s ≡ t → k ≡ l → a ≡ b → c ≡ d
    → (let x : Summary = record { state = s; kept = k; long = a; solid = c } in let y : Summary = record { state = t; kept = l; long = b; solid = d } in x ≡ y)
same_summary s t k l a b c d e f g h = cc

-- whether bytes are too long, part by part
long_twice : (long : Bool) (kept xs ys : List ℕ) (first : Bool) → ltb piece_limit (length kept + length xs) ≡ first
    → ((long || first) || ltb piece_limit (length (cond (long || first) [] (kept ++ xs)) + length ys)) ≡ (long || ltb piece_limit (length kept + length (xs ++ ys)))
long_twice true kept xs ys first e = refl
long_twice false kept xs ys true e = sym (lt-ltb piece_limit (length kept + length (xs ++ ys)) (omega (arith, ltb-true piece_limit (length kept + length xs) e, length-append xs ys)))
long_twice false kept xs ys false e =
    let len : length (kept ++ xs) + length ys ≡ length kept + length (xs ++ ys) = omega (arith, length-append xs ys, length-append kept xs) in
    ap (ltb piece_limit) len

-- what is kept, part by part
kept_twice : (first later whole : Bool) (kept xs ys : List ℕ) → (first || later) ≡ whole → cond (first || later) [] (cond first [] (kept ++ xs) ++ ys) ≡ cond whole [] (kept ++ (xs ++ ys))
kept_twice true later whole kept xs ys e = ap (λ (b : Bool). cond b [] (kept ++ (xs ++ ys))) e
kept_twice false true whole kept xs ys e = ap (λ (b : Bool). cond b [] (kept ++ (xs ++ ys))) e
kept_twice false false whole kept xs ys e = append_assoc kept xs ys ∙ ap (λ (b : Bool). cond b [] (kept ++ (xs ++ ys))) e

pub grown_append : (s : Summary) (xs ys : List ℕ) → grown_summary (grown_summary s xs) ys ≡ grown_summary s (xs ++ ys)
unfolding grown_summary
grown_append s xs ys =
    let long = long_twice s.long s.kept xs ys (ltb piece_limit (length s.kept + length xs)) refl in
    same_summary _ _ _ _ _ _ _ _
    (sym (run_append s.state xs ys))
    (kept_twice (is_long s (length xs)) (ltb piece_limit (length (cond (is_long s (length xs)) [] (s.kept ++ xs)) + length ys)) (is_long s (length (xs ++ ys))) s.kept xs ys long)
    long
    (or_assoc s.solid (is_solid s.state xs) (is_solid (state_behind s.state xs) ys) ∙ ap (λ (b : Bool). s.solid || b) (sym (solid_append s.state xs ys)))

pub grown_state : (s : Summary) (b : ℕ) → (grown_summary s (b ∷ [])).state ≡ next s.state b
unfolding grown_summary state_behind
grown_state s b = refl

pub pieces_cut : (s : Summary) (b : ℕ) (bs : List ℕ) → cuts s.state b ≡ true → pieces_from s (b ∷ bs) ≡ piece_list (told_of (grown_summary s (b ∷ []))) ++ pieces_from start_summary bs
unfolding pieces_from
pieces_cut s b bs e = rw e refl

pub pieces_later : (s : Summary) (b : ℕ) (bs : List ℕ) → cuts s.state b ≡ false → pieces_from s (b ∷ bs) ≡ pieces_from (grown_summary s (b ∷ [])) bs
unfolding pieces_from
pieces_later s b bs e = rw e refl

pub unfinished_cut : (s : Summary) (b : ℕ) (bs : List ℕ) → cuts s.state b ≡ true → unfinished_from s (b ∷ bs) ≡ unfinished_from start_summary bs
unfolding unfinished_from
unfinished_cut s b bs e = rw e refl

pub unfinished_later : (s : Summary) (b : ℕ) (bs : List ℕ) → cuts s.state b ≡ false → unfinished_from s (b ∷ bs) ≡ unfinished_from (grown_summary s (b ∷ [])) bs
unfolding unfinished_from
unfinished_later s b bs e = rw e refl

cut_here : (s : State) (b : ℕ) (bs : List ℕ) → cuts s b ≡ true → first_cut s (b ∷ bs) ≡ Some 1
unfolding first_cut
cut_here s b bs e = rw e refl

cut_beyond : (s : State) (b : ℕ) (bs : List ℕ) → cuts s b ≡ false → first_cut s (b ∷ bs) ≡ option_map (λ n. n + 1) (first_cut (next s b) bs)
unfolding first_cut
cut_beyond s b bs e = rw e refl

some_later : (o : Option ℕ) (n : ℕ) → option_map (λ m. m + 1) o ≡ Some n → (m : ℕ) × (o ≡ Some m) × (suc m ≡ n)
some_later None n e = absurd cc
some_later (Some m) n e = let same : m + 1 ≡ n = cc in (m, refl, omega (arith, same))

none_later : (o : Option ℕ) → option_map (λ m. m + 1) o ≡ None → o ≡ None
none_later None e = refl
none_later (Some m) e = absurd cc

-- what a part does to what follows: with a cut at its end, or without one
record Cut (s : Summary) (part : List ℕ) : Type 0 where
  pieces : (more : List ℕ) → pieces_from s (part ++ more) ≡ piece_list (told_of (grown_summary s part)) ++ pieces_from start_summary more
  rest : (more : List ℕ) → unfinished_from s (part ++ more) ≡ unfinished_from start_summary more

record Uncut (s : Summary) (part : List ℕ) : Type 0 where
  pieces : (more : List ℕ) → pieces_from s (part ++ more) ≡ pieces_from (grown_summary s part) more
  rest : (more : List ℕ) → unfinished_from s (part ++ more) ≡ unfinished_from (grown_summary s part) more

cut_by : (s : Summary) (b : ℕ) (bs : List ℕ) (n : ℕ) → ((m : ℕ) → first_cut (grown_summary s (b ∷ [])).state bs ≡ Some m → Cut (grown_summary s (b ∷ [])) (take m bs)) → (v : Bool) → cuts s.state b ≡ v → first_cut s.state (b ∷ bs) ≡ Some n → Cut s (take n (b ∷ bs))
cut_by s b bs n later true is e =
    let one : Some 1 ≡ Some n = sym (cut_here s.state b bs is) ∙ e in
    let same : 1 ≡ n = cc in
    subst (λ (k : ℕ). Cut s (take k (b ∷ bs))) same (record { pieces = λ more. pieces_cut s b more is; rest = λ more. unfinished_cut s b more is })
cut_by s b bs n later false isnt e =
    let before = some_later (first_cut (next s.state b) bs) n (sym (cut_beyond s.state b bs isnt) ∙ e) in
    let cut = later before.0 (ap (λ (t : State). first_cut t bs) (grown_state s b) ∙ before.1) in
    subst (λ (k : ℕ). Cut s (take k (b ∷ bs))) before.2
    (record {
      pieces = λ more. pieces_later s b (take before.0 bs ++ more) isnt ∙ cut.pieces more ∙ ap (λ (t : Summary). piece_list (told_of t) ++ pieces_from start_summary more) (grown_append s (b ∷ []) (take before.0 bs));
      rest = λ more. unfinished_later s b (take before.0 bs ++ more) isnt ∙ cut.rest more;
    })

cut : (s : Summary) (bytes : List ℕ) (n : ℕ) → first_cut s.state bytes ≡ Some n → Cut s (take n bytes)
unfolding first_cut
cut s [] n e = absurd cc
cut s (b ∷ bs) n e = cut_by s b bs n (cut (grown_summary s (b ∷ [])) bs) (cuts s.state b) refl e

uncut_one : (s : Summary) (b : ℕ) → cuts s.state b ≡ false → Uncut s (b ∷ [])
uncut_one s b e = record { pieces = λ more. pieces_later s b more e; rest = λ more. unfinished_later s b more e }

uncut_more : (s : Summary) (b : ℕ) (bs : List ℕ) → cuts s.state b ≡ false → Uncut (grown_summary s (b ∷ [])) bs → Uncut s (b ∷ bs)
uncut_more s b bs e later = record {
  pieces = λ more. pieces_later s b (bs ++ more) e ∙ later.pieces more ∙ ap (λ (t : Summary). pieces_from t more) (grown_append s (b ∷ []) bs);
  rest = λ more. unfinished_later s b (bs ++ more) e ∙ later.rest more ∙ ap (λ (t : Summary). unfinished_from t more) (grown_append s (b ∷ []) bs);
}

no_cut : (s : State) (b : ℕ) (bs : List ℕ) (v : Bool) → cuts s b ≡ v → first_cut s (b ∷ bs) ≡ None → (v ≡ false) × (first_cut (next s b) bs ≡ None)
no_cut s b bs true is e = let one = sym (cut_here s b bs is) ∙ e in absurd cc
no_cut s b bs false isnt e = (refl, none_later (first_cut (next s b) bs) (sym (cut_beyond s b bs isnt) ∙ e))

uncut : (s : Summary) (bytes : List ℕ) → 0 < length bytes → first_cut s.state bytes ≡ None → Uncut s bytes
uncut s [] some e = absurd (omega arith)
uncut s (b ∷ []) some e = uncut_one s b (no_cut s.state b [] (cuts s.state b) refl e).0
uncut s (b ∷ c ∷ bs) some e =
    let none = no_cut s.state b (c ∷ bs) (cuts s.state b) refl e in
    uncut_more s b (c ∷ bs) none.0 (uncut (grown_summary s (b ∷ [])) (c ∷ bs) (omega arith) (ap (λ (t : State). first_cut t (c ∷ bs)) (grown_state s b) ∙ none.1))

-- what a call of feed did, where there was a cut
pub record FedCut (s new : Summary) (bytes part : List ℕ) (n : ℕ) (piece : Option Piece) : Type 0 where
  pub cut : first_cut s.state bytes ≡ Some n
  pub part_is : part ≡ take n bytes
  pub told : piece ≡ told_of (grown_summary s part)
  pub new_is : new ≡ start_summary

pub fed_cut_pieces : (s new : Summary) (bytes part : List ℕ) (n : ℕ) (piece : Option Piece) → FedCut s new bytes part n piece → (more : List ℕ) → pieces_from s (take n bytes ++ more) ≡ piece_list piece ++ pieces_from new more
fed_cut_pieces s new bytes part n piece h more =
    let told : piece ≡ told_of (grown_summary s (take n bytes)) = h.told ∙ ap (λ (v : List ℕ). told_of (grown_summary s v)) h.part_is in
    (cut s bytes n h.cut).pieces more ∙ sym (ap (λ (o : Option Piece). piece_list o ++ pieces_from start_summary more) told) ∙ sym (ap (λ (t : Summary). piece_list piece ++ pieces_from t more) h.new_is)

pub fed_cut_rest : (s new : Summary) (bytes part : List ℕ) (n : ℕ) (piece : Option Piece) → FedCut s new bytes part n piece → (more : List ℕ) → unfinished_from s (take n bytes ++ more) ≡ unfinished_from new more
fed_cut_rest s new bytes part n piece h more = (cut s bytes n h.cut).rest more ∙ sym (ap (λ (t : Summary). unfinished_from t more) h.new_is)

-- what a call of feed did, where there was no cut
pub record FedAll (s new : Summary) (bytes part : List ℕ) (n : ℕ) : Type 0 where
  pub some : 0 < length bytes
  pub none : first_cut s.state bytes ≡ None
  pub all : n ≡ length bytes
  pub part_is : part ≡ take n bytes
  pub new_is : new ≡ grown_summary s part

whole_part : (s new : Summary) (bytes part : List ℕ) (n : ℕ) → FedAll s new bytes part n → (take n bytes ≡ bytes) × (grown_summary s bytes ≡ new)
whole_part s new bytes part n h =
    let whole : take n bytes ≡ bytes = take_all n bytes (omega (arith, h.all)) in
    (whole, sym (h.new_is ∙ ap (grown_summary s) (h.part_is ∙ whole)))

pub fed_all_pieces : (s new : Summary) (bytes part : List ℕ) (n : ℕ) → FedAll s new bytes part n → (more : List ℕ) → pieces_from s (take n bytes ++ more) ≡ pieces_from new more
fed_all_pieces s new bytes part n h more =
    let w = whole_part s new bytes part n h in
    ap (λ (v : List ℕ). pieces_from s (v ++ more)) w.0 ∙ (uncut s bytes h.some h.none).pieces more ∙ ap (λ (t : Summary). pieces_from t more) w.1

pub fed_all_rest : (s new : Summary) (bytes part : List ℕ) (n : ℕ) → FedAll s new bytes part n → (more : List ℕ) → unfinished_from s (take n bytes ++ more) ≡ unfinished_from new more
fed_all_rest s new bytes part n h more =
    let w = whole_part s new bytes part n h in
    ap (λ (v : List ℕ). unfinished_from s (v ++ more)) w.0 ∙ (uncut s bytes h.some h.none).rest more ∙ ap (λ (t : Summary). unfinished_from t more) w.1
