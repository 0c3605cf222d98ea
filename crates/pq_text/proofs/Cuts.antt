-- What a splitter tells from its start on is what the definition says of the whole script.
use Rattle.std.proofs.Common.{◌≡◌, ℕ, Bool, true, false, List, [], ◌∷◌, ◌++◌, refl, sym, ap, ◌∙◌, append_assoc}
use Rattle.std.proofs.lemmas.Bool.{eqb-true}
use Rattle.std.proofs.lemmas.List.{append-nil}
use Rattle.pq_text.specs.Cutting.{next, cuts, is_dash, state_behind, is_solid}
use Rattle.pq_text.specs.Pieces.{Place, Plain, behind, is_cut, Split, joined_split, after_front, after_piece, split_from, has_content, told_piece, piece_list, all_told, pieces_of, rest_of, is_unfinished}
use Rattle.pq_text.specs.Summaries.{Summary, start_summary, grown_summary, told_of, pieces_from, unfinished_from}
use Rattle.pq_text.specs.declared.piece.Piece.{Piece}
use Rattle.pq_text.specs.declared.state.State.{State}
use Rattle.pq_text.specs.declared.state.State.TheVariants as state
use Rattle.pq_text.proofs.CutSteps.{run_append}
use Rattle.pq_text.proofs.Growing.{grown_append, pieces_cut, pieces_later, unfinished_cut, unfinished_later}
use Rattle.pq_text.proofs.Places.{place_of, place_next, place_cuts, content_is, told_is}

joined-none : (pieces : List (List ℕ)) (rest : List ℕ) → joined_split [] pieces rest ≡ record { pieces = pieces; rest = rest }
joined-none [] rest = refl
joined-none (w ∷ ws) rest = refl

joined-push : (front : List ℕ) (b : ℕ) (pieces : List (List ℕ)) (rest : List ℕ) → joined_split front (joined_split (b ∷ []) pieces rest).pieces (joined_split (b ∷ []) pieces rest).rest ≡ joined_split (front ++ b ∷ []) pieces rest
joined-push front b [] rest = ap (λ (v : List ℕ). let s : Split = record { pieces = []; rest = v } in s) (sym (append_assoc front (b ∷ []) rest))
joined-push front b (w ∷ ws) rest = ap (λ (v : List ℕ). let s : Split = record { pieces = v ∷ ws; rest = rest } in s) (sym (append_assoc front (b ∷ []) w))

split_cut : (p : Place) (b : ℕ) (bs : List ℕ) → is_cut p b ≡ true → split_from p (b ∷ bs) ≡ after_piece (b ∷ []) (split_from Plain bs)
unfolding split_from
split_cut p b bs e = rw e refl

split_later : (p : Place) (b : ℕ) (bs : List ℕ) → is_cut p b ≡ false → split_from p (b ∷ bs) ≡ after_front (b ∷ []) (split_from (behind p b bs) bs)
unfolding split_from
split_later p b bs e = rw e refl

-- the split of bytes behind those seen since the last cut
abbrev split_behind : List ℕ → List ℕ → Split
split_behind seen bs = after_front seen (split_from (place_of (state_behind state.Plain seen) bs) bs)

grown_none : grown_summary start_summary [] ≡ start_summary
unfolding grown_summary state_behind is_solid
grown_none = refl

split_start : (bs : List ℕ) → split_behind [] bs ≡ split_from Plain bs
unfolding state_behind
split_start bs = joined-none (split_from Plain bs).pieces (split_from Plain bs).rest

state_of : (seen : List ℕ) → (grown_summary start_summary seen).state ≡ state_behind state.Plain seen
unfolding grown_summary
state_of seen = refl

run_more : (seen : List ℕ) (b : ℕ) → state_behind state.Plain (seen ++ b ∷ []) ≡ next (state_behind state.Plain seen) b
unfolding state_behind
run_more seen b = run_append state.Plain seen (b ∷ [])

cut_plain : (s : State) (b : ℕ) → cuts s b ≡ true → is_dash (next s b) ≡ false
cut_plain state.Plain b e = rw (eqb-true b 59 e) refl
cut_plain state.Dash b e = rw (eqb-true b 59 e) refl
cut_plain state.Text b e = absurd cc
cut_plain state.Comment b e = absurd cc

-- what is told agrees behind the bytes seen
record Agrees (seen bs : List ℕ) : Type 0 where
  pieces : pieces_from (grown_summary start_summary seen) bs ≡ all_told (split_behind seen bs).pieces
  rest : unfinished_from (grown_summary start_summary seen) bs ≡ has_content Plain (split_behind seen bs).rest

agrees_end : (seen : List ℕ) → Agrees seen []
unfolding pieces_from unfinished_from split_from grown_summary
agrees_end seen = record { pieces = refl; rest = sym (ap (has_content Plain) (append-nil seen) ∙ content_is seen) }

agrees_cut : (seen : List ℕ) (b : ℕ) (bs : List ℕ) → cuts (state_behind state.Plain seen) b ≡ true → Agrees [] bs → Agrees seen (b ∷ bs)
agrees_cut seen b bs e later =
    let p = place_of (state_behind state.Plain seen) (b ∷ bs) in
    let here : cuts (grown_summary start_summary seen).state b ≡ true = ap (λ (s : State). cuts s b) (state_of seen) ∙ e in
    let whole = seen ++ b ∷ [] in
    let told_here : told_of (grown_summary (grown_summary start_summary seen) (b ∷ [])) ≡ told_piece whole =
    ap told_of (grown_append start_summary seen (b ∷ [])) ∙ told_is whole (ap is_dash (run_more seen b) ∙ cut_plain (state_behind state.Plain seen) b e) in
    let pieces_later : pieces_from start_summary bs ≡ all_told (split_from Plain bs).pieces =
    ap (λ (s : Summary). pieces_from s bs) (sym grown_none) ∙ later.pieces ∙ ap (λ (s : Split). all_told s.pieces) (split_start bs) in
    let rest_later : unfinished_from start_summary bs ≡ has_content Plain (split_from Plain bs).rest =
    ap (λ (s : Summary). unfinished_from s bs) (sym grown_none) ∙ later.rest ∙ ap (λ (s : Split). has_content Plain s.rest) (split_start bs) in
    let splits : split_behind seen (b ∷ bs) ≡ after_front seen (after_piece (b ∷ []) (split_from Plain bs)) =
    ap (after_front seen) (split_cut p b bs (place_cuts (state_behind state.Plain seen) b bs ∙ e)) in
    record {
      pieces = pieces_cut (grown_summary start_summary seen) b bs here ∙ ap (λ (o : List Piece). o ++ pieces_from start_summary bs) (ap piece_list told_here) ∙ ap (λ (ps : List Piece). piece_list (told_piece whole) ++ ps) pieces_later ∙ sym (ap (λ (s : Split). all_told s.pieces) splits);
      rest = unfinished_cut (grown_summary start_summary seen) b bs here ∙ rest_later ∙ sym (ap (λ (s : Split). has_content Plain s.rest) splits);
    }

agrees_later : (seen : List ℕ) (b : ℕ) (bs : List ℕ) → cuts (state_behind state.Plain seen) b ≡ false → Agrees (seen ++ b ∷ []) bs → Agrees seen (b ∷ bs)
agrees_later seen b bs e later =
    let p = place_of (state_behind state.Plain seen) (b ∷ bs) in
    let here : cuts (grown_summary start_summary seen).state b ≡ false = ap (λ (s : State). cuts s b) (state_of seen) ∙ e in
    let goes : behind p b bs ≡ place_of (state_behind state.Plain (seen ++ b ∷ [])) bs = place_next (state_behind state.Plain seen) b bs ∙ ap (λ (s : State). place_of s bs) (sym (run_more seen b)) in
    let s = split_from (place_of (state_behind state.Plain (seen ++ b ∷ [])) bs) bs in
    let splits : split_behind seen (b ∷ bs) ≡ split_behind (seen ++ b ∷ []) bs =
    ap (after_front seen) (split_later p b bs (place_cuts (state_behind state.Plain seen) b bs ∙ e)) ∙ ap (λ (q : Place). after_front seen (after_front (b ∷ []) (split_from q bs))) goes ∙ joined-push seen b s.pieces s.rest in
    record {
      pieces = pieces_later (grown_summary start_summary seen) b bs here ∙ ap (λ (t : Summary). pieces_from t bs) (grown_append start_summary seen (b ∷ [])) ∙ later.pieces ∙ sym (ap (λ (t : Split). all_told t.pieces) splits);
      rest = unfinished_later (grown_summary start_summary seen) b bs here ∙ ap (λ (t : Summary). unfinished_from t bs) (grown_append start_summary seen (b ∷ [])) ∙ later.rest ∙ sym (ap (λ (t : Split). has_content Plain t.rest) splits);
    }

agrees_by : (seen : List ℕ) (b : ℕ) (bs : List ℕ) → ((front : List ℕ) → Agrees front bs) → (v : Bool) → cuts (state_behind state.Plain seen) b ≡ v → Agrees seen (b ∷ bs)
agrees_by seen b bs later true e = agrees_cut seen b bs e (later [])
agrees_by seen b bs later false e = agrees_later seen b bs e (later (seen ++ b ∷ []))

agrees : (bs seen : List ℕ) → Agrees seen bs
agrees [] seen = agrees_end seen
agrees (b ∷ bs) seen = agrees_by seen b bs (agrees bs) (cuts (state_behind state.Plain seen) b) refl

-- from the start, a splitter tells the pieces of the script
pub pieces_from-start : (script : List ℕ) → pieces_from start_summary script ≡ pieces_of script
unfolding pieces_of
pieces_from-start script = ap (λ (s : Summary). pieces_from s script) (sym grown_none) ∙ (agrees script []).pieces ∙ ap (λ (s : Split). all_told s.pieces) (split_start script)

-- from the start, a splitter tells whether the rest of the script is unfinished
pub unfinished_from-start : (script : List ℕ) → unfinished_from start_summary script ≡ is_unfinished (rest_of script)
unfolding rest_of
unfinished_from-start script = ap (λ (s : Summary). unfinished_from s script) (sym grown_none) ∙ (agrees script []).rest ∙ ap (λ (s : Split). has_content Plain s.rest) (split_start script)
