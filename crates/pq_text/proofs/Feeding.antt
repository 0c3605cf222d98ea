-- Feeding a part call by call, and parts one behind the other.
use Rattle.std.proofs.Common.{◌≡◌, ℕ, ◌+◌, ◌<◌, List, [], ◌∷◌, ◌++◌, length, take, drop, get_or, Option, refl, sym, ap, ◌∙◌, append_assoc, Bor}
use Rattle.std.proofs.lemmas.List.{take-append-drop, drop-drop, append-nil, take_more}
use Rattle.pq_text.specs.Parts.{joined_parts}
use Rattle.pq_text.specs.Pieces.{piece_list, pieces_of, rest_of, is_unfinished}
use Rattle.pq_text.specs.Summaries.{Summary, start_summary, pieces_from, unfinished_from}
use Rattle.pq_text.specs.declared.piece.Piece.{Piece}
use Rattle.pq_text.proofs.Cuts.{pieces_from-start, unfinished_from-start}

rest_split : (part more : List ℕ) (taken n : ℕ) → drop taken part ++ more ≡ take n (drop taken part) ++ (drop (taken + n) part ++ more)
rest_split part more taken n =
    ap (λ (v : List ℕ). v ++ more) (sym (take-append-drop n (drop taken part)) ∙ ap (λ (v : List ℕ). take n (drop taken part) ++ v) (drop-drop n taken part))
    ∙ append_assoc (take n (drop taken part)) (drop (taken + n) part) more

-- a call moves what it takes from what follows to what was told
pub feed_pieces : (s t : Summary) (part bytes : List ℕ) (taken n : ℕ) (told new all : List Piece) (piece : Option Piece) (more : List ℕ) → bytes ≡ drop taken part → ((after : List ℕ) → pieces_from s (take n bytes ++ after) ≡ piece_list piece ++ pieces_from t after)
    → told ++ pieces_from s (drop taken part ++ more) ≡ all → new ≡ told ++ piece_list piece → new ++ pieces_from t (drop (taken + n) part ++ more) ≡ all
feed_pieces s t part bytes taken n told new all piece more is fed so put =
    let after = drop (taken + n) part ++ more in
    ap (λ (ps : List Piece). ps ++ pieces_from t after) put
    ∙ append_assoc told (piece_list piece) (pieces_from t after)
    ∙ ap (λ (ps : List Piece). told ++ ps) (sym (fed after) ∙ ap (λ (v : List ℕ). pieces_from s (take n v ++ after)) is ∙ sym (ap (pieces_from s) (rest_split part more taken n)))
    ∙ so

pub feed_rest : (s t : Summary) (part bytes : List ℕ) (taken n : ℕ) (more : List ℕ) → bytes ≡ drop taken part → ((after : List ℕ) → unfinished_from s (take n bytes ++ after) ≡ unfinished_from t after)
    → unfinished_from t (drop (taken + n) part ++ more) ≡ unfinished_from s (drop taken part ++ more)
feed_rest s t part bytes taken n more is fed =
    let after = drop (taken + n) part ++ more in
    sym (fed after) ∙ ap (λ (v : List ℕ). unfinished_from s (take n v ++ after)) is ∙ sym (ap (unfinished_from s) (rest_split part more taken n))

pub joined_parts-append : (xs ys : List (Bor (List ℕ))) → joined_parts (xs ++ ys) ≡ joined_parts xs ++ joined_parts ys
joined_parts-append [] ys = refl
joined_parts-append (x ∷ xs) ys = ap (λ (v : List ℕ). x.now ++ v) (joined_parts-append xs ys) ∙ sym (append_assoc x.now (joined_parts xs) (joined_parts ys))

pub joined_parts_more : (parts : List (Bor (List ℕ))) (i : ℕ) (d : Bor (List ℕ)) (more : List ℕ) → i < length parts → joined_parts (take (i + 1) parts) ++ more ≡ joined_parts (take i parts) ++ ((get_or parts i d).now ++ more)
joined_parts_more parts i d more lt =
    let one : joined_parts (get_or parts i d ∷ []) ≡ (get_or parts i d).now = append-nil (get_or parts i d).now in
    ap (λ (v : List ℕ). v ++ more) (ap joined_parts (take_more parts i d lt) ∙ joined_parts-append (take i parts) (get_or parts i d ∷ []) ∙ ap (λ (v : List ℕ). joined_parts (take i parts) ++ v) one)
    ∙ append_assoc (joined_parts (take i parts)) (get_or parts i d).now more

pub all_pieces : (s : Summary) (told : List Piece) (script : List ℕ) → ((more : List ℕ) → told ++ pieces_from s more ≡ pieces_from start_summary (script ++ more)) → told ≡ pieces_of script
unfolding pieces_from
all_pieces s told script so = sym (append-nil told) ∙ so [] ∙ ap (pieces_from start_summary) (append-nil script) ∙ pieces_from-start script

pub all_rest : (s : Summary) (script : List ℕ) → ((more : List ℕ) → unfinished_from s more ≡ unfinished_from start_summary (script ++ more)) → unfinished_from s [] ≡ is_unfinished (rest_of script)
all_rest s script so = so [] ∙ ap (unfinished_from start_summary) (append-nil script) ∙ unfinished_from-start script
