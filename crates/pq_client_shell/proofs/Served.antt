-- The pieces before the first write, made one after the other.
use Rattle.std.proofs.Common.{◌≡◌, ℕ, ◌+◌, ◌≤◌, ◌<◌, Bool, Option, List, [], ◌∷◌, ◌++◌, length, take, drop, get_or, sym, ap, ◌∙◌, subst, arith}
use Rattle.std.proofs.lemmas.List.{take_more, take_all, take-append-drop, map-append, length-map, length-take-le}
use Rattle.pq_fill.specs.declared.words.Form.TheVariants.{Run}
use Rattle.pq_schema.specs.Schema.{Schema}
use Rattle.pq_text.specs.declared.piece.Piece.{Piece}
use Rattle.pq_shell.specs.Fold.{Moment, ServedItems, StoppedItem}
use Rattle.pq_shell.specs.Items.{Cut, cut_items}
use Rattle.pq_console.specs.declared.stop.Stop.{Stop}
use Rattle.pq_shell.proofs.Folding.{Served-append, Stopped-before, Stopped-after}

cut_long : (ps : List Piece) (i : ℕ) → i < length ps → length (cut_items (take i ps)) ≡ i
cut_long ps i short = length-map (take i ps) Cut ∙ length-take-le i ps (omega (arith, short))

cut_more : (ps : List Piece) (i : ℕ) (p : Piece) → i < length ps → p ≡ get_or ps i p → cut_items (take i ps) ++ Cut p ∷ [] ≡ cut_items (take (i + 1) ps)
cut_more ps i p short is = sym (map-append Cut (take i ps) (p ∷ [])) ∙ ap cut_items (sym (take_more ps i p short ∙ ap (λ x. take i ps ++ x ∷ []) (sym is)))

pub served_more : {s t u : Schema} {a b c : Moment} {y y' y'' : Bool} (ps : List Piece) (i count : ℕ) (p : Piece) → i < length ps → p ≡ get_or ps i p → count ≡ i
    → ServedItems Run s t a b 1 (cut_items (take i ps)) y y' → ServedItems Run t u b c (count + 1) (Cut p ∷ []) y' y'' → ServedItems Run s u a c 1 (cut_items (take (i + 1) ps)) y y''
served_more {s = s} {t = t} {u = u} {a = a} {b = b} {c = c} {y = y} {y' = y'} {y'' = y''} ps i count p short is same so_far one =
    let number : count + 1 ≡ 1 + length (cut_items (take i ps)) = omega (arith, same, cut_long ps i short) in
    subst (λ items. ServedItems Run s u a c 1 items y y'') (cut_more ps i p short is) (Served-append so_far (subst (λ n. ServedItems Run t u b c n (Cut p ∷ []) y' y'') number one))

pub served_all : {s t : Schema} {a b : Moment} {y y' : Bool} (ps : List Piece) (i : ℕ) → length ps ≤ i → ServedItems Run s t a b 1 (cut_items (take i ps)) y y' → ServedItems Run s t a b 1 (cut_items ps) y y'
served_all {s = s} {t = t} {a = a} {b = b} {y = y} {y' = y'} ps i long so_far = subst (λ xs. ServedItems Run s t a b 1 (cut_items xs) y y') (take_all i ps long) so_far

three : (ps : List Piece) (i : ℕ) (p : Piece) → i < length ps → p ≡ get_or ps i p → (cut_items (take i ps) ++ Cut p ∷ []) ++ cut_items (drop (i + 1) ps) ≡ cut_items ps
three ps i p short is =
    ap (λ xs. xs ++ cut_items (drop (i + 1) ps)) (cut_more ps i p short is) ∙ sym (map-append Cut (take (i + 1) ps) (drop (i + 1) ps)) ∙ ap cut_items (take-append-drop (i + 1) ps)

pub stopped_among : {answers : List ℕ → Option (List ℕ) → Type 0} {stop : Stop} {s t : Schema} {a b c : Moment} {y y' : Bool} (ps : List Piece) (i count : ℕ) (p : Piece) → i < length ps → p ≡ get_or ps i p → count ≡ i
    → ServedItems Run s t a b 1 (cut_items (take i ps)) y y' → StoppedItem answers Run stop t b c (count + 1) (Cut p ∷ []) → StoppedItem answers Run stop s a c 1 (cut_items ps)
stopped_among {answers = answers} {stop = stop} {s = s} {t = t} {a = a} {b = b} {c = c} ps i count p short is same so_far one =
    let number : count + 1 ≡ 1 + length (cut_items (take i ps)) = omega (arith, same, cut_long ps i short) in
    subst (λ items. StoppedItem answers Run stop s a c 1 items) (three ps i p short is)
    (Stopped-before (cut_items (drop (i + 1) ps)) (Stopped-after so_far.made (subst (λ n. StoppedItem answers Run stop t b c n (Cut p ∷ [])) number one)))
