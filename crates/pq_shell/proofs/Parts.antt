-- Parts of a script, one after the other.
use Rattle.std.proofs.Common.{◌≡◌, ℕ, ◌+◌, ◌-◌, ◌<◌, ◌≤◌, List, [], ◌∷◌, ◌++◌, length, take, drop, Option, refl, sym, ap, ◌∙◌, subst, arith, add-zero, append_assoc, append-nil, length-append}
use Rattle.std.proofs.lemmas.List.{map-append, length-map, take_rest, take-append-drop}
use Rattle.pq_fill.specs.declared.words.Form.{Form}
use Rattle.pq_schema.specs.Schema.{Schema}
use Rattle.pq_text.specs.declared.piece.Piece.{Piece}
use Rattle.pq_text.specs.Pieces.{piece_list}
use Rattle.pq_text.specs.Summaries.{Summary, pieces_from, unfinished_from}
use Rattle.pq_shell.specs.Fold.{Moment, ServedItems, StoppedItem}
use Rattle.pq_shell.specs.Items.{Cut, cut_items}
use Rattle.pq_shell.specs.Serving.{FedPieces, ProgressedRun}
use Rattle.pq_shell.specs.declared.serving.Progress.{Progress}
use Rattle.pq_console.specs.declared.stop.Stop.{Stop}
use Rattle.pq_shell.proofs.Folding.{Served-none, Served-append, Stopped-after, Stopped-before, among_done, among_items, from_number, length_after}

pub Fed-none : (s : Summary) → FedPieces s [] [] s
Fed-none s = record { pieces = λ more. refl; rest = λ more. refl }

pub Fed-append : {s t u : Summary} {xs ys : List ℕ} {told more_told : List Piece} → FedPieces s xs told t → FedPieces t ys more_told u → FedPieces s (xs ++ ys) (told ++ more_told) u
Fed-append {s = s} {t = t} {u = u} {xs = xs} {ys = ys} {told = told} {more_told = more_told} p q = record {
  pieces = λ more. ap (pieces_from s) (append_assoc xs ys more) ∙ p.pieces (ys ++ more) ∙ ap (λ v. told ++ v) (q.pieces more) ∙ sym (append_assoc told more_told (pieces_from u more));
  rest = λ more. ap (unfinished_from s) (append_assoc xs ys more) ∙ p.rest (ys ++ more) ∙ q.rest more;
}

-- nothing was fed
pub Progressed-none : (f : Form) (s : Schema) (a : Moment) (p : Progress) → ProgressedRun f s s a a [] p p
Progressed-none f s a p = record {
  told = [];
  fed = Fed-none p.splitter;
  served = Served-none f s a (p.tally.count + 1) p.tally.refused;
  counted = sym (add-zero p.tally.count);
  few = omega arith;
}

-- the pieces so far, numbered on
number_on : (from to : ℕ) (told : List Piece) → to ≡ from + length told → to + 1 ≡ (from + 1) + length (cut_items told)
number_on from to told e = omega (arith, length-map told Cut)

-- more was fed, in which no piece ended
pub Progressed-more : {f : Form} {s t : Schema} {a b : Moment} {bytes : List ℕ} {p q : Progress} (part : List ℕ) (u : Summary) → ProgressedRun f s t a b bytes p q → FedPieces q.splitter part [] u → ProgressedRun f s t a b (bytes ++ part) p (record { splitter = u; tally = q.tally })
Progressed-more {bytes = bytes} {p = p} part u before fed = record {
  told = before.told;
  fed = subst (λ told. FedPieces p.splitter (bytes ++ part) told u) (append-nil before.told) (Fed-append before.fed fed);
  served = before.served;
  counted = before.counted;
  few = omega (arith, before.few, length-append bytes part);
}

-- more was fed, at whose end a piece ended
pub Progressed-piece : {f : Form} {s t u : Schema} {a b c : Moment} {bytes : List ℕ} {p q r : Progress} (part : List ℕ) (piece : Piece) → ProgressedRun f s t a b bytes p q → FedPieces q.splitter part (piece ∷ []) r.splitter
    → ServedItems f t u b c (q.tally.count + 1) (Cut piece ∷ []) q.tally.refused r.tally.refused → r.tally.count ≡ q.tally.count + 1 → 0 < length part → ProgressedRun f s u a c (bytes ++ part) p r
Progressed-piece {f = f} {s = s} {t = t} {u = u} {a = a} {b = b} {c = c} {bytes = bytes} {p = p} {q = q} {r = r} part piece before fed served counted some =
    let number = number_on p.tally.count q.tally.count before.told before.counted in
    let on : ServedItems f t u b c ((p.tally.count + 1) + length (cut_items before.told)) (cut_items (piece ∷ [])) q.tally.refused r.tally.refused =
    subst (λ n. ServedItems f t u b c n (cut_items (piece ∷ [])) q.tally.refused r.tally.refused) number served in
    record {
      told = before.told ++ piece ∷ [];
      fed = Fed-append before.fed fed;
      served = subst (λ items. ServedItems f s u a c (p.tally.count + 1) items p.tally.refused r.tally.refused) (sym (map-append Cut before.told (piece ∷ []))) (Served-append before.served on);
      counted = omega (arith, counted, before.counted, length-append before.told (piece ∷ []));
      few = omega (arith, counted, before.few, length-append bytes part, some);
    }

-- the run stopped after what was fed, all of which is reported
pub record StoppedBehind (answers : List ℕ → Option (List ℕ) → Type 0) (f : Form) (stop : Stop) (s : Schema) (a c : Moment) (p : Progress) (bytes rest : List ℕ) : Type 0 where
  pub stopped : StoppedItem answers f stop s a c (p.tally.count + 1) (cut_items (pieces_from p.splitter (bytes ++ rest)))
  pub reported : length (pieces_from p.splitter bytes) ≤ length stopped.done

-- the pieces of what was fed are those that it told
told_of : {s t : Summary} {bytes : List ℕ} {told : List Piece} → FedPieces s bytes told t → pieces_from s bytes ≡ told
unfolding pieces_from
told_of {s = s} {bytes = bytes} {told = told} fed = ap (pieces_from s) (sym (append-nil bytes)) ∙ fed.pieces [] ∙ append-nil told

pub stopped_later : {answers : List ℕ → Option (List ℕ) → Type 0} {f : Form} {stop : Stop} {s t : Schema} {a b c : Moment} {bytes : List ℕ} {p q : Progress} (rest : List ℕ) → ProgressedRun f s t a b bytes p q
    → StoppedItem answers f stop t b c (q.tally.count + 1) (cut_items (pieces_from q.splitter rest)) → StoppedBehind answers f stop s a c p bytes rest
stopped_later {f = f} {stop = stop} {s = s} {t = t} {a = a} {b = b} {c = c} {bytes = bytes} {p = p} {q = q} rest before stopped =
    let number = number_on p.tally.count q.tally.count before.told before.counted in
    let items : cut_items (pieces_from p.splitter (bytes ++ rest)) ≡ cut_items before.told ++ cut_items (pieces_from q.splitter rest) =
    ap cut_items (before.fed.pieces rest) ∙ map-append Cut before.told (pieces_from q.splitter rest) in
    let all = Stopped-after before.served.made (from_number number stopped) in
    let here = among_items (sym items) all in
    let long = ap length (among_done (sym items) all) ∙ length_after before.served.made (from_number number stopped) in
    record { stopped = here; reported = omega (arith, ap length (told_of before.fed), length-map before.told Cut, long) }

-- the same of all bytes
pub Stopped-later : {answers : List ℕ → Option (List ℕ) → Type 0} {f : Form} {stop : Stop} {s t : Schema} {a b c : Moment} {bytes : List ℕ} {p q : Progress} (rest whole : List ℕ) → whole ≡ bytes ++ rest → ProgressedRun f s t a b bytes p q
    → StoppedItem answers f stop t b c (q.tally.count + 1) (cut_items (pieces_from q.splitter rest)) → StoppedItem answers f stop s a c (p.tally.count + 1) (cut_items (pieces_from p.splitter whole))
Stopped-later {p = p} rest whole split before stopped = among_items (ap (λ w. cut_items (pieces_from p.splitter w)) (sym split)) (stopped_later rest before stopped).stopped

-- the run stopped at the piece that was told next
pub Stopped-at_piece : {answers : List ℕ → Option (List ℕ) → Type 0} {f : Form} {stop : Stop} {s t : Schema} {a b c : Moment} {bytes : List ℕ} {p q : Progress} (part rest whole : List ℕ) (piece : Piece) (u : Summary) → whole ≡ bytes ++ (part ++ rest) → ProgressedRun f s t a b bytes p q
    → FedPieces q.splitter part (piece ∷ []) u → StoppedItem answers f stop t b c (q.tally.count + 1) (Cut piece ∷ []) → StoppedItem answers f stop s a c (p.tally.count + 1) (cut_items (pieces_from p.splitter whole))
Stopped-at_piece {answers = answers} {f = f} {stop = stop} {t = t} {b = b} {c = c} {q = q} part rest whole piece u split before fed stopped =
    let items : cut_items (pieces_from q.splitter (part ++ rest)) ≡ Cut piece ∷ cut_items (pieces_from u rest) = ap cut_items (fed.pieces rest) in
    Stopped-later (part ++ rest) whole split before (subst (λ xs. StoppedItem answers f stop t b c (q.tally.count + 1) xs) (sym items) (Stopped-before (cut_items (pieces_from u rest)) stopped))

pub Fed-told : {s t : Summary} {part : List ℕ} (found : Option Piece) (told : List Piece) → FedPieces s part (piece_list found) t → piece_list found ≡ told → FedPieces s part told t
Fed-told {s = s} {t = t} {part = part} found told fed e = subst (λ v. FedPieces s part v t) e fed

-- a front, a part behind it and what is left
pub three_parts : (bytes : List ℕ) (at n : ℕ) → bytes ≡ take at bytes ++ (take n (take (length bytes - at) (drop at bytes)) ++ drop n (drop at bytes))
three_parts bytes at n = sym (ap (λ b. take at bytes ++ (take n b ++ drop n (drop at bytes))) (take_rest bytes at) ∙ ap (λ b. take at bytes ++ b) (take-append-drop n (drop at bytes)) ∙ take-append-drop at bytes)

pub Progressed-at : {f : Form} {s t : Schema} {a b : Moment} {bytes whole : List ℕ} {p q : Progress} → bytes ≡ whole → ProgressedRun f s t a b bytes p q → ProgressedRun f s t a b whole p q
Progressed-at {f = f} {s = s} {t = t} {a = a} {b = b} {p = p} {q = q} e progressed = subst (λ v. ProgressedRun f s t a b v p q) e progressed

-- one part, and then another
pub Progressed-append : {f : Form} {s t u : Schema} {a b c : Moment} {xs ys : List ℕ} {p q r : Progress} → ProgressedRun f s t a b xs p q → ProgressedRun f t u b c ys q r → ProgressedRun f s u a c (xs ++ ys) p r
Progressed-append {f = f} {s = s} {t = t} {u = u} {a = a} {b = b} {c = c} {xs = xs} {ys = ys} {p = p} {q = q} {r = r} first next =
    let number = number_on p.tally.count q.tally.count first.told first.counted in
    let on : ServedItems f t u b c ((p.tally.count + 1) + length (cut_items first.told)) (cut_items next.told) q.tally.refused r.tally.refused =
    subst (λ n. ServedItems f t u b c n (cut_items next.told) q.tally.refused r.tally.refused) number next.served in
    record {
      told = first.told ++ next.told;
      fed = Fed-append first.fed next.fed;
      served = subst (λ items. ServedItems f s u a c (p.tally.count + 1) items p.tally.refused r.tally.refused) (sym (map-append Cut first.told next.told)) (Served-append first.served on);
      counted = omega (arith, first.counted, next.counted, length-append first.told next.told);
      few = omega (arith, first.few, next.few, length-append xs ys);
    }
