-- What the clauses of a trait come to where nothing is told.
use Rattle.std.proofs.Common.{◌≡◌, ℕ, Bool, false, List, [], ◌∷◌, map, Result, Ok, Err, IfOk, Option, None, Some}
use Rattle.std.specs.Prelude.{⊤}
use Rattle.std.specs.List.{AllByRecursion, AllZip}
use Rattle.std.specs.Io.KnownBytes.{ReadConsumes, WriteAppends}
use Rattle.pq_store.specs.Content.{AreAnswers, entry}
use Rattle.pq_store.specs.declared.store.Pair.{Pair as Found}

pub anyway : {A E : Type 0} (result : Result A E) {P : Type 0} → P → IfOk result (λ _. P)
anyway (Ok _) holds = holds
anyway (Err _) holds = tt

pub each_anyway : {E : Type 0} (result : Result (List Found) E) → IfOk result (λ found. AllByRecursion (λ pair. ⊤) (map entry found))
each_anyway (Ok found) = each (map entry found)
  where
    each : (pairs : List (List ℕ × List ℕ)) → AllByRecursion (λ pair. ⊤) pairs
    each [] = tt
    each (pair ∷ pairs) = (tt, each pairs)
each_anyway (Err _) = tt

pub done_anyway : {E : Type 0} (result : Result Bool E) → IfOk result (λ done. done ≡ false → ⊤)
done_anyway (Ok done) = λ _. tt
done_anyway (Err _) = tt

pub untold_read : {E : Type 0} (result : Result ℕ E) (room : List ℕ) → ReadConsumes None None result room
untold_read (Ok _) room = (tt, λ _ _. tt)
untold_read (Err _) room = tt

pub untold_write : {E : Type 0} (result : Result ℕ E) (piece : List ℕ) → WriteAppends None None result piece
untold_write (Ok _) piece = tt
untold_write (Err _) piece = tt

-- ---- answers to several questions

pub zip_as : {A B : Type 0} (R Q : A → B → Type 0) → ((x : A) (y : B) → R x y → Q x y) → (xs : List A) (ys : List B) → AllZip R xs ys → AllZip Q xs ys
zip_as R Q weaker [] [] h = tt
zip_as R Q weaker [] (y ∷ ys) h = absurd h
zip_as R Q weaker (x ∷ xs) [] h = absurd h
zip_as R Q weaker (x ∷ xs) (y ∷ ys) h = (weaker x y h.0, zip_as R Q weaker xs ys h.1)

pub if_ok : {A E : Type 0} (P Q : A → Type 0) → ((x : A) → P x → Q x) → (result : Result A E) → IfOk result P → IfOk result Q
if_ok P Q weaker (Ok x) h = weaker x h
if_ok P Q weaker (Err e) h = tt

pub parts_answered : (answers : List ℕ → Option (List ℕ) → Type 0) → ((key : List ℕ) (found : Option (List ℕ)) → answers key found) → (parts : List (List Found)) → AllByRecursion (AreAnswers answers) parts
parts_answered answers all [] = tt
parts_answered answers all (part ∷ parts) = (each (map entry part), parts_answered answers all parts)
  where
    each : (pairs : List (List ℕ × List ℕ)) → AllByRecursion (λ pair. answers pair.0 (Some pair.1)) pairs
    each [] = tt
    each (pair ∷ pairs) = (all pair.0 (Some pair.1), each pairs)
