-- One call, or one input, after another.
use Rattle.std.proofs.Common.{◌≡◌, ℕ, zero, suc, ◌+◌, ◌≤◌, ◌<◌, List, [], ◌∷◌, ◌++◌, length, get_or, take, Option, sym, ap, ◌∙◌, subst, arith, append_assoc, refl}
use Rattle.std.specs.List.{AllByRecursion}
use Rattle.std.proofs.lemmas.List.{take_more, append-nil}
use Rattle.pq_base.specs.declared.value.Value.{Value}
use Rattle.pq_base.proofs.Members.{each_in, at_in}
use Rattle.pq_schema.specs.Rows.{Rows}
use Rattle.pq_store.specs.Content.{Content}
use Rattle.pq_store.specs.declared.store.Store.{Ghosts}
use Rattle.pq_calls.specs.declared.calls.Calls.{Calls}
use Rattle.pq_entries.proofs.Naming.{uses_then, uses_within}
use Rattle.pq_scan.specs.declared.prepared.Scan.{Scan}
use Rattle.pq_scan.specs.Request.{Spends}
use Rattle.pq_scan.specs.Candidates.{Candidate, input_candidates, all_candidates, AddsCandidates, AreCandidates}

-- a call that spends, and then another
pub spends_then : {S L : Type 0} (s : Ghosts S L) (a b c : Calls S L) (o e p q o' e' m n r : ℕ) → Spends s a b o e m → Spends s b c p q n → o + p ≤ o' → e + q ≤ e' → m + n ≤ r → Spends s a c o' e' r
spends_then s a b c o e p q o' e' m n r first then ops entries few =
    let f = first.rounds in
    let t = then.rounds in
    record {
      uses = uses_then s.content s.faults a b c o e p q o' e' first.uses then.uses ops entries;
      rounds = omega (arith, f, t, few);
    }

pub spends_within : {S L : Type 0} (s : Ghosts S L) (a b : Calls S L) (o e o' e' m r : ℕ) → Spends s a b o e m → o ≤ o' → e ≤ e' → m ≤ r → Spends s a b o' e' r
spends_within s a b o e o' e' m r first ops entries few =
    let f = first.rounds in
    record {
      uses = uses_within s.content s.faults a b o e o' e' first.uses ops entries;
      rounds = omega (arith, f, few);
    }

-- ---- what is found so far

pub each_at : {X : Type 0} (P : X → Type 0) (xs : List X) (i : ℕ) (x : X) → AllByRecursion P xs → i < length xs → x ≡ get_or xs i x → P x
each_at P xs i x h within at = subst P (sym at) (each_in P xs h (get_or xs i x) (at_in xs i x within))

pub length_front : {X : Type 0} (xs : List X) (i : ℕ) → i < length xs → length (take i xs) ≡ i
length_front xs zero h = refl
length_front [] (suc i) h = absurd (omega arith)
length_front (x ∷ xs) (suc i) h = ap suc (length_front xs i (omega arith))

module _ (scan : Scan) (told : Option Content) where
  -- the candidates of one more input
  all_last : (rows : Rows) (k : ℕ) (after : Option (List Value)) (place : ℕ) (inputs : List (List (List Value))) (c : List (List Value)) → all_candidates scan rows k after place (inputs ++ c ∷ []) ≡ all_candidates scan rows k after place inputs ++ input_candidates scan rows k after (place + length inputs) c
  all_last rows k after place [] c = append-nil (input_candidates scan rows k after place c) ∙ ap (λ (n : ℕ). input_candidates scan rows k after n c) (let e : place ≡ place + 0 = omega arith in e)
  all_last rows k after place (d ∷ ds) c =
      ap (λ (l : List Candidate). input_candidates scan rows k after place d ++ l) (all_last rows k after (place + 1) ds c
      ∙ ap (λ (n : ℕ). all_candidates scan rows k after (place + 1) ds ++ input_candidates scan rows k after n c) (let e : (place + 1) + length ds ≡ place + suc (length ds) = omega arith in e))
      ∙ sym (append_assoc (input_candidates scan rows k after place d) (all_candidates scan rows k after (place + 1) ds) (input_candidates scan rows k after (place + suc (length ds)) c))

  pub candidates_more : (k : ℕ) (after : Option (List Value)) (inputs : List (List (List Value))) (i : ℕ) (c : List (List Value)) (old new : List Candidate) → i < length inputs → c ≡ get_or inputs i c → AreCandidates scan told k after (take i inputs) old → AddsCandidates scan told k after i c old new → AreCandidates scan told k after (take (i + 1) inputs) new
  candidates_more k after inputs i c old new within at before adds = λ rows others h.
      let l = length_front inputs i within in
      let place : i ≡ 0 + length (take i inputs) = omega (arith, l) in
      adds rows others h ∙ ap (λ (l : List Candidate). l ++ input_candidates scan rows k after i c) (before rows others h)
      ∙ ap (λ (n : ℕ). all_candidates scan rows k after 0 (take i inputs) ++ input_candidates scan rows k after n c) place
      ∙ sym (all_last rows k after 0 (take i inputs) c)
      ∙ ap (all_candidates scan rows k after 0) (ap (λ (x : List (List Value)). take i inputs ++ x ∷ []) at ∙ sym (take_more inputs i c within))
