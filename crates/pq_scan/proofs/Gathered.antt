-- What a scan finds in any content, input after input.
use Rattle.std.proofs.Common.{◌≡◌, ℕ, suc, ◌+◌, ◌<◌, List, [], ◌∷◌, ◌++◌, length, get_or, map, take, Option, None, Some, refl, sym, ap, ◌∙◌, subst, arith, append_assoc}
use Rattle.std.specs.Prelude.{IfSome}
use Rattle.std.proofs.lemmas.List.{append-nil, take_more}
use Rattle.pq_base.specs.Sorting.{sort_by}
use Rattle.pq_base.specs.declared.value.Value.{Value}
use Rattle.pq_schema.specs.declared.query.Query.{Query}
use Rattle.pq_schema.specs.declared.table.Access.{Access}
use Rattle.pq_schema.specs.declared.table.Table.{Table}
use Rattle.pq_store.specs.Content.{Content, key_cmp}
use Rattle.pq_scan.specs.declared.prepared.Scan.{Scan}
use Rattle.pq_scan.specs.Asked.{constants_asked}
use Rattle.pq_scan.specs.Candidates.{Candidate, scanned_table, candidate_at, kept_in, place_in, rows_behind}
use Rattle.pq_scan.specs.Merging.{place_of}
use Rattle.pq_scan.specs.Prepared.{IsPrepared, subject_of}
use Rattle.pq_scan.specs.Scanned.{AreHeldBehind, AreGathered, AreRowsKept, AreFetched, AreScanned, AreFirstScanned}
use Rattle.pq_scan.proofs.Steps.{length_front}

module _ (scan : Scan) (limit : ℕ) (after : Option (List Value)) where
  -- what is kept behind an input comes behind what was there
  abbrev pub AddsGathered : ℕ → List (List Value) → List Candidate → List Candidate → Content → Type 0
  AddsGathered place combo old new content =
      (held : List (List Value)) × AreHeldBehind scan limit after combo held content
      × (new ≡ old ++ map (candidate_at scan (constants_asked scan combo) place) held)

  last : (content : Content) (place : ℕ) (inputs : List (List (List Value))) (combo held : List (List Value)) (found : List Candidate) → AreGathered scan limit after place inputs found content → AreHeldBehind scan limit after combo held content
      → AreGathered scan limit after place (inputs ++ combo ∷ []) (found ++ map (candidate_at scan (constants_asked scan combo) (place + length inputs)) held) content
  last content place [] combo held found none now =
      let here : place + 0 ≡ place = omega arith in (
        held,
        [],
        now,
        (λ i. none i ++ map (candidate_at scan (constants_asked scan combo) (here i)) held) ∙ sym (append-nil (map (candidate_at scan (constants_asked scan combo) place) held)),
        refl,
      )
  last content place (c ∷ inputs) combo held found h now =
      let at : ℕ → List Candidate = λ n. map (candidate_at scan (constants_asked scan combo) n) held in
      let here : (place + 1) + length inputs ≡ place + suc (length inputs) = omega arith in (
        h.0,
        h.1 ++ at (place + suc (length inputs)),
        h.2,
        ap (λ (l : List Candidate). l ++ at (place + suc (length inputs))) h.3 ∙ append_assoc (map (candidate_at scan (constants_asked scan c) place) h.0) h.1 (at (place + suc (length inputs))),
        subst (λ (n : ℕ). AreGathered scan limit after (place + 1) (inputs ++ combo ∷ []) (h.1 ++ at n) content) here (last content (place + 1) inputs combo held h.1 h.4 now),
      )

  pub gathered_more : (told : Option Content) (inputs : List (List (List Value))) (i : ℕ) (c : List (List Value)) (old new : List Candidate) → i < length inputs → c ≡ get_or inputs i c → IfSome told (AreGathered scan limit after 0 (take i inputs) old) → IfSome told (AddsGathered i c old new) → IfSome told (AreGathered scan limit after 0 (take (i + 1) inputs) new)
  gathered_more None inputs i c old new within at before adds = tt
  gathered_more (Some content) inputs i c old new within at before adds =
      let front = length_front inputs i within in
      let place : 0 + length (take i inputs) ≡ i = omega (arith, front) in
      let more : take i inputs ++ c ∷ [] ≡ take (i + 1) inputs = ap (λ (x : List (List Value)). take i inputs ++ x ∷ []) at ∙ sym (take_more inputs i c within) in
      subst (λ (l : List Candidate). AreGathered scan limit after 0 (take (i + 1) inputs) l content) (sym adds.2)
      (subst (λ (n : ℕ). AreGathered scan limit after 0 (take (i + 1) inputs) (old ++ map (candidate_at scan (constants_asked scan c) n) adds.0) content) place
      (subst (λ (l : List (List (List Value))). AreGathered scan limit after 0 l (old ++ map (candidate_at scan (constants_asked scan c) (0 + length (take i inputs))) adds.0) content) more
      (last content 0 (take i inputs) c adds.0 old before adds.1)))

-- the rows of candidates, behind their inputs
pub fetched : (scan : Scan) (told : Option Content) (inputs : List (List (List Value))) (candidates : List Candidate) (held rows : List (List Value)) (places : List ℕ) (found : List (List (List Value))) → IfSome told (AreRowsKept scan.number (scanned_table scan) scan.access held rows) → held ≡ map kept_in candidates → places ≡ map place_in candidates → found ≡ rows_behind inputs places rows → IfSome told (AreFetched scan inputs candidates found)
fetched scan None inputs candidates held rows places found kept held_are places_are is = tt
fetched scan (Some content) inputs candidates held rows places found kept held_are places_are is = record {
  rows = rows;
  kept = subst (λ (l : List (List Value)). AreRowsKept scan.number (scanned_table scan) scan.access l rows content) held_are kept;
  is = is ∙ ap (λ (l : List ℕ). rows_behind inputs l rows) places_are;
}

-- the whole of a scan
pub scanned : (scan : Scan) (after : Option (List Value)) (k : ℕ) (told now : Option Content) (inputs combos : List (List (List Value))) (found first : List Candidate) → now ≡ told → IfSome told (AreGathered scan k after 0 inputs found) → first ≡ take k (sort_by key_cmp place_of found) → IfSome now (AreFetched scan inputs first combos) → IfSome told (AreScanned scan after k inputs combos)
scanned scan after k None now inputs combos found first same gathered is fetched = tt
scanned scan after k (Some content) now inputs combos found first same gathered is fetched =
    let own : AreFetched scan inputs first combos content = subst (λ (o : Option Content). IfSome o (AreFetched scan inputs first combos)) same fetched in
    record {
      candidates = found;
      gathered = gathered;
      fetched = subst (λ (l : List Candidate). AreFetched scan inputs l combos content) is own;
    }

pub first_scanned : (tables : List Table) (query : Query) (params : List Value) (rel : ℕ) (access : Access) (scan : Scan) → IsPrepared scan → subject_of scan ≡ record { tables = tables; query = query; params = params; rel = rel; access = access } → (after : Option (List Value)) (k : ℕ) (told : Option Content) (inputs found : List (List (List Value))) → IfSome told (AreScanned scan after k inputs found) → IfSome told (AreFirstScanned tables query params rel access after k inputs found)
first_scanned tables query params rel access scan sound subject after k None inputs found h = tt
first_scanned tables query params rel access scan sound subject after k (Some content) inputs found h = record { scan = scan; sound = sound; subject = subject; scanned = h }
