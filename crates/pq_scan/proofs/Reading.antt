-- What the read of one input adds to the candidates.
use Rattle.std.proofs.Common.{◌≡◌, ℕ, ◌-◌, ◌<◌, true, false, cond, List, [], ◌∷◌, ◌++◌, map, take, Option, sym, ap, ◌∙◌, subst}
use Rattle.std.specs.Prelude.{IfSome}
use Rattle.std.specs.List.{AllByRecursion}
use Rattle.std.proofs.lemmas.List.{append-nil}
use Rattle.pq_base.specs.declared.value.Value.{Value}
use Rattle.pq_store.specs.Content.{Content}
use Rattle.pq_content.specs.Pairs.{content_pairs}
use Rattle.pq_entries.specs.Entries.{key_front}
use Rattle.pq_nodes.specs.Combos.{FitsTables}
use Rattle.pq_nodes.specs.Operators.{IsCursor}
use Rattle.pq_serving.specs.Laws.{IsScanned}
use Rattle.pq_serving.specs.Scanning.{passes, lying}
use Rattle.pq_scan.specs.declared.prepared.Scan.{Scan}
use Rattle.pq_scan.specs.Candidates.{Candidate, scanned_table, AreFirst, IsHeld, IsCandidate, candidate_at, row_candidate, AddsCandidates}
use Rattle.pq_scan.specs.Inputs.{Input, IsInputAt, low_code, high_code}
use Rattle.pq_scan.specs.Prepared.{asked_over, IsScannable}
use Rattle.pq_scan.proofs.Told.{held_are, candidates_are}

module _ (scan : Scan) (told : Option Content) (after : Option (List Value)) (combo : List (List Value)) (k place : ℕ) where
  pub adds : IsScannable scan → IsCursor scan.catalog.now.tables scan.query.now after → FitsTables scan.catalog.now.tables scan.query.now (scan.rel - 1) combo → passes (asked_over scan []) scan.rel combo ≡ true → (input : Input) → IsInputAt scan combo input → (low high : List ℕ) → low ≡ key_front scan.number scan.access ++ low_code scan combo input after → high ≡ key_front scan.number scan.access ++ high_code scan combo input → (held : List (List Value)) → IfSome told (AreFirst scan.number (scanned_table scan) scan.access low high k held) → (old new : List Candidate) → new ≡ old ++ map (candidate_at scan input.constants place) held → AddsCandidates scan told k after place combo old new
  adds ready cursor fits passed input of low high low_is high_is held given old new new_is = λ rows others h.
      let content = content_pairs scan.catalog.now.tables rows others in
      let n = scan.number in
      let table = scanned_table scan in
      let is : IsScanned (asked_over scan rows) scan.rel = record { asked = ready.asked; rows = h.keeps; relation = ready.relation; can = ready.can } in
      let first = subst (λ (l : List ℕ). AreFirst n table scan.access l (key_front scan.number scan.access ++ high_code scan combo input) k held content) low_is
      (subst (λ (l : List ℕ). AreFirst n table scan.access low l k held content) high_is
      (subst (λ (o : Option Content). IfSome o (AreFirst n table scan.access low high k held)) h.is given)) in
      new_is ∙ ap (λ l. old ++ l) (candidates_are scan ready.sound rows after combo input of is ready.serves cursor fits passed k place held (held_are scan ready.sound rows after combo input of is ready.serves cursor fits passed others h.beside k held first))

  pub skips : passes (asked_over scan []) scan.rel combo ≡ false → (old : List Candidate) → AddsCandidates scan told k after place combo old old
  skips failed old = λ rows others h.
      sym (append-nil old)
      ∙ ap (λ b. old ++ map (row_candidate scan rows place combo) (cond b (take k (lying (asked_over scan rows) scan.rel scan.sequence after combo)) [])) (sym failed)

  pub kept_more : (count : ℕ) → place < count → (constants : List (Option Value)) (held : List (List Value)) → AllByRecursion (IsHeld scan told) held → (old : List Candidate) → AllByRecursion (IsCandidate scan told count) old → AllByRecursion (IsCandidate scan told count) (old ++ map (candidate_at scan constants place) held)
  kept_more count inside constants held fit (x ∷ old) all = (all.0, kept_more count inside constants held fit old all.1)
  kept_more count inside constants [] fit [] all = tt
  kept_more count inside constants (h ∷ held) fit [] all = (record { input = inside; held = fit.0 }, kept_more count inside constants held fit.1 [] tt)
