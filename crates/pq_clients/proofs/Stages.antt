-- The stage that comes next, where some kinds of steps have no calls to make.
use Rattle.std.proofs.Common.{◌≡◌, ℕ, Bool, true, false, not, ◌&&◌, ◌||◌, inl, inr, List, [], ◌∷◌, refl, sym, ap, ◌∙◌}
use Rattle.std.proofs.lemmas.Bool.{false≢true}
use Rattle.pq_base.specs.declared.refusal.Refusal.{Refusal}
use Rattle.pq_schema.specs.declared.table.Table.{Table}
use Rattle.pq_index_keep.specs.Sound.{AreWritable}
use Rattle.pq_clients.specs.Flights.{Flight, Check, flight_key, new_code, has_entry, fresh_entries, stale_entries, flight_tests}
use Rattle.pq_clients.specs.Clients.{Stage, Checking, Adding, Testing, Putting, Clearing, Freeing, Undoing, Releasing}
use Rattle.pq_clients.specs.Steps.{testing, adding, checking, clearing, undoing}
use Rattle.pq_clients.specs.Invariant.{Group, in_group, has_code_entry, is_old, is_new, present_of, has_place, FlightFits, StageFits, Different}
use Rattle.pq_clients.proofs.Basics.{or_first, or_second, either_of, nothing_more, and_of, mono}
use Rattle.pq_clients.proofs.Coded.{fresh_has, stale_has, tested_or_old}
use Rattle.pq_clients.proofs.Flying.{low, claim}

-- ---- tests
to_right : (o n : Bool) → n ≡ true → (o || (false || (n && not o))) ≡ true
to_right true n h = refl
to_right false n h = ap (λ b. false || (b && true)) h

and_left : (a b : Bool) → (a && b) ≡ true → a ≡ true
and_left a b h = (and_of a b h).0

and_back : (a b : Bool) → a ≡ true → b ≡ true → (a && b) ≡ true
and_back a b p q = ap (λ a. a && b) p ∙ q

pub parts_of : (o n : Bool) → (n && not o) ≡ true → (o ≡ false) × (n ≡ true)
parts_of o false h = absurd (false≢true h)
parts_of true true h = absurd (false≢true h)
parts_of false true h = (refl, refl)

pub or_rest : (o n : Bool) → (o || n) ≡ true → (o || (n && not o)) ≡ true
or_rest true n h = refl
or_rest false n h = ap (λ b. false || (b && true)) h

pub or_swapped : (o n : Bool) → (o || n) ≡ true → (n || (o && not n)) ≡ true
or_swapped o true h = refl
or_swapped true false h = refl
or_swapped false false h = h

pub rest_back : (o n : Bool) → (o || (n && not o)) ≡ true → (o || n) ≡ true
rest_back true n h = refl
rest_back false true h = refl
rest_back false false h = h

pub swapped_back : (o n : Bool) → (n || (o && not n)) ≡ true → (o || n) ≡ true
swapped_back true n h = refl
swapped_back false true h = refl
swapped_back false false h = h

module _ (tables : List Table) (sound : AreWritable tables) (f : Flight) (fits : FlightFits tables f) where
  abbrev old_in : Group → Bool
  old_in γ = in_group tables γ (flight_key tables f) f.read

  abbrev new_in : Group → Bool
  new_in γ = in_group tables γ (flight_key tables f) (new_code tables f)

  -- ---- testing
  abbrev pub Covers : List ℕ → List ℕ → Type 0
  Covers left passed = (l : ℕ) → has_place l (flight_tests tables f) ≡ true → (has_place l passed || has_place l left) ≡ true

  pub present_testing : (left passed : List ℕ) → present_of tables f (testing left passed) ≡ f.read
  present_testing [] passed = refl
  present_testing (l ∷ left) passed = refl

  pub low_testing : (left passed : List ℕ) (e : List ℕ) → low tables f (testing left passed) e ≡ (is_old tables f e || is_new tables f e)
  low_testing [] passed e = refl
  low_testing (l ∷ left) passed e = refl

  pub claim_testing : (left passed : List ℕ) → Covers left passed → (γ : Group) → claim tables f (testing left passed) γ ≡ true → (old_in γ || (has_place γ.place passed && new_in γ)) ≡ true
  claim_testing [] passed covers γ h = elim (either_of (old_in γ) (new_in γ) h) [
    | inl a ↦ or_first (old_in γ) (has_place γ.place passed && new_in γ) a
    | inr b ↦ elim (tested_or_old tables sound f fits γ b) [
      | inl a ↦ or_first (old_in γ) (has_place γ.place passed && new_in γ) a
      | inr t ↦ or_second (old_in γ) (has_place γ.place passed && new_in γ) (and_back (has_place γ.place passed) (new_in γ) (nothing_more (has_place γ.place passed) (covers γ.place t)) b)
    ]
  ]
  claim_testing (l ∷ left) passed covers γ h = h

  pub fits_testing : (left passed : List ℕ) → Covers left passed → StageFits tables f (testing left passed)
  fits_testing [] passed covers = tt
  fits_testing (l ∷ left) passed covers = covers

  -- ---- adding
  abbrev pub Adds : List (List ℕ) → List (List ℕ) → Type 0
  Adds left added = (e : List ℕ)
      → (is_new tables f e ≡ true → (is_old tables f e || (has_entry e added || has_entry e left)) ≡ true)
      × (has_entry e added ≡ true → is_new tables f e ≡ true)
      × (has_entry e left ≡ true → is_new tables f e ≡ true)

  covers_all : Covers (flight_tests tables f) []
  covers_all l h = h

  pub present_adding : (left added : List (List ℕ)) → present_of tables f (adding tables f left added) ≡ f.read
  present_adding [] added = present_testing (flight_tests tables f) []
  present_adding (x ∷ left) added = refl

  pub low_adding : (left added : List (List ℕ)) → Adds left added → (e : List ℕ) → low tables f (adding tables f left added) e ≡ true → (is_old tables f e || has_entry e added) ≡ true
  low_adding [] added adds e h = elim (either_of (is_old tables f e) (is_new tables f e) (sym (low_testing (flight_tests tables f) [] e) ∙ h)) [
    | inl a ↦ or_first (is_old tables f e) (has_entry e added) a
    | inr b ↦ mono (is_old tables f e) (has_entry e added || false) (has_entry e added) (nothing_more (has_entry e added)) ((adds e).0 b)
  ]
  low_adding (x ∷ left) added adds e h = h

  pub high_adding : (left added : List (List ℕ)) → Adds left added → (e : List ℕ) → (is_old tables f e || has_entry e added) ≡ true → low tables f (adding tables f left added) e ≡ true
  high_adding [] added adds e h = low_testing (flight_tests tables f) [] e ∙ mono (is_old tables f e) (has_entry e added) (is_new tables f e) (adds e).1 h
  high_adding (x ∷ left) added adds e h = h

  pub claim_adding : (left added : List (List ℕ)) (γ : Group) → claim tables f (adding tables f left added) γ ≡ true → old_in γ ≡ true
  claim_adding [] added γ h = nothing_more (old_in γ) (claim_testing (flight_tests tables f) [] covers_all γ h)
  claim_adding (x ∷ left) added γ h = nothing_more (old_in γ) h

  pub fits_adding : (left added : List (List ℕ)) → Adds left added → StageFits tables f (adding tables f left added)
  fits_adding [] added adds = fits_testing (flight_tests tables f) [] covers_all
  fits_adding (x ∷ left) added adds = adds

  -- ---- checking
  adds_all : Adds (fresh_entries tables f) []
  adds_all e = (
    λ h. ap (λ b. is_old tables f e || (false || b)) (fresh_has tables sound f fits e) ∙ to_right (is_old tables f e) (is_new tables f e) h,
    λ h. absurd (false≢true h),
    λ h. and_left (is_new tables f e) (not (is_old tables f e)) (sym (fresh_has tables sound f fits e) ∙ h),
  )

  pub present_checking : (left : List Check) → present_of tables f (checking tables f left) ≡ f.read
  present_checking [] = present_adding (fresh_entries tables f) []
  present_checking (x ∷ left) = refl

  pub low_checking : (left : List Check) (e : List ℕ) → low tables f (checking tables f left) e ≡ true → is_old tables f e ≡ true
  low_checking [] e h = nothing_more (is_old tables f e) (low_adding (fresh_entries tables f) [] adds_all e h)
  low_checking (x ∷ left) e h = nothing_more (is_old tables f e) h

  pub high_checking : (left : List Check) (e : List ℕ) → is_old tables f e ≡ true → low tables f (checking tables f left) e ≡ true
  high_checking [] e h = high_adding (fresh_entries tables f) [] adds_all e (or_first (is_old tables f e) false h)
  high_checking (x ∷ left) e h = or_first (is_old tables f e) false h

  pub claim_checking : (left : List Check) (γ : Group) → claim tables f (checking tables f left) γ ≡ true → old_in γ ≡ true
  claim_checking [] γ h = claim_adding (fresh_entries tables f) [] γ h
  claim_checking (x ∷ left) γ h = nothing_more (old_in γ) h

  pub fits_checking : (left : List Check) → StageFits tables f (checking tables f left)
  fits_checking [] = fits_adding (fresh_entries tables f) [] adds_all
  fits_checking (x ∷ left) = tt

  -- ---- clearing
  pub present_clearing : (left : List (List ℕ)) → present_of tables f (clearing left) ≡ new_code tables f
  present_clearing [] = refl
  present_clearing (x ∷ left) = refl

  pub low_clearing : (left : List (List ℕ)) (e : List ℕ) → low tables f (clearing left) e ≡ (is_new tables f e || has_entry e left)
  low_clearing [] e = refl
  low_clearing (x ∷ left) e = refl

  pub claim_clearing : (left : List (List ℕ)) (γ : Group) → claim tables f (clearing left) γ ≡ true → new_in γ ≡ true
  claim_clearing [] γ h = nothing_more (new_in γ) h
  claim_clearing (x ∷ left) γ h = nothing_more (new_in γ) h

  abbrev pub Clears : List (List ℕ) → Type 0
  Clears left = (e : List ℕ) → has_entry e left ≡ true → (is_new tables f e ≡ false) × (is_old tables f e ≡ true)

  pub fits_clearing : (left : List (List ℕ)) → Clears left → Different left → StageFits tables f (clearing left)
  fits_clearing [] h different = tt
  fits_clearing (x ∷ left) h different = (h, different)

  pub clears_all : Clears (stale_entries tables f)
  clears_all e h = let p = parts_of (is_new tables f e) (is_old tables f e) (sym (stale_has tables sound f fits e) ∙ h) in (p.0, p.1)

  -- ---- undoing
  pub present_undoing : (left : List (List ℕ)) (why : Refusal) → present_of tables f (undoing left why) ≡ f.read
  present_undoing [] why = refl
  present_undoing (x ∷ left) why = refl

  pub low_undoing : (left : List (List ℕ)) (why : Refusal) (e : List ℕ) → low tables f (undoing left why) e ≡ (is_old tables f e || has_entry e left)
  low_undoing [] why e = refl
  low_undoing (x ∷ left) why e = refl

  pub claim_undoing : (left : List (List ℕ)) (why : Refusal) (γ : Group) → claim tables f (undoing left why) γ ≡ true → old_in γ ≡ true
  claim_undoing [] why γ h = nothing_more (old_in γ) h
  claim_undoing (x ∷ left) why γ h = nothing_more (old_in γ) h

  abbrev pub Undoes : List (List ℕ) → Type 0
  Undoes left = (e : List ℕ) → has_entry e left ≡ true → (is_old tables f e ≡ false) × (is_new tables f e ≡ true)

  pub fits_undoing : (left : List (List ℕ)) (why : Refusal) → Undoes left → Different left → StageFits tables f (undoing left why)
  fits_undoing [] why h different = tt
  fits_undoing (x ∷ left) why h different = (h, different)

  pub undoes_all : Undoes (fresh_entries tables f)
  undoes_all e h = parts_of (is_old tables f e) (is_new tables f e) (sym (fresh_has tables sound f fits e) ∙ h)

  -- all that may be there is of the old or the new row
  pub high_within : (s : Stage) → StageFits tables f s → (e : List ℕ) → low tables f s e ≡ true → (has_code_entry tables (flight_key tables f) (present_of tables f s) e || (is_old tables f e || is_new tables f e)) ≡ true
  high_within (Checking check left) h e high = or_first (is_old tables f e) (is_old tables f e || is_new tables f e) (nothing_more (is_old tables f e) high)
  high_within (Adding entry left added) h e high = mono (is_old tables f e) (has_entry e added) (is_old tables f e || is_new tables f e) (λ a. or_second (is_old tables f e) (is_new tables f e) ((h e).1 a)) high
  high_within (Testing place left passed) h e high = mono (is_old tables f e) (is_new tables f e) (is_old tables f e || is_new tables f e) (or_second (is_old tables f e) (is_new tables f e)) high
  high_within Putting h e high = mono (is_old tables f e) (is_new tables f e) (is_old tables f e || is_new tables f e) (or_second (is_old tables f e) (is_new tables f e)) high
  high_within (Clearing entry left) h e high = mono (is_new tables f e) (has_entry e (entry ∷ left)) (is_old tables f e || is_new tables f e) (λ a. or_first (is_old tables f e) (is_new tables f e) (h.0 e a).1) high
  high_within Freeing h e high = or_first (is_new tables f e) (is_old tables f e || is_new tables f e) (nothing_more (is_new tables f e) high)
  high_within (Undoing entry left why) h e high = mono (is_old tables f e) (has_entry e (entry ∷ left)) (is_old tables f e || is_new tables f e) (λ a. or_second (is_old tables f e) (is_new tables f e) (h.0 e a).1) high
  high_within (Releasing why) h e high = or_first (is_old tables f e) (is_old tables f e || is_new tables f e) (nothing_more (is_old tables f e) high)
