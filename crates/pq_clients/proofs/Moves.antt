-- Each step of a write that holds its key keeps what holds.
use Rattle.std.proofs.Common.{◌≡◌, ℕ, ◌^◌, ◌<◌, ◌==◌, Bool, true, false, ◌&&◌, ◌||◌, inl, inr, List, [], ◌∷◌, Option, Some, None, refl, sym, ap, ◌∙◌, subst}
use Rattle.std.proofs.lemmas.Bool.{false≢true, eqb-true}
use Rattle.pq_base.specs.declared.refusal.Refusal.{Refusal}
use Rattle.pq_schema.specs.declared.table.Table.{Table}
use Rattle.pq_content.proofs.Keys.{key_itself}
use Rattle.pq_store.specs.Content.{Content, written_content}
use Rattle.pq_index_keep.specs.Sound.{AreWritable}
use Rattle.pq_clients.specs.Held.{Held, cell_of, held_value}
use Rattle.pq_clients.specs.Flights.{Flight, Check, flight_key, new_code, has_entry, fresh_entries, stale_entries, tested_front, tested_limit}
use Rattle.pq_clients.specs.Clients.{Stage, Checking, Adding, Testing, Putting, Clearing, Freeing, Undoing, Releasing}
use Rattle.pq_clients.specs.Steps.{testing, adding, checking, clearing, undoing, has_room}
use Rattle.pq_clients.specs.Invariant.{Names, Group, in_group, Stance, Idle, Holds, is_key, Good, hold_of, is_old, is_new, has_place, FlightFits, StageFits}
use Rattle.pq_clients.proofs.Basics.{or_first, or_second, either_of, nothing_more, and_of}
use Rattle.pq_clients.proofs.Frame.{set_stance}
use Rattle.pq_clients.proofs.Cells.{held_cell}
use Rattle.pq_clients.proofs.Coded.{fresh_has, stale_has, names_code, tested_group}
use Rattle.pq_clients.proofs.Flying.{AreStanding, ArePassed, stay, add, drop, put, pass}
use Rattle.pq_clients.proofs.Landing.{landed}
use Rattle.pq_clients.proofs.Stages.{Covers, present_testing, low_testing, claim_testing, Adds, present_adding, low_adding, high_adding, claim_adding, present_checking, low_checking, high_checking, claim_checking, present_clearing, low_clearing, claim_clearing, present_undoing, low_undoing, claim_undoing, or_rest, or_swapped, rest_back, swapped_back}

-- ---- tests
moved_over : (o a x r : Bool) → (o || (a || (x || r))) ≡ true → (o || ((x || a) || r)) ≡ true
moved_over true a x r h = refl
moved_over false true true r h = refl
moved_over false true false r h = refl
moved_over false false true r h = h
moved_over false false false r h = h

pub moved_place : (a x r : Bool) → (a || (x || r)) ≡ true → ((x || a) || r) ≡ true
moved_place a x r h = moved_over false a x r h

more : (o a x : Bool) → (o || a) ≡ true → (o || (x || a)) ≡ true
more true a x h = refl
more false a true h = refl
more false a false h = h

less : (o a x : Bool) → x ≡ false → (o || (x || a)) ≡ true → (o || a) ≡ true
less o a true e h = absurd (false≢true (sym e))
less o a false e h = h

split : (o a x n : Bool) → (o || ((x || a) && n)) ≡ true → ((o || (a && n)) || (x && n)) ≡ true
split true a x n h = refl
split false a true n h = or_second (a && n) n h
split false a false n h = or_first (a && n) false h

module _ (tables : List Table) (sound : AreWritable tables) (f : Flight) (fits : FlightFits tables f) where
  names_new : (e : List ℕ) → is_new tables f e ≡ true → Names tables (flight_key tables f) e
  names_new e h = names_code tables sound (flight_key tables f) (new_code tables f) e fits.new h

  names_old : (e : List ℕ) → is_old tables f e ≡ true → Names tables (flight_key tables f) e
  names_old e h = names_code tables sound (flight_key tables f) f.read e fits.read h

  -- an added entry
  pub adds_more : (entry : List ℕ) (left added : List (List ℕ)) → Adds tables sound f fits (entry ∷ left) added → Adds tables sound f fits left (entry ∷ added)
  adds_more entry left added adds e = (
    λ h. moved_over (is_old tables f e) (has_entry e added) (is_key e entry) (has_entry e left) ((adds e).0 h),
    λ h. elim (either_of (is_key e entry) (has_entry e added) h) [ inl a ↦ (adds e).2 (or_first (is_key e entry) (has_entry e left) a) | inr b ↦ (adds e).1 b ],
    λ h. (adds e).2 (or_second (is_key e entry) (has_entry e left) h),
  )

  pub covers_more : (place : ℕ) (left passed : List ℕ) → Covers tables sound f fits (place ∷ left) passed → Covers tables sound f fits left (place ∷ passed)
  covers_more place left passed covers l h = moved_place (has_place l passed) (l == place) (has_place l left) (covers l h)

  module _ (c : Content) (stances : ℕ → Stance) (j at : ℕ) (g : Good tables c stances) where
    abbrev pub Flies : Content → Stage → Type 0
    Flies d s = Good tables d (set_stance stances j (Holds (hold_of tables at f s)))

    pub check_passed : (check : Check) (left : List Check) → stances j ≡ Holds (hold_of tables at f (Checking check left)) → Flies c (checking tables f left)
    check_passed check left is =
        stay tables c stances j at f (Checking check left) g is (checking tables f left) (present_checking tables sound f fits left)
        (λ e h. or_first (is_old tables f e) false (low_checking tables sound f fits left e h))
        (λ e h. high_checking tables sound f fits left e (nothing_more (is_old tables f e) h))
        (λ γ h. or_first (in_group tables γ (flight_key tables f) f.read) false (claim_checking tables sound f fits left γ h))

    pub check_refused : (check : Check) (left : List Check) (why : Refusal) → stances j ≡ Holds (hold_of tables at f (Checking check left)) → Flies c (Releasing why)
    check_refused check left why is = stay tables c stances j at f (Checking check left) g is (Releasing why) refl (λ e h. h) (λ e h. h) (λ γ h. h)

    pub entry_added : (entry : List ℕ) (left added : List (List ℕ)) → StageFits tables f (Adding entry left added) → stances j ≡ Holds (hold_of tables at f (Adding entry left added)) → Flies (written_content entry (Some []) c) (adding tables f left (entry ∷ added))
    entry_added entry left added adds is =
        let more_adds = adds_more entry left added adds in
        add tables c stances j at f (Adding entry left added) g is (adding tables f left (entry ∷ added)) entry
        (names_new entry ((adds entry).2 (or_first (is_key entry entry) (has_entry entry left) (key_itself entry))))
        (present_adding tables sound f fits left (entry ∷ added))
        (λ e ne h. less (is_old tables f e) (has_entry e added) (is_key e entry) ne (low_adding tables sound f fits left (entry ∷ added) more_adds e h))
        (high_adding tables sound f fits left (entry ∷ added) more_adds entry (or_second (is_old tables f entry) (is_key entry entry || has_entry entry added) (or_first (is_key entry entry) (has_entry entry added) (key_itself entry))))
        (λ e h. high_adding tables sound f fits left (entry ∷ added) more_adds e (more (is_old tables f e) (has_entry e added) (is_key e entry) h))
        (λ γ h. or_first (in_group tables γ (flight_key tables f) f.read) false (claim_adding tables sound f fits left (entry ∷ added) γ h))

    pub limit_passed : AreStanding tables c → ArePassed tables stances → (place : ℕ) (left passed : List ℕ) → StageFits tables f (Testing place left passed) → has_room tables f place c ≡ true → stances j ≡ Holds (hold_of tables at f (Testing place left passed)) → Flies c (testing left (place ∷ passed))
    limit_passed standing all_passed place left passed covers room is =
        let new_in = λ (γ : Group). in_group tables γ (flight_key tables f) (new_code tables f) in
        let old_in = λ (γ : Group). in_group tables γ (flight_key tables f) f.read in
        let fresh = λ (γ : Group). (γ.place == place) && new_in γ in
        pass tables c stances j at f (Testing place left passed) g is sound standing all_passed (testing left (place ∷ passed)) (tested_front tables f place) (tested_limit tables f place).n
        (present_testing tables sound f fits left (place ∷ passed))
        (λ e h. sym (low_testing tables sound f fits left (place ∷ passed) e) ∙ h)
        (λ e h. low_testing tables sound f fits left (place ∷ passed) e ∙ h)
        room fresh
        (λ γ h. split (old_in γ) (has_place γ.place passed) (γ.place == place) (new_in γ) (claim_testing tables sound f fits left (place ∷ passed) (covers_more place left passed covers) γ h))
        (λ γ h. tested_group tables sound f fits place γ (eqb-true γ.place place (and_of (γ.place == place) (new_in γ) h).0) (and_of (γ.place == place) (new_in γ) h).1)
        (new_code tables f) fits.new (λ γ h. (and_of (γ.place == place) (new_in γ) h).1)
        (λ e h. or_second (is_old tables f e) (is_new tables f e) h)

    pub limit_refused : (place : ℕ) (left passed : List ℕ) (why : Refusal) → stances j ≡ Holds (hold_of tables at f (Testing place left passed)) → Flies c (undoing (fresh_entries tables f) why)
    limit_refused place left passed why is =
        let fresh = fresh_entries tables f in
        let due = λ (e : List ℕ). low_undoing tables sound f fits fresh why e ∙ ap (λ b. is_old tables f e || b) (fresh_has tables sound f fits e) in
        stay tables c stances j at f (Testing place left passed) g is (undoing fresh why) (present_undoing tables sound f fits fresh why)
        (λ e h. rest_back (is_old tables f e) (is_new tables f e) (sym (due e) ∙ h))
        (λ e h. due e ∙ or_rest (is_old tables f e) (is_new tables f e) h)
        (λ γ h. or_first (in_group tables γ (flight_key tables f) f.read) _ (claim_undoing tables sound f fits fresh why γ h))

    pub row_put : j < 2 ^ 32 → at < 2 ^ 32 → stances j ≡ Holds (hold_of tables at f Putting) → Flies (written_content (flight_key tables f) (Some (held_value j at (new_code tables f))) c) (clearing (stale_entries tables f))
    row_put small few is =
        let stale = stale_entries tables f in
        let same = present_clearing tables sound f fits stale in
        let due = λ (e : List ℕ). low_clearing tables sound f fits stale e ∙ ap (λ b. is_new tables f e || b) (stale_has tables sound f fits e) in
        subst (λ (p : Option (List ℕ)). Flies (written_content (flight_key tables f) (Some (held_value j at p)) c) (clearing stale)) same
        (put tables c stances j at f Putting g is (clearing stale)
        (ap (λ (p : Option (List ℕ)). cell_of (held_value j at p)) same ∙ held_cell tables (flight_key tables f) j at (new_code tables f) small few fits.new ∙ ap (λ (p : Option (List ℕ)). Held j at p) (sym same))
        (λ e h. swapped_back (is_old tables f e) (is_new tables f e) (sym (due e) ∙ h))
        (λ e h. due e ∙ or_swapped (is_old tables f e) (is_new tables f e) h)
        (λ γ h. or_second (in_group tables γ (flight_key tables f) f.read) (in_group tables γ (flight_key tables f) (new_code tables f)) (claim_clearing tables sound f fits stale γ h)))

    pub entry_cleared : (entry : List ℕ) (left : List (List ℕ)) → StageFits tables f (Clearing entry left) → stances j ≡ Holds (hold_of tables at f (Clearing entry left)) → Flies (written_content entry None c) (clearing left)
    entry_cleared entry left clears is =
        let here = clears.0 entry (or_first (is_key entry entry) (has_entry entry left) (key_itself entry)) in
        drop tables c stances j at f (Clearing entry left) g is (clearing left) entry (names_old entry here.1) (present_clearing tables sound f fits left)
        (low_clearing tables sound f fits left entry ∙ ap (λ b. b || has_entry entry left) here.0 ∙ clears.1.0)
        (λ e h. more (is_new tables f e) (has_entry e left) (is_key e entry) (sym (low_clearing tables sound f fits left e) ∙ h))
        (λ e ne h. low_clearing tables sound f fits left e ∙ less (is_new tables f e) (has_entry e left) (is_key e entry) ne h)
        (λ γ h. or_first (in_group tables γ (flight_key tables f) (new_code tables f)) false (claim_clearing tables sound f fits left γ h))

    pub entry_undone : (entry : List ℕ) (left : List (List ℕ)) (why : Refusal) → StageFits tables f (Undoing entry left why) → stances j ≡ Holds (hold_of tables at f (Undoing entry left why)) → Flies (written_content entry None c) (undoing left why)
    entry_undone entry left why undoes is =
        let here = undoes.0 entry (or_first (is_key entry entry) (has_entry entry left) (key_itself entry)) in
        drop tables c stances j at f (Undoing entry left why) g is (undoing left why) entry (names_new entry here.1) (present_undoing tables sound f fits left why)
        (low_undoing tables sound f fits left why entry ∙ ap (λ b. b || has_entry entry left) here.0 ∙ undoes.1.0)
        (λ e h. more (is_old tables f e) (has_entry e left) (is_key e entry) (sym (low_undoing tables sound f fits left why e) ∙ h))
        (λ e ne h. low_undoing tables sound f fits left why e ∙ less (is_old tables f e) (has_entry e left) (is_key e entry) ne h)
        (λ γ h. or_first (in_group tables γ (flight_key tables f) f.read) false (claim_undoing tables sound f fits left why γ h))

    pub row_freed : stances j ≡ Holds (hold_of tables at f Freeing) → Good tables (written_content (flight_key tables f) (new_code tables f) c) (set_stance stances j Idle)
    row_freed is = landed tables sound c stances j at f Freeing g is fits.new (λ e h. nothing_more (is_new tables f e) h)

    pub row_released : (why : Refusal) → stances j ≡ Holds (hold_of tables at f (Releasing why)) → Good tables (written_content (flight_key tables f) f.read c) (set_stance stances j Idle)
    row_released why is = landed tables sound c stances j at f (Releasing why) g is fits.read (λ e h. nothing_more (is_old tables f e) h)
