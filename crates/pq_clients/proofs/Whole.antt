-- Clients in a list, and every schedule.
use Rattle.std.proofs.Common.{◌≡◌, ℕ, zero, suc, ◌==◌, true, false, cond, ◌⊎◌, inl, inr, List, [], ◌∷◌, map, Option, Some, None, refl, sym, ap, ◌∙◌, subst}
use Rattle.std.specs.Prelude.{slice_set}
use Rattle.std.specs.List.{AllByRecursion, IsDistinct, slice_get}
use Rattle.std.proofs.lemmas.Bool.{eqb-true, eq-eqb, ne_eqb, eqb-false, false≢true}
use Rattle.pq_schema.specs.declared.table.Table.{Table}
use Rattle.pq_index_keep.specs.Sound.{AreWritable}
use Rattle.pq_clients.specs.declared.outcome.Outcome.{Outcome}
use Rattle.pq_clients.specs.Flights.{Flight, flight_key, new_code}
use Rattle.pq_clients.specs.Clients.{Stage, Checking, Adding, Testing, Putting, Clearing, Freeing, Undoing, Releasing, Next, Reading, Taking, Looking, Flying, View}
use Rattle.pq_clients.specs.Steps.{stepped}
use Rattle.pq_clients.specs.Runs.{Event, Run, turned, turn, run}
use Rattle.pq_clients.specs.Invariant.{Group, in_group, Hold, Stance, Idle, Holds, hold_of, stance_at, stance_of, has_place, Good, NextFits, ViewFits, IsShaped}
use Rattle.pq_clients.proofs.Basics.{and_of}
use Rattle.pq_clients.proofs.Frame.{set_stance}
use Rattle.pq_clients.proofs.Flying.{HasPassed, ArePassed}
use Rattle.pq_clients.proofs.Turns.{stepped_kept}

-- no two clients have one number
abbrev pub Differ : List View → Type 0
Differ [] = Unit {0}
Differ (v ∷ vs) = AllByRecursion (λ w. (v.number == w.number) ≡ false) vs × Differ vs

pub differ_from : (vs : List View) → IsDistinct ◌==◌ (map (λ v. v.number) vs) → Differ vs
unfolding IsDistinct
differ_from [] h = tt
differ_from (v ∷ vs) h = (each vs h.0, differ_from vs h.1)
  where
    each : (ws : List View) → AllByRecursion (λ n. (v.number == n) ≡ false) (map (λ w. w.number) ws) → AllByRecursion (λ (w : View). (v.number == w.number) ≡ false) ws
    each [] h = tt
    each (w ∷ ws) h = (h.0, each ws h.1)

pub at_place : {A : Type 0} (P : A → Type 0) (xs : List A) (p : ℕ) (x : A) → AllByRecursion P xs → slice_get xs p ≡ Some x → P x
at_place P [] p x all is = absurd (cc)
at_place P (y ∷ ys) zero x all is = let same : y ≡ x = cc in subst P same all.0
at_place P (y ∷ ys) (suc p) x all is = at_place P ys p x all.1 is

pub set_place : {A : Type 0} (P : A → Type 0) (xs : List A) (p : ℕ) (x : A) → AllByRecursion P xs → P x → AllByRecursion P (slice_set xs p x)
set_place P [] p x all h = tt
set_place P (y ∷ ys) zero x all h = (h, all.1)
set_place P (y ∷ ys) (suc p) x all h = (all.0, set_place P ys p x all.1 h)

other_numbers : (n : ℕ) (vs : List View) (p : ℕ) (w : View) → AllByRecursion (λ (w : View). (n == w.number) ≡ false) vs → AllByRecursion (λ (w : View). (n == w.number) ≡ false) (slice_set vs p w) ⊎ ((n == w.number) ≡ true)
other_numbers n vs p w all = elim (n == w.number) as (λ b. (n == w.number) ≡ b → AllByRecursion (λ (w : View). (n == w.number) ≡ false) (slice_set vs p w) ⊎ (b ≡ true)) [
  | true ↦ λ _. inr refl
  | false ↦ λ is. inl (set_place (λ (w : View). (n == w.number) ≡ false) vs p w all is)
] refl

pub differ_with : (vs : List View) (p : ℕ) (v w : View) → Differ vs → slice_get vs p ≡ Some v → w.number ≡ v.number → Differ (slice_set vs p w)
differ_with [] p v w d is same = tt
differ_with (x ∷ vs) zero v w d is same =
    let here : x ≡ v = cc in
    let number : x.number ≡ w.number = ap (λ (v : View). v.number) here ∙ sym same in
    (subst (λ (n : ℕ). AllByRecursion (λ (u : View). (n == u.number) ≡ false) vs) number d.0, d.1)
differ_with (x ∷ vs) (suc p) v w d is same =
    (set_place (λ (u : View). (x.number == u.number) ≡ false) vs p w d.0 (ap (λ n. x.number == n) same ∙ at_place (λ (u : View). (x.number == u.number) ≡ false) vs p v d.0 is), differ_with vs p v w d.1 is same)

module _ (tables : List Table) where
  -- the stance of the client with a number
  abbrev pub stances_of : List View → ℕ → Stance
  stances_of [] i = Idle
  stances_of (v ∷ vs) i = cond (i == v.number) (stance_of tables v) (stances_of vs i)

  pub own_stance : (vs : List View) (p : ℕ) (v : View) → Differ vs → slice_get vs p ≡ Some v → stances_of vs v.number ≡ stance_of tables v
  own_stance [] p v d is = absurd (cc)
  own_stance (x ∷ vs) zero v d is = let here : x ≡ v = cc in ap (λ b. cond b (stance_of tables x) (stances_of vs v.number)) (eq-eqb v.number x.number (ap (λ (v : View). v.number) (sym here))) ∙ ap (stance_of tables) here
  own_stance (x ∷ vs) (suc p) v d is =
      let apart = at_place (λ (u : View). (x.number == u.number) ≡ false) vs p v d.0 is in
      ap (λ b. cond b (stance_of tables x) (stances_of vs v.number)) (ne_eqb v.number x.number (λ e. eqb-false x.number v.number apart (sym e))) ∙ own_stance vs p v d.1 is

  stances_at : (vs : List View) (p : ℕ) (v w : View) → Differ vs → slice_get vs p ≡ Some v → w.number ≡ v.number → (i : ℕ) → stances_of (slice_set vs p w) i ≡ set_stance (stances_of vs) v.number (stance_of tables w) i
  stances_at [] p v w d is same i = absurd (cc)
  stances_at (x ∷ vs) zero v w d is same i =
      let here : x ≡ v = cc in
      let number : x.number ≡ v.number = ap (λ (v : View). v.number) here in
      ap (λ (n : ℕ). cond (i == n) (stance_of tables w) (stances_of vs i)) same
      ∙ subst (λ (n : ℕ). cond (i == v.number) (stance_of tables w) (stances_of vs i) ≡ cond (i == v.number) (stance_of tables w) (cond (i == n) (stance_of tables x) (stances_of vs i))) (sym number)
      (elim (i == v.number) as (λ b. cond b (stance_of tables w) (stances_of vs i) ≡ cond b (stance_of tables w) (cond b (stance_of tables x) (stances_of vs i))) [ true ↦ refl | false ↦ refl ])
  stances_at (x ∷ vs) (suc p) v w d is same i =
      let apart = at_place (λ (u : View). (x.number == u.number) ≡ false) vs p v d.0 is in
      elim (i == x.number) as (λ b. (i == x.number) ≡ b → cond b (stance_of tables x) (stances_of (slice_set vs p w) i) ≡ cond (i == v.number) (stance_of tables w) (cond b (stance_of tables x) (stances_of vs i))) [
        | true ↦ λ e. ap (λ b. cond b (stance_of tables w) (stance_of tables x)) (sym (ne_eqb i v.number (λ q. eqb-false x.number v.number apart (sym (eqb-true i x.number e) ∙ q))))
        | false ↦ λ _. stances_at vs p v w d.1 is same i
      ] refl

  pub stances_with : (vs : List View) (p : ℕ) (v w : View) → Differ vs → slice_get vs p ≡ Some v → w.number ≡ v.number → stances_of (slice_set vs p w) ≡ set_stance (stances_of vs) v.number (stance_of tables w)
  stances_with vs p v w d is same = λ k i. stances_at vs p v w d is same i k

  -- ---- limits that were passed
  passed_stage : (at : ℕ) (f : Flight) (stage : Stage) (v : View) → NextFits tables v (Flying f stage) → (γ : Group) → (hold_of tables at f stage).passed γ ≡ true → HasPassed tables (hold_of tables at f stage) γ
  passed_stage at f (Checking check left) v h γ is = absurd (false≢true is)
  passed_stage at f (Adding entry left added) v h γ is = absurd (false≢true is)
  passed_stage at f (Testing place left passed) v h γ is = record { code = new_code tables f; stands = h.0.new; grouped = (and_of (has_place γ.place passed) (in_group tables γ (flight_key tables f) (new_code tables f)) is).1; due = λ e there. there }
  passed_stage at f Putting v h γ is = record { code = new_code tables f; stands = h.0.new; grouped = is; due = λ e there. there }
  passed_stage at f (Clearing entry left) v h γ is = absurd (false≢true is)
  passed_stage at f Freeing v h γ is = absurd (false≢true is)
  passed_stage at f (Undoing entry left why) v h γ is = absurd (false≢true is)
  passed_stage at f (Releasing why) v h γ is = absurd (false≢true is)

  passed_view : (v : View) (at : ℕ) (over : Option Outcome) (next : Next) → NextFits tables v next → (γ : Group) (hold : Hold) → stance_at tables at over next ≡ Holds hold → hold.passed γ ≡ true → HasPassed tables hold γ
  passed_view v at over Reading h γ hold is p = absurd (cc)
  passed_view v at None (Taking f) h γ hold is p = absurd (cc)
  passed_view v at (Some o) (Taking f) h γ hold is p = absurd (cc)
  passed_view v at over (Looking f) h γ hold is p = absurd (cc)
  passed_view v at None (Flying f stage) h γ hold is p =
      let same : hold_of tables at f stage ≡ hold = cc in
      subst (λ (h : Hold). h.passed γ ≡ true → HasPassed tables h γ) same (passed_stage at f stage v h γ) p
  passed_view v at (Some o) (Flying f stage) h γ hold is p = absurd (cc)

  pub are_passed : (vs : List View) → AllByRecursion (ViewFits tables) vs → ArePassed tables (stances_of vs)
  are_passed [] all i γ hold is p = absurd (cc)
  are_passed (v ∷ vs) all i γ hold is p =
      elim (i == v.number) as (λ b. cond b (stance_of tables v) (stances_of vs i) ≡ Holds hold → HasPassed tables hold γ) [
        | true ↦ λ e. passed_view v v.at v.over v.next all.0.next γ hold e p
        | false ↦ λ e. are_passed vs all.1 i γ hold e p
      ] is

  -- ---- every schedule
  module _ (sound : AreWritable tables) (others : List ℕ → Option (List ℕ)) where
    pub record Holding (r : Run) : Type 0 where
      pub differ : Differ r.clients
      pub views : AllByRecursion (ViewFits tables) r.clients
      pub shaped : IsShaped tables r.content others
      pub good : Good tables r.content (stances_of r.clients)

    turn_by : (r : Run) (e : Event) (o : Option View) → slice_get r.clients e.place ≡ o → Holding r → Holding (turned tables r e o)
    turn_by r e None is h = h
    turn_by r e (Some v) is h =
        let a = stepped tables v r.content e.fate in
        let k = stepped_kept tables sound others r.content (stances_of r.clients) h.shaped h.good (are_passed r.clients h.views) v (at_place (ViewFits tables) r.clients e.place v h.views is) (own_stance r.clients e.place v h.differ is) e.fate in
        record {
          differ = differ_with r.clients e.place v a.view h.differ is k.number;
          views = set_place (ViewFits tables) r.clients e.place a.view h.views k.fits;
          shaped = k.shaped;
          good = subst (λ (s : ℕ → Stance). Good tables a.content s) (sym (stances_with r.clients e.place v a.view h.differ is k.number)) k.good;
        }

    pub turn_holds : (r : Run) (e : Event) → Holding r → Holding (turn tables r e)
    turn_holds r e h = turn_by r e (slice_get r.clients e.place) refl h

    pub run_holds : (es : List Event) (r : Run) → Holding r → Holding (run tables r es)
    run_holds [] r h = h
    run_holds (e ∷ es) r h = run_holds es (turn tables r e) (turn_holds r e h)
