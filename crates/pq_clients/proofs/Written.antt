-- The present tables after every schedule: those at entry, changed by the writes that were put, and by those that ended
-- by a failure at their put and show.
use Rattle.std.proofs.Common.{◌≡◌, ℕ, zero, suc, ◌^◌, ◌<◌, ◌==◌, Bool, true, false, cond, List, [], ◌∷◌, Option, Some, None, refl, sym, ap, ◌∙◌, subst}
use Rattle.std.specs.List.{AllByRecursion, slice_get}
use Rattle.std.specs.FinMap.{get}
use Rattle.std.proofs.lemmas.Bool.{eq-eqb}
use Rattle.pq_base.specs.declared.value.Value.{Value}
use Rattle.pq_key_code.specs.KeyCode.{row_key}
use Rattle.pq_schema.specs.declared.table.Table.{Table}
use Rattle.pq_schema.specs.Tables.{table_at}
use Rattle.pq_content.specs.Tables.{AllOfKinds, key_types}
use Rattle.pq_store.specs.Content.{Content, written_content}
use Rattle.pq_index_keep.specs.declared.write.Write.{Write}
use Rattle.pq_index_keep.specs.Sound.{AreWritable, IsWrite}
use Rattle.pq_clients.specs.declared.outcome.Outcome.{Outcome}
use Rattle.pq_clients.specs.declared.outcome.Outcome.TheVariants as outcome
use Rattle.pq_clients.specs.Held.{Cell, Free, Held, cell_of, present_code, held_value}
use Rattle.pq_clients.specs.Flights.{Flight, pair_key, row_made, flight_key, new_code, flight_checks}
use Rattle.pq_clients.specs.Clients.{Stage, Checking, Adding, Testing, Putting, Clearing, Freeing, Undoing, Releasing, Next, Reading, Taking, Looking, Flying, View, write_at}
use Rattle.pq_clients.specs.Steps.{is_just, Then, On, checking, gone_on, Fate, Answers, NotDone, DoneUnseen, NoMemory, met}
use Rattle.pq_clients.specs.Present.{found_write, write_named}
use Rattle.pq_clients.specs.Invariant.{MayStandAt, Stance, Holds, Left, FlightFits, NextFits, ViewFits, Good, IsShaped, stance_of, stance_at, present_of, hold_of, remains_of}
use Rattle.pq_clients.proofs.Basics.{get_apart, key_apart}
use Rattle.pq_clients.proofs.Cells.{held_cell, free_cell}
use Rattle.pq_clients.proofs.Coded.{key_space}
use Rattle.pq_clients.proofs.Effects.{effects, same_bytes}
use Rattle.pq_clients.proofs.Shaped.{just_this}
use Rattle.pq_clients.proofs.CallSteps.{few_at}
use Rattle.pq_clients.proofs.Turns.{call_content}
use Rattle.pq_clients.proofs.Puts.{own_value}
use Rattle.pq_clients.proofs.Others.{others_same, IsNoPut}
use Rattle.pq_clients.proofs.Shows.{Leaves, shown_write}
use Rattle.pq_clients.proofs.Whole.{Differ, stances_of, own_stance, at_place}

-- the write of a client's own number is found at its place
pub named_here : (vs : List View) (p : ℕ) (v : View) (n : ℕ) (w : Write) → Differ vs → slice_get vs p ≡ Some v → write_at v.writes n ≡ Some w → write_named vs (record { client = v.number; number = n }) ≡ w ∷ []
named_here [] p v n w d is there = absurd (cc)
named_here (x ∷ vs) zero v n w d is there =
    let here : x ≡ v = cc in
    ap (λ b. cond b (found_write (write_at x.writes n)) (write_named vs (record { client = v.number; number = n }))) (eq-eqb x.number v.number (ap (λ (v : View). v.number) here))
    ∙ ap (λ (u : View). found_write (write_at u.writes n)) here ∙ ap found_write there
named_here (x ∷ vs) (suc p) v n w d is there =
    ap (λ b. cond b (found_write (write_at x.writes n)) (write_named vs (record { client = v.number; number = n }))) (at_place (λ (u : View). (x.number == u.number) ≡ false) vs p v d.0 is)
    ∙ named_here vs p v n w d.1 is there

pub all_by_place : {A : Type 0} (P : A → Type 0) (xs : List A) → ((p : ℕ) (x : A) → slice_get xs p ≡ Some x → P x) → AllByRecursion P xs
all_by_place P [] h = tt
all_by_place P (x ∷ xs) h = (h 0 x refl, all_by_place P xs (λ p y is. h (suc p) y is))

module _ (tables : List Table) (sound : AreWritable tables) where
  -- a client that ended at its put has left its key held
  abbrev pub LostAt : Content → ℕ → ℕ → Option Outcome → Next → Type 0
  LostAt c n at (Some o) (Flying f Putting) = (p : Option (List ℕ)) × MayStandAt tables (flight_key tables f) p × (get c (flight_key tables f) ≡ Some (held_value n at p))
  LostAt c n at over next = Unit {0}

  abbrev pub LostHeld : Content → View → Type 0
  LostHeld c v = LostAt c v.number v.at v.over v.next

  shown_failed : (d : Content) (next : Next) → IsNoPut tables sound next → shown_write tables d (Some outcome.Failed) next ≡ []
  shown_failed d Reading q = refl
  shown_failed d (Taking f) q = refl
  shown_failed d (Looking f) q = refl
  shown_failed d (Flying f (Checking check left)) q = refl
  shown_failed d (Flying f (Adding entry left added)) q = refl
  shown_failed d (Flying f (Testing place left passed)) q = refl
  shown_failed d (Flying f Putting) q = absurd q
  shown_failed d (Flying f (Clearing entry left)) q = refl
  shown_failed d (Flying f Freeing) q = refl
  shown_failed d (Flying f (Undoing entry left why)) q = refl
  shown_failed d (Flying f (Releasing why)) q = refl

  pub shown_quiet : (d : Content) (o : Outcome) (next : Next) → IsNoPut tables sound next → shown_write tables d (Some o) next ≡ []
  shown_quiet d outcome.Done next q = refl
  shown_quiet d (outcome.Refused why) next q = refl
  shown_quiet d (outcome.Busy found) next q = refl
  shown_quiet d (outcome.Conflict read found) next q = refl
  shown_quiet d outcome.Failed next q = shown_failed d next q
  shown_quiet d outcome.NoMem next q = refl
  shown_quiet d (outcome.Damaged damage) next q = refl

  pub lost_quiet : (d : Content) (n at : ℕ) (o : Outcome) (next : Next) → IsNoPut tables sound next → LostAt d n at (Some o) next
  lost_quiet d n at o Reading q = tt
  lost_quiet d n at o (Taking f) q = tt
  lost_quiet d n at o (Looking f) q = tt
  lost_quiet d n at o (Flying f (Checking check left)) q = tt
  lost_quiet d n at o (Flying f (Adding entry left added)) q = tt
  lost_quiet d n at o (Flying f (Testing place left passed)) q = tt
  lost_quiet d n at o (Flying f Putting) q = absurd q
  lost_quiet d n at o (Flying f (Clearing entry left)) q = tt
  lost_quiet d n at o (Flying f Freeing) q = tt
  lost_quiet d n at o (Flying f (Undoing entry left why)) q = tt
  lost_quiet d n at o (Flying f (Releasing why)) q = tt

  -- ---- where a client ended at its put, no other client's step writes its key
  own_stances : (vs : List View) → Differ vs → AllByRecursion (λ (u : View). stances_of tables vs u.number ≡ stance_of tables u) vs
  own_stances vs d = all_by_place (λ (u : View). stances_of tables vs u.number ≡ stance_of tables u) vs (λ p u is. own_stance tables vs p u d is)

  pub present_stands : (f : Flight) → FlightFits tables f → (stage : Stage) → MayStandAt tables (flight_key tables f) (present_of tables f stage)
  present_stands f h (Checking check left) = h.read
  present_stands f h (Adding entry left added) = h.read
  present_stands f h (Testing place left passed) = h.read
  present_stands f h Putting = h.read
  present_stands f h (Clearing entry left) = h.new
  present_stands f h Freeing = h.new
  present_stands f h (Undoing entry left why) = h.read
  present_stands f h (Releasing why) = h.read

  module _ (c : Content) (others : List ℕ → Option (List ℕ)) (shape : IsShaped tables c others) (stances : ℕ → Stance) (g : Good tables c stances) (v : View) (h : ViewFits tables v) (unbroken : v.over ≡ None) (is : stances v.number ≡ stance_of tables v) where
    held_inverse : (f : Flight) (i m : ℕ) (p : Option (List ℕ)) (j n : ℕ) (q : Option (List ℕ)) (k : List ℕ) → i < 2 ^ 32 → m < 2 ^ 32 → MayStandAt tables k p → j < 2 ^ 32 → n < 2 ^ 32 → MayStandAt tables k q → held_value i m p ≡ held_value j n q → i ≡ j
    held_inverse f i m p j n q k a b s a' b' s' same =
        let cells : ◌≡◌ {A = Cell} (Held i m p) (Held j n q) = sym (held_cell tables k i m p a b s) ∙ ap cell_of same ∙ held_cell tables k j n q a' b' s' in cc

    module _ (u : View) (hu : ViewFits tables u) (us : stances u.number ≡ stance_of tables u) (o : Outcome) (fu : Flight) (su : Stage) (u_over : u.over ≡ Some o) (u_next : u.next ≡ Flying fu su) (p : Option (List ℕ)) (stands : MayStandAt tables (flight_key tables fu) p) (lost : get c (flight_key tables fu) ≡ Some (held_value u.number u.at p)) where
      u_few : u.at < 2 ^ 32
      u_few = few_at tables sound others u fu.write hu (subst (λ (n : Next). NextFits tables u n) u_next hu.next).1

      pub not_own : (f : Flight) (stage : Stage) → v.next ≡ Flying f stage → flight_key tables fu ≡ flight_key tables f → ⊥
      not_own f stage v_next same =
          let fits = subst (λ (n : Next). NextFits tables v n) v_next h.next in
          let key = flight_key tables f in
          let few = few_at tables sound others v f.write h fits.1 in
          let value : ◌≡◌ {A = Option (List ℕ)} (Some (held_value u.number u.at p)) (Some (held_value v.number v.at (present_of tables f stage))) = sym lost ∙ ap (get c) same ∙ own_value tables sound c stances g v h unbroken is f stage v_next in
          let bytes : held_value u.number u.at p ≡ held_value v.number v.at (present_of tables f stage) = cc in
          let number : u.number ≡ v.number = held_inverse f u.number u.at p v.number v.at (present_of tables f stage) key hu.small u_few (subst (λ (k : List ℕ). MayStandAt tables k p) same stands) h.small few (present_stands f fits.0 stage) bytes in
          let left : stances u.number ≡ Left (remains_of tables u.at fu su) = us ∙ ap (stance_at tables u.at u.over) u_next ∙ ap (λ (o : Option Outcome). stance_at tables u.at o (Flying fu su)) u_over in
          let holds : stances v.number ≡ Holds (hold_of tables v.at f stage) = is ∙ ap (stance_at tables v.at v.over) v_next ∙ ap (λ (o : Option Outcome). stance_at tables v.at o (Flying f stage)) unbroken in
          let wrong : Left (remains_of tables u.at fu su) ≡ Holds (hold_of tables v.at f stage) = sym left ∙ ap stances number ∙ holds in
          absurd (cc)

      not_taken : (f : Flight) → FlightFits tables f → get c (flight_key tables f) ≡ f.read → flight_key tables fu ≡ flight_key tables f → ⊥
      not_taken f fits found same = by f.read refl fits.read
        where
          by : (r : Option (List ℕ)) → f.read ≡ r → MayStandAt tables (flight_key tables f) r → ⊥
          by None is at = let wrong : ◌≡◌ {A = Option (List ℕ)} (Some (held_value u.number u.at p)) None = sym lost ∙ ap (get c) same ∙ found ∙ is in absurd (cc)
          by (Some code) is at =
              let value : ◌≡◌ {A = Option (List ℕ)} (Some (held_value u.number u.at p)) (Some code) = sym lost ∙ ap (get c) same ∙ found ∙ is in
              let bytes : held_value u.number u.at p ≡ code = cc in
              let wrong : ◌≡◌ {A = Cell} (Held u.number u.at p) (Free code) = sym (held_cell tables (flight_key tables fu) u.number u.at p hu.small u_few stands) ∙ ap cell_of bytes ∙ free_cell tables (flight_key tables f) code sound at in
              absurd (cc)

      -- what the client left is there behind the step
      lost_same : (next : Next) → v.next ≡ next → get (gone_on tables v next c).0 (flight_key tables fu) ≡ get c (flight_key tables fu)
      lost_same Reading v_next = others_same tables sound c v h Reading v_next (flight_key tables fu) (key_space tables fu.write) tt
      lost_same (Taking f) v_next =
          let fits = subst (λ (n : Next). NextFits tables v n) v_next h.next in
          elim (is_just f.read (get c (flight_key tables f))) as (λ b. is_just f.read (get c (flight_key tables f)) ≡ b → get (cond {A = Content × Then} b (written_content (flight_key tables f) (Some (held_value v.number v.at f.read)) c, On (Flying f (checking tables f (flight_checks tables f)))) (c, On (Looking f))).0 (flight_key tables fu) ≡ get c (flight_key tables fu)) [
            | true ↦ λ just. get_apart (flight_key tables f) (Some (held_value v.number v.at f.read)) c (flight_key tables fu) (not_taken f fits.0 (just_this f.read (get c (flight_key tables f)) just))
            | false ↦ λ _. refl
          ] refl
      lost_same (Looking f) v_next = refl
      lost_same (Flying f stage) v_next = others_same tables sound c v h (Flying f stage) v_next (flight_key tables fu) (key_space tables fu.write) (not_own f stage v_next)

    -- ---- the same for a client's view as it is
    abbrev pub after_content : Fate → Content
    after_content fate = (met tables v c fate).content

    pub met_same : (u : View) → ViewFits tables u → stances u.number ≡ stance_of tables u → (o : Outcome) (fu : Flight) (su : Stage) → u.over ≡ Some o → u.next ≡ Flying fu su → (p : Option (List ℕ)) → MayStandAt tables (flight_key tables fu) p → get c (flight_key tables fu) ≡ Some (held_value u.number u.at p) → (fate : Fate) → get (after_content fate) (flight_key tables fu) ≡ get c (flight_key tables fu)
    met_same u hu us o fu su u_over u_next p stands lost Answers = ap (λ (d : Content). get d (flight_key tables fu)) (call_content tables sound others v (gone_on tables v v.next c)) ∙ lost_same u hu us o fu su u_over u_next p stands lost v.next refl
    met_same u hu us o fu su u_over u_next p stands lost NotDone = refl
    met_same u hu us o fu su u_over u_next p stands lost DoneUnseen = lost_same u hu us o fu su u_over u_next p stands lost v.next refl
    met_same u hu us o fu su u_over u_next p stands lost NoMemory = refl

    -- what another client left is there still, and it shows what it showed
    abbrev pub OtherAt : Content → ℕ → ℕ → Option Outcome → Next → Type 0
    OtherAt d n at over next = LostAt d n at over next × (shown_write tables d over next ≡ shown_write tables c over next)

    pub other_same : (u : View) → ViewFits tables u → stances u.number ≡ stance_of tables u → LostHeld c u → (fate : Fate) → OtherAt (after_content fate) u.number u.at u.over u.next
    other_same u hu us lost fate = by u.over refl u.next refl lost
      where
        quiet : (o : Outcome) (next : Next) → IsNoPut tables sound next → LostAt (after_content fate) u.number u.at (Some o) next → OtherAt (after_content fate) u.number u.at (Some o) next
        quiet o next q l = (l, shown_quiet (after_content fate) o next q ∙ sym (shown_quiet c o next q))

        put : (o : Outcome) (f : Flight) → get (after_content fate) (flight_key tables f) ≡ get c (flight_key tables f) → shown_write tables (after_content fate) (Some o) (Flying f Putting) ≡ shown_write tables c (Some o) (Flying f Putting)
        put outcome.Done f same = refl
        put (outcome.Refused why) f same = refl
        put (outcome.Busy found) f same = refl
        put (outcome.Conflict read found) f same = refl
        put outcome.Failed f same = ap (λ (x : Option (List ℕ)). cond (is_just (new_code tables f) (present_code x)) (f.write ∷ []) []) same
        put outcome.NoMem f same = refl
        put (outcome.Damaged damage) f same = refl

        by : (over : Option Outcome) → u.over ≡ over → (next : Next) → u.next ≡ next → LostAt c u.number u.at over next → OtherAt (after_content fate) u.number u.at over next
        by None u_over next u_next l = (tt, refl)
        by (Some o) u_over Reading u_next l = quiet o Reading tt tt
        by (Some o) u_over (Taking f) u_next l = quiet o (Taking f) tt tt
        by (Some o) u_over (Looking f) u_next l = quiet o (Looking f) tt tt
        by (Some o) u_over (Flying f (Checking check left)) u_next l = quiet o (Flying f (Checking check left)) tt tt
        by (Some o) u_over (Flying f (Adding entry left added)) u_next l = quiet o (Flying f (Adding entry left added)) tt tt
        by (Some o) u_over (Flying f (Testing place left passed)) u_next l = quiet o (Flying f (Testing place left passed)) tt tt
        by (Some o) u_over (Flying f Putting) u_next l =
            let same = met_same u hu us o f Putting u_over u_next l.0 l.1 l.2 fate in
            ((l.0, l.1, same ∙ l.2), put o f same)
        by (Some o) u_over (Flying f (Clearing entry left)) u_next l = quiet o (Flying f (Clearing entry left)) tt tt
        by (Some o) u_over (Flying f Freeing) u_next l = quiet o (Flying f Freeing) tt tt
        by (Some o) u_over (Flying f (Undoing entry left why)) u_next l = quiet o (Flying f (Undoing entry left why)) tt tt
        by (Some o) u_over (Flying f (Releasing why)) u_next l = quiet o (Flying f (Releasing why)) tt tt

    -- at the key of a put no other client shows anything
    pub other_leaves : (f : Flight) → v.next ≡ Flying f Putting → (t : ℕ) (key : List Value) → flight_key tables f ≡ row_key t key → AllOfKinds (key_types (table_at tables t)) key
        → (u : View) → ViewFits tables u → stances u.number ≡ stance_of tables u → LostHeld c u → (d : Content) → Leaves tables t key (shown_write tables d u.over u.next)
    other_leaves f v_next t key at kinds u hu us lost d = by u.over refl u.next refl lost
      where
        nothing : (o : Outcome) (next : Next) → IsNoPut tables sound next → Leaves tables t key (shown_write tables d (Some o) next)
        nothing o next q x = ap (λ (ws : List Write). effects tables t key ws x) (shown_quiet d o next q)

        elsewhere : (fu : Flight) → (flight_key tables fu ≡ flight_key tables f → ⊥) → IsWrite tables fu.write → (b : Bool) → Leaves tables t key (cond b (fu.write ∷ []) [])
        elsewhere fu apart w true x = ap (λ b. cond b (row_made fu.write x) x) (sym (same_bytes tables t key kinds fu.write w) ∙ key_apart (row_key t key) (pair_key tables fu.write) (λ e. apart (sym e ∙ sym at)))
        elsewhere fu apart w false x = refl

        put : (o : Outcome) (fu : Flight) → (flight_key tables fu ≡ flight_key tables f → ⊥) → IsWrite tables fu.write → Leaves tables t key (shown_write tables d (Some o) (Flying fu Putting))
        put outcome.Done fu apart w x = refl
        put (outcome.Refused why) fu apart w x = refl
        put (outcome.Busy found) fu apart w x = refl
        put (outcome.Conflict read found) fu apart w x = refl
        put outcome.Failed fu apart w x = elsewhere fu apart w (is_just (new_code tables fu) (present_code (get d (flight_key tables fu)))) x
        put outcome.NoMem fu apart w x = refl
        put (outcome.Damaged damage) fu apart w x = refl

        by : (over : Option Outcome) → u.over ≡ over → (next : Next) → u.next ≡ next → LostAt c u.number u.at over next → Leaves tables t key (shown_write tables d over next)
        by None u_over next u_next l = λ x. refl
        by (Some o) u_over Reading u_next l = nothing o Reading tt
        by (Some o) u_over (Taking f) u_next l = nothing o (Taking f) tt
        by (Some o) u_over (Looking f) u_next l = nothing o (Looking f) tt
        by (Some o) u_over (Flying f (Checking check left)) u_next l = nothing o (Flying f (Checking check left)) tt
        by (Some o) u_over (Flying f (Adding entry left added)) u_next l = nothing o (Flying f (Adding entry left added)) tt
        by (Some o) u_over (Flying f (Testing place left passed)) u_next l = nothing o (Flying f (Testing place left passed)) tt
        by (Some o) u_over (Flying fu Putting) u_next l =
            put o fu (not_own u hu us o fu Putting u_over u_next l.0 l.1 l.2 f Putting v_next) (subst (λ (n : Next). NextFits tables u n) u_next hu.next).0.write
        by (Some o) u_over (Flying f (Clearing entry left)) u_next l = nothing o (Flying f (Clearing entry left)) tt
        by (Some o) u_over (Flying f Freeing) u_next l = nothing o (Flying f Freeing) tt
        by (Some o) u_over (Flying f (Undoing entry left why)) u_next l = nothing o (Flying f (Undoing entry left why)) tt
        by (Some o) u_over (Flying f (Releasing why)) u_next l = nothing o (Flying f (Releasing why)) tt
