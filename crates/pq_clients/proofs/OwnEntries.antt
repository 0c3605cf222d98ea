-- Each entry that is there is one of the row present at its key, or of the write that holds the key.
use Rattle.std.proofs.Common.{◌≡◌, ℕ, zero, suc, ◌==◌, true, false, cond, ◌||◌, inl, inr, List, [], ◌∷◌, Option, Some, None, is_some, refl, sym, ap, ◌∙◌, subst}
use Rattle.std.specs.List.{slice_get}
use Rattle.std.specs.FinMap.{get}
use Rattle.std.proofs.lemmas.Bool.{eqb-true, false≢true}
use Rattle.pq_schema.specs.declared.table.Table.{Table}
use Rattle.pq_content.specs.Pairs.{Pair, is_in_space, content_pairs}
use Rattle.pq_content.specs.Tables.{Rows}
use Rattle.pq_store.specs.Content.{Content}
use Rattle.pq_clients.specs.declared.outcome.Outcome.{Outcome}
use Rattle.pq_clients.specs.Held.{Cell, Free, Held, cell_of, present_code}
use Rattle.pq_clients.specs.Flights.{Flight, flight_key}
use Rattle.pq_clients.specs.Clients.{Stage, Checking, Adding, Testing, Putting, Clearing, Freeing, Undoing, Releasing, Next, Reading, Taking, Looking, Flying, View, flight_of}
use Rattle.pq_clients.specs.Runs.{Event, Run}
use Rattle.pq_clients.specs.Promises.{Begins, reached, IsOfHolder, HasOwnEntries}
use Rattle.pq_clients.specs.Invariant.{has_code_entry, Names, is_old, is_new, is_due, Stance, Idle, stance_at, stance_of, cell_at, IsHolder, HeldWell, present_at_cell, extra_by, extra_at, StageFits, NextFits, ViewFits}
use Rattle.pq_clients.proofs.Basics.{or_first, or_second, either_of, as_cell, cell_is}
use Rattle.pq_clients.proofs.Throughout.{holding}
use Rattle.pq_clients.proofs.Whole.{stances_of, at_place, Holding}

-- a key that names a row is the key of a row's pair
row_space : (tables : List Table) (k e : List ℕ) → Names tables k e → is_in_space 2 k ≡ true
row_space tables k e names = subst (λ (k : List ℕ). is_in_space 2 k ≡ true) names.key_is refl

present_of_get : (o : Option (List ℕ)) → present_at_cell (as_cell o) ≡ present_code o
present_of_get None = refl
present_of_get (Some value) = refl

present_is : (c : Content) (k : List ℕ) → is_in_space 2 k ≡ true → present_at_cell (cell_at c k) ≡ present_code (get c k)
present_is c k space = ap present_at_cell (cell_is c k (get c k) space refl) ∙ present_of_get (get c k)

-- a pair that is held
record HeldPair (c : Content) (k : List ℕ) (x : Cell) : Type 0 where
  pub value : List ℕ
  pub there : get c k ≡ Some value
  pub held : cell_of value ≡ x

held_pair : (c : Content) (k : List ℕ) (x : Cell) → is_in_space 2 k ≡ true → cell_at c k ≡ Some x → HeldPair c k x
held_pair c k x space is = by (get c k) refl
  where
    by : (o : Option (List ℕ)) → get c k ≡ o → HeldPair c k x
    by None e = let wrong : ◌≡◌ {A = Option Cell} None (Some x) = sym (cell_is c k None space e) ∙ is in absurd (cc)
    by (Some value) e =
        let same : ◌≡◌ {A = Option Cell} (Some (cell_of value)) (Some x) = sym (cell_is c k (Some value) space e) ∙ is in
        record { value = value; there = e; held = cc }

module _ (tables : List Table) where
  -- the client with a number that isn't idle
  record Numbered (vs : List View) (i : ℕ) : Type 0 where
    pub place : ℕ
    pub view : View
    pub there : slice_get vs place ≡ Some view
    pub number : i ≡ view.number
    pub stance : stances_of tables vs i ≡ stance_of tables view

  numbered : (vs : List View) (i : ℕ) → (stances_of tables vs i ≡ Idle → ⊥) → Numbered vs i
  numbered [] i busy = absurd (busy refl)
  numbered (v ∷ vs) i busy = elim (i == v.number) as (λ b. (i == v.number) ≡ b → Numbered (v ∷ vs) i) [
    | true ↦ λ is. record {
      place = zero;
      view = v;
      there = refl;
      number = eqb-true i v.number is;
      stance = ap (λ b. cond b (stance_of tables v) (stances_of tables vs i)) is;
    }
    | false ↦ λ is. let behind : stances_of tables (v ∷ vs) i ≡ stances_of tables vs i = ap (λ b. cond b (stance_of tables v) (stances_of tables vs i)) is in
        let n = numbered vs i (λ idle. busy (behind ∙ idle)) in
        record { place = suc n.place; view = n.view; there = n.there; number = n.number; stance = behind ∙ n.stance }
  ] refl

  -- what is due is of the old row or of the new one
  due_of : (f : Flight) (stage : Stage) → StageFits tables f stage → (e : List ℕ) → is_due tables f stage e ≡ true → (is_old tables f e || is_new tables f e) ≡ true
  due_of f (Checking check left) fits e due = absurd (false≢true due)
  due_of f (Adding entry left added) fits e due = or_second (is_old tables f e) (is_new tables f e) ((fits e).1 due)
  due_of f (Testing place left passed) fits e due = or_second (is_old tables f e) (is_new tables f e) due
  due_of f Putting fits e due = or_second (is_old tables f e) (is_new tables f e) due
  due_of f (Clearing entry left) fits e due = or_first (is_old tables f e) (is_new tables f e) (fits.0 e due).1
  due_of f Freeing fits e due = absurd (false≢true due)
  due_of f (Undoing entry left why) fits e due = or_second (is_old tables f e) (is_new tables f e) (fits.0 e due).1
  due_of f (Releasing why) fits e due = absurd (false≢true due)

  -- the flight of a holder, and an entry that it may have beside those of the row present
  record Holder (at : ℕ) (next : Next) (k : List ℕ) (m : ℕ) (e : List ℕ) : Type 0 where
    pub flight : Flight
    pub flies : flight_of next ≡ Some flight
    pub key_is : flight_key tables flight ≡ k
    pub at_is : at ≡ m
    pub of_rows : (is_old tables flight e || is_new tables flight e) ≡ true

  holder_of : (v : View) (at : ℕ) (over : Option Outcome) (next : Next) → NextFits tables v next → (k : List ℕ) (m : ℕ) (p : Option (List ℕ)) → IsHolder (stance_at tables at over next) k m p
      → (e : List ℕ) → extra_by (stance_at tables at over next) e ≡ true → Holder at next k m e
  holder_of v at over Reading fits k m p holder e extra = absurd holder
  holder_of v at None (Taking f) fits k m p holder e extra = absurd holder
  holder_of v at (Some o) (Taking f) fits k m p holder e extra =
      record { flight = f; flies = refl; key_is = holder.0; at_is = holder.1; of_rows = extra }
  holder_of v at over (Looking f) fits k m p holder e extra = absurd holder
  holder_of v at None (Flying f stage) fits k m p holder e extra =
      record { flight = f; flies = refl; key_is = holder.0; at_is = holder.1; of_rows = due_of f stage fits.2 e extra }
  holder_of v at (Some o) (Flying f stage) fits k m p holder e extra =
      record { flight = f; flies = refl; key_is = holder.0; at_is = holder.1; of_rows = extra }

module _ (tables : List Table) (rows : Rows) (pairs : List Pair) (clients : List View) (b : Begins tables rows pairs clients) (events : List Event) where
  abbrev r : Run
  r = reached tables rows pairs clients events

  h : Holding tables b.sound (get (content_pairs tables rows pairs)) r
  h = holding tables rows pairs clients b events

  -- an entry beside those of the row present is of the write that holds the key
  of_holder : (k e : List ℕ) → is_in_space 2 k ≡ true → (x : Option Cell) → cell_at r.content k ≡ x → HeldWell x (stances_of tables r.clients) k → extra_at x (stances_of tables r.clients) e ≡ true → IsOfHolder tables r k e
  of_holder k e space None is held extra = absurd (false≢true extra)
  of_holder k e space (Some (Free code)) is held extra = absurd (false≢true extra)
  of_holder k e space (Some (Held i m p)) is held extra =
      let n = numbered tables r.clients i (λ idle. subst (λ (s : Stance). IsHolder s k m p) idle held) in
      let view = at_place (ViewFits tables) r.clients n.place n.view h.views n.there in
      let w = holder_of tables n.view n.view.at n.view.over n.view.next view.next k m p (subst (λ (s : Stance). IsHolder s k m p) n.stance held) e (sym (ap (λ (s : Stance). extra_by s e) n.stance) ∙ extra) in
      let pair = held_pair r.content k (Held i m p) space is in
      record {
        place = n.place;
        view = n.view;
        flight = w.flight;
        value = pair.value;
        present = p;
        writes = n.there;
        flies = w.flies;
        key_is = w.key_is;
        there = pair.there;
        held = pair.held ∙ ap (λ (i : ℕ). Held i m p) n.number ∙ ap (λ (m : ℕ). Held n.view.number m p) (sym w.at_is);
        of_rows = w.of_rows;
      }

  pub own_entries : HasOwnEntries tables r
  own_entries e value space is =
      let shape = h.shaped.entries e value space is in
      let k = shape.0.0 in
      let names = shape.0.1 in
      let row = row_space tables k e names in
      let good = h.good.keys k in
      record {
        key = k;
        names = names;
        empty = shape.1;
        own = elim (either_of (has_code_entry tables k (present_at_cell (cell_at r.content k)) e) (extra_at (cell_at r.content k) (stances_of tables r.clients) e) (good.upper e names (ap is_some is))) [
          | inl present ↦ inl (ap (λ (p : Option (List ℕ)). has_code_entry tables k p e) (sym (present_is r.content k row)) ∙ present)
          | inr extra ↦ inr (of_holder k e row (cell_at r.content k) refl good.held extra)
        ];
      }
