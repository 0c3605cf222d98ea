-- Numbers and writes of clients never change, so the writes that were made are those of the lists that the clients had at first.
use Rattle.std.proofs.Common.{◌≡◌, ℕ, zero, suc, ◌==◌, Bool, true, false, cond, List, [], ◌∷◌, ◌++◌, Option, Some, None, refl, sym, ap, ◌∙◌, subst}
use Rattle.std.specs.Prelude.{slice_set}
use Rattle.std.specs.List.{AllByRecursion, slice_get}
use Rattle.std.specs.FinMap.{get}
use Rattle.pq_schema.specs.declared.table.Table.{Table}
use Rattle.pq_content.specs.Pairs.{Pair, content_pairs}
use Rattle.pq_content.specs.Tables.{Rows}
use Rattle.pq_store.specs.Content.{Content}
use Rattle.pq_index_keep.specs.declared.write.Write.{Write}
use Rattle.pq_clients.specs.declared.outcome.Outcome.{Outcome}
use Rattle.pq_clients.specs.declared.outcome.Outcome.TheVariants as outcome
use Rattle.pq_clients.specs.declared.outcome.Wrote.{Wrote}
use Rattle.pq_clients.specs.Held.{present_code}
use Rattle.pq_clients.specs.Flights.{Flight, flight_key, new_code}
use Rattle.pq_clients.specs.Clients.{Checking, Adding, Testing, Putting, Clearing, Freeing, Undoing, Releasing, Next, Reading, Taking, Looking, Flying, View, write_at}
use Rattle.pq_clients.specs.Steps.{is_just, stepped}
use Rattle.pq_clients.specs.Runs.{Event, Run, begun, turned, turn, run}
use Rattle.pq_clients.specs.Present.{found_write, write_named, writes_named}
use Rattle.pq_clients.specs.Promises.{Begins, shows_put, shown_puts, made_writes, given, reached}
use Rattle.pq_clients.specs.Invariant.{NextFits, ViewFits}
use Rattle.pq_clients.proofs.Fewer.{step_writes}
use Rattle.pq_clients.proofs.Once.{step_number}
use Rattle.pq_clients.proofs.Shows.{shown_write, shown_writes, made_now, named-append}
use Rattle.pq_clients.proofs.Throughout.{holding}
use Rattle.pq_clients.proofs.Whole.{Differ, at_place}
use Rattle.pq_clients.proofs.Written.{named_here, all_by_place}

-- ---- numbers and writes
given_set : (vs : List View) (p : ℕ) (v w : View) → slice_get vs p ≡ Some v → w.number ≡ v.number → w.writes ≡ v.writes → given (slice_set vs p w) ≡ given vs
given_set [] p v w is number writes = refl
given_set (x ∷ vs) zero v w is number writes =
    let here : x ≡ v = cc in
    ap (λ n. (n, w.writes) ∷ given vs) (number ∙ ap (λ (v : View). v.number) (sym here)) ∙ ap (λ (ws : List Write). (x.number, ws) ∷ given vs) (writes ∙ ap (λ (v : View). v.writes) (sym here))
given_set (x ∷ vs) (suc p) v w is number writes = ap (λ (xs : List (ℕ × List Write)). (x.number, x.writes) ∷ xs) (given_set vs p v w is number writes)

-- what is named goes by numbers and writes alone
pub named_by : (vs us : List View) (wrote : Wrote) → given vs ≡ given us → write_named vs wrote ≡ write_named us wrote
named_by [] [] wrote same = refl
named_by [] (u ∷ us) wrote same = absurd (cc)
named_by (v ∷ vs) [] wrote same = absurd (cc)
named_by (v ∷ vs) (u ∷ us) wrote same =
    let head : ◌≡◌ {A = ℕ × List Write} (v.number, v.writes) (u.number, u.writes) = cc in
    let tail : given vs ≡ given us = cc in
    let number : v.number ≡ u.number = ap (λ (x : ℕ × List Write). x.0) head in
    let writes : v.writes ≡ u.writes = ap (λ (x : ℕ × List Write). x.1) head in
    ap (λ n. cond (n == wrote.client) (found_write (write_at v.writes wrote.number)) (write_named vs wrote)) number
    ∙ ap (λ (ws : List Write). cond (u.number == wrote.client) (found_write (write_at ws wrote.number)) (write_named vs wrote)) writes
    ∙ ap (cond (u.number == wrote.client) (found_write (write_at u.writes wrote.number))) (named_by vs us wrote tail)

all_named_by : (vs us : List View) (puts : List Wrote) → given vs ≡ given us → writes_named vs puts ≡ writes_named us puts
all_named_by vs us [] same = refl
all_named_by vs us (x ∷ puts) same = λ i. named_by vs us x same i ++ all_named_by vs us puts same i

module _ (tables : List Table) where
  turn_given : (r : Run) (e : Event) (o : Option View) → slice_get r.clients e.place ≡ o → given (turned tables r e o).clients ≡ given r.clients
  turn_given r e None is = refl
  turn_given r e (Some v) is = given_set r.clients e.place v (stepped tables v r.content e.fate).view is (step_number tables v r.content e.fate) (step_writes tables v r.content e.fate)

  -- no client's number or list changes
  pub given_same : (es : List Event) (r : Run) → given (run tables r es).clients ≡ given r.clients
  given_same [] r = refl
  given_same (e ∷ es) r = given_same es (turn tables r e) ∙ turn_given r e (slice_get r.clients e.place) refl

  -- ---- the writes that failed at their put and show
  abbrev named_put : List View → Content → View → List Write
  named_put vs c v = writes_named vs (cond (shows_put tables c v.over v.next) (record { client = v.number; number = v.at } ∷ []) [])

  -- the client's write at hand is the one that it makes
  abbrev pub IsNamed : List View → View → Type 0
  IsNamed vs v = (f : Flight) → v.next ≡ Flying f Putting → write_named vs (record { client = v.number; number = v.at }) ≡ f.write ∷ []

  put_named : (vs : List View) (c : Content) (v : View) → IsNamed vs v → named_put vs c v ≡ shown_write tables c v.over v.next
  put_named vs c v h = by v.over v.next refl
    where
      wrote : Wrote
      wrote = record { client = v.number; number = v.at }

      shown : (f : Flight) → v.next ≡ Flying f Putting → (b : Bool) → writes_named vs (cond b (wrote ∷ []) []) ≡ cond b (f.write ∷ []) []
      shown f is true = ap (λ (ws : List Write). ws ++ []) (h f is)
      shown f is false = refl

      by : (over : Option Outcome) (next : Next) → v.next ≡ next → writes_named vs (cond (shows_put tables c over next) (wrote ∷ []) []) ≡ shown_write tables c over next
      by None next is = refl
      by (Some outcome.Done) next is = refl
      by (Some (outcome.Refused why)) next is = refl
      by (Some (outcome.Busy found)) next is = refl
      by (Some (outcome.Conflict read found)) next is = refl
      by (Some outcome.Failed) Reading is = refl
      by (Some outcome.Failed) (Taking f) is = refl
      by (Some outcome.Failed) (Looking f) is = refl
      by (Some outcome.Failed) (Flying f (Checking check left)) is = refl
      by (Some outcome.Failed) (Flying f (Adding entry left added)) is = refl
      by (Some outcome.Failed) (Flying f (Testing place left passed)) is = refl
      by (Some outcome.Failed) (Flying f Putting) is = shown f is (is_just (new_code tables f) (present_code (get c (flight_key tables f))))
      by (Some outcome.Failed) (Flying f (Clearing entry left)) is = refl
      by (Some outcome.Failed) (Flying f Freeing) is = refl
      by (Some outcome.Failed) (Flying f (Undoing entry left why)) is = refl
      by (Some outcome.Failed) (Flying f (Releasing why)) is = refl
      by (Some outcome.NoMem) next is = refl
      by (Some (outcome.Damaged damage)) next is = refl

  puts_named : (vs : List View) (c : Content) (us : List View) → AllByRecursion (IsNamed vs) us → writes_named vs (shown_puts tables c us) ≡ shown_writes tables c us
  puts_named vs c [] all = refl
  puts_named vs c (u ∷ us) all =
      named-append vs (cond (shows_put tables c u.over u.next) (record { client = u.number; number = u.at } ∷ []) []) (shown_puts tables c us)
      ∙ ap (λ (ws : List Write). ws ++ writes_named vs (shown_puts tables c us)) (put_named vs c u all.0)
      ∙ ap (λ (ws : List Write). shown_write tables c u.over u.next ++ ws) (puts_named vs c us all.1)

  pub are_named : (vs : List View) → Differ vs → AllByRecursion (ViewFits tables) vs → AllByRecursion (IsNamed vs) vs
  are_named vs d views = all_by_place (IsNamed vs) vs
      (λ p v here f flying. named_here vs p v v.at f.write d here (subst (λ (n : Next). NextFits tables v n) flying (at_place (ViewFits tables) vs p v views here).next).1)

  module _ (rows : Rows) (others : List Pair) (clients : List View) (b : Begins tables rows others clients) (events : List Event) where
    -- the writes that were made are those of the lists that the clients had at first
    pub made_by_lists : made_now tables (reached tables rows others clients events) ≡ made_writes tables clients (reached tables rows others clients events)
    made_by_lists =
        let r = reached tables rows others clients events in
        let h = holding tables rows others clients b events in
        ap (λ (ws : List Write). writes_named r.clients r.puts ++ ws) (sym (puts_named r.clients r.content r.clients (are_named r.clients h.differ h.views)))
        ∙ sym (named-append r.clients r.puts (shown_puts tables r.content r.clients))
        ∙ all_named_by r.clients clients (r.puts ++ shown_puts tables r.content r.clients) (given_same events (begun (content_pairs tables rows others) clients))
