-- Each put is of a write of a client, and of each write there is one at most, also with those that failed at the put and show.
use Rattle.std.proofs.Common.{◌≡◌, ℕ, ◌==◌, Bool, true, false, cond, ◌⊎◌, inl, inr, List, [], ◌∷◌, ◌++◌, Option, Some, None, refl, sym, ap, ◌∙◌, subst, arith}
use Rattle.std.specs.List.{AllByRecursion, slice_get}
use Rattle.std.specs.FinMap.{get}
use Rattle.std.proofs.lemmas.Bool.{false≢true, eqb-false}
use Rattle.pq_base.specs.Members.{In}
use Rattle.pq_schema.specs.declared.table.Table.{Table}
use Rattle.pq_content.specs.Pairs.{Pair, content_pairs}
use Rattle.pq_content.specs.Tables.{Rows}
use Rattle.pq_store.specs.Content.{Content}
use Rattle.pq_index_keep.specs.declared.write.Write.{Write}
use Rattle.pq_index_keep.specs.Sound.{AreWritable}
use Rattle.pq_clients.specs.declared.outcome.Outcome.{Outcome}
use Rattle.pq_clients.specs.declared.outcome.Outcome.TheVariants as outcome
use Rattle.pq_clients.specs.declared.outcome.Step.{Step}
use Rattle.pq_clients.specs.declared.outcome.Step.TheVariants as step
use Rattle.pq_clients.specs.declared.outcome.Wrote.{Wrote}
use Rattle.pq_clients.specs.Flights.{Flight}
use Rattle.pq_clients.specs.Clients.{Checking, Adding, Testing, Putting, Clearing, Freeing, Undoing, Releasing, Next, Reading, Taking, Looking, Flying, View, flight_of, write_at}
use Rattle.pq_clients.specs.Steps.{stepped}
use Rattle.pq_clients.specs.Runs.{Event, Run, begun, put_by, turned, turn, run}
use Rattle.pq_clients.specs.Present.{write_named}
use Rattle.pq_clients.specs.Promises.{Begins, shows_put, shown_puts, all_puts, given, reached}
use Rattle.pq_clients.specs.Invariant.{NextFits, ViewFits}
use Rattle.pq_clients.proofs.Begin.{begins_holding}
use Rattle.pq_clients.proofs.Leads.{put_says}
use Rattle.pq_clients.proofs.Listed.{in_all}
use Rattle.pq_clients.proofs.Given.{named_by, IsNamed, are_named, given_same}
use Rattle.pq_clients.proofs.Once.{Once, all_both, once_at, all_map, all_snoc, all_nil, is_past, past_stage, Behind, PutsBehind, OnceRun, run_once}
use Rattle.pq_clients.proofs.Throughout.{holding}
use Rattle.pq_clients.proofs.Whole.{Differ, differ_from, at_place, Holding, turn_holds}

abbrev Apart : List Wrote → Wrote → Type 0
Apart ys x = AllByRecursion (λ (y : Wrote). x ≡ y → ⊥) ys

once_both : (xs ys : List Wrote) → Once xs → Once ys → AllByRecursion (Apart ys) xs → Once (xs ++ ys)
once_both [] ys a b apart = b
once_both (x ∷ xs) ys a b apart = (all_both (λ (y : Wrote). x ≡ y → ⊥) xs ys a.0 apart.0, once_both xs ys a.1 b apart.1)

module _ (tables : List Table) (c : Content) where
  abbrev at_hand : View → Wrote
  at_hand v = record { client = v.number; number = v.at }

  -- a client that shows its put is at it, and so not behind it
  shows_putting : (over : Option Outcome) (next : Next) → shows_put tables c over next ≡ true → (f : Flight) × (next ≡ Flying f Putting)
  shows_putting None next h = absurd (false≢true h)
  shows_putting (Some outcome.Done) next h = absurd (false≢true h)
  shows_putting (Some (outcome.Refused why)) next h = absurd (false≢true h)
  shows_putting (Some (outcome.Busy found)) next h = absurd (false≢true h)
  shows_putting (Some (outcome.Conflict read found)) next h = absurd (false≢true h)
  shows_putting (Some outcome.Failed) Reading h = absurd (false≢true h)
  shows_putting (Some outcome.Failed) (Taking f) h = absurd (false≢true h)
  shows_putting (Some outcome.Failed) (Looking f) h = absurd (false≢true h)
  shows_putting (Some outcome.Failed) (Flying f (Checking check left)) h = absurd (false≢true h)
  shows_putting (Some outcome.Failed) (Flying f (Adding entry left added)) h = absurd (false≢true h)
  shows_putting (Some outcome.Failed) (Flying f (Testing place left passed)) h = absurd (false≢true h)
  shows_putting (Some outcome.Failed) (Flying f Putting) h = (f, refl)
  shows_putting (Some outcome.Failed) (Flying f (Clearing entry left)) h = absurd (false≢true h)
  shows_putting (Some outcome.Failed) (Flying f Freeing) h = absurd (false≢true h)
  shows_putting (Some outcome.Failed) (Flying f (Undoing entry left why)) h = absurd (false≢true h)
  shows_putting (Some outcome.Failed) (Flying f (Releasing why)) h = absurd (false≢true h)
  shows_putting (Some outcome.NoMem) next h = absurd (false≢true h)
  shows_putting (Some (outcome.Damaged damage)) next h = absurd (false≢true h)

  put_past : (over : Option Outcome) (next : Next) → shows_put tables c over next ≡ true → is_past tables next ≡ false
  unfolding is_past past_stage
  put_past over next h = let f = shows_putting over next h in ap (is_past tables) f.1

  cond_all : (P : Wrote → Type 0) (b : Bool) (x : Wrote) (ys : List Wrote) → (b ≡ true → P x) → AllByRecursion P ys → AllByRecursion P (cond b (x ∷ []) [] ++ ys)
  cond_all P true x ys h all = (h refl, all)
  cond_all P false x ys h all = all

  -- what holds of each client that shows its put holds of what is shown
  all_shown : (P : Wrote → Type 0) (us : List View) → AllByRecursion (λ (u : View). shows_put tables c u.over u.next ≡ true → P (at_hand u)) us → AllByRecursion P (shown_puts tables c us)
  all_shown P [] all = tt
  all_shown P (u ∷ us) all = cond_all P (shows_put tables c u.over u.next) (at_hand u) (shown_puts tables c us) all.0 (all_shown P us all.1)

  shown_once : (us : List View) → Differ us → Once (shown_puts tables c us)
  shown_once [] d = tt
  shown_once (u ∷ us) d = by (shows_put tables c u.over u.next) (shown_once us d.1)
    where
      apart : Apart (shown_puts tables c us) (at_hand u)
      apart = all_shown (λ (y : Wrote). at_hand u ≡ y → ⊥) us (all_map (λ (w : View). (u.number == w.number) ≡ false) (λ (w : View). shows_put tables c w.over w.next ≡ true → at_hand u ≡ at_hand w → ⊥) us
          (λ w ne shows same. eqb-false u.number w.number ne (ap (λ (x : Wrote). x.client) same)) d.0)

      by : (b : Bool) → Once (shown_puts tables c us) → Once (cond b (at_hand u ∷ []) [] ++ shown_puts tables c us)
      by true rest = (apart, rest)
      by false rest = rest

  not_behind : (u : View) (n : ℕ) → n ≡ u.at → is_past tables u.next ≡ false → Behind tables u n → ⊥
  not_behind u n same early (inl lt) = absurd (omega arith)
  not_behind u n same early (inr p) = false≢true (sym early ∙ p.1)

  puts_apart : (us : List View) (puts : List Wrote) → PutsBehind tables us puts → AllByRecursion (Apart (shown_puts tables c us)) puts
  puts_apart us puts all = all_map (λ (x : Wrote). AllByRecursion (λ (v : View). v.number ≡ x.client → Behind tables v x.number) us) (Apart (shown_puts tables c us)) puts
      (λ x behind. all_shown (λ (y : Wrote). x ≡ y → ⊥) us (all_map (λ (v : View). v.number ≡ x.client → Behind tables v x.number) (λ (v : View). shows_put tables c v.over v.next ≡ true → x ≡ at_hand v → ⊥) us
      (λ v h shows same. not_behind v x.number (ap (λ (x : Wrote). x.number) same) (put_past v.over v.next shows) (h (sym (ap (λ (x : Wrote). x.client) same)))) behind)) all

  all_puts_once : (us : List View) (puts : List Wrote) → Differ us → PutsBehind tables us puts → Once puts → Once (puts ++ shown_puts tables c us)
  all_puts_once us puts d behind once = once_both puts (shown_puts tables c us) once (shown_once us d) (puts_apart us puts behind)

-- ---- each put names a write
module _ (tables : List Table) (clients : List View) where
  abbrev NamesWrite : Wrote → Type 0
  NamesWrite wrote = (w : Write) × (write_named clients wrote ≡ w ∷ [])

  own_named : (vs : List View) (v : View) (f : Flight) → given vs ≡ given clients → IsNamed tables vs v → v.next ≡ Flying f Putting → NamesWrite (record { client = v.number; number = v.at })
  own_named vs v f same named flying = (f.write, sym (named_by vs clients (record { client = v.number; number = v.at }) same) ∙ named f flying)

  module _ (sound : AreWritable tables) (others : List ℕ → Option (List ℕ)) where
    turn_named : (r : Run) (e : Event) (o : Option View) → slice_get r.clients e.place ≡ o → Holding tables sound others r → given r.clients ≡ given clients → AllByRecursion NamesWrite r.puts → AllByRecursion NamesWrite (turned tables r e o).puts
    turn_named r e None is h same all = all
    turn_named r e (Some v) is h same all = by (stepped tables v r.content e.fate).step refl
      where
        by : (s : Step) → (stepped tables v r.content e.fate).step ≡ s → AllByRecursion NamesWrite (r.puts ++ put_by s)
        by step.Moved says = all_nil NamesWrite r.puts all
        by (step.Put wrote) says =
            let p = put_says tables v r.content e.fate wrote says in
            all_snoc NamesWrite r.puts wrote all (subst NamesWrite (sym p.0) (own_named r.clients v p.1.0 same (at_place (IsNamed tables r.clients) r.clients e.place v (are_named tables r.clients h.differ h.views) is) p.1.1))
        by (step.Tells told) says = all_nil NamesWrite r.puts all
        by step.Over says = all_nil NamesWrite r.puts all

    run_named : (es : List Event) (r : Run) → Holding tables sound others r → given r.clients ≡ given clients → AllByRecursion NamesWrite r.puts → AllByRecursion NamesWrite (run tables r es).puts
    run_named [] r h same all = all
    run_named (e ∷ es) r h same all =
        run_named es (turn tables r e) (turn_holds tables sound others r e h) (given_same tables (e ∷ []) r ∙ same) (turn_named r e (slice_get r.clients e.place) refl h same all)

  module _ (rows : Rows) (others : List Pair) (b : Begins tables rows others clients) (events : List Event) where
    abbrev c0 : Content
    c0 = content_pairs tables rows others

    abbrev r : Run
    r = reached tables rows others clients events

    h : Holding tables b.sound (get c0) r
    h = holding tables rows others clients b events

    same : given r.clients ≡ given clients
    same = given_same tables events (begun c0 clients)

    each_named : AllByRecursion NamesWrite (all_puts tables r)
    each_named = all_both NamesWrite r.puts (shown_puts tables r.content r.clients)
        (run_named b.sound (get c0) events (begun c0 clients) (begins_holding tables rows others clients b) refl tt)
        (all_shown tables r.content NamesWrite r.clients (all_map (IsNamed tables r.clients) (λ (u : View). shows_put tables r.content u.over u.next ≡ true → NamesWrite (record { client = u.number; number = u.at })) r.clients
        (λ u named shows. let f = shows_putting tables r.content u.over u.next shows in own_named r.clients u f.0 same named f.1) (are_named tables r.clients h.differ h.views)))

    once : OnceRun tables r
    once = run_once tables events (begun c0 clients) (record { differ = differ_from clients b.fresh.differ; behind = tt; once = tt })

    -- each put is of a write of a client
    all_named_at : (wrote : Wrote) → In wrote (all_puts tables r) → (w : Write) × (write_named clients wrote ≡ w ∷ [])
    all_named_at wrote i = in_all tables NamesWrite wrote (all_puts tables r) each_named i

    -- of each write there is one put at most
    all_once_at : (front back : List Wrote) (wrote : Wrote) → all_puts tables r ≡ front ++ wrote ∷ back → (In wrote front ⊎ In wrote back) → ⊥
    all_once_at front back wrote is = once_at front back wrote (subst Once is (all_puts_once tables r.content r.clients r.puts once.differ once.behind once.once))

    -- what a client does it does for its write at hand
    hand : (v : View) (next : Next) → NextFits tables v next → (f : Flight) → flight_of next ≡ Some f → write_at v.writes v.at ≡ Some f.write
    hand v Reading fits f is = absurd (cc)
    hand v (Taking g) fits f is = let same : g ≡ f = cc in fits.1 ∙ ap (λ (f : Flight). Some f.write) same
    hand v (Looking g) fits f is = let same : g ≡ f = cc in fits.1 ∙ ap (λ (f : Flight). Some f.write) same
    hand v (Flying g stage) fits f is = let same : g ≡ f = cc in fits.1 ∙ ap (λ (f : Flight). Some f.write) same

module _ (tables : List Table) (rows : Rows) (others : List Pair) (clients : List View) (b : Begins tables rows others clients) (events : List Event) where
  pub all_named : (wrote : Wrote) → In wrote (all_puts tables (reached tables rows others clients events)) → (w : Write) × (write_named clients wrote ≡ w ∷ [])
  all_named wrote i = all_named_at tables clients rows others b events wrote i

  pub all_once : (front back : List Wrote) (wrote : Wrote) → all_puts tables (reached tables rows others clients events) ≡ front ++ wrote ∷ back → (In wrote front ⊎ In wrote back) → ⊥
  all_once front back wrote is = all_once_at tables clients rows others b events front back wrote is

  pub at_hand_of : (p : ℕ) (v : View) (f : Flight) → slice_get (reached tables rows others clients events).clients p ≡ Some v → flight_of v.next ≡ Some f → write_at v.writes v.at ≡ Some f.write
  at_hand_of p v f here is =
      let h = holding tables rows others clients b events in
      hand tables clients rows others b events v v.next (at_place (ViewFits tables) (reached tables rows others clients events).clients p v h.views here).next f is
