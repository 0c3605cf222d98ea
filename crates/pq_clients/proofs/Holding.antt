-- All that holds of every schedule, as one record.
use Rattle.std.proofs.Common.{◌≡◌, ℕ, false, cond, inl, inr, List, Some, sym, ap, ◌∙◌, subst}
use Rattle.std.specs.List.{slice_get}
use Rattle.std.specs.FinMap.{get}
use Rattle.pq_schema.specs.declared.table.Table.{Table}
use Rattle.pq_content.specs.Pairs.{Pair, content_pairs}
use Rattle.pq_content.specs.Tables.{Rows}
use Rattle.pq_index_keep.proofs.Inserting.{each_by}
use Rattle.pq_store.specs.Content.{Content}
use Rattle.pq_clients.specs.declared.outcome.Outcome.{Outcome}
use Rattle.pq_clients.specs.declared.outcome.Outcome.TheVariants as outcome
use Rattle.pq_clients.specs.declared.outcome.Step.{Step}
use Rattle.pq_clients.specs.declared.outcome.Step.TheVariants as step
use Rattle.pq_clients.specs.declared.outcome.Told.{Told}
use Rattle.pq_clients.specs.Clients.{Next, View, write_at, is_over}
use Rattle.pq_clients.specs.Steps.{After, Fate, Answers, NotDone, DoneUnseen, NoMemory, met, stepped, tells}
use Rattle.pq_clients.specs.Runs.{Event, Run, begun, run}
use Rattle.pq_clients.specs.Invariant.{NextFits, ViewFits}
use Rattle.pq_clients.specs.Promises.{IsFresh, Begins, TellsOutcome, HasReason, IsFailure, IsEndOf, HasCauses, TellsShown, HoldsThroughout, reached}
use Rattle.pq_clients.proofs.Throughout.{holding, present_kept, beside_kept, rests_settled}
use Rattle.pq_clients.proofs.Together.{shows_writes, done_told, told_in_order}
use Rattle.pq_clients.proofs.Whole.{stances_of, own_stance, at_place, are_passed}
use Rattle.pq_clients.proofs.Causes.{turns_shown}
use Rattle.pq_clients.proofs.Exact.{exact_told}
use Rattle.pq_clients.proofs.Failures.{failure_told}
use Rattle.pq_clients.proofs.Reasons.{TellsTests, fresh_tests, run_tests, reason_told}
use Rattle.pq_clients.proofs.Looks.{looks_missed, missed_looks}
use Rattle.pq_clients.proofs.Shown.{tells_shown, none_shown, released_of}
use Rattle.pq_clients.proofs.FewCalls.{few_calls}
use Rattle.pq_clients.proofs.Moments.{says_all}
use Rattle.pq_clients.proofs.Rounds.{comes_to_end}
use Rattle.pq_clients.proofs.Listed.{TellFacts, step_tells}
use Rattle.pq_clients.proofs.Leads.{OfNext, own_test, reads_taken, takes_found, looks_going}
use Rattle.pq_clients.proofs.Ofs.{OfView, run_of, fresh_of}
use Rattle.pq_clients.proofs.DueEntries.{due_entries}
use Rattle.pq_clients.proofs.OwnEntries.{own_entries}
use Rattle.pq_clients.proofs.InOrder.{tests_in_order}

-- ---- calls that fail
module _ (tables : List Table) where
  going_met : (v : View) (c : Content) (fate : Fate) → is_over v ≡ false → stepped tables v c fate ≡ met tables v c fate
  going_met v c fate going = ap (λ b. cond b (record { content = c; view = v; step = step.Over }) (met tables v c fate)) going

  -- a call that fails or finds no memory is told so, and ends its client
  pub failed_ends : (v : View) (c : Content) (fate : Fate) (o : Outcome) → is_over v ≡ false → IsEndOf fate o
      → TellsOutcome tables v c fate o × ((stepped tables v c fate).view ≡ record v { over = Some o })
  failed_ends v c fate o going ends =
      let m = by fate o ends in
      (ap (λ (a : After). a.step) (going_met v c fate going) ∙ m.0, ap (λ (a : After). a.view) (going_met v c fate going) ∙ m.1)
    where
      by : (fate : Fate) (o : Outcome) → IsEndOf fate o → ((met tables v c fate).step ≡ tells v o) × ((met tables v c fate).view ≡ record v { over = Some o })
      by Answers o ends = absurd ends
      by NotDone o ends = (ap (tells v) (sym ends), ap (λ (o : Outcome). record v { over = Some o }) (sym ends))
      by DoneUnseen o ends = (ap (tells v) (sym ends), ap (λ (o : Outcome). record v { over = Some o }) (sym ends))
      by NoMemory o ends = (ap (tells v) (sym ends), ap (λ (o : Outcome). record v { over = Some o }) (sym ends))

module _ (tables : List Table) (rows : Rows) (others : List Pair) (clients : List View) (b : Begins tables rows others clients) where
  -- what is told has its reason, and where the reason is there it is told
  pub has_causes : (events : List Event) (p : ℕ) (v : View) (fate : Fate) → slice_get (reached tables rows others clients events).clients p ≡ Some v → HasCauses tables v (reached tables rows others clients events).content fate
  has_causes events p v fate is =
      record {
        told = by_told;
        fails = λ o going ends. failed_ends tables v r.content fate o going ends;
        exact = λ o exact going answered reason. exact_told tables v r.content fate o exact going answered reason;
        turns = λ f stage why is tell. let t = turns_shown tables v r.content fate f stage why is tell in
            (t.0, t.1, elim t.2 [ inl before ↦ inl before | inr shows ↦ inr (shows.0, shows.1, own_test tables f t.0 (subst (λ (n : Next). OfNext tables n) t.1 own).1, shows.2) ]);
        reads = λ f is. reads_taken tables v r.content fate f is;
        takes = λ f stage is. takes_found tables v r.content fate f stage is;
        looks = λ f is. elim (looks_going tables v r.content fate f is) [
          | inl before ↦ inl before
          | inr from ↦ elim (looks_missed tables v r.content fate f is) [
            | inl before ↦ inl before
            | inr missed ↦ inr (missed.0, from.0, from.1, missed.1)
          ]
        ];
        misses = λ f taking other going answered. missed_looks tables v r.content fate f taking other going answered;
      }
    where
      r : Run
      r = reached tables rows others clients events

      own : OfNext tables v.next
      own = at_place (OfView tables) r.clients p v (run_of tables events (begun (content_pairs tables rows others) clients) (fresh_of tables clients (each_by (IsFresh tables) clients b.fresh.each))) is

      outcome_told : (o : Outcome) → TellsOutcome tables v r.content fate o → HasReason tables v r.content o × IsFailure o fate
      outcome_told o told =
          let h = holding tables rows others clients b events in
          let tests = run_tests tables events (begun (content_pairs tables rows others) clients) (fresh_tests tables clients (each_by (IsFresh tables) clients b.fresh.each)) in (
            reason_told tables b.sound (get (content_pairs tables rows others)) r.content (stances_of tables r.clients) h.shaped h.good (are_passed tables r.clients h.views)
                v (at_place (ViewFits tables) r.clients p v h.views is) (own_stance tables r.clients p v h.differ is) (at_place (λ (v : View). TellsTests v.next) r.clients p v tests is) fate o told,
            failure_told tables v r.content fate o told,
          )

      by_told : (t : Told) → (stepped tables v r.content fate).step ≡ step.Tells t → (t.client ≡ v.number) × (t.number ≡ v.at) × HasReason tables v r.content t.outcome × IsFailure t.outcome fate
      by_told t tells =
          let f = subst (λ (s : Step). TellFacts tables s v) tells (step_tells tables v r.content fate) in
          let same : t ≡ record { client = v.number; number = v.at; outcome = t.outcome } = λ i. record { client = f.0 i; number = f.1 i; outcome = t.outcome } in
          let o = outcome_told t.outcome (tells ∙ ap (λ (t : Told). step.Tells t) same) in
          (f.0, f.1, o.0, o.1)

  -- the refusal of a test is told only of a write of which a call showed it
  shown_told : (events : List Event) → TellsShown tables (begun (content_pairs tables rows others) clients) events
  shown_told events client number why test told =
      let start = begun (content_pairs tables rows others) clients in
      let w = tells_shown tables start (λ done e v why own test told. released_of tables v (run tables start done).content why test ((has_causes done e.place v e.fate own).told (record { client = v.number; number = v.at; outcome = outcome.Refused why }) told).2)
      (record { next = none_shown tables start clients (each_by (IsFresh tables) clients b.fresh.each); told = tt }) events client number why test told in
      let h = holding tables rows others clients b w.front in
      let fits = subst (λ (n : Next). NextFits tables w.view n) w.flies (at_place (ViewFits tables) (run tables start w.front).clients w.event.place w.view h.views w.own).next in
      let own = at_place (OfView tables) (run tables start w.front).clients w.event.place w.view (run_of tables w.front start (fresh_of tables clients (each_by (IsFresh tables) clients b.fresh.each))) w.own in
      record {
        front = w.front;
        event = w.event;
        back = w.back;
        split = w.split;
        view = w.view;
        own = w.own;
        client_is = w.client_is;
        number_is = w.number_is;
        going = w.going;
        answers = w.answers;
        flight = w.flight;
        stage = w.stage;
        flies = w.flies;
        write_is = subst (λ n. write_at w.view.writes n ≡ Some w.flight.write) w.number_is fits.1;
        own_test = own_test tables w.flight w.stage (subst (λ (n : Next). OfNext tables n) w.flies own).1;
        shows = w.shows;
      }

  pub holds_throughout : (events : List Event) → HoldsThroughout tables rows others clients events
  holds_throughout events = record {
    kept = present_kept tables rows others clients b events;
    shows = shows_writes tables rows others clients b events;
    due = due_entries tables rows others clients b events;
    own = own_entries tables rows others clients b events;
    done = done_told tables rows others clients b events;
    order = told_in_order tables rows others clients b events;
    rests = rests_settled tables rows others clients b events;
    beside = λ q out. beside_kept tables rows others clients b events q out;
    causes = has_causes events;
    said = says_all tables (content_pairs tables rows others) clients events;
    shown = shown_told events;
    end = comes_to_end tables (content_pairs tables rows others) clients events (each_by (IsFresh tables) clients b.fresh.each);
    tests = tests_in_order tables (begun (content_pairs tables rows others) clients) (each_by (IsFresh tables) clients b.fresh.each) events;
    few = few_calls tables (content_pairs tables rows others) clients events b.fresh;
  }
