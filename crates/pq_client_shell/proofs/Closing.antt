-- How a run of clients ends.
use Rattle.std.proofs.Common.{◌≡◌, ℕ, ◌⊎◌, inl, inr, Bool, true, false, ◌||◌, Option, Some, Result, Ok, Err, IfOk, IfErr, List, [], ◌∷◌, length, take, refl, sym, ap, ◌∙◌, subst}
use Rattle.std.specs.Io.KnownBytes.{append_known}
use Rattle.std.proofs.Math.Seq.{take-append_seam}
use Rattle.pq_base.specs.Members.{In}
use Rattle.pq_fill.specs.declared.words.Form.TheVariants.{Run}
use Rattle.pq_schema.specs.Schema.{Schema}
use Rattle.pq_schema.specs.declared.table.Table.{Table}
use Rattle.pq_store.specs.Content.{Content}
use Rattle.pq_store.specs.Counts.{Counts}
use Rattle.pq_store.specs.declared.damage.Damage.{Damage}
use Rattle.pq_text.specs.declared.piece.Piece.{Piece}
use Rattle.pq_content.specs.Pairs.{Pair}
use Rattle.pq_content.specs.Tables.{Rows}
use Rattle.pq_print.specs.Report.{damage_line}
use Rattle.pq_clients.specs.Clients.{View}
use Rattle.pq_clients.specs.Promised.{RunsAsPromised}
use Rattle.pq_clients.specs.Promises.{HoldsThroughout, HasReason, reached}
use Rattle.pq_clients.specs.declared.outcome.Outcome.{Outcome}
use Rattle.pq_clients.specs.declared.outcome.Outcome.TheVariants as outcome
use Rattle.pq_clients.specs.declared.outcome.Told.{Told}
use Rattle.pq_clients.specs.declared.outcome.Wrote.{Wrote}
use Rattle.pq_catalog.specs.Model.{Model}
use Rattle.pq_catalog.specs.Stands.{Opens, Stands}
use Rattle.pq_catalog.proofs.Standing.{settled_opens}
use Rattle.pq_shell.specs.Answered.{IsAnsweredStop}
use Rattle.pq_shell.specs.Fold.{Moment, MadeReports, ServedItems, StoppedItem, after}
use Rattle.pq_shell.specs.Items.{cut_items}
use Rattle.pq_shell.specs.Making.{moment}
use Rattle.pq_opening.proofs.Leaving.{quiet_stays}
use Rattle.pq_shell.specs.Openings.{StoppedOpening}
use Rattle.pq_shell.proofs.Opening.{cut_opening}
use Rattle.pq_shell.specs.Run.{RunWorld, EndsDamaged, Closes, IsPlain, status_of, run_world, written_world}
use Rattle.pq_console.specs.Stops.{CutsOff}
use Rattle.pq_console.specs.declared.reading.Ending.{Ending}
use Rattle.pq_console.specs.declared.reading.Ending.TheVariants.{Whole, Faulted, TooLong}
use Rattle.pq_shell.specs.declared.serving.Ended.{Ended}
use Rattle.pq_shell.specs.declared.status.Status.{Status}
use Rattle.pq_shell.specs.declared.status.Status.TheVariants as status
use Rattle.pq_console.specs.declared.stop.Stop.{Stop}
use Rattle.pq_console.specs.declared.stop.Stop.TheVariants as stops
use Rattle.pq_console.proofs.Known.{append_known-none}
use Rattle.pq_client_shell.specs.Lines.{between_text, told_text}
use Rattle.pq_client_shell.specs.Runs.{OpensStore, IsRead, MadeGathered, HaltsGathered, MadeRead, HaltsRead, Opened, FinishedClients, BrokenClients, Ends}
use Rattle.pq_client_shell.specs.Runs.BrokenClients.{Early, Among}
use Rattle.pq_client_shell.specs.Telling.{fault_of, first_fault}
use Rattle.pq_client_shell.proofs.Outcomes.{fault_in, none_some, same_stop, IsSoundStop}
use Rattle.pq_client_shell.specs.Writes.{front_count, front_of}
use Rattle.pq_client_shell.specs.declared.script.Script.{Script}

-- ---- the pieces of a script that was read

module _ (k : ℕ) (first last : Schema) (script : Script) (from stood now : Moment) (ps : List Piece) (ps_is : ps ≡ script.pieces) (count : ℕ) (count_is : count ≡ front_count script.pieces) (front : Bool)
    (served : ServedItems Run first last from stood 1 (cut_items (take count ps)) false front) where
  made_front : MadeReports Run first last from stood 1 (cut_items (front_of script.pieces)) served.reports
  made_front = subst (λ (xs : List Piece). MadeReports Run first last from stood 1 (cut_items xs) served.reports) (ap (take count) ps_is ∙ ap (λ n. take n script.pieces) count_is) served.made

  pub made_read : (known : Schema) → known ≡ last → (ended : Ended) (behind : Bool) → MadeGathered k known script behind stood now → ended.ending ≡ script.ending → ended.refused ≡ (front || behind) → MadeRead k first script ended from now
  made_read known known_is ended behind gathered ending_is refused_is = record {
    last = last;
    reports = served.reports;
    stood = stood;
    made = made_front;
    behind = behind;
    gathered = subst (λ (t : Schema). MadeGathered k t script behind stood now) known_is gathered;
    ending_is = ending_is;
    refusal = refused_is ∙ ap (λ b. b || behind) served.refusal;
  }

  pub halts_behind : {answers : List ℕ → Option (List ℕ) → Type 0} (known : Schema) → known ≡ last → (stop : Stop) → HaltsGathered k known script stop stood now → HaltsRead answers k first script stop from now
  halts_behind known known_is stop halts =
      inr (record { last = last; reports = served.reports; stood = stood; made = made_front; halts = subst (λ (t : Schema). HaltsGathered k t script stop stood now) known_is halts })

pub halts_front : {answers : List ℕ → Option (List ℕ) → Type 0} (k : ℕ) (first : Schema) (script : Script) (stop : Stop) (from now : Moment) (ps : List Piece) → ps ≡ script.pieces → (count : ℕ) → count ≡ front_count script.pieces → StoppedItem answers Run stop first from now 1 (cut_items (take count ps))
    → HaltsRead answers k first script stop from now
halts_front {answers = answers} k first script stop from now ps ps_is count count_is stopped =
    inl (subst (λ (xs : List Piece). StoppedItem answers Run stop first from now 1 (cut_items xs)) (ap (take count) ps_is ∙ ap (λ n. take n script.pieces) count_is) stopped)

-- ---- the whole run

-- a session that could not be started
pub stops_opening : {answers : List ℕ → Option (List ℕ) → Type 0} (k : ℕ) (stop : Stop) (left left' : Option (List ℕ)) (old now : Option Content) (held : Option (List ℕ)) (before after : Counts)
    → ((held : Option (List ℕ)) → StoppedOpening stop (moment old held before) (moment now held after)) → IsAnsweredStop answers stop → BrokenClients answers k stop (run_world left old held before) (run_world left' now held after)
stops_opening k stop left left' old now held before after stopped answered = Early (record { stopped = stopped held; silent = refl; answered = answered })

-- one that was started, behind which memory was wanting
pub stops_reading : {answers : List ℕ → Option (List ℕ) → Type 0} (k : ℕ) (left left' : Option (List ℕ)) (old now : Option Content) (held : Option (List ℕ)) (before after : Counts) (first : Schema) → OpensStore old now first before after → BrokenClients answers k stops.NoMem (run_world left old held before) (run_world left' now held after)
stops_reading k left left' old now held before after first opening = Early (record {
  stopped = cut_opening old now before after opening.line opening.bounded opening.ops opening.entries (λ m opens. (opening.opens m opens).0) opening.left (quiet_stays old now opening.left)
      stops.NoMem held held (λ m opens. settled_opens (opening.opens m opens).1.settled) refl;
  silent = refl;
  answered = tt;
})

abbrev opened_so : (left left' : Option (List ℕ)) (old mid : Option Content) (held : Option (List ℕ)) (before between : Counts) (first : Schema) (script : Script) → OpensStore old mid first before between → IsRead left left' script → Opened (run_world left old held before) left' script
opened_so left left' old mid held before between first script opening read = record { read = read; first = first; content = mid; counts = between; opening = opening }

pub finished_clients : (k : ℕ) (left left' : Option (List ℕ)) (old mid now : Option Content) (held held' : Option (List ℕ)) (before between after : Counts) (first : Schema) (script : Script) (ended : Ended)
    → OpensStore old mid first before between → IsRead left left' script → MadeRead k first script ended (moment mid held between) (moment now held' after) → FinishedClients k ended.ending ended.refused (run_world left old held before) (run_world left' now held' after)
finished_clients k left left' old mid now held held' before between after first script ended opening read made = record {
  script = script;
  opened = opened_so left left' old mid held before between first script opening read;
  made = made;
}

pub broken_clients : {answers : List ℕ → Option (List ℕ) → Type 0} (k : ℕ) (stop : Stop) (left left' : Option (List ℕ)) (old mid now : Option Content) (held held' : Option (List ℕ)) (before between after : Counts) (first : Schema) (script : Script)
    → OpensStore old mid first before between → IsRead left left' script → HaltsRead answers k first script stop (moment mid held between) (moment now held' after) → BrokenClients answers k stop (run_world left old held before) (run_world left' now held' after)
broken_clients k stop left left' old mid now held held' before between after first script opening read halts =
    Among (record { script = script; opened = opened_so left left' old mid held before between first script opening read; halts = halts })

-- ---- each status

finished : (answers : List ℕ → Option (List ℕ) → Type 0) (k : ℕ) (ending : Ending) (refused : Bool) (before now : RunWorld) → FinishedClients k ending refused before now → Ends answers k (status_of ending refused) before now
finished answers k Whole false before now is = is
finished answers k Whole true before now is = is
finished answers k Faulted refused before now is = (refused, is)
finished answers k TooLong refused before now is = (refused, is)

damaged : {answers : List ℕ → Option (List ℕ) → Type 0} (k : ℕ) (is : Status) (damage : Damage) (before mid : RunWorld) (h' : Option (List ℕ)) → BrokenClients answers k (stops.Damaged damage) before mid → EndsDamaged is damage.key mid.moment.held h' → Ends answers k is before (written_world mid h')
damaged k status.Damaged damage before mid h' broken ends = record { damage = damage; held = mid.moment.held; line = damage_line damage.key; broken = broken; tail = refl; text = ends }
damaged k status.WriteFault damage before mid h' broken ends = inr (record { damage = damage; held = mid.moment.held; line = ends.0; broken = broken; tail = ends.1; text = ends.2 })
damaged k status.NoMem damage before mid h' broken ends = inr (record { damage = damage; held = mid.moment.held; line = []; broken = broken; tail = refl; text = ends ∙ sym (append_known-none mid.moment.held) })
damaged k status.Good damage before mid h' broken ends = absurd ends
damaged k status.SomeRefused damage before mid h' broken ends = absurd ends
damaged k status.Usage damage before mid h' broken ends = absurd ends
damaged k status.ReadFault damage before mid h' broken ends = absurd ends
damaged k status.StoreFault damage before mid h' broken ends = absurd ends
damaged k status.TooLong damage before mid h' broken ends = absurd ends

at_status : (answers : List ℕ → Option (List ℕ) → Type 0) (k : ℕ) (is expected : Status) (before mid : RunWorld) (h' : Option (List ℕ)) → is ≡ expected → h' ≡ mid.moment.held → Ends answers k expected before mid → Ends answers k is before (written_world mid h')
at_status answers k is expected before mid h' same kept ends = subst (λ h. Ends answers k is before (written_world mid h)) (sym kept) (subst (λ s. Ends answers k s before mid) (sym same) ends)

pub ends_of : (answers : List ℕ → Option (List ℕ) → Type 0) (k : ℕ) (outcome : Result Ended Stop) (is : Status) (before mid : RunWorld) (h' : Option (List ℕ)) → IfOk outcome (λ ended. FinishedClients k ended.ending ended.refused before mid) → IfErr outcome (λ stop. BrokenClients answers k stop before mid)
    → Closes outcome is mid.moment.held h' → Ends answers k is before (written_world mid h')
ends_of answers k (Ok ended) is before mid h' ok err closes = at_status answers k is (status_of ended.ending ended.refused) before mid h' closes.0 closes.1 (finished answers k ended.ending ended.refused before mid ok)
ends_of answers k (Err stops.StoreFailed) is before mid h' ok err closes = at_status answers k is status.StoreFault before mid h' closes.0 closes.1 err
ends_of answers k (Err stops.WriteFailed) is before mid h' ok err closes = at_status answers k is status.WriteFault before mid h' closes.0 closes.1 (inl err)
ends_of answers k (Err stops.NoMem) is before mid h' ok err closes = at_status answers k is status.NoMem before mid h' closes.0 closes.1 (inl err)
ends_of answers k (Err (stops.Damaged damage)) is before mid h' ok err closes = damaged k is damage before mid h' err closes

-- ---- completeness

-- damage is told of nothing else
no_reason : (tables : List Table) (v : View) (c : Content) (o : Outcome) (damage : Damage) → fault_of o ≡ Some (stops.Damaged damage) → HasReason tables v c o → ⊥
no_reason tables v c outcome.Done damage is reason = none_some (stops.Damaged damage) is
no_reason tables v c (outcome.Refused why) damage is reason = none_some (stops.Damaged damage) is
no_reason tables v c (outcome.Busy found) damage is reason = none_some (stops.Damaged damage) is
no_reason tables v c (outcome.Conflict read found) damage is reason = none_some (stops.Damaged damage) is
no_reason tables v c outcome.Failed damage is reason = subst IsSoundStop (same_stop stops.StoreFailed (stops.Damaged damage) is) tt
no_reason tables v c outcome.NoMem damage is reason = subst IsSoundStop (same_stop stops.NoMem (stops.Damaged damage) is) tt
no_reason tables v c (outcome.Damaged d) damage is reason = reason

never_damaged : (tables : List Table) (rows : Rows) (others : List Pair) (clients : List View) (places : List ℕ) (content : Option Content) (left : List View) (told : List Told) (puts : List Wrote)
    → RunsAsPromised tables rows others clients places content left told puts → (damage : Damage) → first_fault told ≡ Some (stops.Damaged damage) → ⊥
never_damaged tables rows others clients places content left told puts promised damage first =
    let fault = fault_in told (stops.Damaged damage) first in
    let said = promised.holds.said.told fault.one (subst (In fault.one) promised.leaves.says fault.is_in) in
    let front_is : take (length said.front) promised.events ≡ said.front = ap (take (length said.front)) said.split ∙ take-append_seam said.front (said.event ∷ said.back) in
    let holds = subst (HoldsThroughout tables rows others clients) front_is (promised.held (length said.front)) in
    let causes = holds.causes said.event.place said.view said.event.fate said.own in
    no_reason tables said.view (reached tables rows others clients said.front).content fault.one.outcome damage fault.is (causes.told fault.one said.says).2

module _ (k : ℕ) (schema : Schema) (script : Script) (damage : Damage) (stood now : Moment) where
  no_damage : (m : Model) → Stands stood.content schema m → HaltsGathered k schema script (stops.Damaged damage) stood now → ⊥
  no_damage m stands (inl between) = by between.text
    where
      by : CutsOff (stops.Damaged damage) (between_text schema script.pieces script.unfinished) stood.held now.held ⊎ ((stops.Damaged damage ≡ stops.NoMem) × (now.held ≡ append_known stood.held (between_text schema script.pieces script.unfinished))) → ⊥
      by (inl cut) = cut
      by (inr (other, text)) = subst IsSoundStop (sym other) tt
  no_damage m stands (inr telling) = by telling.text
    where
      by : CutsOff (stops.Damaged damage) (told_text telling.told) telling.held now.held ⊎ ((first_fault telling.told ≡ Some (stops.Damaged damage)) × (now.held ≡ append_known telling.held (told_text telling.told))) → ⊥
      by (inl cut) = cut
      by (inr (first, text)) = never_damaged _ _ _ _ _ _ _ _ _ (telling.stepped.ran.promised m stands) damage first

sound : {answers : List ℕ → Option (List ℕ) → Type 0} (k : ℕ) (damage : Damage) (before now : RunWorld) → BrokenClients answers k (stops.Damaged damage) before now → (m : Model) → Opens before.moment.content m → ⊥
sound k damage before now (Early b) m opens = (b.stopped.stands m opens).1
sound {answers = answers} k damage before now (Among b) m opens = by b.halts
  where
    stands : Stands b.opened.content b.opened.first m
    stands = (b.opened.opening.opens m opens).1

    by : HaltsRead answers k b.opened.first b.script (stops.Damaged damage) (moment b.opened.content before.moment.held b.opened.counts) now.moment → ⊥
    by (inl stopped) = (stopped.stands m stands).1
    by (inr behind) = no_damage k behind.last b.script damage behind.stood now.moment _ (behind.made.folds m stands).0 behind.halts

-- where no fault came, the script wasn't too long and the store opens, the run is plain
pub ends_plain : (answers : List ℕ → Option (List ℕ) → Type 0) (k : ℕ) (is : Status) (before now : RunWorld) → Ends answers k is before now → (m : Model) → Opens before.moment.content m → (is ≡ status.TooLong → ⊥) → (is ≡ status.ReadFault → ⊥) → (is ≡ status.WriteFault → ⊥) → (is ≡ status.StoreFault → ⊥)
    → IsPlain is
ends_plain answers k status.Good before now ends m opens long read write store = tt
ends_plain answers k status.SomeRefused before now ends m opens long read write store = tt
ends_plain answers k status.NoMem before now ends m opens long read write store = tt
ends_plain answers k status.Usage before now ends m opens long read write store = ends
ends_plain answers k status.ReadFault before now ends m opens long read write store = read refl
ends_plain answers k status.WriteFault before now ends m opens long read write store = write refl
ends_plain answers k status.StoreFault before now ends m opens long read write store = store refl
ends_plain answers k status.TooLong before now ends m opens long read write store = long refl
ends_plain answers k status.Damaged before now ends m opens long read write store = sound k ends.damage before _ ends.broken m opens
