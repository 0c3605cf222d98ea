-- How a run of clients ends: what stands at each status.
use Rattle.std.specs.Prelude.{◌≡◌, ℕ, ◌+◌, ◌≤◌, ◌⊎◌, Bool, true, false, ◌||◌, Option, Some, None, IfSome, List, [], All}
use Rattle.std.specs.List.{AllByRecursion, list_any}
use Rattle.std.specs.Io.KnownBytes.{append_known}
use Rattle.pq_base.specs.Members.{In}
use Rattle.pq_fill.specs.declared.words.Form.TheVariants.{Run}
use Rattle.pq_schema.specs.Schema.{Schema}
use Rattle.pq_schema.specs.Valid.{IsValid}
use Rattle.pq_store.specs.Content.{Content, HasRisen}
use Rattle.pq_store.specs.Counts.{Counts}
use Rattle.pq_store.specs.declared.damage.Damage.{Damage}
use Rattle.pq_text.specs.Pieces.{pieces_of}
use Rattle.pq_print.specs.Report.{damage_line, is_refusal}
use Rattle.pq_print.specs.declared.report.Opened.{Opened as OpeningLine}
use Rattle.pq_print.specs.declared.report.Report.{Report}
use Rattle.pq_index_keep.specs.declared.write.Write.{Write}
use Rattle.pq_tallies.specs.Counters.{AreFewRows}
use Rattle.pq_tallies.specs.Defined.{counters_in}
use Rattle.pq_clients.specs.Clients.{View}
use Rattle.pq_clients.specs.Present.{present_rows}
use Rattle.pq_clients.specs.Promises.{IsResting}
use Rattle.pq_clients.specs.Goes.{spot}
use Rattle.pq_clients.specs.Promised.{RunsAsPromised, by_turns, calls_of_client}
use Rattle.pq_clients.specs.Running.{Turns, moment as clients_moment}
use Rattle.pq_clients.specs.declared.outcome.Outcome.TheVariants as outcome
use Rattle.pq_clients.specs.declared.outcome.Told.{Told}
use Rattle.pq_clients.specs.declared.outcome.Wrote.{Wrote}
use Rattle.pq_catalog.specs.Model.{Model}
use Rattle.pq_catalog.specs.Stands.{Opens, Stands, content_of, others_of}
use Rattle.pq_opening.specs.Opening.{IsOpening, LeavesRead, TellsSchema}
use Rattle.pq_opening.specs.Within.{IsBounded}
use Rattle.pq_shell.specs.Answered.{IsAnsweredStop}
use Rattle.pq_shell.specs.Fold.{Moment, MadeReports, StoppedItem}
use Rattle.pq_shell.specs.Items.{cut_items}
use Rattle.pq_shell.specs.Making.{moment}
use Rattle.pq_console.specs.Outside.{IsCut}
use Rattle.pq_console.specs.Reading.{TookBytes}
use Rattle.pq_shell.specs.Openings.{StoppedOpening}
use Rattle.pq_shell.specs.Run.{RunWorld, written_world}
use Rattle.pq_console.specs.Stops.{CutsOff}
use Rattle.pq_console.specs.declared.reading.Ending.{Ending}
use Rattle.pq_console.specs.declared.reading.Ending.TheVariants.{Whole, Faulted, TooLong}
use Rattle.pq_shell.specs.declared.serving.Ended.{Ended}
use Rattle.pq_shell.specs.declared.status.Status.{Status}
use Rattle.pq_shell.specs.declared.status.Status.TheVariants as status
use Rattle.pq_console.specs.declared.stop.Stop.{Stop}
use Rattle.pq_console.specs.declared.stop.Stop.TheVariants as stops
use Rattle.pq_client_shell.specs.Writes.{front_of, gathered_of, writes_of, is_skipped}
use Rattle.pq_client_shell.specs.Dealing.{dealt}
use Rattle.pq_client_shell.specs.Lines.{between_text, leaves_rest, told_text}
use Rattle.pq_client_shell.specs.Telling.{first_fault, is_undone}
use Rattle.pq_client_shell.specs.declared.script.Script.{Script}

-- ---- the parts of a run

-- valid definitions are known: those that a told content tells, without a flaw, and those of every model that the store
-- opened to; the calls are those of an opening, within the bound that its line would have
pub record OpensStore (old now : Option Content) (schema : Schema) (before after : Counts) : Type 0 where
  pub line : OpeningLine
  pub opens : (m : Model) → Opens old m → IsOpening old m line × Stands now schema m
  pub valid : IsValid schema
  pub tells : IfSome old (λ content. TellsSchema content schema)
  pub left : IfSome old (λ content. LeavesRead content now)
  pub bounded : IsBounded line
  pub ops : after.ops ≡ before.ops + line.used.ops
  pub entries : after.entries ≡ before.entries + line.used.entries

-- the pieces of the bytes that the source gave, and whether they have an unfinished rest
pub record IsRead (left left_now : Option (List ℕ)) (script : Script) : Type 0 where
  pub bytes : List ℕ
  pub took : TookBytes script.ending left left_now bytes
  pub pieces_is : script.pieces ≡ pieces_of bytes
  pub unfinished_is : script.unfinished ≡ leaves_rest script.ending bytes

-- the content has just the pairs of the rows that are present in it, of their entries, of the counters and of the
-- definitions; and no group of a counter has too many of these rows
pub record HoldsPresent (schema : Schema) (content : Content) : Type 0 where
  pub few : AreFewRows (counters_in schema) (present_rows schema.tables content)
  pub is : content ≡ content_of (record { schema = schema; rows = present_rows schema.tables content })

-- the writes were dealt to k clients, which stepped in turn until none of them may make a call more; and from a store
-- that stands for a model all that is promised of such steps holds throughout, and where no write is in flight and no
-- client ended by a fault, the store holds just its present rows again
pub record RanClients (k : ℕ) (schema : Schema) (writes : List Write) (old now : Option Content)
    (before after : Counts) (told : List Told) : Type 0 where
  pub rounds : ℕ
  pub enough : AllByRecursion (λ v. calls_of_client schema.tables v ≤ rounds) (dealt k writes)
  pub left : List View
  pub puts : List Wrote
  pub faults : ℕ
  pub faults_now : ℕ
  pub turns : Turns schema.tables (by_turns k rounds)
      (clients_moment (spot old faults before) (dealt k writes) [] [])
      (clients_moment (spot now faults_now after) left told puts)
  pub promised : (m : Model) → Stands old schema m
      → RunsAsPromised schema.tables m.rows (others_of m) (dealt k writes) (by_turns k rounds) now left told puts
  pub rests : (m : Model) → Stands old schema m → All IsResting left → IfSome now (HoldsPresent schema)

-- Failed is told only where the count of faults has risen
abbrev pub TellsCause : ℕ → ℕ → List Told → Type 0
TellsCause faults faults_now told =
    (one : Told) → In one told → one.outcome ≡ outcome.Failed → HasRisen faults faults_now

-- the clients took their steps, what they were told is out, and no client ended in a fault; whether a write isn't done
pub record TellsAll (k : ℕ) (schema : Schema) (writes : List Write) (undone : Bool) (from now : Moment) : Type 0 where
  pub told : List Told
  pub ran : RanClients k schema writes from.content now.content from.counts now.counts told
  pub text : now.held ≡ append_known from.held (told_text told)
  pub unbroken : first_fault told ≡ None
  pub undone_is : undone ≡ list_any is_undone told

-- there was no memory before their first step; or they took their steps, and what they were told is cut off, or out
-- with a fault by which one of them ended
pub data TellsPart (k : ℕ) (schema : Schema) (writes : List Write) (stop : Stop) (from now : Moment) : Type 0 where
  Undealt : stop ≡ stops.NoMem → now.content ≡ from.content → now.counts ≡ from.counts → now.held ≡ from.held
      → TellsPart k schema writes stop from now
  Cut : (told : List Told) → RanClients k schema writes from.content now.content from.counts now.counts told
      → CutsOff stop (told_text told) from.held now.held
      ⊎ ((first_fault told ≡ Some stop) × (now.held ≡ append_known from.held (told_text told)))
      → TellsPart k schema writes stop from now

-- what stands between the reports and what is told is out, and the clients took their steps
pub record Stepped (k : ℕ) (schema : Schema) (script : Script) (stood now : Moment) (held : Option (List ℕ))
    (told : List Told) : Type 0 where
  pub between : held ≡ append_known stood.held (between_text schema script.pieces script.unfinished)
  pub ran : RanClients k schema (writes_of schema (gathered_of script.pieces)) stood.content now.content
      stood.counts now.counts told

-- and then what they were told is out, and no client ended in a fault; whether a piece was skipped, there is an
-- unfinished rest, or a write isn't done
pub record MadeGathered (k : ℕ) (schema : Schema) (script : Script) (refused : Bool) (stood now : Moment)
    : Type 0 where
  pub held : Option (List ℕ)
  pub told : List Told
  pub stepped : Stepped k schema script stood now held told
  pub text : now.held ≡ append_known held (told_text told)
  pub unbroken : first_fault told ≡ None
  pub refusal : refused ≡ (list_any (is_skipped schema) (gathered_of script.pieces)
      || (script.unfinished || list_any is_undone told))

-- before the clients took a step: a part of what stands between the reports and what is told is out
pub record StopsBetween (schema : Schema) (script : Script) (stop : Stop) (stood now : Moment) : Type 0 where
  pub content : now.content ≡ stood.content
  pub counts : now.counts ≡ stood.counts
  pub text : CutsOff stop (between_text schema script.pieces script.unfinished) stood.held now.held
      ⊎ ((stop ≡ stops.NoMem)
      × (now.held ≡ append_known stood.held (between_text schema script.pieces script.unfinished)))

-- behind the clients' steps: what they were told is cut off; or it is out, and this is the first fault by which one of
-- them ended
pub record StopsTelling (k : ℕ) (schema : Schema) (script : Script) (stop : Stop) (stood now : Moment)
    : Type 0 where
  pub held : Option (List ℕ)
  pub told : List Told
  pub stepped : Stepped k schema script stood now held told
  pub text : CutsOff stop (told_text told) held now.held
      ⊎ ((first_fault told ≡ Some stop) × (now.held ≡ append_known held (told_text told)))

abbrev pub HaltsGathered : ℕ → Schema → Script → Stop → Moment → Moment → Type 0
HaltsGathered k schema script stop stood now =
    StopsBetween schema script stop stood now ⊎ StopsTelling k schema script stop stood now

-- ---- the pieces of a script that was read

-- the pieces before the first write were made and are reported, and the writes behind them were made by the clients
pub record MadeRead (k : ℕ) (first : Schema) (script : Script) (ended : Ended) (from now : Moment) : Type 0 where
  pub last : Schema
  pub reports : List Report
  pub stood : Moment
  pub made : MadeReports Run first last from stood 1 (cut_items (front_of script.pieces)) reports
  pub behind : Bool
  pub gathered : MadeGathered k last script behind stood now
  pub ending_is : ended.ending ≡ script.ending
  pub refusal : ended.refused ≡ (list_any is_refusal reports || behind)

-- the run stopped behind them
pub record HaltsBehind (k : ℕ) (first : Schema) (script : Script) (stop : Stop) (from now : Moment) : Type 0 where
  pub last : Schema
  pub reports : List Report
  pub stood : Moment
  pub made : MadeReports Run first last from stood 1 (cut_items (front_of script.pieces)) reports
  pub halts : HaltsGathered k last script stop stood now

-- the run stopped among the pieces before the first write, or behind them
abbrev pub HaltsRead : (List ℕ → Option (List ℕ) → Type 0) → ℕ → Schema → Script → Stop → Moment → Moment → Type 0
HaltsRead answers k first script stop from now =
    StoppedItem answers Run stop first from now 1 (cut_items (front_of script.pieces))
    ⊎ HaltsBehind k first script stop from now

-- ---- how far a run came

-- the store was opened, and the script was read
pub record Opened (before : RunWorld) (left_now : Option (List ℕ)) (script : Script) : Type 0 where
  pub read : IsRead before.left left_now script
  pub first : Schema
  pub content : Option Content
  pub counts : Counts
  pub opening : OpensStore before.moment.content content first before.moment.counts counts

-- what then stood
abbrev pub stood_at : {before : RunWorld} {left_now : Option (List ℕ)} {script : Script} → Opened before left_now script → Moment
stood_at {before = before} opened = moment opened.content before.moment.held opened.counts

-- and its pieces were made
pub record FinishedClients (k : ℕ) (ending : Ending) (refused : Bool) (before now : RunWorld) : Type 0 where
  pub script : Script
  pub opened : Opened before now.left script
  pub made : MadeRead k opened.first script (record { ending = ending; refused = refused }) (stood_at opened) now.moment

-- ---- a run that stopped

-- before the first piece was made, as a run stops at its opening, with nothing written; and whether the store tells or
-- not, damage is told of what a call may answer
pub record StopsEarly (answers : List ℕ → Option (List ℕ) → Type 0) (stop : Stop)
    (before now : RunWorld) : Type 0 where
  pub stopped : StoppedOpening stop before.moment now.moment
  pub silent : now.moment.held ≡ before.moment.held
  pub answered : IsAnsweredStop answers stop

-- among the pieces
pub record StopsAmong (answers : List ℕ → Option (List ℕ) → Type 0) (k : ℕ) (stop : Stop)
    (before now : RunWorld) : Type 0 where
  pub script : Script
  pub opened : Opened before now.left script
  pub halts : HaltsRead answers k opened.first script stop (stood_at opened) now.moment

pub data BrokenClients (answers : List ℕ → Option (List ℕ) → Type 0) (k : ℕ) (stop : Stop)
    (before now : RunWorld) : Type 0 where
  Early : StopsEarly answers stop before now → BrokenClients answers k stop before now
  Among : StopsAmong answers k stop before now → BrokenClients answers k stop before now

-- damage was found, and so much of the line that names its key is out
pub record NamesDamage (answers : List ℕ → Option (List ℕ) → Type 0) (k : ℕ)
    (IsTail : List ℕ → List ℕ → Type 0) (before now : RunWorld) : Type 0 where
  pub damage : Damage
  pub held : Option (List ℕ)
  pub line : List ℕ
  pub broken : BrokenClients answers k (stops.Damaged damage) before (written_world now held)
  pub tail : IsTail line (damage_line damage.key)
  pub text : now.moment.held ≡ append_known held line

-- ---- each status

abbrev pub Ends : (List ℕ → Option (List ℕ) → Type 0) → ℕ → Status → RunWorld → RunWorld → Type 0
Ends answers k status.Good before now = FinishedClients k Whole false before now
Ends answers k status.SomeRefused before now = FinishedClients k Whole true before now
Ends answers k status.Usage before now = ⊥
Ends answers k status.ReadFault before now = (refused : Bool) × FinishedClients k Faulted refused before now
Ends answers k status.WriteFault before now =
    BrokenClients answers k stops.WriteFailed before now ⊎ NamesDamage answers k IsCut before now
Ends answers k status.StoreFault before now = BrokenClients answers k stops.StoreFailed before now
Ends answers k status.Damaged before now = NamesDamage answers k (λ line whole. line ≡ whole) before now
Ends answers k status.NoMem before now =
    BrokenClients answers k stops.NoMem before now ⊎ NamesDamage answers k (λ line whole. line ≡ []) before now
Ends answers k status.TooLong before now = (refused : Bool) × FinishedClients k TooLong refused before now

-- a script was read within the limit: to its end, or to a fault
abbrev pub IsReadWithin : Status → Type 0
IsReadWithin status.Good = Unit {0}
IsReadWithin status.SomeRefused = Unit {0}
IsReadWithin status.ReadFault = Unit {0}
IsReadWithin _ = ⊥
