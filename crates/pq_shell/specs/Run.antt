-- How a run of each form ends: what stands at each status.
use Rattle.std.specs.Prelude.{◌≡◌, ℕ, ◌≤◌, ◌⊎◌, Bool, true, false, Option, Result, Ok, Err, List, [], ◌++◌, length}
use Rattle.std.specs.List.{list_any}
use Rattle.std.specs.Io.KnownBytes.{append_known, prepend_known}
use Rattle.pq_fill.specs.declared.words.Form.{Form}
use Rattle.pq_fill.specs.declared.words.Form.TheVariants.{Run, Check, Fill}
use Rattle.pq_schema.specs.Schema.{Schema}
use Rattle.pq_store.specs.Content.{Content}
use Rattle.pq_store.specs.Counts.{Counts}
use Rattle.pq_store.specs.declared.damage.Damage.{Damage}
use Rattle.pq_text.specs.Pieces.{pieces_of}
use Rattle.pq_print.specs.Report.{damage_line, is_refusal}
use Rattle.pq_print.specs.declared.report.Report.{Report}
use Rattle.pq_catalog.specs.Model.{Model}
use Rattle.pq_catalog.specs.Stands.{Opens}
use Rattle.pq_shell.specs.Answered.{IsAnsweredStop}
use Rattle.pq_shell.specs.Fold.{Moment, MadeReports, StoppedItem}
use Rattle.pq_shell.specs.Forms.{HasItems, HasOpening, close}
use Rattle.pq_shell.specs.Items.{Item}
use Rattle.pq_shell.specs.Openings.{Opening, StoppedOpening}
use Rattle.pq_console.specs.Outside.{IsCut}
use Rattle.pq_console.specs.declared.reading.Ending.{Ending}
use Rattle.pq_console.specs.declared.reading.Ending.TheVariants.{Whole, Faulted, TooLong}
use Rattle.pq_shell.specs.declared.serving.Ended.{Ended}
use Rattle.pq_shell.specs.declared.status.Status.{Status}
use Rattle.pq_shell.specs.declared.status.Status.TheVariants as status
use Rattle.pq_console.specs.declared.stop.Stop.{Stop}
use Rattle.pq_console.specs.declared.stop.Stop.TheVariants as stops

-- what the source has left and what store and sink hold, where they tell, and what the meter counts
pub record RunWorld : Type 0 where
  pub left : Option (List ℕ)
  pub moment : Moment

abbrev pub run_world : Option (List ℕ) → Option Content → Option (List ℕ) → Counts → RunWorld
run_world left content held counts =
    record { left = left; moment = record { content = content; held = held; counts = counts } }

-- the same with more on the sink
abbrev pub written_world : RunWorld → Option (List ℕ) → RunWorld
written_world run_world held = record run_world { moment = record run_world.moment { held = held } }

-- the run was begun, these items were made, and their reports are out; for a generated script these are only noted
pub record RanItems (form : Form) (before now : Moment) (items : List Item) : Type 0 where
  pub reports : List Report
  pub first : Schema
  pub last : Schema
  pub between : Moment
  pub opening : Opening form first before between
  pub made : MadeReports form first last between now 1 items reports

-- a script was read so, or is the generated one, and all that is run of it was made and is reported
pub record FinishedRun (form : Form) (ending : Ending) (refused : Bool) (before now : RunWorld) : Type 0 where
  pub items : List Item
  pub held : Option (List ℕ)
  pub read : HasItems form ending before.left now.left items
  pub ran : RanItems form before.moment (record now.moment { held = held }) items
  pub text : now.moment.held ≡ append_known held (close form ran.opening.opened ran.reports)
  pub refusal : refused ≡ list_any is_refusal ran.reports

-- ---- a run that stopped

-- of the bytes taken all but the last 4,096 at most belong to pieces that are reported, to blank ones or to
-- the one at hand
pub record IsReadInParts (left left_now : Option (List ℕ)) (reported : ℕ) : Type 0 where
  pub early : List ℕ
  pub late : List ℕ
  pub taken : left ≡ prepend_known (early ++ late) left_now
  pub few : length late ≤ 4096
  pub reported_all : length (pieces_of early) ≤ reported

abbrev pub HasRead : Form → Option (List ℕ) → Option (List ℕ) → ℕ → Type 0
HasRead Run left left_now reported = IsReadInParts left left_now reported
HasRead Check left left_now reported = IsReadInParts left left_now reported
HasRead (Fill n) left left_now reported = left_now ≡ left

-- at the opening, before anything was read
pub record StopsOpening (answers : List ℕ → Option (List ℕ) → Type 0) (form : Form) (stop : Stop)
    (before now : RunWorld) : Type 0 where
  pub some : HasOpening form
  pub unread : now.left ≡ before.left
  pub stopped : StoppedOpening stop before.moment now.moment
  pub answered : IsAnsweredStop answers stop

-- among the items
pub record StopsLater (answers : List ℕ → Option (List ℕ) → Type 0) (form : Form) (stop : Stop)
    (before now : RunWorld) : Type 0 where
  pub ending : Ending
  pub items : List Item
  pub first : Schema
  pub between : Moment
  pub read : HasItems form ending before.left now.left items
  pub opening : Opening form first before.moment between
  pub stopped : StoppedItem answers form stop first between now.moment 1 items
  pub in_parts : HasRead form before.left now.left (length stopped.done)

-- behind the last item: what closes the run is cut, or there is no memory for it
abbrev pub IsClosingPart : Stop → List ℕ → List ℕ → Type 0
IsClosingPart stops.WriteFailed part text = IsCut part text
IsClosingPart stops.NoMem part text = part ≡ []
IsClosingPart stops.StoreFailed part text = ⊥
IsClosingPart (stops.Damaged damage) part text = ⊥

pub record StopsClosing (form : Form) (stop : Stop) (before now : RunWorld) : Type 0 where
  pub items : List Item
  pub held : Option (List ℕ)
  pub part : List ℕ
  pub read : HasItems form Whole before.left now.left items
  pub ran : RanItems form before.moment (record now.moment { held = held }) items
  pub text : now.moment.held ≡ append_known held part
  pub part_is : IsClosingPart stop part (close form ran.opening.opened ran.reports)

pub data BrokenRun (answers : List ℕ → Option (List ℕ) → Type 0) (form : Form) (stop : Stop)
    (before now : RunWorld) : Type 0 where
  AtOpening : StopsOpening answers form stop before now → BrokenRun answers form stop before now
  AtItem : StopsLater answers form stop before now → BrokenRun answers form stop before now
  AtClose : StopsClosing form stop before now → BrokenRun answers form stop before now

-- damage was found, and so much of the line that names its key is out behind whole reports
pub record NamesDamage (answers : List ℕ → Option (List ℕ) → Type 0) (form : Form)
    (IsTail : List ℕ → List ℕ → Type 0) (before now : RunWorld) : Type 0 where
  pub damage : Damage
  pub held : Option (List ℕ)
  pub line : List ℕ
  pub broken : BrokenRun answers form (stops.Damaged damage) before (written_world now held)
  pub tail : IsTail line (damage_line damage.key)
  pub text : now.moment.held ≡ append_known held line

-- ---- each status

-- what the words of a form mean: a generated script is for 1 to 20,000 users
abbrev pub IsMeant : Form → Type 0
IsMeant Run = Unit {0}
IsMeant Check = Unit {0}
IsMeant (Fill n) = (1 ≤ n) × (n ≤ 20000)

abbrev pub Ends : (List ℕ → Option (List ℕ) → Type 0) → Form → Status → RunWorld → RunWorld → Type 0
Ends answers form status.Good before now = FinishedRun form Whole false before now
Ends answers form status.SomeRefused before now = FinishedRun form Whole true before now
Ends answers form status.Usage before now = ⊥
Ends answers form status.ReadFault before now = (refused : Bool) × FinishedRun form Faulted refused before now
Ends answers form status.WriteFault before now =
    BrokenRun answers form stops.WriteFailed before now ⊎ NamesDamage answers form IsCut before now
Ends answers form status.StoreFault before now = BrokenRun answers form stops.StoreFailed before now
Ends answers form status.Damaged before now = NamesDamage answers form (λ line whole. line ≡ whole) before now
Ends answers form status.NoMem before now = BrokenRun answers form stops.NoMem before now
    ⊎ NamesDamage answers form (λ line whole. line ≡ []) before now
Ends answers form status.TooLong before now = (refused : Bool) × FinishedRun form TooLong refused before now

-- the status of a script whose items were all made
abbrev pub status_of : Ending → Bool → Status
status_of Whole false = status.Good
status_of Whole true = status.SomeRefused
status_of Faulted refused = status.ReadFault
status_of TooLong refused = status.TooLong

-- how the line that names the damage ends the run
abbrev pub EndsDamaged : Status → List ℕ → Option (List ℕ) → Option (List ℕ) → Type 0
EndsDamaged status.Damaged key held held_now = held_now ≡ append_known held (damage_line key)
EndsDamaged status.WriteFault key held held_now =
    (part : List ℕ) × IsCut part (damage_line key) × (held_now ≡ append_known held part)
EndsDamaged status.NoMem key held held_now = held_now ≡ held
EndsDamaged _ key held held_now = ⊥

-- the status of a script that was run so
abbrev pub Closes : Result Ended Stop → Status → Option (List ℕ) → Option (List ℕ) → Type 0
Closes (Ok ended) is held held_now = (is ≡ status_of ended.ending ended.refused) × (held_now ≡ held)
Closes (Err stops.StoreFailed) is held held_now = (is ≡ status.StoreFault) × (held_now ≡ held)
Closes (Err stops.WriteFailed) is held held_now = (is ≡ status.WriteFault) × (held_now ≡ held)
Closes (Err stops.NoMem) is held held_now = (is ≡ status.NoMem) × (held_now ≡ held)
Closes (Err (stops.Damaged damage)) is held held_now = EndsDamaged is damage.key held held_now

-- ---- what a run needs to be made to its end, beside calls that do not fail and memory

-- good, refused, or without memory
abbrev pub IsPlain : Status → Type 0
IsPlain status.Good = Unit {0}
IsPlain status.SomeRefused = Unit {0}
IsPlain status.NoMem = Unit {0}
IsPlain _ = ⊥

-- a store that opens to a model, for a form that opens one
abbrev pub OpensFor : Form → Option Content → Type 0
OpensFor form content = HasOpening form → (m : Model) × Opens content m

-- the numbers of the statuses
abbrev pub status_code : Status → ℕ
status_code status.Good = 0
status_code status.SomeRefused = 1
status_code status.Usage = 2
status_code status.ReadFault = 3
status_code status.WriteFault = 4
status_code status.StoreFault = 5
status_code status.Damaged = 6
status_code status.NoMem = 7
status_code status.TooLong = 8
