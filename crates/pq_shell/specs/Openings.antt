-- The opening of a store at the start of a run, and what is written of it. A check opens none.
use Rattle.std.specs.Prelude.{◌≡◌, ◌⊎◌, ℕ, ◌+◌, length, Option, Some, IfSome, List, []}
use Rattle.std.specs.Io.KnownBytes.{append_known}
use Rattle.pq_fill.specs.declared.words.Form.{Form}
use Rattle.pq_schema.specs.Schema.{Schema}
use Rattle.pq_schema.specs.Valid.{IsValid}
use Rattle.pq_store.specs.Content.{Content}
use Rattle.pq_store.specs.Counts.{Counts}
use Rattle.pq_print.specs.Report.{opening_line}
use Rattle.pq_print.specs.declared.report.Opened.{Opened}
use Rattle.pq_catalog.specs.Model.{Model}
use Rattle.pq_opening.specs.Opening.{IsQuiet, LeavesFlawed, LeavesRead, LeavesStopped, ShowsBuildLeft, ShowsFlaw, IsOpening}
use Rattle.pq_catalog.specs.Stands.{Opens}
use Rattle.pq_opening.specs.Within.{IsBounded, IsWithinOpening, StopsWithin}
use Rattle.pq_shell.specs.Fold.{Moment}
use Rattle.pq_shell.specs.Forms.{HasOpening, Starts, IsOpened, StandsIn, front}
use Rattle.pq_console.specs.Outside.{IsCut}
use Rattle.pq_shell.specs.declared.run.Begun.{Begun}
use Rattle.pq_console.specs.declared.stop.Stop.{Stop}
use Rattle.pq_console.specs.declared.stop.Stop.TheVariants as stops

-- the run was begun with these definitions, and the opening's line is out
pub record Opening (form : Form) (first : Schema) (from to : Moment) : Type 0 where
  pub opened : Opened
  pub opens : (m : Model) → Starts form from.content m
      → IsOpened form from.content m opened × StandsIn form to.content first m
  pub bounded : HasOpening form → IsBounded opened
  pub left : HasOpening form → IfSome from.content (λ content. LeavesRead content to.content)
  pub valid : IsValid first
  pub defs : opened.defs ≡ length first.definitions
  pub text : to.held ≡ append_known from.held (front form opened)
  pub ops : to.counts.ops ≡ from.counts.ops + opened.used.ops
  pub entries : to.counts.entries ≡ from.counts.entries + opened.used.entries

-- the same, with the session and what the opening used
pub record OpensWith (form : Form) (begun : Begun) (from to : Moment) : Type 0 where
  pub opening : Opening form begun.session from to
  pub used_is : opening.opened.used ≡ begun.used

-- where the opening's line is cut, it is that of an opening with such a bound, which took what the line tells as used;
-- over what a store opens to, it is the line of its opening
pub record CutsOpening (before : Moment) (part : List ℕ) (now : Counts) : Type 0 where
  pub opened : Opened
  pub cut : IsCut part (opening_line opened)
  pub bounded : IsBounded opened
  pub ops : now.ops ≡ before.counts.ops + opened.used.ops
  pub entries : now.entries ≡ before.counts.entries + opened.used.entries
  pub is_its : (m : Model) → Opens before.content m → IsOpening before.content m opened

-- how much of the opening's line is out where the run stopped there, and what was taken; damage is that of the
-- content's first flaw, or of a build that was left
abbrev pub IsOpeningPart : Stop → Moment → List ℕ → Counts → Type 0
IsOpeningPart stops.StoreFailed before part now = (part ≡ []) × StopsWithin before.counts now
IsOpeningPart stops.NoMem before part now = (part ≡ []) × StopsWithin before.counts now
IsOpeningPart (stops.Damaged damage) before part now =
    (part ≡ []) × StopsWithin before.counts now
    × IfSome before.content (λ content. ShowsFlaw content damage ⊎ ShowsBuildLeft content damage)
IsOpeningPart stops.WriteFailed before part now = CutsOpening before part now

-- over what a store opens to, no damage is found, and what was taken is within the bound of its opening
abbrev pub HaltsOpening : Stop → Option Content → Model → Counts → Counts → Type 0
HaltsOpening stops.StoreFailed content m before now = IfSome content (IsWithinOpening m before now)
HaltsOpening stops.NoMem content m before now = IfSome content (IsWithinOpening m before now)
HaltsOpening stops.WriteFailed content m before now = IfSome content (IsWithinOpening m before now)
HaltsOpening (stops.Damaged damage) content m before now = ⊥

-- what is left of a told content: a quiet one is as it was, and of every other one just the changes of its intent are
-- made, and then a build that it tells of is gone on with
abbrev pub LeavesOpening : Stop → Content → Option Content → Type 0
LeavesOpening stops.StoreFailed content now = LeavesStopped content now × (IsQuiet content → now ≡ Some content)
LeavesOpening stops.NoMem content now = LeavesStopped content now × (IsQuiet content → now ≡ Some content)
LeavesOpening stops.WriteFailed content now = LeavesRead content now
LeavesOpening (stops.Damaged damage) content now = LeavesFlawed content now

-- the run stopped at the opening
pub record StoppedOpening (stop : Stop) (before now : Moment) : Type 0 where
  pub part : List ℕ
  pub text : now.held ≡ append_known before.held part
  pub part_is : IsOpeningPart stop before part now.counts
  pub left : IfSome before.content (λ content. LeavesOpening stop content now.content)
  pub stands : (m : Model) → Opens before.content m
      → Opens now.content m × HaltsOpening stop before.content m before.counts now.counts
