-- What a call that makes a step promises.
use Rattle.std.specs.Prelude.{◌≡◌, ℕ, ◌≤◌, ◌+◌, ◌⊎◌, [], Option, Some, None, Result, Ok, Err, IfSome}
use Rattle.pq_base.specs.declared.number.Bound.{Bound}
use Rattle.pq_schema.specs.Schema.{Schema}
use Rattle.pq_base.specs.declared.refusal.Refusal.{Refusal}
use Rattle.pq_builds.specs.Bounds.{build_bound}
use Rattle.pq_builds.specs.Stages.{IsWithinBuild as BuildsWithin, build_ops}
use Rattle.pq_intent.specs.Settling.{HasIntent}
use Rattle.pq_intent.specs.Spending.{TakesAtMost}
use Rattle.pq_print.specs.declared.report.End.{End}
use Rattle.pq_print.specs.declared.report.End.TheVariants as end
use Rattle.pq_print.specs.declared.report.Report.{Report}
use Rattle.pq_store.specs.Counts.{Counts}
use Rattle.pq_store.specs.Content.{Content}
use Rattle.pq_store.specs.declared.damage.Broke.{Broke}
use Rattle.pq_store.specs.declared.damage.Broke.TheVariants.{NoMem}
use Rattle.pq_statement.specs.Actions as action
use Rattle.pq_statement.specs.Actions.{Action, Creates, Adds, Writes, Batches, Misreads, Prepares, Explains, Runs, Reads, Shows, Selects, asked_bound, asked_schema}
use Rattle.pq_reports.specs.Evidence.{TellsEvidenceFor}
use Rattle.pq_catalog.specs.Model.{Model}
use Rattle.pq_reports.specs.Refusing.{CanEnd, IsUnread}
use Rattle.pq_catalog.specs.Stands.{Stands, Opens}
use Rattle.pq_reports.specs.Making.{IsWithinAsked, LeavesAsked, MakesAsked}
pub use Rattle.pq_reports.specs.Making.{StopsIndex}
use Rattle.pq_reports.specs.Telling.{TellsAsked}
use Rattle.pq_reports.specs.Step.{acted_as}
use Rattle.pq_reports.specs.Matches.{Matches}
use Rattle.pq_store.specs.Breaks.{IfDamaged, IsUndamaged}

-- the bound that is fixed, or where there is none, a build's over some rows
abbrev pub IsBound : Option Bound → Bound → Type 0
IsBound None most = (rows : ℕ) × (most ≡ build_bound rows)
IsBound (Some fixed) most = most ≡ fixed

-- by at most the fixed bound, or where there is none, by what a build takes
abbrev pub IsWithinFixed : Option Bound → Counts → Counts → Type 0
IsWithinFixed None before after = BuildsWithin build_ops before after
IsWithinFixed (Some most) before after = TakesAtMost most before after

abbrev pub IsRefusal : End → Type 0
IsRefusal end.Done = ⊥
IsRefusal (end.Rows count next) = ⊥
IsRefusal (end.Refused why) = Unit {0}
IsRefusal (end.InBatch place cause) = Unit {0}

-- a statement that writes nothing: a RUN, a SELECT, a READ, an EXPLAIN, a SHOW, or what is refused before any call
abbrev pub OnlyReads : Result Action Refusal → Type 0
OnlyReads (Ok (Creates table)) = ⊥
OnlyReads (Ok (Adds def)) = ⊥
OnlyReads (Ok (Writes write)) = ⊥
OnlyReads (Ok (Batches writes)) = ⊥
OnlyReads (Ok (Misreads place cause)) = Unit {0}
OnlyReads (Ok (Prepares plan)) = ⊥
OnlyReads (Ok (Explains plan)) = Unit {0}
OnlyReads (Ok (Runs running)) = Unit {0}
OnlyReads (Ok (action.Counts def)) = ⊥
OnlyReads (Ok (Reads reading)) = Unit {0}
OnlyReads (Ok Shows) = Unit {0}
OnlyReads (Ok (Selects plan)) = Unit {0}
OnlyReads (Err why) = Unit {0}

-- where damage is found, the content is as it was, but for an index that was being made
abbrev pub StopsAction : Schema → Action → Content → Option Content → Type 0
StopsAction schema (Creates table) content now = now ≡ Some content
StopsAction schema (Adds def) content now = now ≡ Some content
StopsAction schema (Writes write) content now = now ≡ Some content
StopsAction schema (Batches writes) content now = now ≡ Some content
StopsAction schema (Misreads place cause) content now = now ≡ Some content
StopsAction schema (Prepares plan) content now = StopsIndex schema plan.query plan.chosen.wanted content now
StopsAction schema (Explains plan) content now = now ≡ Some content
StopsAction schema (Runs running) content now = now ≡ Some content
StopsAction schema (action.Counts def) content now = now ≡ Some content
StopsAction schema (Reads reading) content now = now ≡ Some content
StopsAction schema Shows content now = now ≡ Some content
StopsAction schema (Selects plan) content now = now ≡ Some content

abbrev pub StopsAsked : Schema → Result Action Refusal → Content → Option Content → Type 0
StopsAsked schema (Ok action) content now = StopsAction schema action content now
StopsAsked schema (Err why) content now = now ≡ Some content

abbrev pub KeepsDamaged : Schema → Result Action Refusal → Option Content → Option Content → Broke → Type 0
KeepsDamaged schema asked old now broke =
    IfSome old (λ content. IfDamaged (λ damage. StopsAsked schema asked content now) broke)

-- a write or a batch for which memory was wanting isn't made: nothing is changed, or its intent stands
abbrev pub LacksMemory : Result Action Refusal → Option Content → Option Content → Broke → Type 0
LacksMemory (Ok (Writes write)) old now NoMem = (now ≡ old) ⊎ HasIntent now
LacksMemory (Ok (Batches writes)) old now NoMem = (now ≡ old) ⊎ HasIntent now
LacksMemory asked old now broke = Unit {0}

-- what was asked for was made: whatever the content stood for, the report matches the step and the content
-- stands for what it makes
pub record DoneStatement (number : ℕ) (asked : Result Action Refusal) (old now : Option Content) (schema next : Schema)
    (before after : Counts) (report : Report) : Type 0 where
  pub matches : (m : Model) → Stands old schema m → Matches (acted_as m number asked).report report
  pub made : (m : Model) → Stands old schema m → Stands now next (acted_as m number asked).model
  pub ops : after.ops ≡ before.ops + report.used.ops
  pub entries : after.entries ≡ before.entries + report.used.entries
  pub few_ops : report.used.ops ≤ report.bound.ops
  pub few_entries : report.used.entries ≤ report.bound.entries
  pub bound : IsBound (asked_bound schema asked) report.bound
  pub refused : IsRefusal report.end → (now ≡ old) × (next ≡ schema)
  pub accepted : (IsRefusal report.end → ⊥) → next ≡ asked_schema schema asked
  pub numbered : report.number ≡ number
  pub unread : IsUnread number asked report
  pub can : CanEnd schema asked report.end
  pub reads : OnlyReads asked → now ≡ old
  pub tells : (IsRefusal report.end → ⊥) → IfSome old (λ content. MakesAsked schema asked content now report)
  pub kind : (IsRefusal report.end → ⊥) → TellsAsked schema asked report
  pub bare : IsRefusal report.end → report.lines ≡ []

-- it broke off: the content opens to what it stood for, or to what the step makes
pub record BrokenStatement (number : ℕ) (asked : Result Action Refusal) (old now : Option Content) (schema : Schema)
    (before after : Counts) (broke : Broke) : Type 0 where
  pub stopped : (m : Model) → Stands old schema m → Opens now m ⊎ Opens now (acted_as m number asked).model
  pub sound : (m : Model) → Stands old schema m → IsUndamaged broke
  pub within : IsWithinFixed (asked_bound schema asked) before after
  pub within_own : (m : Model) → Stands old schema m → TakesAtMost (acted_as m number asked).report.bound before after
  pub kept : KeepsDamaged schema asked old now broke
  pub left : IfSome old (λ content. LeavesAsked schema asked content now)
  pub within_rows : IfSome old (λ content. IsWithinAsked asked content before after)
  pub memory : (m : Model) → Stands old schema m → LacksMemory asked old now broke
  pub reads : OnlyReads asked → now ≡ old
  pub shown : IfSome old (λ content. TellsEvidenceFor asked schema content broke)
  pub lasting : IfSome now (λ content. TellsEvidenceFor asked schema content broke)

abbrev pub Promises : ℕ → Result Action Refusal → Option Content → Option Content → Schema → Counts → Counts
    → Result (Schema × Report) Broke → Type 0
Promises number asked old now schema before after (Ok made) =
    DoneStatement number asked old now schema made.0 before after made.1
Promises number asked old now schema before after (Err broke) =
    BrokenStatement number asked old now schema before after broke
