-- The fold of the steps over the items of a script, and what is written of their reports.
use Rattle.std.specs.Prelude.{◌≡◌, ℕ, ◌+◌, ◌≤◌, ◌⊎◌, Option, IfSome, Bool, false, true, ◌||◌, List, [], ◌∷◌, ◌++◌, length, if◌then◌else◌}
use Rattle.std.specs.List.{flat_map, sum_by, list_any}
use Rattle.std.specs.Io.KnownBytes.{append_known}
use Rattle.pq_fill.specs.declared.words.Form.{Form}
use Rattle.pq_schema.specs.Schema.{Schema}
use Rattle.pq_schema.specs.declared.query.Query.{Query}
use Rattle.pq_store.specs.Content.{Content}
use Rattle.pq_store.specs.Counts.{Counts}
use Rattle.pq_intent.specs.Spending.{TakesAtMost}
use Rattle.pq_print.specs.declared.report.Report.{Report}
use Rattle.pq_print.specs.Report.{is_refusal}
use Rattle.pq_statement.specs.Actions.{asked_bound, asked_schema}
use Rattle.pq_reports.specs.Evidence.{IsEvidenceFor}
use Rattle.pq_catalog.specs.Model.{Model}
use Rattle.pq_reports.specs.Matches.{Matches}
use Rattle.pq_reports.specs.Making.{IsWithinAsked, LeavesAsked, MakesAsked}
use Rattle.pq_reports.specs.Promise.{IsBound, IsRefusal, IsWithinFixed, OnlyReads, StopsAsked}
use Rattle.pq_reports.specs.Refusing.{CanEnd, IsUnread}
use Rattle.pq_reports.specs.Telling.{TellsAsked}
use Rattle.pq_shell.specs.Answered.{IsAnsweredFor}
use Rattle.pq_check.specs.Written.{IsPrepareOf, IsDefinedAs}
use Rattle.pq_shell.specs.Forms.{item_step, asked_item, shown_report, HasOpening, StandsIn, OpensAt}
use Rattle.pq_shell.specs.Items.{Item, Cut, Rest}
use Rattle.pq_console.specs.Outside.{IsCut}
use Rattle.pq_console.specs.declared.stop.Stop.{Stop}
use Rattle.pq_console.specs.declared.stop.Stop.TheVariants as stops

-- what the store and the sink hold, where they tell, and what the meter counts
pub record Moment : Type 0 where
  pub content : Option Content
  pub held : Option (List ℕ)
  pub counts : Counts

-- ---- over every store

-- the definitions behind a report: a refusal leaves them
abbrev pub schema_behind : Schema → Item → Report → Schema
schema_behind schema item report = if is_refusal report then schema else asked_schema schema (asked_item schema item)

-- what a PREPARE defines answers as the query that it has as it is written
abbrev pub DefinesAsWritten : Schema → Item → Report → Type 0
DefinesAsWritten schema (Cut piece) report =
    (written : Query) → IsPrepareOf schema written piece → is_refusal report ≡ false →
    IsDefinedAs schema.tables written (schema_behind schema (Cut piece) report)
DefinesAsWritten schema Rest report = Unit {0}

-- a report with this number, on the bound of what the item asks for, that tells at most this bound as used; what is
-- refused before any call has just its report, and a refusal is one that what is asked for can have
pub record IsReport (schema : Schema) (number : ℕ) (item : Item) (report : Report) : Type 0 where
  pub number_is : report.number ≡ number
  pub bound_is : IsBound (asked_bound schema (asked_item schema item)) report.bound
  pub few_ops : report.used.ops ≤ report.bound.ops
  pub few_entries : report.used.entries ≤ report.bound.entries
  pub unread_is : IsUnread number (asked_item schema item) report
  pub can : CanEnd schema (asked_item schema item) report.end
  pub defined_is : DefinesAsWritten schema item report

-- a report for each item, numbered on from here; and the definitions from the first to the last
abbrev pub Reports : Schema → ℕ → List Item → List Report → Schema → Type 0
Reports first number [] [] last = last ≡ first
Reports first number [] (report ∷ reports) last = ⊥
Reports first number (item ∷ items) [] last = ⊥
Reports first number (item ∷ items) (report ∷ reports) last =
    IsReport first number item report × Reports (schema_behind first item report) (number + 1) items reports last

-- ---- what is made of the content, whether it stands for a model or not

-- an item was made over a store, and this is its report: what only reads changes nothing; a refusal changes nothing and
-- has no lines; of what is not refused the definitions and the text fix the kind of the report, and of a told content
-- also what was made of it and what was told
pub record PassesItem (schema : Schema) (item : Item) (report : Report) (old now : Option Content) : Type 0 where
  pub reads : OnlyReads (asked_item schema item) → now ≡ old
  pub refused : IsRefusal report.end → (now ≡ old) × (report.lines ≡ [])
  pub kind : (IsRefusal report.end → ⊥) → TellsAsked schema (asked_item schema item) report
  pub tells : (IsRefusal report.end → ⊥)
      → IfSome old (λ content. MakesAsked schema (asked_item schema item) content now report)

-- each of these items was made so of what the items before it had left
abbrev pub PassesOn : Schema → List Item → List Report → Option Content → Option Content → Type 0
PassesOn schema [] reports from to = to ≡ from
PassesOn schema (item ∷ items) [] from to = ⊥
PassesOn schema (item ∷ items) (report ∷ reports) from to =
    (mid : Option Content) × PassesItem schema item report from mid
    × PassesOn (schema_behind schema item report) items reports mid to

-- ---- what is used and told where a run stops

-- the meter rose by what these reports tell as used
pub record RisesBy (reports : List Report) (before now : Counts) : Type 0 where
  pub ops : now.ops ≡ before.ops + sum_by (λ r. r.used.ops) reports
  pub entries : now.entries ≡ before.entries + sum_by (λ r. r.used.entries) reports

-- and then by at most the bound of the item at hand, by nothing where there is none
abbrev pub IsWithinItem : Schema → List Item → Counts → Counts → Type 0
IsWithinItem schema [] before now = now ≡ before
IsWithinItem schema (item ∷ items) before now = IsWithinFixed (asked_bound schema (asked_item schema item)) before now

-- this much of the report of the item at hand is out, and the meter rose by what it tells as used; the item was made of
-- the content that it found
abbrev pub CutsReport : Form → Schema → ℕ → List Item → List ℕ → Counts → Counts → Option Content → Option Content
    → Type 0
CutsReport form schema number [] part before now found left = ⊥
CutsReport form schema number (item ∷ items) part before now found left =
    (report : Report) × IsReport schema number item report × IsCut part (shown_report form report)
    × RisesBy (report ∷ []) before now × (HasOpening form → PassesItem schema item report found left)

-- what is out behind whole reports where a run stops, and what was used for the item at hand; a check stops
-- for no store
abbrev pub IsPart : Form → Stop → Schema → ℕ → List Item → List ℕ → Counts → Counts → Option Content
    → Option Content → Type 0
IsPart form stops.StoreFailed schema number todo part before now found left =
    HasOpening form × (part ≡ []) × IsWithinItem schema todo before now
IsPart form stops.NoMem schema number todo part before now found left =
    (part ≡ []) × IsWithinItem schema todo before now
IsPart form (stops.Damaged damage) schema number todo part before now found left =
    HasOpening form × (part ≡ []) × IsWithinItem schema todo before now
IsPart form stops.WriteFailed schema number todo part before now found left =
    CutsReport form schema number todo part before now found left

-- damage is named with what shows it in what is there now, for these definitions
abbrev pub ShowsDamage : Stop → Schema → List Item → Option Content → Type 0
ShowsDamage stops.StoreFailed schema todo now = Unit {0}
ShowsDamage stops.WriteFailed schema todo now = Unit {0}
ShowsDamage stops.NoMem schema todo now = Unit {0}
ShowsDamage (stops.Damaged damage) schema [] now = ⊥
ShowsDamage (stops.Damaged damage) schema (item ∷ items) now =
    IfSome now (λ content. IsEvidenceFor (asked_item schema item) schema content damage)

-- and whether the store tells or not, it is damage that the item at hand may be told
abbrev pub AnswersItem : (List ℕ → Option (List ℕ) → Type 0) → Stop → Schema → List Item → Type 0
AnswersItem answers stops.StoreFailed schema todo = Unit {0}
AnswersItem answers stops.WriteFailed schema todo = Unit {0}
AnswersItem answers stops.NoMem schema todo = Unit {0}
AnswersItem answers (stops.Damaged damage) schema [] = ⊥
AnswersItem answers (stops.Damaged damage) schema (item ∷ items) =
    IsAnsweredFor schema answers (asked_item schema item) damage

-- ---- what is left of the content, whether it stands for a model or not

-- an item that changes nothing: it only reads, or is refused
abbrev pub IsStill : Schema → Item → Report → Type 0
IsStill schema item report = OnlyReads (asked_item schema item) ⊎ (is_refusal report ≡ true)

-- items of which each is so
abbrev pub AreStill : Schema → List Item → List Report → Type 0
AreStill schema [] reports = Unit {0}
AreStill schema (item ∷ items) [] = Unit {0}
AreStill schema (item ∷ items) (report ∷ reports) =
    IsStill schema item report × AreStill (schema_behind schema item report) items reports

-- an item broke off and left this of a content that is told; an index that it was making took no more than its table's
-- rows there need
abbrev pub BreaksItem : (Content → Type 0) → Schema → Item → Option Content → Counts → Counts → Type 0
BreaksItem leaves schema item old before after =
    IfSome old (λ content. leaves content × IsWithinAsked (asked_item schema item) content before after)

-- damage leaves what was there as the item at hand began, but for an index that was being made; where a call failed
-- nothing was done, or some of what was asked for; and where memory was wanting the same, or all of it was done and its
-- report couldn't be made. What was done where a report is cut stands with the report
abbrev pub KeepsItem : Stop → Schema → List Item → Option Content → Option Content → Counts → Counts → Type 0
KeepsItem (stops.Damaged damage) schema [] old now before after = ⊥
KeepsItem (stops.Damaged damage) schema (item ∷ items) old now before after =
    BreaksItem (λ content. StopsAsked schema (asked_item schema item) content now) schema item old before after
KeepsItem stops.StoreFailed schema [] old now before after = now ≡ old
KeepsItem stops.StoreFailed schema (item ∷ items) old now before after =
    BreaksItem (λ content. LeavesAsked schema (asked_item schema item) content now) schema item old before after
KeepsItem stops.WriteFailed schema todo old now before after = Unit {0}
KeepsItem stops.NoMem schema [] old now before after = now ≡ old
KeepsItem stops.NoMem schema (item ∷ items) old now before after =
    BreaksItem (λ content. LeavesAsked schema (asked_item schema item) content now) schema item old before after
    ⊎ ((report : Report) × PassesItem schema item report old now)

-- ---- over a model

-- the model after these items, numbered from here
abbrev pub after : Form → Model → ℕ → List Item → Model
after form m number [] = m
after form m number (item ∷ items) = after form (item_step form m number item).model (number + 1) items

-- these reports match the steps of these items, one by one
abbrev pub ReportedItems : Form → Model → ℕ → List Item → List Report → Type 0
ReportedItems form m number [] [] = Unit {0}
ReportedItems form m number [] (report ∷ reports) = ⊥
ReportedItems form m number (item ∷ items) [] = ⊥
ReportedItems form m number (item ∷ items) (report ∷ reports) =
    Matches (item_step form m number item).report report
    × ReportedItems form (item_step form m number item).model (number + 1) items reports

-- what stands where a run stops: the model before the item at hand or after it; behind a report that was cut,
-- the one after it
abbrev pub Halts : Form → Stop → Model → ℕ → List Item → Option Content → List ℕ → Type 0
Halts form (stops.Damaged damage) m number todo now part = ⊥
Halts form stops.WriteFailed m number [] now part = ⊥
Halts form stops.WriteFailed m number (item ∷ items) now part =
    (report : Report) × Matches (item_step form m number item).report report × IsCut part (shown_report form report)
    × OpensAt form now (item_step form m number item).model
Halts form stops.StoreFailed m number [] now part = OpensAt form now m
Halts form stops.StoreFailed m number (item ∷ items) now part =
    OpensAt form now m ⊎ OpensAt form now (item_step form m number item).model
Halts form stops.NoMem m number [] now part = OpensAt form now m
Halts form stops.NoMem m number (item ∷ items) now part =
    OpensAt form now m ⊎ OpensAt form now (item_step form m number item).model

-- what was used for the item at hand is within the bound of its step
abbrev pub IsWithinStep : Form → Model → ℕ → List Item → Counts → Counts → Type 0
IsWithinStep form m number [] before now = Unit {0}
IsWithinStep form m number (item ∷ items) before now =
    TakesAtMost (item_step form m number item).report.bound before now

-- ---- items that were made

-- these items were made, and these are their reports
pub record MadeReports (form : Form) (first last : Schema) (from to : Moment) (number : ℕ) (items : List Item)
    (reports : List Report) : Type 0 where
  pub told : Reports first number items reports last
  pub folds : (m : Model) → StandsIn form from.content first m
      → StandsIn form to.content last (after form m number items) × ReportedItems form m number items reports
  pub still : AreStill first items reports → to.content ≡ from.content
  pub passes : HasOpening form → PassesOn first items reports from.content to.content
  pub text : to.held ≡ append_known from.held (flat_map (shown_report form) reports)
  pub rises : RisesBy reports from.counts to.counts

-- the same, and whether one of the reports is a refusal
pub record ServedItems (form : Form) (first last : Schema) (from to : Moment) (number : ℕ) (items : List Item)
    (refused refused_now : Bool) : Type 0 where
  pub reports : List Report
  pub made : MadeReports form first last from to number items reports
  pub refusal : refused_now ≡ (refused || list_any is_refusal reports)

-- some items were made, and then the run stopped
pub record StoppedItem (answers : List ℕ → Option (List ℕ) → Type 0) (form : Form) (stop : Stop) (first : Schema)
    (from now : Moment) (number : ℕ) (items : List Item) : Type 0 where
  pub done : List Item
  pub todo : List Item
  pub reports : List Report
  pub last : Schema
  pub part : List ℕ
  pub between : Counts
  pub begun : Option Content
  pub among : items ≡ done ++ todo
  pub told : Reports first number done reports last
  pub text : now.held ≡ append_known from.held (flat_map (shown_report form) reports ++ part)
  pub rises : RisesBy reports from.counts between
  pub part_is : IsPart form stop last (number + length done) todo part between now.counts begun now.content
  pub shown : ShowsDamage stop last todo now.content
  pub answered : AnswersItem answers stop last todo
  pub still : AreStill first done reports → begun ≡ from.content
  pub passes : HasOpening form → PassesOn first done reports from.content begun
  pub kept : KeepsItem stop last todo begun now.content between now.counts
  pub stands : (m : Model) → StandsIn form from.content first m
      → ReportedItems form m number done reports
      × Halts form stop (after form m number done) (number + length done) todo now.content part
  pub own : (m : Model) → StandsIn form from.content first m
      → IsWithinStep form (after form m number done) (number + length done) todo between now.counts
