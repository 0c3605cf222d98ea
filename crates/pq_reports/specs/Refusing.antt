-- The refusals that a statement can have, whatever the store holds.
use Rattle.std.specs.Prelude.{◌≡◌, ℕ, ◌<◌, List, Option, Some, None, Result, Ok, Err}
use Rattle.pq_base.specs.declared.refusal.Refusal.{Refusal}
use Rattle.pq_base.specs.declared.refusal.Refusal.TheVariants as refusal
use Rattle.pq_schema.specs.Schema.{Schema}
use Rattle.pq_schema.specs.Tables.{table_at}
use Rattle.pq_schema.specs.declared.table.NewIndex.{NewIndex}
use Rattle.pq_schema.specs.declared.table.Table.{Table}
use Rattle.pq_print.specs.declared.report.End.{End}
use Rattle.pq_print.specs.declared.report.End.TheVariants as end
use Rattle.pq_print.specs.declared.report.Report.{Report}
use Rattle.pq_batch.specs.Promises.{CanRefuseAt}
use Rattle.pq_counters.specs.Whole.{CanRefuseWhole}
use Rattle.pq_reports.specs.Step.{misread_report, unread_report}
use Rattle.pq_statement.specs.Actions.{Action, Creates, Adds, Writes, Batches, Misreads, Prepares, Explains, Runs, Counts, Reads, Shows, Selects}

-- an index can be over too many rows
abbrev pub CanRefuseIndex : List Table → Option NewIndex → Refusal → Type 0
CanRefuseIndex tables None why = ⊥
CanRefuseIndex tables (Some new) why = why ≡ refusal.TooManyRows (table_at tables new.table).name

-- calls of the store can refuse a write, a batch, an index and a counter, and nothing else; a batch as a whole for the
-- length of its changes
abbrev pub CanRefuseAction : Schema → Action → Refusal → Type 0
CanRefuseAction schema (Creates table) why = ⊥
CanRefuseAction schema (Adds def) why = ⊥
CanRefuseAction schema (Writes write) why = CanRefuseWhole schema write why
CanRefuseAction schema (Batches writes) why =
    (length : ℕ) × (1048576 < length) × (why ≡ refusal.BatchLong length)
CanRefuseAction schema (Misreads place cause) why = ⊥
CanRefuseAction schema (Prepares plan) why = CanRefuseIndex schema.tables plan.chosen.wanted why
CanRefuseAction schema (Explains plan) why = ⊥
CanRefuseAction schema (Runs running) why = ⊥
CanRefuseAction schema (Counts def) why = why ≡ refusal.NotEmpty def.table
CanRefuseAction schema (Reads reading) why = ⊥
CanRefuseAction schema Shows why = ⊥
CanRefuseAction schema (Selects plan) why = ⊥

-- what is refused before any call is refused for that
abbrev pub CanRefuseAsked : Schema → Result Action Refusal → Refusal → Type 0
CanRefuseAsked schema (Ok action) why = CanRefuseAction schema action why
CanRefuseAsked schema (Err asked) why = why ≡ asked

-- a batch can be refused by one of its writes, as that can be
abbrev pub CanRefuseInBatch : Schema → Result Action Refusal → ℕ → Refusal → Type 0
CanRefuseInBatch schema (Ok (Batches writes)) place cause = CanRefuseAt schema writes place cause
CanRefuseInBatch schema (Ok (Misreads first why)) place cause = (place ≡ first) × (cause ≡ why)
CanRefuseInBatch schema asked place cause = ⊥

-- a report that ends so is refused, if at all, as what was asked for can be
abbrev pub CanEnd : Schema → Result Action Refusal → End → Type 0
CanEnd schema asked end.Done = Unit {0}
CanEnd schema asked (end.Rows count next) = Unit {0}
CanEnd schema asked (end.Refused why) = CanRefuseAsked schema asked why
CanEnd schema asked (end.InBatch place cause) = CanRefuseInBatch schema asked place cause

-- what is refused before any call has just its report
abbrev pub IsUnread : ℕ → Result Action Refusal → Report → Type 0
IsUnread number (Err why) report = report ≡ unread_report number why
IsUnread number (Ok (Misreads place cause)) report = report ≡ misread_report number place cause
IsUnread number (Ok action) report = Unit {0}
