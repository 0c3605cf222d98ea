-- Steps that change nothing, and the clauses on the step of a piece.
use Rattle.std.proofs.Common.{◌≡◌, ℕ, ◌⊎◌, Bool, true, false, List, [], Option, Some, None, Result, Ok, Err, if◌then◌else◌, refl, sym, ap, ◌∙◌, subst, arith, inl, lit≤}
use Rattle.std.specs.Prelude.{◌+◌, ◌*◌, ◌≤◌, nat_le, IfOk, IfErr, IfSome, OnErr}
use Rattle.std.proofs.lemmas.Bool.{leb-true}
use Rattle.std.proofs.lemmas.Option.{none-some, same_Some}
use Rattle.pq_base.specs.declared.number.Bound.{Bound}
use Rattle.pq_base.specs.declared.number.Used.{Used}
use Rattle.pq_base.specs.declared.refusal.Refusal.{Refusal}
use Rattle.pq_batch.specs.Batches.{Unmade, batch_bound, batch_effect}
use Rattle.pq_builds.specs.Bounds.{bound, fixed_bound, prepare_bound}
use Rattle.pq_builds.specs.Stages.{IsWithinBuild as BuildsWithin, build_ops}
use Rattle.pq_schema.specs.Schema.{Schema}
use Rattle.pq_schema.specs.declared.query.Query.{Query}
use Rattle.pq_schema.specs.declared.table.NewIndex.{NewIndex}
use Rattle.pq_content.specs.Tables.{Rows}
use Rattle.pq_tallies.specs.Writes.{counted_effect}
use Rattle.pq_counters.specs.Bounds.{whole_bound}
use Rattle.pq_schema.specs.declared.definition.CounterDef.{CounterDef}
use Rattle.pq_index_keep.specs.declared.write.Write.{Write}
use Rattle.pq_print.specs.Report.{is_refused}
use Rattle.pq_print.specs.declared.report.End.{End}
use Rattle.pq_print.specs.declared.report.Report.{Report}
use Rattle.pq_store.specs.Counts.{Counts}
use Rattle.pq_store.specs.Content.{Content}
use Rattle.pq_store.specs.declared.damage.Broke.{Broke}
use Rattle.pq_store.specs.declared.damage.Broke.TheVariants as broke
use Rattle.pq_store.specs.declared.damage.Damage.{Damage}
use Rattle.pq_intent.specs.Changing.{IfDamagedSame}
use Rattle.pq_statement.specs.Actions as action
use Rattle.pq_statement.specs.Actions.{Action, Creates, Adds, Writes, Batches, Misreads, Prepares, Explains, Runs, Reads, Shows, Selects, action_bound, action_schema, action_of, asked_bound, asked_schema, schema_after, statement_bound}
use Rattle.pq_reports.specs.Evidence.{IsEvidence, IsEvidenceFor, TellsEvidence, TellsEvidenceFor}
use Rattle.pq_catalog.specs.Model.{Model}
use Rattle.pq_catalog.specs.Stands.{HoldsModel, Stands, Opens}
use Rattle.pq_planning.specs.Planning.{PlannedDefinition}
use Rattle.pq_reports.specs.Step.{Step, action_step, acted_as, step, refusal_report, report_of, report_step, explanation, misread_report, unread_report, batched_as, batch_step, crowded_refusal, crowding_refusal, counted_over, counter_step, effected_as, prepared_over, read_step, write_step}
use Rattle.pq_statement.specs.Readings.{Reading}
use Rattle.pq_text.specs.declared.piece.Piece.{Piece}
use Rattle.pq_planning.specs.Lines.{show_lines}
use Rattle.pq_store.specs.Breaks.{IsUndamaged}
use Rattle.pq_reports.specs.Matches.{Matches}
use Rattle.pq_intent.specs.Spending.{TakesAtMost}
use Rattle.pq_reports.specs.Promise.{DoneStatement, BrokenStatement, Promises, IsBound, IsRefusal, IsWithinFixed, KeepsDamaged, LacksMemory, OnlyReads, StopsAction, StopsAsked, StopsIndex}
use Rattle.pq_reports.specs.Making.{IsWithinAsked, IsWithinRows, LeavesAction, LeavesAsked, LeavesPrepared, MakesAction, MakesAsked}
use Rattle.pq_reports.specs.Refusing.{CanEnd, IsUnread}
use Rattle.pq_reports.specs.Telling.{TellsAction, TellsAsked}
use Rattle.pq_catalog.proofs.Standing.{settled_opens}

-- ---- what is said of a content that is told

-- what holds of each content holds of the one that is told
pub of_each : (old : Option Content) (holds : Content → Type 0) → ((content : Content) → holds content) → IfSome old holds
of_each None holds each = tt
of_each (Some content) holds each = each content

pub of_told : (old : Option Content) (holds also : Content → Type 0) → ((content : Content) → holds content → also content) → IfSome old holds → IfSome old also
of_told None holds also from here = tt
of_told (Some content) holds also from here = from content here

-- a content that is as it was is one that what was asked for may leave
prepared_left : (schema next : Schema) (query : Query) (wanted : Option NewIndex) (content : Content) (now : Option Content) → now ≡ Some content → LeavesPrepared schema next query wanted content now
prepared_left schema next query None content now same = inl same
prepared_left schema next query (Some new) content now same = inl same

action_left : (schema : Schema) (action : Action) (content : Content) (now : Option Content) → now ≡ Some content → LeavesAction schema action content now
action_left schema (Creates table) content now same = inl same
action_left schema (Adds def) content now same = inl same
action_left schema (Writes write) content now same = inl same
action_left schema (Batches writes) content now same = inl same
action_left schema (Misreads place cause) content now same = same
action_left schema (Prepares plan) content now same = prepared_left schema (action_schema schema (Prepares plan)) plan.query plan.chosen.wanted content now same
action_left schema (Explains plan) content now same = same
action_left schema (Runs running) content now same = same
action_left schema (action.Counts def) content now same = inl same
action_left schema (Reads reading) content now same = same
action_left schema Shows content now same = same
action_left schema (Selects plan) content now same = same

pub same_left : (schema : Schema) (asked : Result Action Refusal) (old now : Option Content) → now ≡ old → IfSome old (λ content. LeavesAsked schema asked content now)
same_left schema asked None now same = tt
same_left schema (Ok action) (Some content) now same = action_left schema action content now same
same_left schema (Err why) (Some content) now same = same

-- where no call is made, nothing is used
rows_within : (wanted : Option NewIndex) (content : Content) (counts : Counts) → IsWithinRows wanted content counts counts
rows_within None content counts = tt
rows_within (Some new) content counts = record { ops = omega arith; entries = omega arith }

pub none_within : (asked : Result Action Refusal) (content : Content) (counts : Counts) → IsWithinAsked asked content counts counts
none_within (Err why) content counts = tt
none_within (Ok (Creates table)) content counts = tt
none_within (Ok (Adds def)) content counts = tt
none_within (Ok (Writes write)) content counts = tt
none_within (Ok (Batches writes)) content counts = tt
none_within (Ok (Misreads place cause)) content counts = tt
none_within (Ok (Prepares plan)) content counts = rows_within plan.chosen.wanted content counts
none_within (Ok (Explains plan)) content counts = tt
none_within (Ok (Runs running)) content counts = tt
none_within (Ok (action.Counts def)) content counts = tt
none_within (Ok (Reads reading)) content counts = tt
none_within (Ok Shows) content counts = tt
none_within (Ok (Selects plan)) content counts = tt

-- a report that tells lines isn't refused
ended_bare : (report : Report) → report.end ≡ End.Done → IsRefusal report.end → report.lines ≡ []
ended_bare report ended refused = absurd (subst IsRefusal ended refused)

-- a statement that is refused before any call of the store changes nothing and uses nothing
pub unread_done : (number : ℕ) (why : Refusal) (old : Option Content) (schema : Schema) (counts : Counts)
    → DoneStatement number (Err why) old old schema schema counts counts (refusal_report number why (bound 0 0))
unread_done number why old schema counts = record {
  matches = λ m s. record { same = refl; ops = lit≤ tt; entries = lit≤ tt };
  made = λ m s. s;
  ops = omega arith;
  entries = omega arith;
  few_ops = lit≤ tt;
  few_entries = lit≤ tt;
  bound = refl;
  refused = λ _. (refl, refl);
  accepted = λ not. absurd (not tt);
  numbered = refl;
  unread = refl;
  can = refl;
  reads = λ _. refl;
  tells = λ not. absurd (not tt);
  kind = λ not. absurd (not tt);
  bare = λ _. refl;
}

-- where no damage is told, nothing has to show it
pub sound_shown : (old : Option Content) (schema : Schema) (broke : Broke) → IsUndamaged broke → IfSome old (λ content. TellsEvidence schema content broke)
sound_shown None schema broke sound = tt
sound_shown (Some content) schema broke.Failed sound = tt
sound_shown (Some content) schema broke.NoMem sound = tt
sound_shown (Some content) schema (broke.Damaged damage) sound = absurd sound

-- and by whatever was asked for
pub sound_for : (asked : Result Action Refusal) (old : Option Content) (schema : Schema) (broke : Broke) → IsUndamaged broke → IfSome old (λ content. TellsEvidenceFor asked schema content broke)
sound_for asked None schema broke sound = tt
sound_for asked (Some content) schema broke.Failed sound = tt
sound_for asked (Some content) schema broke.NoMem sound = tt
sound_for asked (Some content) schema (broke.Damaged damage) sound = absurd sound

-- what shows in the content shows for whatever was asked
evidence_for : (asked : Result Action Refusal) (schema : Schema) (content : Content) (damage : Damage) → IsEvidence schema content damage → IsEvidenceFor asked schema content damage
evidence_for (Err why) schema content damage shows = shows
evidence_for (Ok (Creates table)) schema content damage shows = shows
evidence_for (Ok (Adds def)) schema content damage shows = shows
evidence_for (Ok (Writes write)) schema content damage shows = shows
evidence_for (Ok (Batches writes)) schema content damage shows = inl shows
evidence_for (Ok (Misreads place cause)) schema content damage shows = shows
evidence_for (Ok (Prepares plan)) schema content damage shows = shows
evidence_for (Ok (Explains plan)) schema content damage shows = shows
evidence_for (Ok (Runs running)) schema content damage shows = shows
evidence_for (Ok (action.Counts def)) schema content damage shows = shows
evidence_for (Ok (Reads reading)) schema content damage shows = shows
evidence_for (Ok Shows) schema content damage shows = shows
evidence_for (Ok (Selects plan)) schema content damage shows = shows

pub shown_for : (asked : Result Action Refusal) (old : Option Content) (schema : Schema) (broke : Broke) → IfSome old (λ content. TellsEvidence schema content broke) → IfSome old (λ content. TellsEvidenceFor asked schema content broke)
shown_for asked None schema broke shown = tt
shown_for asked (Some content) schema broke.Failed shown = tt
shown_for asked (Some content) schema broke.NoMem shown = tt
shown_for asked (Some content) schema (broke.Damaged damage) shown = evidence_for asked schema content damage shown

-- and nothing has to be kept
pub sound_kept : (schema : Schema) (asked : Result Action Refusal) (old now : Option Content) (broke : Broke) → IsUndamaged broke → KeepsDamaged schema asked old now broke
sound_kept schema asked None now broke sound = tt
sound_kept schema asked (Some content) now broke.Failed sound = tt
sound_kept schema asked (Some content) now broke.NoMem sound = tt
sound_kept schema asked (Some content) now (broke.Damaged damage) sound = absurd sound

-- a content that is as it was is one that what was asked for may leave
index_same : (schema : Schema) (query : Query) (wanted : Option NewIndex) (content : Content) (now : Option Content) → now ≡ Some content → StopsIndex schema query wanted content now
index_same schema query None content now same = same
index_same schema query (Some new) content now same = inl same

action_same : (schema : Schema) (action : Action) (content : Content) (now : Option Content) → now ≡ Some content → StopsAction schema action content now
action_same schema (Creates table) content now same = same
action_same schema (Adds def) content now same = same
action_same schema (Writes write) content now same = same
action_same schema (Batches writes) content now same = same
action_same schema (Misreads place cause) content now same = same
action_same schema (Prepares plan) content now same = index_same schema plan.query plan.chosen.wanted content now same
action_same schema (Explains plan) content now same = same
action_same schema (Runs running) content now same = same
action_same schema (action.Counts def) content now same = same
action_same schema (action.Reads reading) content now same = same
action_same schema Shows content now same = same
action_same schema (Selects plan) content now same = same

asked_same : (schema : Schema) (asked : Result Action Refusal) (content : Content) (now : Option Content) → now ≡ Some content → StopsAsked schema asked content now
asked_same schema (Ok action) content now same = action_same schema action content now same
asked_same schema (Err why) content now same = same

pub damaged_kept : (schema : Schema) (asked : Result Action Refusal) (old now : Option Content) (broke : Broke) → IfDamagedSame old now broke → KeepsDamaged schema asked old now broke
damaged_kept schema asked None now broke same = tt
damaged_kept schema asked (Some content) now broke.Failed same = tt
damaged_kept schema asked (Some content) now broke.NoMem same = tt
damaged_kept schema asked (Some content) now (broke.Damaged damage) same = asked_same schema asked content now same

pub same_kept : (schema : Schema) (asked : Result Action Refusal) (old now : Option Content) (broke : Broke) → now ≡ old → KeepsDamaged schema asked old now broke
same_kept schema asked None now broke same = tt
same_kept schema asked (Some content) now broke.Failed same = tt
same_kept schema asked (Some content) now broke.NoMem same = tt
same_kept schema asked (Some content) now (broke.Damaged damage) same = asked_same schema asked content now same

-- where nothing is changed, no write is made
pub unchanged_lacks : (asked : Result Action Refusal) (old now : Option Content) (broke : Broke) → now ≡ old → LacksMemory asked old now broke
unchanged_lacks (Err why) old now broke same = tt
unchanged_lacks (Ok (Creates table)) old now broke same = tt
unchanged_lacks (Ok (Adds def)) old now broke same = tt
unchanged_lacks (Ok (Writes write)) old now broke.Failed same = tt
unchanged_lacks (Ok (Writes write)) old now broke.NoMem same = inl same
unchanged_lacks (Ok (Writes write)) old now (broke.Damaged damage) same = tt
unchanged_lacks (Ok (Batches writes)) old now broke.Failed same = tt
unchanged_lacks (Ok (Batches writes)) old now broke.NoMem same = inl same
unchanged_lacks (Ok (Batches writes)) old now (broke.Damaged damage) same = tt
unchanged_lacks (Ok (Misreads place cause)) old now broke same = tt
unchanged_lacks (Ok (Prepares plan)) old now broke same = tt
unchanged_lacks (Ok (Explains plan)) old now broke same = tt
unchanged_lacks (Ok (Runs running)) old now broke same = tt
unchanged_lacks (Ok (action.Counts def)) old now broke same = tt
unchanged_lacks (Ok (Reads reading)) old now broke same = tt
unchanged_lacks (Ok Shows) old now broke same = tt
unchanged_lacks (Ok (Selects plan)) old now broke same = tt

-- where damage left the content as it was, what showed it shows it still
pub shown_still : (old now : Option Content) (schema : Schema) (broke : Broke) → IfDamagedSame old now broke → IfSome old (λ content. TellsEvidence schema content broke)
    → IfSome now (λ content. TellsEvidence schema content broke)
shown_still old now schema broke.Failed same shown = sound_shown now schema broke.Failed tt
shown_still old now schema broke.NoMem same shown = sound_shown now schema broke.NoMem tt
shown_still old now schema (broke.Damaged damage) same shown =
    subst (λ (o : Option Content). IfSome o (λ content. TellsEvidence schema content (broke.Damaged damage))) (sym same) shown

pub still_for : (asked : Result Action Refusal) (old now : Option Content) (schema : Schema) (broke : Broke) → IfDamagedSame old now broke → IfSome old (λ content. TellsEvidenceFor asked schema content broke)
    → IfSome now (λ content. TellsEvidenceFor asked schema content broke)
still_for asked old now schema broke.Failed same shown = sound_for asked now schema broke.Failed tt
still_for asked old now schema broke.NoMem same shown = sound_for asked now schema broke.NoMem tt
still_for asked old now schema (broke.Damaged damage) same shown =
    subst (λ (o : Option Content). IfSome o (λ content. TellsEvidenceFor asked schema content (broke.Damaged damage))) (sym same) shown

-- the bound that the definitions fix is that of the step
prepared_bound : (m : Model) (number : ℕ) (plan : PlannedDefinition) (why : Option Refusal) → (prepared_over m number plan why).report.bound ≡ prepare_bound plan.chosen.wanted m.rows
prepared_bound m number plan None = refl
prepared_bound m number plan (Some why) = refl

index_bound : (wanted : Option NewIndex) (rows : Rows) (most : Bound) → fixed_bound wanted ≡ Some most → prepare_bound wanted rows ≡ most
index_bound None rows most is = same_Some _ _ is
index_bound (Some new) rows most is = absurd (none-some _ is)

effected_bound : (m : Model) (number : ℕ) (most : Bound) (made : Result Rows Refusal) → (effected_as m number most made).report.bound ≡ most
effected_bound m number most (Ok rows) = refl
effected_bound m number most (Err why) = refl

written_bound : (m : Model) (number : ℕ) (write : Write) → (write_step m number write).report.bound ≡ whole_bound m.schema write
unfolding write_step
written_bound m number write = effected_bound m number (whole_bound m.schema write) (counted_effect m.schema m.rows write)

batched_bound : (m : Model) (number : ℕ) (most : Bound) (made : Result Rows Unmade) → (batched_as m number most made).report.bound ≡ most
batched_bound m number most (Ok rows) = refl
batched_bound m number most (Err why) = refl

batch_bound_is : (m : Model) (number : ℕ) (writes : List Write) → (batch_step m number writes).report.bound ≡ batch_bound m.schema writes
unfolding batch_step
batch_bound_is m number writes = batched_bound m number (batch_bound m.schema writes) (batch_effect m.schema m.rows writes)

over_bound : (m : Model) (number : ℕ) (def : CounterDef) (why : Option Refusal) → (counted_over m number def why).report.bound ≡ bound 2 1
over_bound m number def None = refl
over_bound m number def (Some why) = refl

counter_bound : (m : Model) (number : ℕ) (def : CounterDef) → (counter_step m number def).report.bound ≡ bound 2 1
unfolding counter_step
counter_bound m number def = over_bound m number def (crowded_refusal m def)

read_bound : (m : Model) (number : ℕ) (reading : Reading) → (read_step m number reading).report.bound ≡ bound 1 1
unfolding read_step
read_bound m number reading = refl

step_bound : (m : Model) (number : ℕ) (action : Action) (most : Bound) → action_bound m.schema action ≡ Some most → (action_step m number action).report.bound ≡ most
step_bound m number (Creates table) most is = same_Some _ _ is
step_bound m number (Adds def) most is = same_Some _ _ is
step_bound m number (Writes write) most is = written_bound m number write ∙ same_Some _ _ is
step_bound m number (Batches writes) most is = batch_bound_is m number writes ∙ same_Some _ _ is
step_bound m number (Misreads place cause) most is = same_Some _ _ is
step_bound m number (Prepares plan) most is = prepared_bound m number plan (crowding_refusal m plan.chosen.wanted) ∙ index_bound plan.chosen.wanted m.rows most is
step_bound m number (Explains plan) most is = same_Some _ _ is
step_bound m number (Runs running) most is = same_Some _ _ is
step_bound m number (action.Counts def) most is = counter_bound m number def ∙ same_Some _ _ is
step_bound m number (action.Reads reading) most is = read_bound m number reading ∙ same_Some _ _ is
step_bound m number Shows most is = same_Some _ _ is
step_bound m number (Selects plan) most is = same_Some _ _ is

-- so what is within the one is within the other
pub within_step : (number : ℕ) (action : Action) (old : Option Content) (schema : Schema) (most : Bound) (before after : Counts) → action_bound schema action ≡ Some most → TakesAtMost most before after
    → (m : Model) → Stands old schema m → TakesAtMost (action_step m number action).report.bound before after
within_step number action old schema most before after is within m s =
    subst (λ (b : Bound). TakesAtMost b before after) (sym (step_bound m number action most (ap (λ (x : Schema). action_bound x action) (sym s.known) ∙ is))) within

-- a PREPARE that makes an index is within the bound of its build over the rows
pub within_prepared : (m : Model) (number : ℕ) (plan : PlannedDefinition) (before after : Counts) → TakesAtMost (prepare_bound plan.chosen.wanted m.rows) before after
    → TakesAtMost (prepared_over m number plan (crowding_refusal m plan.chosen.wanted)).report.bound before after
within_prepared m number plan before after within =
    subst (λ (b : Bound). TakesAtMost b before after) (sym (prepared_bound m number plan (crowding_refusal m plan.chosen.wanted))) within

-- no call was made
pub within_none : (most : Option Bound) (counts : Counts) → IsWithinFixed most counts counts
within_none None counts = record { count = 0; few = lit≤ tt; ops = omega arith; entries = omega arith }
within_none (Some most) counts = record { ops = omega arith; entries = omega arith }

-- what a report tells as used is within the bound that it tells
within_build : (rows : ℕ) (b : Bool) (most : Bound) (before after : Counts) → nat_le rows 1000000 ≡ b → most ≡ (if b then bound (build_ops rows) (2 * rows) else bound 1 1000001)
    → after.ops ≤ before.ops + most.ops → after.entries ≤ before.entries + most.entries → BuildsWithin build_ops before after
within_build rows true most before after few is ops entries = record {
  count = rows;
  few = leb-true rows 1000000 few;
  ops = omega (arith, ops, ap (λ (x : Bound). x.ops) is);
  entries = omega (arith, entries, ap (λ (x : Bound). x.entries) is);
}
within_build rows false most before after many is ops entries = record {
  count = 1000000;
  few = lit≤ tt;
  ops = omega (arith, ops, ap (λ (x : Bound). x.ops) is, one_of_many);
  entries = omega (arith, entries, ap (λ (x : Bound). x.entries) is);
}
  where
    one_of_many : 1 ≤ build_ops 1000000
    one_of_many = lit≤ tt

pub within_reported : (fixed : Option Bound) (report : Report) (before after : Counts) → IsBound fixed report.bound → after.ops ≡ before.ops + report.used.ops → after.entries ≡ before.entries + report.used.entries
    → report.used.ops ≤ report.bound.ops → report.used.entries ≤ report.bound.entries → IsWithinFixed fixed before after
within_reported None report before after is ops entries few_ops few_entries =
    within_build is.0 (nat_le is.0 1000000) report.bound before after refl is.1 (omega (arith, ops, few_ops)) (omega (arith, entries, few_entries))
within_reported (Some most) report before after is ops entries few_ops few_entries =
    record { ops = omega (arith, ops, few_ops, ap (λ (b : Bound). b.ops) is); entries = omega (arith, entries, few_entries, ap (λ (b : Bound). b.entries) is) }

-- nothing changed, no call was made and no damage found
pub broken_same : (number : ℕ) (asked : Result Action Refusal) (old : Option Content) (schema : Schema) (counts : Counts) (broke : Broke)
    → IsUndamaged broke → BrokenStatement number asked old old schema counts counts broke
broken_same number asked old schema counts broke sound = record {
  stopped = λ m s. inl (settled_opens s.settled);
  sound = λ m s. sound;
  within = within_none (asked_bound schema asked) counts;
  within_own = λ m s. record { ops = omega arith; entries = omega arith };
  kept = same_kept schema asked old old broke refl;
  left = same_left schema asked old old refl;
  within_rows = of_each old (λ content. IsWithinAsked asked content counts counts) (λ content. none_within asked content counts);
  memory = λ m s. unchanged_lacks asked old old broke refl;
  reads = λ _. refl;
  shown = sound_for asked old schema broke sound;
  lasting = sound_for asked old schema broke sound;
}

-- the same where the content is told to be as it was
pub broken_kept : (number : ℕ) (asked : Result Action Refusal) (old now : Option Content) (schema : Schema) (before after : Counts) (broke : Broke)
    → now ≡ old → ((m : Model) → Stands old schema m → IsUndamaged broke) → IsWithinFixed (asked_bound schema asked) before after
    → ((m : Model) → Stands old schema m → TakesAtMost (acted_as m number asked).report.bound before after)
    → IfSome old (λ content. IsWithinAsked asked content before after) → IfSome old (λ content. TellsEvidenceFor asked schema content broke)
    → BrokenStatement number asked old now schema before after broke
broken_kept number asked old now schema before after broke same sound within own rows shown = record {
  stopped = λ m s. inl (settled_opens (subst (λ o. HoldsModel o m) (sym same) s.settled));
  sound = sound;
  within = within;
  within_own = own;
  kept = same_kept schema asked old now broke same;
  left = same_left schema asked old now same;
  within_rows = rows;
  memory = λ m s. unchanged_lacks asked old now broke same;
  reads = λ _. same;
  shown = shown;
  lasting = subst (λ (o : Option Content). IfSome o (λ content. TellsEvidenceFor asked schema content broke)) (sym same) shown;
}

-- what is refused before any call has just the report of its refusal
pub unread_err : (number : ℕ) (asked : Result Action Refusal) (report : Report) → IsUnread number asked report → IfErr asked (λ why. report ≡ unread_report number why)
unread_err number (Ok action) report unread = tt
unread_err number (Err why) report unread = unread

-- what is reported of the definitions alone makes no call of the store
module _ (number : ℕ) (action : Action) (report : Schema → Report) (free : (schema : Schema) → (report schema).used ≡ record { ops = 0; entries = 0 })
    (numbered : (schema : Schema) → (report schema).number ≡ number) (ended : (schema : Schema) → (report schema).end ≡ End.Done) (is : (m : Model) → action_step m number action ≡ report_step m (report m.schema))
    (unread : (schema : Schema) → IsUnread number (Ok action) (report schema)) (made : (schema : Schema) (content : Content) (now : Option Content) → MakesAction schema action content now (report schema))
    (kind : (schema : Schema) → TellsAction schema action (report schema)) where
  pub unpaid_done : (old : Option Content) (schema : Schema) (counts : Counts) → action_bound schema action ≡ Some (report schema).bound → schema ≡ action_schema schema action
      → DoneStatement number (Ok action) old old schema schema counts counts (report schema)
  unpaid_done old schema counts most same =
      let ops : (report schema).used.ops ≡ 0 = ap (λ (u : Used). u.ops) (free schema) in
      let entries : (report schema).used.entries ≡ 0 = ap (λ (u : Used). u.entries) (free schema) in
      record {
        matches = λ m s. subst (λ (x : Step). Matches x.report (report schema)) (sym (is m))
            (subst (λ (x : Schema). Matches (report x) (report schema)) s.known (record { same = refl; ops = omega (arith, ops); entries = omega (arith, entries) }));
        made = λ m s. subst (λ (x : Step). Stands old schema x.model) (sym (is m)) s;
        ops = omega (arith, ops);
        entries = omega (arith, entries);
        few_ops = omega (arith, ops);
        few_entries = omega (arith, entries);
        bound = subst (λ (o : Option Bound). IsBound o (report schema).bound) (sym most) refl;
        refused = λ _. (refl, refl);
        accepted = λ _. same;
        numbered = numbered schema;
        unread = unread schema;
        can = subst (CanEnd schema (Ok action)) (sym (ended schema)) tt;
        reads = λ _. refl;
        tells = λ _. of_each old (λ content. MakesAction schema action content old (report schema)) (λ content. made schema content old);
        kind = λ _. kind schema;
        bare = ended_bare (report schema) (ended schema);
      }

-- SHOW tells the definitions
pub shown_done : (number : ℕ) (old : Option Content) (schema : Schema) (counts : Counts)
    → DoneStatement number (Ok Shows) old old schema schema counts counts (report_of number (show_lines schema) End.Done (bound 0 0))
shown_done number old schema counts = unpaid_done number Shows (λ s. report_of number (show_lines s) End.Done (bound 0 0)) (λ s. refl) (λ s. refl) (λ s. refl) (λ m. refl) (λ s. tt) (λ s c now. tt) (λ s. (refl, refl)) old schema counts refl refl

-- EXPLAIN tells a query's plan
pub explained_done : (number : ℕ) (plan : PlannedDefinition) (old : Option Content) (schema : Schema) (counts : Counts)
    → DoneStatement number (Ok (Explains plan)) old old schema schema counts counts (explanation schema.tables number plan)
explained_done number plan old schema counts = unpaid_done number (Explains plan) (λ s. explanation s.tables number plan) (λ s. refl) (λ s. refl) (λ s. refl) (λ m. refl) (λ s. tt) (λ s c now. tt) (λ s. (refl, refl)) old schema counts refl refl

-- a batch of which a write is refused by reading makes no call
pub misread_done : (number place : ℕ) (cause : Refusal) (old : Option Content) (schema : Schema) (counts : Counts)
    → DoneStatement number (Ok (Misreads place cause)) old old schema schema counts counts (misread_report number place cause)
misread_done number place cause old schema counts = record {
  matches = λ m s. record { same = refl; ops = lit≤ tt; entries = lit≤ tt };
  made = λ m s. s;
  ops = omega arith;
  entries = omega arith;
  few_ops = lit≤ tt;
  few_entries = lit≤ tt;
  bound = refl;
  refused = λ _. (refl, refl);
  accepted = λ not. absurd (not tt);
  numbered = refl;
  unread = refl;
  can = (refl, refl);
  reads = λ _. refl;
  tells = λ not. absurd (not tt);
  kind = λ not. absurd (not tt);
  bare = λ _. refl;
}

-- ---- the clauses on the step of a piece

module _ (number : ℕ) (piece : Piece) (old now : Option Content) (schema : Schema) (before after : Counts) where
  abbrev Promised : Result (Schema × Report) Broke → Type 0
  Promised result = Promises number (action_of schema piece) old now schema before after result

  step_is : (m : Model) → schema ≡ m.schema → acted_as m number (action_of schema piece) ≡ step m number piece
  unfolding step
  step_is m known = ap (λ (s : Schema). acted_as m number (action_of s piece)) known

  pub promised_matches : (result : Result (Schema × Report) Broke) → Promised result
      → IfOk result (λ p. (m : Model) → Stands old schema m → Matches (step m number piece).report p.1)
  promised_matches (Ok made) p = λ m s. subst (λ (x : Step). Matches x.report made.1) (step_is m s.known) (p.matches m s)
  promised_matches (Err broke) p = tt

  pub promised_made : (result : Result (Schema × Report) Broke) → Promised result
      → IfOk result (λ p. (m : Model) → Stands old schema m → Stands now p.0 (step m number piece).model)
  promised_made (Ok made) p = λ m s. subst (λ (x : Step). Stands now made.0 x.model) (step_is m s.known) (p.made m s)
  promised_made (Err broke) p = tt

  pub promised_stopped : (result : Result (Schema × Report) Broke) → Promised result
      → OnErr result ((m : Model) → Stands old schema m → Opens now m ⊎ Opens now (step m number piece).model)
  promised_stopped (Ok made) p = tt
  promised_stopped (Err broke) p = λ m s. subst (λ (x : Step). Opens now m ⊎ Opens now x.model) (step_is m s.known) (p.stopped m s)

  within_fixed : (fixed : Option Bound) → IsWithinFixed fixed before after → IfSome fixed (λ most. TakesAtMost most before after)
  within_fixed None within = tt
  within_fixed (Some most) within = within

  pub promised_within : (result : Result (Schema × Report) Broke) → Promised result → IfSome (statement_bound schema piece) (λ most. TakesAtMost most before after)
  promised_within (Ok made) p = within_fixed (statement_bound schema piece) (within_reported (statement_bound schema piece) made.1 before after p.bound p.ops p.entries p.few_ops p.few_entries)
  promised_within (Err broke) p = within_fixed (statement_bound schema piece) p.within

  next_by : (next : Schema) (end : End) → (IsRefusal end → (now ≡ old) × (next ≡ schema)) → ((IsRefusal end → ⊥) → next ≡ asked_schema schema (action_of schema piece))
      → next ≡ (if is_refused end then schema else asked_schema schema (action_of schema piece))
  next_by next End.Done refused accepted = accepted (λ none. none)
  next_by next (End.Rows count cursor) refused accepted = accepted (λ none. none)
  next_by next (End.Refused why) refused accepted = (refused tt).1
  next_by next (End.InBatch place cause) refused accepted = (refused tt).1

  pub promised_next : (result : Result (Schema × Report) Broke) → Promised result → IfOk result (λ p. p.0 ≡ schema_after schema piece p.1)
  promised_next (Ok made) p = next_by made.0 made.1.end p.refused p.accepted
  promised_next (Err broke) p = tt

  pub promised_numbered : (result : Result (Schema × Report) Broke) → Promised result → IfOk result (λ p. p.1.number ≡ number)
  promised_numbered (Ok made) p = p.numbered
  promised_numbered (Err broke) p = tt

  pub promised_unread : (result : Result (Schema × Report) Broke) → Promised result → IfOk result (λ p. IsUnread number (action_of schema piece) p.1)
  promised_unread (Ok made) p = p.unread
  promised_unread (Err broke) p = tt

  pub promised_shown : (result : Result (Schema × Report) Broke) → Promised result → IfErr result (λ broke. IfSome old (λ content. TellsEvidenceFor (action_of schema piece) schema content broke))
  promised_shown (Ok made) p = tt
  promised_shown (Err broke) p = p.shown

  pub promised_lasting : (result : Result (Schema × Report) Broke) → Promised result → IfErr result (λ broke. IfSome now (λ content. TellsEvidenceFor (action_of schema piece) schema content broke))
  promised_lasting (Ok made) p = tt
  promised_lasting (Err broke) p = p.lasting

  -- what was used is within the bound of the step, also where it breaks off
  pub promised_own : (result : Result (Schema × Report) Broke) → Promised result → (m : Model) → Stands old schema m → TakesAtMost (step m number piece).report.bound before after
  promised_own (Ok made) p m s =
      let fits = p.matches m s in
      let ops = fits.ops in
      let entries = fits.entries in
      subst (λ (x : Step). TakesAtMost x.report.bound before after) (step_is m s.known) (record { ops = omega (arith, p.ops, ops); entries = omega (arith, p.entries, entries) })
  promised_own (Err broke) p m s = subst (λ (x : Step). TakesAtMost x.report.bound before after) (step_is m s.known) (p.within_own m s)

  pub promised_kept : (result : Result (Schema × Report) Broke) → Promised result → IfErr result (KeepsDamaged schema (action_of schema piece) old now)
  promised_kept (Ok made) p = tt
  promised_kept (Err broke) p = p.kept

  pub promised_memory : (result : Result (Schema × Report) Broke) → Promised result → IfErr result (λ broke. (m : Model) → Stands old schema m → LacksMemory (action_of schema piece) old now broke)
  promised_memory (Ok made) p = tt
  promised_memory (Err broke) p = p.memory

  pub promised_can : (result : Result (Schema × Report) Broke) → Promised result → IfOk result (λ p. CanEnd schema (action_of schema piece) p.1.end)
  promised_can (Ok made) p = p.can
  promised_can (Err broke) p = tt

  -- a statement that only reads leaves the content as it was
  pub promised_reads : (result : Result (Schema × Report) Broke) → Promised result → OnlyReads (action_of schema piece) → now ≡ old
  promised_reads (Ok made) p = p.reads
  promised_reads (Err broke) p = p.reads

  -- what was made of any content that is told, and what is left of it
  pub promised_tells : (result : Result (Schema × Report) Broke) → Promised result
      → IfOk result (λ p. (IsRefusal p.1.end → ⊥) → IfSome old (λ content. MakesAsked schema (action_of schema piece) content now p.1))
  promised_tells (Ok made) p = p.tells
  promised_tells (Err broke) p = tt

  pub promised_kind : (result : Result (Schema × Report) Broke) → Promised result → IfOk result (λ p. (IsRefusal p.1.end → ⊥) → TellsAsked schema (action_of schema piece) p.1)
  promised_kind (Ok made) p = p.kind
  promised_kind (Err broke) p = tt

  pub promised_bare : (result : Result (Schema × Report) Broke) → Promised result → IfOk result (λ p. IsRefusal p.1.end → p.1.lines ≡ [])
  promised_bare (Ok made) p = p.bare
  promised_bare (Err broke) p = tt

  pub promised_left : (result : Result (Schema × Report) Broke) → Promised result → OnErr result (IfSome old (λ content. LeavesAsked schema (action_of schema piece) content now))
  promised_left (Ok made) p = tt
  promised_left (Err broke) p = p.left

  pub promised_rows : (result : Result (Schema × Report) Broke) → Promised result → OnErr result (IfSome old (λ content. IsWithinAsked (action_of schema piece) content before after))
  promised_rows (Ok made) p = tt
  promised_rows (Err broke) p = p.within_rows
