-- What a batch makes of what a content stands for.
use Rattle.std.proofs.Common.{◌≡◌, ℕ, List, [], Option, Some, None, Result, Ok, Err, refl, sym, ap, ◌∙◌, subst, inl, inr, ◌⊎◌}
use Rattle.std.specs.Prelude.{MatchResult, IfSome}
use Rattle.pq_base.specs.declared.number.Bound.{Bound}
use Rattle.pq_base.specs.declared.refusal.Refusal.{Refusal}
use Rattle.pq_batch.specs.Batches.{Unmade, InBatch, TooLong, batch_bound, batch_effect}
use Rattle.pq_batch.specs.Promises.{AnswersBehind, ChangesBehind, MakesBatch, PlansBatch, RefusesBatch, ShowsBehind}
use Rattle.pq_batch.specs.declared.plan.PlannedBatch.{PlannedBatch}
use Rattle.pq_batch.specs.declared.plan.PlannedBatch.TheVariants as planned
use Rattle.pq_row_code.specs.declared.changes.Change.{Change}
use Rattle.pq_schema.specs.Schema.{Schema}
use Rattle.pq_content.specs.Pairs.{Pair, changed_content}
use Rattle.pq_content.specs.Tables.{Rows}
use Rattle.pq_store.specs.Content.{Content}
use Rattle.pq_store.specs.Counts.{Counts, AllowedCounts}
use Rattle.pq_store.specs.Breaks.{IsAnswered}
use Rattle.pq_store.specs.declared.damage.Broke.{Broke}
use Rattle.pq_store.specs.declared.damage.Broke.TheVariants as broke
use Rattle.pq_store.specs.declared.damage.Damage.{Damage}
use Rattle.pq_intent.specs.Settling.{HasIntent}
use Rattle.pq_index_keep.specs.declared.write.Write.{Write}
use Rattle.pq_tallies.specs.Counters.{HoldsCounted}
use Rattle.pq_counters.specs.Evidence.{ShowsCounted}
use Rattle.pq_calls.specs.World.{world, Explains, Reads, where_told}
use Rattle.pq_nodes.specs.Operators.{no_row}
use Rattle.pq_catalog.specs.Model.{Model}
use Rattle.pq_statement.specs.Actions.{Batches}
use Rattle.pq_reports.specs.Evidence.{AnswersFor, IsEvidence, TellsEvidenceFor}
use Rattle.pq_reports.specs.Making.{AreBatchedIn}
use Rattle.pq_reports.specs.Promise.{LacksMemory}
use Rattle.pq_reports.specs.Refusing.{CanEnd}
use Rattle.pq_reports.specs.Step.{action_step, batch_step, batched_as, report_of, report_step, unmade_end}
use Rattle.pq_catalog.specs.Stands.{Stands, catalog_pairs}
use Rattle.pq_catalog.proofs.Counted.{settled_counted}
use Rattle.pq_write.proofs.Changing.{IsChange, MakesStep}

abbrev pub Planning : Option Content → Schema → List Write → PlannedBatch → Type 0
Planning old schema writes q = (rows : Rows) (others : List Pair) → HoldsCounted old schema rows others → PlansBatch schema rows others writes q

batch_lacks : (writes : List Write) (old now : Option Content) (error : Broke) → (error ≡ broke.NoMem → (now ≡ old) ⊎ HasIntent now) → LacksMemory (Ok (Batches writes)) old now error
batch_lacks writes old now broke.Failed lacks = tt
batch_lacks writes old now broke.NoMem lacks = lacks refl
batch_lacks writes old now (broke.Damaged damage) lacks = tt

module _ (number : ℕ) (writes : List Write) (schema : Schema) (most : Bound) (is_most : most ≡ batch_bound schema writes) where
  pub batch_is_change : IsChange schema (Batches writes) most (AreBatchedIn schema writes)
  batch_is_change = record {
    bound = ap (λ (b : Bound). Some b) (sym is_most);
    same = refl;
    writes = λ none. none;
    unread = λ n report. tt;
    lacks = batch_lacks writes;
    leaves = λ content now stops. stops;
    makes = λ content now report made. made;
    kind = λ report lines. lines;
    rows = λ content before after. tt;
  }

  batched : (m : Model) → schema ≡ m.schema → (made : Result Rows Unmade) → batch_effect schema m.rows writes ≡ made → action_step m number (Batches writes) ≡ batched_as m number most made
  unfolding batch_step
  batched m known made is =
      ap (λ (b : Bound). batched_as m number b (batch_effect m.schema m.rows writes)) (ap (λ (x : Schema). batch_bound x writes) (sym known) ∙ sym is_most)
      ∙ ap (batched_as m number most) (ap (λ (x : Schema). batch_effect x m.rows writes) (sym known) ∙ is)

  -- what is planned over a content that is told
  pub batch_planned : (changes : List Change) (old : Option Content) (q : PlannedBatch) → q ≡ planned.Changes changes → ChangesBehind schema old writes [] q → IfSome old (λ content. AreBatchedIn schema writes content changes)
  batch_planned changes None q is own = tt
  batch_planned changes (Some content) q is own = subst (ChangesBehind schema (Some content) writes []) is own

  -- refused, over a model: a write is, or the changes are too long
  pub batch_refused : (place : ℕ) (cause : Refusal) (old : Option Content) (q : PlannedBatch) → q ≡ planned.Refused place cause → Planning old schema writes q
      → (m : Model) → Stands old schema m → action_step m number (Batches writes) ≡ report_step m (report_of number [] (unmade_end (InBatch place cause)) most)
  batch_refused place cause old q is answer m s =
      batched m s.known (Err (InBatch place cause)) (subst (PlansBatch schema m.rows (catalog_pairs schema) writes) is (answer m.rows (catalog_pairs schema) (settled_counted old schema m s)))

  pub batch_long : (length : ℕ) (old : Option Content) (q : PlannedBatch) → q ≡ planned.TooLong length → Planning old schema writes q
      → (m : Model) → Stands old schema m → action_step m number (Batches writes) ≡ report_step m (report_of number [] (unmade_end (TooLong length)) most)
  batch_long length old q is answer m s =
      batched m s.known (Err (TooLong length)) (subst (PlansBatch schema m.rows (catalog_pairs schema) writes) is (answer m.rows (catalog_pairs schema) (settled_counted old schema m s)))

  pub refused_can : (place : ℕ) (cause : Refusal) (q : PlannedBatch) → q ≡ planned.Refused place cause → RefusesBatch schema writes q → CanEnd schema (Ok (Batches writes)) (unmade_end (InBatch place cause))
  refused_can place cause q is can = subst (RefusesBatch schema writes) is can

  pub long_can : (length : ℕ) (q : PlannedBatch) → q ≡ planned.TooLong length → RefusesBatch schema writes q → CanEnd schema (Ok (Batches writes)) (unmade_end (TooLong length))
  long_can length q is can = (length, subst (RefusesBatch schema writes) is can, refl)

  -- made
  made_by : (changes : List Change) (m : Model) → schema ≡ m.schema → (r : Result Rows Unmade) → batch_effect schema m.rows writes ≡ r → MatchResult r (MakesBatch schema m.rows (catalog_pairs schema) changes) (λ why. ⊥)
      → MakesStep number (Batches writes) schema most changes m
  made_by changes m known (Ok made) is makes = record { made = made; content = makes.content; keeps = makes.keeps; few = makes.few; step = batched m known (Ok made) is }
  made_by changes m known (Err why) is makes = absurd makes

  pub batch_made : (changes : List Change) (old : Option Content) (q : PlannedBatch) → q ≡ planned.Changes changes → Planning old schema writes q
      → (m : Model) → Stands old schema m → MakesStep number (Batches writes) schema most changes m
  batch_made changes old q is answer m s =
      made_by changes m s.known (batch_effect schema m.rows writes) refl
      (subst (PlansBatch schema m.rows (catalog_pairs schema) writes) is (answer m.rows (catalog_pairs schema) (settled_counted old schema m s)))

-- ---- damage

counted_evidence : (schema : Schema) (content : Content) (damage : Damage) → ShowsCounted schema content damage → IsEvidence schema content damage
counted_evidence schema content damage (inl none) = inl (no_row none)
counted_evidence schema content damage (inr counted) = inr (inl counted)

-- what explains damage shows it, in the content with the changes of the writes before
pub batch_shown : (writes : List Write) (old : Option Content) (schema : Schema) (error : Broke) (f0 f1 : ℕ) (given left : AllowedCounts) (before after : Counts) (now : Option Content) (ops entries : ℕ) → Reads (world old f0 given before) (world now f1 left after) ops entries
    → Explains (ShowsBehind schema writes (where_told (ShowsCounted schema))) (world old f0 given before) (world now f1 left after) error → IfSome old (λ content. TellsEvidenceFor (Ok (Batches writes)) schema content error)
batch_shown writes None schema error f0 f1 given left before after now ops entries reads explains = tt
batch_shown writes (Some content) schema broke.Failed f0 f1 given left before after now ops entries reads explains = tt
batch_shown writes (Some content) schema broke.NoMem f0 f1 given left before after now ops entries reads explains = tt
batch_shown writes (Some content) schema (broke.Damaged damage) f0 f1 given left before after now ops entries reads explains =
    inr (explains.0, explains.1, counted_evidence schema (changed_content explains.0 content) damage explains.2)

-- what a call may answer is what one of a batch may, behind the changes of the writes before or behind none
module _ (schema : Schema) (writes : List Write) (answers : List ℕ → Option (List ℕ) → Type 0) where
  pub plain_answered : (error : Broke) → IsAnswered answers error → IsAnswered (AnswersFor schema (Ok (Batches writes)) answers) error
  plain_answered broke.Failed told = tt
  plain_answered broke.NoMem told = tt
  plain_answered (broke.Damaged damage) told = inl told

  pub behind_answered : (error : Broke) → IsAnswered (AnswersBehind schema writes answers) error → IsAnswered (AnswersFor schema (Ok (Batches writes)) answers) error
  behind_answered broke.Failed told = tt
  behind_answered broke.NoMem told = tt
  behind_answered (broke.Damaged damage) told = inr told
