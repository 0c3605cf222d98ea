-- What a call may answer is what it may by whatever was asked for.
use Rattle.std.proofs.Common.{◌≡◌, ℕ, List, Option, Result, Ok, Err, inl, inr}
use Rattle.std.specs.Prelude.{IfErr}
use Rattle.pq_base.specs.declared.refusal.Refusal.{Refusal}
use Rattle.pq_schema.specs.Schema.{Schema}
use Rattle.pq_store.specs.Breaks.{IsAnswered, IsAnsweredBut}
use Rattle.pq_store.specs.declared.damage.Broke.{Broke}
use Rattle.pq_store.specs.declared.damage.Broke.TheVariants as broke
use Rattle.pq_statement.specs.Actions as action
use Rattle.pq_statement.specs.Actions.{Action, Creates, Adds, Writes, Batches, Misreads, Prepares, Explains, Runs, Reads, Shows, Selects}
use Rattle.pq_reports.specs.Evidence.{AnswersFor}

module _ (schema : Schema) (answers : List ℕ → Option (List ℕ) → Type 0) where
  answers_for : (asked : Result Action Refusal) (key : List ℕ) (value : Option (List ℕ)) → answers key value → AnswersFor schema asked answers key value
  answers_for (Err why) key value told = told
  answers_for (Ok (Creates table)) key value told = told
  answers_for (Ok (Adds def)) key value told = told
  answers_for (Ok (Writes write)) key value told = told
  answers_for (Ok (Batches writes)) key value told = inl told
  answers_for (Ok (Misreads place cause)) key value told = told
  answers_for (Ok (Prepares plan)) key value told = told
  answers_for (Ok (Explains plan)) key value told = told
  answers_for (Ok (Runs running)) key value told = told
  answers_for (Ok (action.Counts def)) key value told = told
  answers_for (Ok (Reads reading)) key value told = told
  answers_for (Ok Shows) key value told = told
  answers_for (Ok (Selects plan)) key value told = told

  module _ {A : Type 0} (asked : Result Action Refusal) (next : List ℕ) where
    -- or of a definition's key
    pub answered_but : (result : Result A Broke) → IfErr result (IsAnsweredBut answers next) → IfErr result (IsAnsweredBut (AnswersFor schema asked answers) next)
    answered_but (Ok made) told = tt
    answered_but (Err broke.Failed) told = tt
    answered_but (Err broke.NoMem) told = tt
    answered_but (Err (broke.Damaged damage)) (inl told) = inl (answers_for asked damage.key damage.value told)
    answered_but (Err (broke.Damaged damage)) (inr of) = inr of

    -- where no index is made
    pub answered_plain : (result : Result A Broke) → IfErr result (IsAnswered answers) → IfErr result (IsAnswered (AnswersFor schema asked answers))
    answered_plain (Ok made) told = tt
    answered_plain (Err broke.Failed) told = tt
    answered_plain (Err broke.NoMem) told = tt
    answered_plain (Err (broke.Damaged damage)) told = answers_for asked damage.key damage.value told

    pub answered_for : (result : Result A Broke) → IfErr result (IsAnswered answers) → IfErr result (IsAnsweredBut (AnswersFor schema asked answers) next)
    answered_for (Ok made) told = tt
    answered_for (Err broke.Failed) told = tt
    answered_for (Err broke.NoMem) told = tt
    answered_for (Err (broke.Damaged damage)) told = inl (answers_for asked damage.key damage.value told)

  -- of a batch
  pub batch_answered : {A : Type 0} (asked : Result Action Refusal) (writes : _) (next : List ℕ) → asked ≡ Ok (Batches writes) → (result : Result A Broke) → IfErr result (IsAnswered (AnswersFor schema (Ok (Batches writes)) answers)) → IfErr result (IsAnsweredBut (AnswersFor schema asked answers) next)
  batch_answered asked writes next is (Ok made) told = tt
  batch_answered asked writes next is (Err broke.Failed) told = tt
  batch_answered asked writes next is (Err broke.NoMem) told = tt
  batch_answered asked writes next is (Err (broke.Damaged damage)) told = inl (rw is told)
