-- What shows damage in a content, and of what it is told.
use Rattle.std.specs.Prelude.{ℕ, ◌+◌, ◌⊎◌, List, length, Option, Some, Result, Ok}
use Rattle.pq_base.specs.declared.refusal.Refusal.{Refusal}
use Rattle.pq_batch.specs.Promises.{AnswersBehind, ShowsBehind}
use Rattle.pq_calls.specs.World.{where_told}
use Rattle.pq_key_code.specs.KeyCode.{catalog_key, intent_key}
use Rattle.pq_schema.specs.Schema.{Schema}
use Rattle.pq_store.specs.Breaks.{IfDamaged, IsPresent}
use Rattle.pq_store.specs.Content.{Content}
use Rattle.pq_store.specs.declared.damage.Broke.{Broke}
use Rattle.pq_store.specs.declared.damage.Damage.{Damage}
use Rattle.pq_counters.specs.Evidence.{ShowsCounter}
use Rattle.pq_nodes.specs.Operators.{ShowsRead}
use Rattle.pq_statement.specs.Actions.{Action, Batches}

-- a pair of rows or entries that is none of a table's, or a row that an entry names and that is not there; a pair of a
-- counter that is none, or that is not there while a row of its group is; the key of an intent where none was to be; or
-- the key of the next definition, which was to be absent
abbrev pub IsEvidence : Schema → Content → Damage → Type 0
IsEvidence schema content damage =
    ShowsRead schema.tables content damage
    ⊎ (ShowsCounter schema content damage
    ⊎ (IsPresent intent_key content damage ⊎ IsPresent (catalog_key (length schema.definitions + 1)) content damage))

-- damage is told with what shows it
abbrev pub TellsEvidence : Schema → Content → Broke → Type 0
TellsEvidence schema content = IfDamaged (IsEvidence schema content)

-- ---- by what was asked for

-- it shows in the content; for a batch there, or in that content with the changes of the writes before the one at hand
abbrev pub IsEvidenceFor : Result Action Refusal → Schema → Content → Damage → Type 0
IsEvidenceFor (Ok (Batches writes)) schema content damage =
    IsEvidence schema content damage ⊎ ShowsBehind schema writes (where_told (IsEvidence schema)) (Some content) damage
IsEvidenceFor asked schema content damage = IsEvidence schema content damage

abbrev pub TellsEvidenceFor : Result Action Refusal → Schema → Content → Broke → Type 0
TellsEvidenceFor asked schema content = IfDamaged (IsEvidenceFor asked schema content)

-- its value is one that a call may answer, or for a batch one that such a change gives its key
abbrev pub AnswersFor : Schema → Result Action Refusal → (List ℕ → Option (List ℕ) → Type 0) → List ℕ
    → Option (List ℕ) → Type 0
AnswersFor schema (Ok (Batches writes)) answers key value =
    answers key value ⊎ AnswersBehind schema writes answers key value
AnswersFor schema asked answers key value = answers key value
