-- The lines of a run of clients.
use Rattle.std.specs.Prelude.{ℕ, ◌+◌, Bool, false, List, [], ◌∷◌, ◌++◌, length, flat_map, codes, decimal, Option, Some, None, if◌then◌else◌}
use Rattle.pq_schema.specs.Schema.{Schema}
use Rattle.pq_text.specs.Pieces.{rest_of, is_unfinished}
use Rattle.pq_text.specs.declared.piece.Piece.{Piece}
use Rattle.pq_print.specs.Refusals.{refusal_text}
use Rattle.pq_index_keep.specs.declared.write.Write.{Write}
use Rattle.pq_clients.specs.Steps.{is_fault}
use Rattle.pq_clients.specs.declared.outcome.Outcome.{Outcome}
use Rattle.pq_clients.specs.declared.outcome.Outcome.TheVariants as outcome
use Rattle.pq_clients.specs.declared.outcome.Told.{Told}
use Rattle.pq_shell.specs.Serving.{rest_text}
use Rattle.pq_console.specs.declared.reading.Ending.{Ending}
use Rattle.pq_console.specs.declared.reading.Ending.TheVariants.{Whole, Faulted, TooLong}
use Rattle.pq_client_shell.specs.Writes.{write_of, front_count, gathered_of}

-- a piece with this number is skipped
abbrev pub skipped_line : ℕ → List ℕ
skipped_line number = decimal number ++ codes " skipped\n"

-- nothing of a write that is found
abbrev pub unless_found : ℕ → Option Write → List ℕ
unless_found number None = skipped_line number
unless_found number (Some write) = []

-- of pieces that are numbered from here on those that are skipped
unfoldable pub skipped_text : Schema → ℕ → List Piece → List ℕ
skipped_text schema number [] = []
skipped_text schema number (p ∷ ps) =
    unless_found number (write_of schema p) ++ skipped_text schema (number + 1) ps

-- the rest is unfinished, and the script was read to its end
abbrev pub leaves_rest : Ending → List ℕ → Bool
leaves_rest Whole script = is_unfinished (rest_of script)
leaves_rest Faulted script = false
leaves_rest TooLong script = false

-- what is written behind the reports and before what the clients are told
abbrev pub between_text : Schema → List Piece → Bool → List ℕ
between_text schema pieces unfinished =
    skipped_text schema (front_count pieces + 1) (gathered_of pieces) ++ rest_text unfinished (length pieces + 1)

-- how a write ended; of a fault nothing is written
abbrev pub outcome_text : Outcome → List ℕ
outcome_text outcome.Done = codes "done"
outcome_text (outcome.Refused why) = codes "refused " ++ refusal_text why
outcome_text (outcome.Busy found) = codes "busy"
outcome_text (outcome.Conflict read found) = codes "conflict"
outcome_text outcome.Failed = []
outcome_text outcome.NoMem = []
outcome_text (outcome.Damaged damage) = []

abbrev pub told_line : Told → List ℕ
told_line told = codes "told " ++ decimal told.client ++ codes " " ++ decimal told.number ++ codes " "
    ++ outcome_text told.outcome ++ codes "\n"

unfoldable pub told_part : Told → List ℕ
told_part told = if is_fault told.outcome then [] else told_line told

abbrev pub told_text : List Told → List ℕ
told_text told = flat_map told_part told
