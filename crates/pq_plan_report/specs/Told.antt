-- What is told of a script: the report that a check makes of each statement, behind the plan of each query that is
-- prepared or explained (docs/FORMATS.md, "Plans").
use Rattle.std.specs.Prelude.{ℕ, ◌+◌, Bool, true, false, ◌||◌, List, [], ◌∷◌, ◌++◌, length, if◌then◌else◌}
use Rattle.pq_base.specs.declared.refusal.Refusal.TheVariants.{Unfinished}
use Rattle.pq_schema.specs.Schema.{Schema, empty_schema}
use Rattle.pq_text.specs.Pieces.{pieces_of, rest_of, is_unfinished}
use Rattle.pq_text.specs.declared.piece.Piece.{Piece}
use Rattle.pq_print.specs.Report.{is_refusal, printed_report}
use Rattle.pq_print.specs.declared.report.Report.{Report}
use Rattle.pq_statement.specs.Actions.{action_of}
use Rattle.pq_check.specs.Checks.{check_step, without_rows}
use Rattle.pq_reports.specs.Step.{unread_report}
use Rattle.pq_plan_report.specs.Plans.{IsSummed, asked_plan}

-- ---- a piece of the script

abbrev pub report_of : Schema → ℕ → Piece → Report
report_of schema number piece = (check_step (without_rows schema) number piece).report

-- the definitions behind it
abbrev pub schema_behind : Schema → ℕ → Piece → Schema
schema_behind schema number piece = (check_step (without_rows schema) number piece).model.schema

-- a refused one has no plan
abbrev pub told_plan : Schema → Piece → Report → List ℕ
told_plan schema piece report = if is_refusal report then [] else asked_plan schema (action_of schema piece)

unfoldable pub told_piece : Schema → ℕ → Piece → List ℕ
told_piece schema number piece =
    told_plan schema piece (report_of schema number piece) ++ printed_report (report_of schema number piece)

-- ---- all pieces, numbered on from here

abbrev pub told_pieces : Schema → ℕ → List Piece → List ℕ
told_pieces schema number [] = []
told_pieces schema number (piece ∷ rest) =
    told_piece schema number piece ++ told_pieces (schema_behind schema number piece) (number + 1) rest

-- one is refused
abbrev pub some_refused : Schema → ℕ → List Piece → Bool
some_refused schema number [] = false
some_refused schema number (piece ∷ rest) =
    is_refusal (report_of schema number piece) || some_refused (schema_behind schema number piece) (number + 1) rest

-- of each plan the costs of its nodes sum to its bound
abbrev pub AreSummed : Schema → ℕ → List Piece → Type 0
AreSummed schema number [] = Unit {0}
AreSummed schema number (piece ∷ rest) =
    IsSummed schema (action_of schema piece) × AreSummed (schema_behind schema number piece) (number + 1) rest

-- ---- a script

-- an unfinished rest is refused
abbrev pub rest_text : Bool → ℕ → List ℕ
rest_text true number = printed_report (unread_report number Unfinished)
rest_text false number = []

unfoldable pub told_script : List ℕ → List ℕ
told_script script =
    told_pieces empty_schema 1 (pieces_of script)
    ++ rest_text (is_unfinished (rest_of script)) (length (pieces_of script) + 1)

unfoldable pub is_refused : List ℕ → Bool
is_refused script = some_refused empty_schema 1 (pieces_of script) || is_unfinished (rest_of script)
