-- What a session answers over a content that stands still.
use Rattle.std.specs.Prelude.{ℕ, ◌+◌, List, [], ◌∷◌, All}
use Rattle.pq_schema.specs.Schema.{Schema}
use Rattle.pq_text.specs.declared.piece.Piece.{Piece}
use Rattle.pq_print.specs.declared.report.Report.{Report}
use Rattle.pq_statement.specs.Actions.{action_of}
use Rattle.pq_reports.specs.Matches.{Matches}
use Rattle.pq_catalog.specs.Model.{Model}
use Rattle.pq_reports.specs.Promise.{OnlyReads}
use Rattle.pq_reports.specs.Step.{step}

-- over these definitions each of the pieces writes nothing
abbrev pub AllRead : Schema → List Piece → Type 0
AllRead schema pieces = All (λ piece. OnlyReads (action_of schema piece)) pieces

-- each report is that of the model's step for its piece, but for what was used; the pieces are numbered from a
-- number on
abbrev pub AreAnswers : Model → ℕ → List Piece → List Report → Type 0
AreAnswers m number [] [] = Unit {0}
AreAnswers m number [] (report ∷ reports) = ⊥
AreAnswers m number (piece ∷ pieces) [] = ⊥
AreAnswers m number (piece ∷ pieces) (report ∷ reports) =
    Matches (step m number piece).report report × AreAnswers m (number + 1) pieces reports

-- the model behind these pieces, numbered from a number on
abbrev pub model_behind : Model → ℕ → List Piece → Model
model_behind m number [] = m
model_behind m number (piece ∷ pieces) = model_behind (step m number piece).model (number + 1) pieces
