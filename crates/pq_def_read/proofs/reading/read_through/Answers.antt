use Rattle.std.proofs.Common.{◌≡◌, List, ℕ, sym, ap, subst, ◌∙◌}
use Rattle.pq_grammar.specs.Answers.{FailsReading}
use Rattle.pq_text.specs.Tokens.{tokens_of}
use Rattle.pq_shape.specs.Shapes.{shapes_of}
use Rattle.pq_def_read.specs.Reading.{read_at}
use Rattle.pq_def_read.proofs.reading.read_through.Goals as goal

pub returns-in-Err-Stuck-clause-stops : goal.returns-in-Err-Stuck-clause-stops
returns-in-Err-Stuck-clause-stops c =
    let seen : c.new.result ≡ shapes_of c.args.text.now (tokens_of c.args.text.now) = c.new.ensures ∙ ap (λ (text : List ℕ). shapes_of text (tokens_of text)) c.bytes.ensures.value in
    c.refused.ensures _ (ap read_at (sym seen) ∙ subst (λ e. FailsReading e (read_at c.new.result)) c.in-Err-Stuck.field-0-is c.in-Err-Stuck.ensures)
