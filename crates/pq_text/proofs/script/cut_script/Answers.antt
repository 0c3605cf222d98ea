use Rattle.std.proofs.Common.{◌∙◌, ap, sym}
use Rattle.std.proofs.lemmas.List.{take_all}
use Rattle.pq_text.specs.Parts.{joined_parts}
use Rattle.pq_text.specs.Pieces.{pieces_of, rest_of, is_unfinished}
use Rattle.pq_text.specs.Summaries.{start_summary, pieces_from, unfinished_from}
use Rattle.pq_text.proofs.Feeding.{joined_parts_more, all_pieces, all_rest}
use Rattle.pq_text.proofs.script.cut_script.Goals as goal

pub loop-part-preserved : goal.loop-part-preserved
loop-part-preserved c =
    let i = c.loop-part.invariant in
    let fed = c.in_ok-feed_part.ensures in
    record {
      pieces = λ more. fed.pieces more ∙ i.pieces _ ∙ sym (ap (pieces_from start_summary) (joined_parts_more c.args.parts.now c.loop-part.part-index _ more c.loop-part-test.true));
      rest = λ more. fed.rest more ∙ i.rest _ ∙ sym (ap (unfinished_from start_summary) (joined_parts_more c.args.parts.now c.loop-part.part-index _ more c.loop-part-test.true));
    }

pub returns-clause-pieces : goal.returns-clause-pieces
returns-clause-pieces c =
    let whole = take_all c.loop-part.part-index c.args.parts.now c.loop-part-test.false in
    all_pieces c.loop-part.splitter c.loop-part.pieces _ c.loop-part.invariant.pieces ∙ ap (λ ps. pieces_of (joined_parts ps)) whole

pub returns-clause-unfinished : goal.returns-clause-unfinished
returns-clause-unfinished c =
    let whole = take_all c.loop-part.part-index c.args.parts.now c.loop-part-test.false in
    c.end.ensures ∙ all_rest c.loop-part.splitter _ c.loop-part.invariant.rest ∙ ap (λ ps. is_unfinished (rest_of (joined_parts ps))) whole
