use Rattle.std.proofs.Common.{◌≡◌, ap, subst, ◌∙◌, arith}
use Rattle.std.proofs.lemmas.List.{append-nil}
use Rattle.std.proofs.lemmas.Result.{IfOk-weaker}
use Rattle.pq_schema.specs.Schema.{empty_schema}
use Rattle.pq_text.specs.Pieces.{is_unfinished, pieces_of, rest_of}
use Rattle.pq_plan_report.specs.Told.{AreSummed}
use Rattle.pq_plan_report.proofs.Pieces.{few_pieces, script_refused, script_told}
use Rattle.pq_plan_report.proofs.telling.tell_script.Goals as goal

pub tell_pieces-requires : goal.tell_pieces-requires
tell_pieces-requires c =
    let pieces : c.in_ok-cut.cut.pieces ≡ pieces_of c.args.script.now = c.in_ok-cut.ensures.pieces ∙ ap pieces_of (append-nil c.args.script.now) in
    rw (c.items.ensures, pieces) (omega (arith, few_pieces c.args.script.now, c.requires))

pub returns-clause-text : goal.returns-clause-text
returns-clause-text c =
    let pieces : c.items.result.now ≡ pieces_of c.args.script.now = c.items.ensures ∙ c.in_ok-cut.ensures.pieces ∙ ap pieces_of (append-nil c.args.script.now) in
    let rest : c.in_ok-cut.cut.unfinished ≡ is_unfinished (rest_of c.args.script.now) =
    c.in_ok-cut.ensures.unfinished ∙ ap (λ s. is_unfinished (rest_of s)) (append-nil c.args.script.now) in
    IfOk-weaker c.finish.result _ _
    (λ told is. script_told c.args.script.now c.items.result.now c.in_ok-cut.cut.unfinished c.in_ok-telling.telling pieces rest c.in_ok-telling.ensures.text c.in_ok-telling.ensures.number told.text is)
    c.finish.ensures.text

pub returns-clause-refused : goal.returns-clause-refused
returns-clause-refused c =
    let pieces : c.items.result.now ≡ pieces_of c.args.script.now = c.items.ensures ∙ c.in_ok-cut.ensures.pieces ∙ ap pieces_of (append-nil c.args.script.now) in
    let rest : c.in_ok-cut.cut.unfinished ≡ is_unfinished (rest_of c.args.script.now) =
    c.in_ok-cut.ensures.unfinished ∙ ap (λ s. is_unfinished (rest_of s)) (append-nil c.args.script.now) in
    IfOk-weaker c.finish.result _ _
    (λ told is. script_refused c.args.script.now c.items.result.now c.in_ok-cut.cut.unfinished c.in_ok-telling.telling pieces rest c.in_ok-telling.ensures.refused told.refused is)
    c.finish.ensures.refused

pub returns-clause-summed : goal.returns-clause-summed
returns-clause-summed c =
    let pieces : c.items.result.now ≡ pieces_of c.args.script.now = c.items.ensures ∙ c.in_ok-cut.ensures.pieces ∙ ap pieces_of (append-nil c.args.script.now) in
    IfOk-weaker c.finish.result _ _ (λ told is. subst (AreSummed empty_schema 1) pieces c.in_ok-telling.ensures.summed) c.finish.ensures.text
