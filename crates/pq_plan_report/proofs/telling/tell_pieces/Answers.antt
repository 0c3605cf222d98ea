use Rattle.std.proofs.Common.{◌≤◌, length, arith}
use Rattle.pq_plan_report.proofs.Pieces.{all_refused, all_summed, all_text, told_next, told_none}
use Rattle.pq_plan_report.proofs.telling.tell_pieces.Goals as goal

pub loop-piece-init : goal.loop-piece-init
loop-piece-init c = told_none c.args.pieces.now _ c.new-telling.ensures.session c.new-telling.ensures.number c.new-telling.ensures.text c.new-telling.ensures.refused

pub tell-requires : goal.tell-requires
tell-requires c = omega (arith, c.loop-piece.invariant.number, c.loop-piece-test.true, c.requires)

pub loop-piece-preserved : goal.loop-piece-preserved
loop-piece-preserved c =
    let e = c.in_ok-next.ensures in
    told_next c.args.pieces.now c.loop-piece.piece-index c.loop-piece.telling _ c.piece-item.result c.loop-piece-test.true c.piece-item.is c.loop-piece.invariant
    (record { session = e.session; number = e.number; text = e.text; refused = e.refused; summed = e.summed })

pub returns-clause-text : goal.returns-clause-text
returns-clause-text c =
    let past : length c.args.pieces.now ≤ c.loop-piece.piece-index = omega (arith, c.loop-piece-test.false) in
    all_text c.args.pieces.now c.loop-piece.piece-index c.loop-piece.telling past c.loop-piece.invariant

pub returns-clause-refused : goal.returns-clause-refused
returns-clause-refused c =
    let past : length c.args.pieces.now ≤ c.loop-piece.piece-index = omega (arith, c.loop-piece-test.false) in
    all_refused c.args.pieces.now c.loop-piece.piece-index c.loop-piece.telling past c.loop-piece.invariant

pub returns-clause-summed : goal.returns-clause-summed
returns-clause-summed c =
    let past : length c.args.pieces.now ≤ c.loop-piece.piece-index = omega (arith, c.loop-piece-test.false) in
    all_summed c.args.pieces.now c.loop-piece.piece-index c.loop-piece.telling past c.loop-piece.invariant
