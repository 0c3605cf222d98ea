use Rattle.std.proofs.Common.{◌≡◌, ◌+◌, ◌-◌, length, drop, get_or, ap, ◌∙◌, arith, length-drop}
use Rattle.pq_text.specs.Scanning.{left_out}
use Rattle.pq_text.proofs.Steps.{left_step}
use Rattle.pq_text.proofs.scan.token_start.Goals as goal

pub left-preserved : goal.left-preserved
left-preserved c =
    let rest = c.after.ensures in
    let len : length c.after.result.now ≡ length c.args.text.now - (c.left.at + 1) = ap length rest ∙ length-drop (c.left.at + 1) c.args.text.now in
    let e : c.left_count-left.result ≡ left_out (get_or c.args.text.now c.left.at 0) (drop (c.left.at + 1) c.args.text.now) = c.left_count-left.ensures.left ∙ ap (left_out (get_or c.args.text.now c.left.at 0)) rest in
    let before = c.left.invariant.0 in
    (omega arith, omega (arith, c.left_count-left.ensures.within, len), c.left.invariant.2 ∙ left_step c.args.text.now c.left.at c.left_count-left.result c.left-test.true (omega arith) e)
