use Rattle.std.proofs.Common.{◌≡◌, ◌+◌, ◌<◌, length, drop, get_or, ap, ◌∙◌, arith}
use Rattle.pq_text.specs.Scanning.{first_token}
use Rattle.pq_text.proofs.Steps.{token_step, at_end}
use Rattle.pq_text.proofs.scan.next_token.Goals as goal

pub returns-then-at-text-clause-found : goal.returns-then-at-text-clause-found
returns-then-at-text-clause-found c = c.token_start-at.ensures.same ∙ at_end c.args.text.now c.token_start-at.result (omega arith)

pub returns-clause-found : goal.returns-clause-found
returns-clause-found c =
    let at = c.token_start-at.result in
    let lt : at < length c.args.text.now = omega (arith, c.token_start-at.ensures.within) in
    let e : (c.first-kind.result.0, c.first-kind.result.1) ≡ first_token (get_or c.args.text.now at 0) (drop (at + 1) c.args.text.now) = c.first-kind.ensures.first ∙ ap (first_token (get_or c.args.text.now at 0)) c.after.ensures in
    c.token_start-at.ensures.same ∙ token_step c.args.text.now at c.first-kind.result.1 c.first-kind.result.0 lt c.first-kind.ensures.some (c.token_start-at.ensures.stays lt) e
