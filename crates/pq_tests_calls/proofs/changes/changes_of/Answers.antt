use Rattle.std.proofs.Common.{sym, ap, ◌∙◌}
use Rattle.pq_intent.proofs.Codes.{all_intended, intended}
use Rattle.pq_tests_calls.proofs.changes.changes_of.Goals as goal

pub returns-then-are_intended-clause-rows : goal.returns-then-are_intended-clause-rows
returns-then-are_intended-clause-rows c =
    intended c.in-Some.changes (ap all_intended (sym c.items.ensures) ∙ sym c.are_intended.ensures ∙ c.if-are_intended.true)
