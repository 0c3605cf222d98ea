use Rattle.std.proofs.Common.{◌≡◌, true, false, sym, ap, ◌∙◌}
use Rattle.pq_intent.proofs.Codes.{all_intended, is_intent_of, not_intended}
use Rattle.pq_intent.proofs.intent.intent_of.Goals as goal

pub returns-then-are_intended-clause-found : goal.returns-then-are_intended-clause-found
returns-then-are_intended-clause-found c =
    let found = rw c.in-Some.is at c.in_ok-changes.ensures.found in
    let all : all_intended c.in-Some.changes ≡ true = ap all_intended (sym c.items.ensures) ∙ sym c.are_intended.ensures ∙ c.if-are_intended.true in
    is_intent_of c.in-Some.changes c.args.value.now found.0 found.1 all

pub returns-else-are_intended-clause-none : goal.returns-else-are_intended-clause-none
returns-else-are_intended-clause-none c =
    let found = rw c.in-Some.is at c.in_ok-changes.ensures.found in
    let fails : all_intended c.in-Some.changes ≡ false = ap all_intended (sym c.items.ensures) ∙ sym c.are_intended.ensures ∙ c.if-are_intended.false in
    not_intended c.in-Some.changes c.args.value.now found.0 found.1 fails
