use Rattle.std.proofs.Common.{◌≡◌, subst}
use Rattle.std.specs.Prelude.{Some, IfOk, IfSome, position}
use Rattle.pq_store.specs.Content.{Content}
use Rattle.pq_store.specs.Rounds.{is_held}
use Rattle.pq_test_faults.proofs.counting.CountingStoreStore.first_held.Goals as goal

pub returns-clause-answer : goal.returns-clause-answer
returns-clause-answer g c =
    subst (λ (content : Content). IfOk c.first_held.result (λ at. IfSome (Some content) (λ pairs. at ≡ position (is_held pairs) c.args.tests.now))) c.count_round.ensures.inner c.first_held.ensures.answer
