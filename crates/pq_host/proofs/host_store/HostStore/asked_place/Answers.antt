use Rattle.std.proofs.Common.{◌≡◌, length, rules}
use Rattle.pq_host.proofs.Testing.{told_together}
use Rattle.pq_host.proofs.Untold.{if_ok}
use Rattle.pq_host.proofs.host_store.HostStore.asked_place.Goals as goal
use Rattle.pq_host.proofs.host_store.HostStore.asked_place.Goals.{in_default-via-then-tests-lt1, in_default-via-else-tests-lt1+else-tests-lt2}

pub returns-in_default-clause-exchanged : goal.returns-in_default-clause-exchanged
returns-in_default-clause-exchanged g c =
    let several : ¬ (length c.args.tests.now ≡ 1) = elim c.in_default.branch [
      | in_default-via-then-tests-lt1 w ↦ (λ one. absurd (search (rules, one)))
      | in_default-via-else-tests-lt1+else-tests-lt2 w ↦ (λ one. absurd (search (rules, one)))
    ] in
    if_ok _ _ (λ told h. told_together c.args.self.now.node c.args.self.now.link c.place_together.new.self.link c.args.tests.now told several h) c.place_together.result c.place_together.ensures.asks.exchanged
