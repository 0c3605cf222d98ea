use Rattle.std.proofs.Common.{ℕ, List, ap, ◌∙◌}
use Rattle.pq_clients.specs.Clients.{Flying}
use Rattle.pq_clients.specs.Steps.{On, testing}
use Rattle.pq_clients.specs.Clients.{Stage}
use Rattle.pq_clients.proofs.limit_steps.roomy_led.Goals as goal

pub returns : goal.returns
returns c = λ f.
    c.flying.ensures f ∙ ap (λ (s : Stage). On (Flying f s)) (c.in_ok-stage.ensures ∙ ap (λ (l : List ℕ). testing c.args.left.now l) c.in_ok-all.ensures)
