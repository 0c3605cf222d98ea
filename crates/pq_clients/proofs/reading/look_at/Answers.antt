use Rattle.std.proofs.Common.{ℕ, List, Option, refl, ap, ◌∙◌}
use Rattle.std.specs.FinMap.{get}
use Rattle.pq_store.specs.Content.{Content}
use Rattle.pq_clients.specs.declared.outcome.Outcome.TheVariants as outcome
use Rattle.pq_clients.specs.declared.stage.Course.TheVariants as course
use Rattle.pq_clients.specs.declared.stage.Ending.TheVariants as ending
use Rattle.pq_clients.specs.Seen.{seen_course}
use Rattle.pq_clients.specs.Steps.{Ends}
use Rattle.pq_clients.proofs.Going.{follow, broke}
use Rattle.pq_clients.proofs.reading.look_at.Goals as goal

pub returns-in-Ok-clause-goes : goal.returns-in-Ok-clause-goes
returns-in-Ok-clause-goes g c = λ f.
    follow (λ (x : Option (List ℕ)). x) (λ (k : Content). (k, get k c.items.result.now)) (seen_course f)
    (λ (k : Content). (k, Ends (outcome.Conflict c.args.read (get k c.args.key.now)))) _ _ c.in-Ok.found
    (course.Ends (ending.Conflict c.args.read c.in-Ok.found)) c.in-Ok.ensures
    (λ k e. (ap (λ (o : Option (List ℕ)). Ends (outcome.Conflict c.args.read o)) (e ∙ ap (λ (q : List ℕ). get k q) c.items.ensures), refl))

pub returns-in-Ok-clause-way : goal.returns-in-Ok-clause-way
returns-in-Ok-clause-way g c = λ f. (c.in-Ok.found, refl)

pub returns-in-Err-clause-goes : goal.returns-in-Err-clause-goes
returns-in-Err-clause-goes g c = λ f.
    broke (λ (x : Option (List ℕ)). x) (λ (k : Content). (k, get k c.items.result.now)) (seen_course f)
    (λ (k : Content). (k, Ends (outcome.Conflict c.args.read (get k c.args.key.now)))) _ _ c.in-Err.halt c.in-Err.ensures (λ k. refl)
