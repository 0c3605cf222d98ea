use Rattle.std.proofs.Common.{ℕ, List, map, ap, ◌∙◌, sym}
use Rattle.pq_clients.specs.Clients.{Checking, Adding, Testing, Clearing, Undoing}
use Rattle.pq_clients.specs.InFlight.{seen_flight}
use Rattle.pq_clients.specs.Seen.{seen_check, seen_stage}
use Rattle.pq_clients.specs.declared.stage.Check.{Check as CodeCheck}
use Rattle.pq_clients.proofs.Ways.{of_stage}
use Rattle.pq_clients.proofs.steps.fly.Goals as goal

pub returns-in-Checking : goal.returns-in-Checking
returns-in-Checking g c =
    let tables = c.args.flight.now.catalog.now.tables in
    let f = seen_flight c.args.flight.now in
    of_stage tables c.args.holder.client c.args.holder.number f (Checking (seen_check c.in-Checking.check) (map seen_check c.items.result.now)) (seen_stage c.args.stage.now) c.check_step.result
    (ap (λ (l : List CodeCheck). Checking (seen_check c.in-Checking.check) (map seen_check l)) c.items.ensures
    ∙ sym (ap seen_stage c.in-Checking.is))
    _ _ (c.check_step.ensures c.args.holder.client c.args.holder.number)

pub returns-in-Adding : goal.returns-in-Adding
returns-in-Adding g c =
    let tables = c.args.flight.now.catalog.now.tables in
    let f = seen_flight c.args.flight.now in
    of_stage tables c.args.holder.client c.args.holder.number f (Adding c.in-Adding.entry c.items-left.result.now c.items-in-Adding.result.now) (seen_stage c.args.stage.now) c.add_step.result
    (ap (λ (l : List (List ℕ)). Adding c.in-Adding.entry l c.items-in-Adding.result.now) c.items-left.ensures
    ∙ ap (λ (l : List (List ℕ)). Adding c.in-Adding.entry c.in-Adding.left l) c.items-in-Adding.ensures
    ∙ sym (ap seen_stage c.in-Adding.is))
    _ _ (c.add_step.ensures c.args.holder.client c.args.holder.number)

pub returns-in-Testing : goal.returns-in-Testing
returns-in-Testing g c =
    let tables = c.args.flight.now.catalog.now.tables in
    let f = seen_flight c.args.flight.now in
    of_stage tables c.args.holder.client c.args.holder.number f (Testing c.in-Testing.place c.items-left-in-Testing.result.now c.items-in-Testing.result.now) (seen_stage c.args.stage.now) c.test_step.result
    (ap (λ (l : List ℕ). Testing c.in-Testing.place l c.items-in-Testing.result.now) c.items-left-in-Testing.ensures
    ∙ ap (λ (l : List ℕ). Testing c.in-Testing.place c.in-Testing.left l) c.items-in-Testing.ensures
    ∙ sym (ap seen_stage c.in-Testing.is))
    _ _ (c.test_step.ensures c.args.holder.client c.args.holder.number)

pub returns-in-Putting : goal.returns-in-Putting
returns-in-Putting g c = rw c.in-Putting.is c.put_step.ensures

pub returns-in-Clearing : goal.returns-in-Clearing
returns-in-Clearing g c =
    let tables = c.args.flight.now.catalog.now.tables in
    let f = seen_flight c.args.flight.now in
    of_stage tables c.args.holder.client c.args.holder.number f (Clearing c.in-Clearing.entry c.items-in-Clearing.result.now) (seen_stage c.args.stage.now) c.clear_step.result
    (ap (λ (l : List (List ℕ)). Clearing c.in-Clearing.entry l) c.items-in-Clearing.ensures
    ∙ sym (ap seen_stage c.in-Clearing.is))
    _ _ (c.clear_step.ensures tables c.args.holder.client c.args.holder.number f)

pub returns-in-Freeing : goal.returns-in-Freeing
returns-in-Freeing g c = rw c.in-Freeing.is c.free_step.ensures

pub returns-in-Undoing : goal.returns-in-Undoing
returns-in-Undoing g c =
    let tables = c.args.flight.now.catalog.now.tables in
    let f = seen_flight c.args.flight.now in
    of_stage tables c.args.holder.client c.args.holder.number f (Undoing c.in-Undoing.entry c.items-in-Undoing.result.now c.in-Undoing.refusal) (seen_stage c.args.stage.now) c.undo_step.result
    (ap (λ (l : List (List ℕ)). Undoing c.in-Undoing.entry l c.in-Undoing.refusal) c.items-in-Undoing.ensures
    ∙ sym (ap seen_stage c.in-Undoing.is))
    _ _ (c.undo_step.ensures tables c.args.holder.client c.args.holder.number f)

pub returns-in-Releasing : goal.returns-in-Releasing
returns-in-Releasing g c = rw c.in-Releasing.is c.release_step.ensures
