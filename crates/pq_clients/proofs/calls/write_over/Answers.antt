use Rattle.std.proofs.Common.{List, ℕ, Bool, Option, ap, ◌∙◌}
use Rattle.std.specs.Prelude.{if◌then◌else◌}
use Rattle.std.specs.FinMap.{get}
use Rattle.std.specs.Option.{option_copied}
use Rattle.pq_store.specs.Content.{Content, written_content, after_write, admits}
use Rattle.pq_clients.specs.Steps.{is_just}
use Rattle.pq_clients.proofs.Going.{regone}
use Rattle.pq_clients.proofs.calls.write_over.Goals as goal

pub returns : goal.returns
returns g c =
    let key = c.args.key.now in
    let wrote : Content → Bool → Option (List ℕ) → Content × Bool = λ k b n. (if b then written_content key n k else k, b) in
    regone (λ (done : Bool). done)
    (λ (k : Content). (after_write c.guard_of.result key (option_copied c.value_of.result) k, admits c.guard_of.result (get k key)))
    (λ (k : Content). (if is_just c.args.expected.now (get k key) then written_content key c.args.new.now k else k, is_just c.args.expected.now (get k key)))
    _ _ c.write_pair.result c.write_pair.ensures
    (λ (k : Content). ap (λ (b : Bool). wrote k b (option_copied c.value_of.result)) (c.guard_of.ensures (get k key))
    ∙ ap (λ (n : Option (List ℕ)). wrote k (is_just c.args.expected.now (get k key)) n) c.value_of.ensures)
