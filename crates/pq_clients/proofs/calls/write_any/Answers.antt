use Rattle.std.proofs.Common.{List, ℕ, Bool, true, Option, ap}
use Rattle.std.specs.Option.{option_copied}
use Rattle.pq_store.specs.Content.{Content, written_content}
use Rattle.pq_clients.proofs.Going.{regone}
use Rattle.pq_clients.proofs.calls.write_any.Goals as goal

pub returns : goal.returns
returns g c =
    let key = c.args.key.now in
    regone (λ (done : Bool). done)
    (λ (k : Content). (written_content key (option_copied c.value_of.result) k, true))
    (λ (k : Content). (written_content key c.args.new.now k, true))
    _ _ c.write_pair.result c.write_pair.ensures
    (λ (k : Content). ap (λ (n : Option (List ℕ)). (written_content key n k, true)) c.value_of.ensures)
