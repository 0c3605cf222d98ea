use Rattle.std.proofs.Common.{◌∙◌, ap}
use Rattle.std.specs.FinMap.{same_entries_map}
use Rattle.pq_store.specs.Content.{Content}
use Rattle.pq_frozen.proofs.frozen.Frozen.pin.Goals as goal

pub returns-in-Ok : goal.returns-in-Ok
returns-in-Ok c =
    c.new.ensures
    ∙ ap (λ (held : Content). record { held = held; refused = 0 })
    (same_entries_map c.in-Ok.held c.args.store.now (c.in-Ok.ensures.content ∙ c.in_ok-pairs.ensures))
