use Rattle.std.proofs.Common.{ap, ◌∙◌}
use Rattle.std.specs.List.{position}
use Rattle.pq_pending.proofs.Placing.{place_is}
use Rattle.pq_pending.specs.Placed.{is_of}
use Rattle.pq_pending.proofs.placed.PlacedChanges.place.Goals as goal

pub returns : goal.returns
returns c = c.copied.ensures ∙ c.get.ensures.value ∙ place_is _ _ c.self.invariant c.args.key.now ∙ ap (position (is_of c.args.key.now)) c.self.view_is
