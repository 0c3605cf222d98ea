use Rattle.std.proofs.Common.{Some, get_or, sym, ap, ◌∙◌}
use Rattle.pq_row_code.specs.declared.changes.Change.{Change as Coded}
use Rattle.pq_pending.proofs.Places.{value_at, value_none}
use Rattle.pq_pending.proofs.placed.PlacedChanges.value.Goals as goal

pub returns-in-Some : goal.returns-in-Some
returns-in-Some c =
    ap (λ (change : Coded). Some change.new) (c.index.ensures ∙ ap (λ changes. get_or changes c.in-Some.place c.index.result.now) c.self.view_is)
    ∙ value_at c.args.key.now c.args.self.now c.in-Some.place c.index.result.now (sym c.place.ensures ∙ c.in-Some.is)

pub returns-in-None : goal.returns-in-None
returns-in-None c = value_none c.args.key.now c.args.self.now (sym c.place.ensures ∙ c.in-None.is)
