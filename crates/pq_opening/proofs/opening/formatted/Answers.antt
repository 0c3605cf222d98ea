use Rattle.std.proofs.Common.{◌≤◌, Option, sym, subst, length}
use Rattle.std.specs.Prelude.{IfSome}
use Rattle.pq_schema.specs.Schema.{Schema}
use Rattle.pq_opening.proofs.opening.formatted.Goals as goal

pub has_format-requires : goal.has_format-requires
has_format-requires c =
    subst (λ (s : Schema). 1 ≤ length s.definitions) (sym c.catalog.ensures)
    (subst (λ (o : Option Schema). IfSome o (λ (s : Schema). 1 ≤ length s.definitions)) c.in-Some.is c.requires)
