use Rattle.std.proofs.Common.{sym, subst}
use Rattle.pq_schema.specs.Valid.{IsValid}
use Rattle.pq_schema.specs.Valid.IsValid.{empty}
use Rattle.pq_catalog.proofs.Kept.{none_kept}
use Rattle.pq_catalog.proofs.planned.PlannedCatalog.blank.Goals as goal

pub invariant_of-result : goal.invariant_of-result
invariant_of-result c = (subst IsValid (sym c.new.ensures) empty, rw (c.new.ensures, c.new-2.ensures) none_kept)
