use Rattle.pq_schema.specs.Valid.IsValid.{empty}
use Rattle.pq_schema.proofs.catalog.Catalog.known.Goals as goal

pub returns-in-None : goal.returns-in-None
returns-in-None c = rw (← c.self.view_is, c.in-None.is) empty
