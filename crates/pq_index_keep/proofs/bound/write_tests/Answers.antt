use Rattle.std.proofs.Common.{refl}
use Rattle.pq_index_keep.proofs.bound.write_tests.Goals as goal

pub returns-in-Update-clause-tests : goal.returns-in-Update-clause-tests
returns-in-Update-clause-tests c = rw (c.in-Update.is, c.tests-in-Update.ensures.tests, c.of.ensures, c.items.ensures, c.table-in-Update.ensures) refl
