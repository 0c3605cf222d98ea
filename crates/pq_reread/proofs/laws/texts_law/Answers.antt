use Rattle.std.proofs.Common.{◌∷◌, ◌++◌, []}
use Rattle.pq_reread.proofs.Defined.{defined_says}
use Rattle.pq_reread.proofs.Lengths.{table_short}
use Rattle.pq_reread.proofs.Orders.{keys_of}
use Rattle.pq_reread.proofs.Tables.{table_utf8}
use Rattle.pq_reread.proofs.laws.texts_law.Goals as goal

pub returns : goal.returns
returns c schema def table are is made = (table_utf8 (schema.tables ++ table ∷ []) def table is (defined_says schema def table (keys_of schema.tables are) made), table_short schema def table are is made)
