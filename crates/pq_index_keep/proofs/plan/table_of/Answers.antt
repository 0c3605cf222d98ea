use Rattle.pq_schema.proofs.Soundness.{table_made}
use Rattle.pq_index_keep.specs.Sound.{IsWritable}
use Rattle.pq_index_keep.proofs.Deleting.{foreign_columns}
use Rattle.pq_index_keep.proofs.Inserting.{writable_at}
use Rattle.pq_index_keep.proofs.plan.table_of.Goals as goal

pub returns : goal.returns
returns c =
    let tables = c.args.catalog.now.tables in
    let w : IsWritable tables c.table.result.now = rw c.table.ensures (writable_at tables c.args.number c.requires.sound c.requires.number) in
    let is_table = table_made tables w.number c.table.result.now w.made in
    record {
      table = c.table.ensures;
      tests = record {
        asks = record { is_table = is_table; columns = foreign_columns tables c.table.result.now w; access = w.made.limit_groups };
        few = w.made.few_foreign;
        some_rows = λ k limit less. (w.made.limits k limit less).from_one;
      };
      indexes = record { key = is_table.key; parts = is_table.indexes; few = w.made.few_indexes };
    }
