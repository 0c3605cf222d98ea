use Rattle.std.proofs.Common.{subst}
use Rattle.pq_schema.proofs.TypeKinds.{kinds_from_fit}
use Rattle.pq_schema.specs.Tables.{table_at}
use Rattle.pq_index_keep.proofs.Updating.{sets_inside, sets_of_table}
use Rattle.pq_index_keep.specs.Sound.{IsWrite, IsUpdate, IsDelete}
use Rattle.pq_counters.proofs.reading.read_rows.Goals as goal

pub stored_row-requires-clause-kinds : goal.stored_row-requires-clause-kinds
stored_row-requires-clause-kinds g c =
    let tables = c.args.catalog.now.tables in
    let may : IsUpdate tables c.in-Update.table c.in-Update.key c.in-Update.sets c.in-Update.conds = subst (IsWrite tables) c.in-Update.is c.requires.write in
    kinds_from_fit _ _ may.fits

pub row_in_place-requires : goal.row_in_place-requires
row_in_place-requires g c =
    let tables = c.args.catalog.now.tables in
    let may : IsUpdate tables c.in-Update.table c.in-Update.key c.in-Update.sets c.in-Update.conds = subst (IsWrite tables) c.in-Update.is c.requires.write in
    record {
      few = may.tested.0;
      columns = rw c.table.ensures (sets_of_table (table_at tables c.in-Update.table) c.in-Update.sets may.each);
      inside = sets_inside (table_at tables c.in-Update.table) c.in-Update.sets c.in-Ok-Some.found.row may.each (rw (c.in-Ok-Some.field-0-is) at c.in-Ok-Some.ensures.fits);
    }

pub stored_row-requires-in-Delete-clause-kinds : goal.stored_row-requires-in-Delete-clause-kinds
stored_row-requires-in-Delete-clause-kinds g c =
    let tables = c.args.catalog.now.tables in
    let may : IsDelete tables c.in-Delete.table c.in-Delete.key c.in-Delete.conds = subst (IsWrite tables) c.in-Delete.is c.requires.write in
    kinds_from_fit _ _ may.fits
