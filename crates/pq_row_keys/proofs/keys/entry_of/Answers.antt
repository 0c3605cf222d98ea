use Rattle.pq_row_keys.proofs.CodedKeys.{entry_made}
use Rattle.pq_row_keys.proofs.keys.entry_of.Goals as goal

pub returns : goal.returns
returns c =
    entry_made c.args.number c.args.place c.args.table.now c.args.index.now c.args.row.now c.items-cols.result.now c.columns_in.result c.items-2.result.now c.in_ok-key.key c.put_parts.new.out c.put_left.new.out
    c.items-cols.ensures c.columns_in.ensures c.items-2.ensures c.in_ok-key.ensures
    (rw (← c.items.ensures) c.in_ok-put_parts.ensures) (rw (← c.items-3.ensures) c.in_ok-put_left.ensures)
