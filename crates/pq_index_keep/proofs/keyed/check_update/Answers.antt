use Rattle.pq_index_keep.proofs.Fitting.{few_conds, keyed_ok}
use Rattle.pq_index_keep.proofs.keyed.check_update.Goals as goal

pub returns-clause-write : goal.returns-clause-write
returns-clause-write c =
    let table = c.table-table.result.now in
    let ok = keyed_ok table c.args.sets.now c.args.key.now c.args.conds.now c.in_ok-check_keyed.ensures c.known_sets.ensures c.known_assigns.ensures c.known_conds.ensures in
    record {
      number = c.requires.number;
      fits = rw (← c.table-table.ensures, c.in_ok-key.ensures) ok.fits;
      each = rw (← c.table-table.ensures, c.in_ok-sets.ensures) ok.each;
      tested = rw (← c.table-table.ensures, c.in_ok-conds.ensures) (few_conds table c.args.conds.now c.requires.few, ok.tested);
    }
