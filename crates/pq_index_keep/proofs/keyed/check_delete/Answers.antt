use Rattle.std.proofs.Common.{[], arith}
use Rattle.pq_index_keep.proofs.Fitting.{few_conds, keyed_ok, delete_err, delete_ok}
use Rattle.std.proofs.lemmas.Result.{err_from_is_err_and}
use Rattle.pq_index_keep.proofs.keyed.check_delete.Goals as goal

pub returns-clause-write : goal.returns-clause-write
returns-clause-write c =
    let table = c.table-table.result.now in
    let ok = keyed_ok table [] c.args.key.now c.args.conds.now c.in_ok-check_key.ensures (λ k d less. absurd (omega arith)) c.known_assigns.ensures c.known_conds.ensures in
    record {
      number = c.requires.number;
      fits = rw (← c.table-table.ensures, c.in_ok-key.ensures) ok.fits;
      tested = rw (← c.table-table.ensures, c.in_ok-conds.ensures) (few_conds table c.args.conds.now c.requires.few, ok.tested);
    }

pub returns-in_err-check_key-clause-answer : goal.returns-in_err-check_key-clause-answer
returns-in_err-check_key-clause-answer c =
    let p = err_from_is_err_and c.from_residual.result c.from_residual.ensures.1 in
    rw (p.1, p.2) (delete_err c.table-table.result.now _ c.args.number c.args.key.now c.args.conds.now c.in_err-check_key.field-0.0 c.table-table.ensures c.in_err-check_key.ensures)

pub returns-clause-answer : goal.returns-clause-answer
returns-clause-answer c = delete_ok c.table-table.result.now _ c.args.number c.args.key.now c.args.conds.now c.in_ok-key.key c.in_ok-conds.conds c.table-table.ensures c.in_ok-check_key.ensures c.in_ok-key.ensures c.in_ok-conds.ensures
