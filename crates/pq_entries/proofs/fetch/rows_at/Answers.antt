use Rattle.std.proofs.Common.{◌∷◌, [], Some}
use Rattle.std.proofs.lemmas.Result.{err_from_is_err_and}
use Rattle.pq_base.specs.Values.{AllFit}
use Rattle.pq_base.proofs.Members.{each_append}
use Rattle.pq_schema.specs.Rows.{types_of, shape_of}
use Rattle.pq_content.specs.Tables.{stored_code}
use Rattle.pq_entries.proofs.Named.{code_more, one_names}
use Rattle.pq_entries.proofs.fetch.rows_at.Goals as goal

pub loop-place-preserved : goal.loop-place-preserved
loop-place-preserved c = record {
  fit = rw c.in_ok-push.ensures.ok (each_append (AllFit (types_of c.args.table.now)) c.loop-place.rows (c.in_ok-row.row ∷ []) c.loop-place.invariant.fit (c.in_ok-row.ensures.fits, tt));
  codes = code_more (λ row. Some (stored_code c.args.table.now row)) c.args.codes.now c.loop-place.rows c.push.new.self c.loop-place.place c.index-codes-place.result c.in_ok-row.row (rw c.requires.alike c.loop-place-test.true) c.index-codes-place.is c.in_ok-row.ensures.code c.in_ok-push.ensures.ok c.loop-place.invariant.codes;
}

pub returns-in_err-row-clause-cause : goal.returns-in_err-row-clause-cause
returns-in_err-row-clause-cause c =
    let p = err_from_is_err_and c.from_residual-in_err-row.result c.from_residual-in_err-row.ensures.1 in
    rw (p.1, p.2)
    (one_names (shape_of c.args.table.now) c.args.asked.now c.args.codes.now c.loop-place.place c.index-asked-place.result c.index-codes-place.result c.loop-place-test.true c.requires.alike c.index-asked-place.is c.index-codes-place.is c.in_err-row.field-0.0 c.in_err-row.ensures.cause)
