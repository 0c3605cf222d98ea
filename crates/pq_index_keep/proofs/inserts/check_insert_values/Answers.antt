use Rattle.std.proofs.Common.{length}
use Rattle.pq_base.specs.Values.{AllFit}
use Rattle.pq_content.specs.Tables.{types_of, stored_code}
use Rattle.pq_index_keep.specs.Checking.{insert_names}
use Rattle.pq_index_keep.proofs.Coding.{short_texts, few_values}
use Rattle.pq_index_keep.proofs.Fitting.{insert_ok, short_code}
use Rattle.pq_index_keep.proofs.inserts.check_insert_values.Goals as goal

pub check_length-requires-clause-columns : goal.check_length-requires-clause-columns
check_length-requires-clause-columns c =
    let fits : AllFit (types_of c.args.table.now) c.in_ok-row.row = rw c.in_ok-row.ensures (insert_ok c.args.table.now (insert_names c.args.table.now c.args.cols.now) c.args.places.now c.args.values.now c.is_insert_wrong-wrong.result _ c.is_insert_wrong-wrong.ensures c.in_ok-refuse_columns.ensures c.in_ok-check_insert_fit.ensures c.requires.named c.known_values.ensures c.requires.defaults) in
    few_values c.args.table.now c.in_ok-row.row c.requires.few fits

pub check_length-requires-clause-texts : goal.check_length-requires-clause-texts
check_length-requires-clause-texts c =
    let fits : AllFit (types_of c.args.table.now) c.in_ok-row.row = rw c.in_ok-row.ensures (insert_ok c.args.table.now (insert_names c.args.table.now c.args.cols.now) c.args.places.now c.args.values.now c.is_insert_wrong-wrong.result _ c.is_insert_wrong-wrong.ensures c.in_ok-refuse_columns.ensures c.in_ok-check_insert_fit.ensures c.requires.named c.known_values.ensures c.requires.defaults) in
    short_texts c.args.table.now c.in_ok-row.row c.requires.sized fits

pub returns-clause-fits : goal.returns-clause-fits
returns-clause-fits c =
    rw c.in_ok-row.ensures (insert_ok c.args.table.now (insert_names c.args.table.now c.args.cols.now) c.args.places.now c.args.values.now c.is_insert_wrong-wrong.result _ c.is_insert_wrong-wrong.ensures c.in_ok-refuse_columns.ensures c.in_ok-check_insert_fit.ensures c.requires.named c.known_values.ensures c.requires.defaults)

pub returns-clause-short : goal.returns-clause-short
returns-clause-short c = short_code (length (stored_code c.args.table.now c.in_ok-row.row)) _ c.in_ok-check_length.ensures
