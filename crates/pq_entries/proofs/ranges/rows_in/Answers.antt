use Rattle.std.proofs.Common.{List, map, subst, sym, ap, ◌∙◌}
use Rattle.std.specs.Prelude.{All, IfSome}
use Rattle.std.proofs.lemmas.Result.{IfErr-weaker}
use Rattle.pq_base.specs.declared.value.ColType.{ColType}
use Rattle.pq_base.specs.Shapes.{row_shape}
use Rattle.pq_base.specs.Values.{IsType}
use Rattle.pq_row_code.specs.StoredRow.{code_as}
use Rattle.pq_schema.specs.Rows.{types_of, shape_of}
use Rattle.pq_schema.specs.Tables.{table_at}
use Rattle.pq_schema.specs.declared.table.Access.TheVariants.{Primary}
use Rattle.pq_store.specs.declared.store.Pair.{Pair}
use Rattle.pq_store.specs.Content.{entry}
use Rattle.pq_calls.specs.World.{where_told}
use Rattle.pq_nodes.specs.Operators.{ShowsRead}
use Rattle.pq_entries.specs.Entries.{IsUnread, IsNoRowPair, AreRowsWithin, AreFirstRows}
use Rattle.pq_entries.proofs.Answered.{unread_tells}
use Rattle.pq_entries.proofs.Told.{rows_unread, rows_coded, rows_answered, ok_each, err_each, long_read, fit_as}
use Rattle.pq_entries.proofs.ranges.rows_in.Goals as goal

pub returns-clause-cause : goal.returns-clause-cause
returns-clause-cause c =
    let tables = c.args.catalog.now.tables in
    let shape = ap (λ (ts : List ColType). row_shape ts c.table_of-table.result.now.fillers) (c.items.ensures ∙ c.in_ok-types.ensures) ∙ ap shape_of c.table_of-table.ensures.table in
    err_each c.args.number Primary c.args.pairs.now c.decoded_rows.result (λ told low high limit. IsUnread (where_told (ShowsRead tables) told))
    (λ told low high limit of. rows_unread tables c.args.number c.requires.sequence.number low high limit c.args.pairs.now of.part told of.are _ shape of.ends c.decoded_rows.result c.decoded_rows.ensures.cause)

pub returns-clause-tells : goal.returns-clause-tells
returns-clause-tells c =
    IfErr-weaker c.decoded_rows.result _ _
    (unread_tells (IsNoRowPair (row_shape c.items.result.now c.table_of-table.result.now.fillers)) (λ pair damage shown. shown.tells) (map entry c.args.pairs.now)) c.decoded_rows.ensures.cause

pub returns-clause-long : goal.returns-clause-long
returns-clause-long c = long_read (code_as (row_shape c.items.result.now c.table_of-table.result.now.fillers)) (λ (pair : Pair). pair.value) c.args.pairs.now c.decoded_rows.result c.decoded_rows.ensures.codes

pub returns-clause-fit : goal.returns-clause-fit
returns-clause-fit c =
    let types = c.items.ensures ∙ c.in_ok-types.ensures ∙ ap types_of c.table_of-table.ensures.table in
    fit_as c.items.result.now _ types c.decoded_rows.result c.decoded_rows.ensures.fit

pub returns-clause-codes : goal.returns-clause-codes
returns-clause-codes c =
    let tables = c.args.catalog.now.tables in
    let shape = ap (λ (ts : List ColType). row_shape ts c.table_of-table.result.now.fillers) (c.items.ensures ∙ c.in_ok-types.ensures) ∙ ap shape_of c.table_of-table.ensures.table in
    ok_each c.args.number Primary c.args.pairs.now c.decoded_rows.result (λ told low high limit rows. IfSome told (AreRowsWithin (table_at tables c.args.number) low high limit rows))
    (λ told low high limit of. rows_coded tables c.args.number c.requires.sequence.number low high limit c.args.pairs.now of.part told of.are _ shape c.decoded_rows.result c.decoded_rows.ensures.codes)

pub returns-clause-answer : goal.returns-clause-answer
returns-clause-answer c =
    let tables = c.args.catalog.now.tables in
    let shape = ap (λ (ts : List ColType). row_shape ts c.table_of-table.result.now.fillers) (c.items.ensures ∙ c.in_ok-types.ensures) ∙ ap shape_of c.table_of-table.ensures.table in
    ok_each c.args.number Primary c.args.pairs.now c.decoded_rows.result (λ told low high limit rows. IfSome told (AreFirstRows c.args.number (table_at tables c.args.number) low high limit rows))
    (λ told low high limit of. rows_answered tables c.args.number c.requires.sequence.number low high limit c.args.pairs.now of.part told of.are
    _ shape (subst (All IsType) (sym (c.items.ensures ∙ c.in_ok-types.ensures)) c.table_of-table.ensures.types)
    c.decoded_rows.result c.decoded_rows.ensures.codes c.decoded_rows.ensures.fit)
