use Rattle.std.proofs.Common.{◌≡◌, List, ℕ, length, ap, ◌∙◌, subst, arith}
use Rattle.std.specs.Prelude.{IfOk}
use Rattle.pq_base.specs.declared.value.Value.{Value}
use Rattle.pq_schema.specs.declared.table.Table.{Table}
use Rattle.pq_schema.specs.Relations.{table_of}
use Rattle.pq_schema.specs.Sequences.{sequence_of}
use Rattle.pq_schema.proofs.Soundness.{valid_query}
use Rattle.pq_calls.specs.Keys.{sequence_key}
use Rattle.pq_index_scan.proofs.Ranging.{start_short}
use Rattle.pq_index_scan.proofs.limit.range_start.Goals as goal

pub table_of-table-requires-clause-query : goal.table_of-table-requires-clause-query
table_of-table-requires-clause-query c = valid_query c.args.request.now.catalog.now c.args.request.now.query.now c.known.ensures c.requires.asked.resolved

pub sequence_key-requires-clause-short : goal.sequence_key-requires-clause-short
sequence_key-requires-clause-short c =
    let range = c.args.range.now in
    let values = c.requires.values in
    let long = ap (λ (l : List Value). length l) values in
    let sequence = ap (λ (table : Table). length (sequence_of table range.access)) c.table_of-table.ensures.table in
    let short = start_short c.args.request.now.catalog.now.tables c.args.request.now.query.now c.args.request.now.params.now range c.args.input.now c.requires.range in
    omega (arith, long, sequence, short)

pub returns : goal.returns
returns c =
    let range = c.args.range.now in
    let values = c.requires.values in
    let same =
    ap (λ (table : Table). sequence_key range.number table range.access c.args.values.now) c.table_of-table.ensures.table
    ∙ ap (λ (vs : List Value). sequence_key range.number (table_of c.args.request.now.catalog.now.tables c.args.request.now.query.now range.rel) range.access vs) values in
    subst (λ (k : List ℕ). IfOk c.sequence_key.result (λ (key : List ℕ). key ≡ k)) same c.sequence_key.ensures
