use Rattle.std.proofs.Common.{◌≡◌, ap, sym, subst}
use Rattle.std.specs.Prelude.{unwrap_or}
use Rattle.pq_schema.specs.declared.table.Column.{Column}
use Rattle.pq_schema.specs.Definitions.{altered_table}
use Rattle.pq_schema.specs.Schema.{with_column}
use Rattle.pq_schema.specs.Valid.{IsValid}
use Rattle.pq_schema.specs.Valid.IsValid.{then_column}
use Rattle.pq_schema.proofs.Valid.{column_accepted}
use Rattle.pq_definitions.proofs.new_column.add_column.Goals as goal

pub push_column-requires-clause-next : goal.push_column-requires-clause-next
push_column-requires-clause-next c =
    let now = c.args.catalog.now in
    let def = c.args.def in
    let made = column_accepted now def c.in_ok-table.ensures.passes in
    let table : altered_table now def ≡ c.in_ok-table.table = ap (λ o. unwrap_or o 0) c.in_ok-table.ensures.table in
    subst (λ n. IsValid (with_column now n c.in_ok-column.column def.filler)) table
    (subst (λ (column : Column). IsValid (with_column now (altered_table now def) column def.filler)) (sym c.in_ok-column.ensures)
    (then_column now def _ c.known.ensures (record { names = c.requires; fits = c.in_ok-table.ensures.fits; accepted = made })))
