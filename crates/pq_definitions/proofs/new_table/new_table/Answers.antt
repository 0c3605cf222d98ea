use Rattle.std.proofs.Common.{◌≡◌, List, ap, ◌∙◌, sym, subst}
use Rattle.pq_schema.specs.declared.table.Column.{Column}
use Rattle.pq_schema.specs.Definitions.{table_with, bare_table}
use Rattle.pq_schema.specs.Sound.{IsBare}
use Rattle.pq_schema.proofs.Accepted.{is_bare}
use Rattle.pq_definitions.proofs.new_table.new_table.Goals as goal

pub with_groups-requires : goal.with_groups-requires
with_groups-requires c =
    let schema = c.args.catalog.now in
    let def = c.args.def.now in
    let made : c.in_ok-table.table ≡ bare_table schema def = c.in_ok-table.ensures ∙ ap (λ (columns : List Column). table_with schema columns def) c.in_ok-columns.ensures.columns in
    subst IsBare (sym made) (is_bare schema def c.in_ok-columns.ensures.passes)
