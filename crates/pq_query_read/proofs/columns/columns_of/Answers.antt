use Rattle.std.proofs.Common.{◌≤◌, List, length, sym, ap, ◌∙◌, subst}
use Rattle.pq_schema.specs.declared.table.Column.{Column}
use Rattle.pq_schema.specs.declared.table.Table.{Table}
use Rattle.pq_schema.proofs.Valid.{valid_made}
use Rattle.pq_query_read.proofs.columns.columns_of.Goals as goal

pub returns-clause-few : goal.returns-clause-few
returns-clause-few c =
    subst (λ (columns : List Column). length columns ≤ 32) (sym (c.items.ensures ∙ ap (λ (table : Table). table.columns) c.table.ensures))
    (valid_made c.known.ensures c.args.relation.now.table c.requires.from_one c.requires.there).few_columns
