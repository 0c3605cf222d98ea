use Rattle.std.proofs.Common.{◌≤◌, List, length, sym, ap, ◌∙◌, subst}
use Rattle.pq_schema.specs.declared.table.Column.{Column}
use Rattle.pq_schema.specs.declared.table.Table.{Table}
use Rattle.pq_schema.proofs.Valid.{valid_made}
use Rattle.pq_definitions.proofs.new_counter.counted_cols.Goals as goal

pub places_of-requires : goal.places_of-requires
places_of-requires c =
    subst (λ (cs : List Column). length cs ≤ 32) (sym (c.items.ensures ∙ ap (λ (t : Table). t.columns) c.table.ensures))
    (valid_made c.known.ensures c.args.table c.requires.from_one c.requires.there).few_columns
