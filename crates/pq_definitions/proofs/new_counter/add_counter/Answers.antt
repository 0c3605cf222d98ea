use Rattle.std.proofs.Common.{◌≡◌, ap, sym, subst, ◌∙◌}
use Rattle.std.specs.Prelude.{unwrap_or}
use Rattle.pq_schema.specs.declared.counter.Counter.{Counter}
use Rattle.pq_schema.specs.ColumnNames.{places_of}
use Rattle.pq_schema.specs.Definitions.{counted_table, counter_of_def}
use Rattle.pq_schema.specs.Schema.{with_counter}
use Rattle.pq_schema.specs.Tables.{table_at}
use Rattle.pq_schema.specs.Valid.{IsValid}
use Rattle.pq_schema.specs.Valid.IsValid.{then_counter}
use Rattle.pq_schema.proofs.Valid.{counter_accepted}
use Rattle.pq_definitions.proofs.new_counter.add_counter.Goals as goal

pub push_counter-requires : goal.push_counter-requires
push_counter-requires c =
    let now = c.args.catalog.now in
    let def = c.args.def in
    let made = counter_accepted now def c.in_ok-table.ensures.passes in
    let table : counted_table now def ≡ c.in_ok-table.table = ap (λ o. unwrap_or o 0) c.in_ok-table.ensures.table in
    let cols : places_of (table_at now.tables (counted_table now def)).columns def.cols ≡ c.in_ok-cols.cols =
    ap (λ n. places_of (table_at now.tables n).columns def.cols) table
    ∙ ap (places_of (table_at now.tables c.in_ok-table.table).columns) (sym c.items.ensures) ∙ sym c.in_ok-cols.ensures in
    let same : counter_of_def now def ≡ record { name = def.name; table = c.in_ok-table.table; cols = c.in_ok-cols.cols } =
    λ i. record { name = def.name; table = table i; cols = cols i } in
    subst (λ (counter : Counter). IsValid (with_counter now counter)) same
    (then_counter now def _ c.known.ensures (record { names = c.requires; accepted = made }))
