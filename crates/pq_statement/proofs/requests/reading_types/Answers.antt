use Rattle.std.proofs.Common.{◌≡◌, ◌≤◌, length, ap, ◌∙◌, arith}
use Rattle.std.proofs.lemmas.Result.{IfOk-weaker}
use Rattle.pq_schema.specs.Counters.{IsMadeCounter}
use Rattle.pq_schema.specs.Schema.{counter_at}
use Rattle.pq_schema.specs.declared.counter.Counter.{Counter}
use Rattle.pq_schema.proofs.Counters.{counter_made}
use Rattle.pq_statement.proofs.Found.{few_types}
use Rattle.pq_statement.proofs.requests.reading_types.Goals as goal

pub table-table-requires-clause-from_one : goal.table-table-requires-clause-from_one
table-table-requires-clause-from_one c =
    let made : IsMadeCounter c.args.catalog.now.tables (counter_at c.args.catalog.now c.args.number) = counter_made c.args.catalog.now c.args.number c.known.ensures c.requires in
    rw c.counter-counter.ensures made.from_one

pub table-table-requires-clause-there : goal.table-table-requires-clause-there
table-table-requires-clause-there c =
    let made : IsMadeCounter c.args.catalog.now.tables (counter_at c.args.catalog.now c.args.number) = counter_made c.args.catalog.now c.args.number c.known.ensures c.requires in
    rw c.counter-counter.ensures made.there

pub returns-clause-few : goal.returns-clause-few
returns-clause-few c =
    let made : IsMadeCounter c.args.catalog.now.tables (counter_at c.args.catalog.now c.args.number) = counter_made c.args.catalog.now c.args.number c.known.ensures c.requires in
    let same : c.items-2.result.now ≡ (counter_at c.args.catalog.now c.args.number).cols = c.items-2.ensures ∙ ap (λ (x : Counter). x.cols) c.counter-counter.ensures in
    let most = made.cols.few in
    let few : length c.items-2.result.now ≤ 4 = omega (arith, ap length same, most) in
    IfOk-weaker c.value_types.result _ _ (λ types is. few_types types c.items.result.now c.items-2.result.now is few) c.value_types.ensures
