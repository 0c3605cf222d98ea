use Rattle.std.proofs.Common.{ap, arith}
use Rattle.pq_base.specs.declared.number.Bound.{Bound}
use Rattle.pq_client_shell.proofs.Orders.{calls_within, few_ops}
use Rattle.pq_client_shell.proofs.turns.most_calls.Goals as goal

pub overflow_cast-result : goal.overflow_cast-result
overflow_cast-result c = omega (arith, few_ops c.args.catalog.now c.args.write.now c.known.ensures c.tables-tables.ensures.few c.requires, ap (λ (b : Bound). b.ops) c.write_bound-bound.ensures)

pub overflow_mul-result : goal.overflow_mul-result
overflow_mul-result c = omega (arith, few_ops c.args.catalog.now c.args.write.now c.known.ensures c.tables-tables.ensures.few c.requires, ap (λ (b : Bound). b.ops) c.write_bound-bound.ensures)

pub returns-clause-most : goal.returns-clause-most
returns-clause-most c = omega (arith, calls_within c.args.catalog.now.tables c.args.write.now, ap (λ (b : Bound). b.ops) c.write_bound-bound.ensures)

pub returns-clause-few : goal.returns-clause-few
returns-clause-few c = omega (arith, few_ops c.args.catalog.now c.args.write.now c.known.ensures c.tables-tables.ensures.few c.requires, ap (λ (b : Bound). b.ops) c.write_bound-bound.ensures)
