use Rattle.std.proofs.Common.{◌+◌, ◌<◌, ◌^◌, refl, arith}
use Rattle.pq_counters.proofs.Small.{whole_few}
use Rattle.pq_counters.proofs.bound.whole_bound.Goals as goal

pub overflow_add-result : goal.overflow_add-result
overflow_add-result c =
    let few : c.write_bound-rows.result.ops + c.counter_bound-counters.result.ops < 2 ^ 32 = rw (c.write_bound-rows.ensures, c.counter_bound-counters.ensures) (whole_few c.args.catalog.now c.args.write.now c.known.ensures c.requires).ops in
    omega arith

pub overflow_add-result-2 : goal.overflow_add-result-2
overflow_add-result-2 c =
    let few : c.write_bound-rows.result.entries + c.counter_bound-counters.result.entries < 2 ^ 32 = rw (c.write_bound-rows.ensures, c.counter_bound-counters.ensures) (whole_few c.args.catalog.now c.args.write.now c.known.ensures c.requires).entries in
    omega arith

pub returns-clause-is : goal.returns-clause-is
returns-clause-is c = rw (c.write_bound-rows.ensures, c.counter_bound-counters.ensures) refl

pub returns-clause-ops : goal.returns-clause-ops
returns-clause-ops c = rw (c.write_bound-rows.ensures, c.counter_bound-counters.ensures) (whole_few c.args.catalog.now c.args.write.now c.known.ensures c.requires).ops

pub returns-clause-entries : goal.returns-clause-entries
returns-clause-entries c = rw (c.write_bound-rows.ensures, c.counter_bound-counters.ensures) (whole_few c.args.catalog.now c.args.write.now c.known.ensures c.requires).entries
