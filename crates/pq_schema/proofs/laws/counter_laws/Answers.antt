use Rattle.std.proofs.Common.{arith}
use Rattle.pq_schema.proofs.Valid.{valid_small}
use Rattle.pq_schema.proofs.Counters.{counter_made, counter_numbers, counters_rise, few_counters, found_counter}
use Rattle.pq_schema.proofs.laws.counter_laws.Goals as goal

pub returns : goal.returns
returns c = record {
  made = λ s number v is. counter_made s number v is;
  small = λ s number v is. let few = (valid_small v).definitions in let there = is.there in omega (arith, few, there);
  numbers = counter_numbers;
  rising = counters_rise;
  few = λ s table v. few_counters table v;
  found = found_counter;
}
