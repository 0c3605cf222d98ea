use Rattle.std.proofs.Common.{arith}
use Rattle.std.proofs.lemmas.Int.{ints}
use Rattle.pq_fill.proofs.numbers.Numbers.new.Goals as goal

pub returns-clause-within : goal.returns-clause-within
returns-clause-within c = record {
  counted = record { refused = omega arith; users = omega arith; subs = omega arith; thoughts = omega arith; runs = omega arith; rows = omega arith; sum = (omega (arith, ints), omega (arith, ints)) };
  total = record { ops = omega arith; entries = omega arith };
}
