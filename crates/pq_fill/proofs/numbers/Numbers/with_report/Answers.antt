use Rattle.std.proofs.Common.{arith}
use Rattle.std.proofs.lemmas.Int.{ints}
use Rattle.pq_fill.proofs.numbers.Numbers.with_report.Goals as goal

pub returns-clause-within : goal.returns-clause-within
returns-clause-within c =
    let counted = c.with_outcome.ensures.counted in
    record {
      counted = record {
        refused = counted.refused;
        users = counted.users;
        subs = counted.subs;
        thoughts = counted.thoughts;
        runs = counted.runs;
        rows = counted.rows;
        sum = (omega (arith, ints), omega (arith, ints));
      };
      total = c.plus.ensures.within c.args.self.reports c.requires.within.total;
    }
