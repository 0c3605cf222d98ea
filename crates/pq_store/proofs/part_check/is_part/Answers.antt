use Rattle.std.proofs.Common.{rules, IsTrue}
use Rattle.pq_store.proofs.Answered.{part_of, within_back}
use Rattle.pq_store.proofs.part_check.is_part.Goals as goal

pub returns-clause-part : goal.returns-clause-part
returns-clause-part c = λ rising. part_of c.args.low.now c.args.high.now c.args.limit c.args.pairs.now (search rules) (search rules) (search rules)

pub returns-clause-exactly : goal.returns-clause-exactly
returns-clause-exactly c = λ part. search rules

pub returns-then-not-are_within-clause-exactly : goal.returns-then-not-are_within-clause-exactly
returns-then-not-are_within-clause-exactly c = λ part.
    let within : IsTrue c.are_within.result = c.are_within.ensures.all (within_back c.args.low.now c.args.high.now c.args.pairs.now part.within) in
    search rules
