use Rattle.std.proofs.Common.{◌<◌, length, ◌∙◌, arith, rules}
use Rattle.std.proofs.lemmas.Result.{err_from_is_err_and}
use Rattle.pq_intent.proofs.Steps.{partway_more, made_more}
use Rattle.pq_intent.proofs.write.write_changes.Goals as goal

pub returns-in_err-write_change-clause-makes : goal.returns-in_err-write_change-clause-makes
returns-in_err-write_change-clause-makes g c =
    let p = err_from_is_err_and c.from_residual.result c.from_residual.ensures.1 in
    let within : c.loop-change.change-index < length c.args.changes.now = omega arith in
    record {
      made = search rules;
      stopped = rw p.1 (partway_more c.args.changes.now c.loop-change.change-index c.change-item.result _ _ _ within c.change-item.is c.loop-change.invariant.made c.in_err-write_change.ensures.makes.stopped);
      sound = search rules;
      memory = λ want. record {
        made = c.loop-change.change-index;
        counted = omega (arith, c.loop-change.invariant.each, c.write_change.ensures.one);
        is = c.in_err-write_change.ensures.makes.memory (search rules) ∙ c.loop-change.invariant.made;
      };
    }

pub loop-change-preserved : goal.loop-change-preserved
loop-change-preserved g c =
    let within : c.loop-change.change-index < length c.args.changes.now = omega arith in
    let spends = c.write_change.ensures.within.spends in
    record {
      made = made_more c.args.changes.now c.loop-change.change-index c.change-item.result _ _ _ within c.change-item.is c.loop-change.invariant.made c.in_ok-write_change.ensures.makes.made;
      spends = record {
        granted = spends.granted ∙ c.loop-change.invariant.spends.granted;
        ops = omega arith;
        rise = omega arith;
        few = omega arith;
        entries_left = omega arith;
        entries = omega arith;
      };
      each = omega arith;
      rounds = omega (arith, c.write_change.ensures.within.rounds);
      later = omega (arith, c.write_change.ensures.within.cause.later);
    }
