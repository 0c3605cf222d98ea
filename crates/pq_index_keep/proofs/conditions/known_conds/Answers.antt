use Rattle.std.proofs.Common.{take, sym, subst}
use Rattle.std.proofs.lemmas.List.{take_all}
use Rattle.std.proofs.lemmas.List.Elements.{All-more, All-same}
use Rattle.pq_base.specs.Values.{IsValue}
use Rattle.pq_def_read.specs.declared.write.CondDef.{CondDef}
use Rattle.pq_index_keep.proofs.conditions.known_conds.Goals as goal

pub loop-cond-preserved : goal.loop-cond-preserved
loop-cond-preserved c =
    let P : CondDef → Type 0 = λ cond. IsValue cond.value in
    All-more P c.args.conds.now c.loop-cond.cond-index c.cond-item.result c.loop-cond-test.true c.loop-cond.invariant (subst P c.cond-item.is c.known_cond.ensures)

pub returns : goal.returns
returns c = All-same (λ cond. IsValue cond.value) c.args.conds.now (take c.loop-cond.cond-index c.args.conds.now) (sym (take_all c.loop-cond.cond-index c.args.conds.now c.loop-cond-test.false)) c.loop-cond.invariant
