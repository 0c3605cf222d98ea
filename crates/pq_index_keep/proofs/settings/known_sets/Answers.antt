use Rattle.std.proofs.Common.{take, sym, subst}
use Rattle.std.proofs.lemmas.List.{take_all}
use Rattle.std.proofs.lemmas.List.Elements.{All-more, All-same}
use Rattle.pq_def_read.specs.declared.write.SetDef.{SetDef}
use Rattle.pq_def_read.specs.Known.{IsSetting}
use Rattle.pq_index_keep.proofs.settings.known_sets.Goals as goal

pub loop-set-preserved : goal.loop-set-preserved
loop-set-preserved c =
    let P : SetDef → Type 0 = λ set. IsSetting set.to in
    All-more P c.args.sets.now c.loop-set.set-index c.set-item.result c.loop-set-test.true c.loop-set.invariant (subst P c.set-item.is c.known_set.ensures)

pub returns : goal.returns
returns c = All-same (λ set. IsSetting set.to) c.args.sets.now (take c.loop-set.set-index c.args.sets.now) (sym (take_all c.loop-set.set-index c.args.sets.now c.loop-set-test.false)) c.loop-set.invariant
