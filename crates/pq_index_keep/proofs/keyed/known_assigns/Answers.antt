use Rattle.std.proofs.Common.{take, sym, subst}
use Rattle.std.proofs.lemmas.List.{take_all}
use Rattle.std.proofs.lemmas.List.Elements.{All-more, All-same}
use Rattle.pq_base.specs.Values.{IsValue}
use Rattle.pq_def_read.specs.declared.write.Assign.{Assign}
use Rattle.pq_index_keep.proofs.keyed.known_assigns.Goals as goal

pub loop-assign-preserved : goal.loop-assign-preserved
loop-assign-preserved c =
    let P : Assign → Type 0 = λ a. IsValue a.value in
    All-more P c.args.assigns.now c.loop-assign.assign-index c.assign-item.result c.loop-assign-test.true c.loop-assign.invariant (subst P c.assign-item.is c.known_assign.ensures)

pub returns : goal.returns
returns c = All-same (λ a. IsValue a.value) c.args.assigns.now (take c.loop-assign.assign-index c.args.assigns.now) (sym (take_all c.loop-assign.assign-index c.args.assigns.now c.loop-assign-test.false)) c.loop-assign.invariant
