use Rattle.std.proofs.Common.{take, sym, subst, Option}
use Rattle.std.specs.Prelude.{IfSome}
use Rattle.std.proofs.lemmas.List.{take_all}
use Rattle.std.proofs.lemmas.List.Elements.{All-more, All-same}
use Rattle.pq_base.specs.declared.value.Value.{Value}
use Rattle.pq_base.specs.Values.{IsValue}
use Rattle.pq_row_code.proofs.stored_row.known_fillers.Goals as goal

pub loop-filler-preserved : goal.loop-filler-preserved
loop-filler-preserved c = All-more (λ (filler : Option Value). IfSome filler IsValue) c.args.fillers.now c.loop-filler.filler-index c.filler-item.result c.loop-filler-test.true c.loop-filler.invariant (subst (λ (filler : Option Value). IfSome filler IsValue) c.filler-item.is c.known_filler.ensures)

pub returns : goal.returns
returns c = All-same (λ (filler : Option Value). IfSome filler IsValue) c.args.fillers.now (take c.loop-filler.filler-index c.args.fillers.now) (sym (take_all c.loop-filler.filler-index c.args.fillers.now c.loop-filler-test.false)) c.loop-filler.invariant
