use Rattle.std.proofs.Common.{take, sym, subst}
use Rattle.std.proofs.lemmas.List.{take_all}
use Rattle.std.proofs.lemmas.List.Elements.{All-more, All-same}
use Rattle.pq_base.specs.Values.{IsValue}
use Rattle.pq_base.proofs.value.known_values.Goals as goal

pub loop-value-preserved : goal.loop-value-preserved
loop-value-preserved c = All-more IsValue c.args.values.now c.loop-value.value-index c.value-item.result c.loop-value-test.true c.loop-value.invariant (subst IsValue c.value-item.is c.known_value.ensures)

pub returns : goal.returns
returns c = All-same IsValue c.args.values.now (take c.loop-value.value-index c.args.values.now) (sym (take_all c.loop-value.value-index c.args.values.now c.loop-value-test.false)) c.loop-value.invariant
