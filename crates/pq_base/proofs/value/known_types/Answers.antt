use Rattle.std.proofs.Common.{take, sym}
use Rattle.std.proofs.lemmas.List.{take_all}
use Rattle.std.proofs.lemmas.List.Elements.{All-more, All-same}
use Rattle.pq_base.specs.declared.value.ColType.TheVariants as type
use Rattle.pq_base.specs.Values.{IsType}
use Rattle.pq_base.proofs.value.known_types.Goals as goal

pub loop-ty-preserved : goal.loop-ty-preserved
loop-ty-preserved c = All-more IsType c.args.types.now c.loop-ty.ty-index type.Int c.loop-ty-test.true c.loop-ty.invariant c.known_type.ensures

pub returns : goal.returns
returns c = All-same IsType c.args.types.now (take c.loop-ty.ty-index c.args.types.now) (sym (take_all c.loop-ty.ty-index c.args.types.now c.loop-ty-test.false)) c.loop-ty.invariant
