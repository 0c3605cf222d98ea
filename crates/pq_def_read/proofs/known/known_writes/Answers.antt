use Rattle.std.proofs.Common.{take, sym, subst}
use Rattle.std.proofs.lemmas.List.{take_all}
use Rattle.std.proofs.lemmas.List.Elements.{All-more, All-same}
use Rattle.pq_def_read.specs.Known.{HasWriteValues}
use Rattle.pq_def_read.proofs.known.known_writes.Goals as goal

pub loop-write-preserved : goal.loop-write-preserved
loop-write-preserved c = All-more HasWriteValues c.args.writes.now c.loop-write.write-index c.write-item.result c.loop-write-test.true c.loop-write.invariant (subst HasWriteValues c.write-item.is c.known_write.ensures)

pub returns : goal.returns
returns c = All-same HasWriteValues c.args.writes.now (take c.loop-write.write-index c.args.writes.now) (sym (take_all c.loop-write.write-index c.args.writes.now c.loop-write-test.false)) c.loop-write.invariant
