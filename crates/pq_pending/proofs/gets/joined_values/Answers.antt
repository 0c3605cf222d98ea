use Rattle.pq_pending.proofs.Joining.{joined_pushed}
use Rattle.pq_pending.proofs.gets.joined_values.Goals as goal

pub loop-i-preserved : goal.loop-i-preserved
loop-i-preserved c =
    joined_pushed c.args.pending.now.changes c.args.keys.now c.args.stored.now c.loop-i.values c.push.new.self c.loop-i.i c.index-keys-i.result c.index-stored-i.result c.in_ok-value.value c.loop-i-test.true c.requires
    c.index-keys-i.is c.index-stored-i.is c.loop-i.invariant c.in_ok-value.ensures c.in_ok-push.ensures.ok
