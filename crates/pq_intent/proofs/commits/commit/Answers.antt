use Rattle.std.proofs.Common.{inr}
use Rattle.std.proofs.lemmas.Result.{on_ok_weaker, on_err_weaker}
use Rattle.pq_intent.proofs.Ends.{single_is, single_whole, single_partway, single_stopped}
use Rattle.pq_intent.proofs.Wanting.{stops_first}
use Rattle.pq_intent.proofs.commits.commit.Goals as goal

pub returns-in-len1-clause-stopped : goal.returns-in-len1-clause-stopped
returns-in-len1-clause-stopped g c =
    on_err_weaker c.write_change.result (λ may pairs s. single_stopped c.args.changes c.items.result.now c.change-item.result _ _ c.items.ensures c.in-len1.len_at_least c.in-len1.len_below c.change-item.is c.requires.intended may pairs s) c.write_change.ensures.makes.stopped

pub returns-in-len1-clause-memory : goal.returns-in-len1-clause-memory
returns-in-len1-clause-memory g c = λ want pairs s. inr (stops_first _ _ _ _ _ c.write_change.ensures.one (c.write_change.ensures.makes.memory want))

pub returns-in-len1-clause-whole : goal.returns-in-len1-clause-whole
returns-in-len1-clause-whole g c =
    on_ok_weaker c.write_change.result (single_whole c.args.changes c.change-item.result (g.S.Store.content c.args.store.now) (g.S.Store.content c.write_change.new.store) (single_is c.args.changes c.items.result.now c.change-item.result c.items.ensures c.in-len1.len_at_least c.in-len1.len_below c.change-item.is)) c.write_change.ensures.makes.made

pub returns-in-len1-clause-partway : goal.returns-in-len1-clause-partway
returns-in-len1-clause-partway g c =
    on_err_weaker c.write_change.result (single_partway c.args.changes c.change-item.result (g.S.Store.content c.args.store.now) (g.S.Store.content c.write_change.new.store) (single_is c.args.changes c.items.result.now c.change-item.result c.items.ensures c.in-len1.len_at_least c.in-len1.len_below c.change-item.is)) c.write_change.ensures.makes.stopped
