use Rattle.std.proofs.Common.{sym, subst}
use Rattle.std.proofs.lemmas.Result.{on_ok_weaker, on_err_weaker}
use Rattle.pq_store.specs.Content.{entry}
use Rattle.pq_builds.specs.Filling.{IsEntryIn}
use Rattle.pq_builds.proofs.Entering.{one_made, one_stopped}
use Rattle.pq_builds.proofs.entries.write_entry.Goals as goal

pub returns-in-Some-clause-enters : goal.returns-in-Some-clause-enters
returns-in-Some-clause-enters g c =
    let e = subst (IsEntryIn c.args.target.now (entry c.args.pair.now)) (sym c.items.ensures) (rw c.in-Some.is at c.in_ok-entry_in.ensures.found) in
    on_ok_weaker c.put.result (one_made c.args.target.now (entry c.args.pair.now) c.items.result.now (g.S.Store.content c.args.store.now) (g.S.Store.content c.put.new.store) e) c.put.ensures.made

pub returns-in-Some-clause-stopped : goal.returns-in-Some-clause-stopped
returns-in-Some-clause-stopped g c =
    let e = subst (IsEntryIn c.args.target.now (entry c.args.pair.now)) (sym c.items.ensures) (rw c.in-Some.is at c.in_ok-entry_in.ensures.found) in
    on_err_weaker c.put.result (one_stopped c.args.target.now (entry c.args.pair.now) c.items.result.now (g.S.Store.content c.args.store.now) (g.S.Store.content c.put.new.store) e) c.put.ensures.stopped
