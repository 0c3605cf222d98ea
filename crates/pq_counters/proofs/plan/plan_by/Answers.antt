use Rattle.pq_pending.specs.Calls.{seen}
use Rattle.pq_counters.proofs.Rows.{Stays, insert_moves, update_moves, delete_moves, nothing_stays}
use Rattle.pq_counters.proofs.plan.plan_by.Goals as goal

pub plan_moved-requires-clause-rows : goal.plan_moved-requires-clause-rows
plan_moved-requires-clause-rows g c = insert_moves c.args.catalog.now (seen g.S.Store.content c.args.calls.now) c.requires.valid c.args.write.now c.in-Insert.table c.in-Insert.row c.in-Insert.is c.requires.write

pub returns-in_default-clause-plan : goal.returns-in_default-clause-plan
returns-in_default-clause-plan g c =
    let stays : Stays c.args.write.now c.args.old.now c.args.new.now = rw (c.in-Update.is, c.in_default.is) tt in
    nothing_stays c.args.catalog.now (seen g.S.Store.content c.args.calls.now) c.requires.valid c.args.write.now c.args.old.now c.args.new.now stays c.requires.write c.requires.rows _ c.new.ensures

pub returns-in_default-new-clause-plan : goal.returns-in_default-new-clause-plan
returns-in_default-new-clause-plan g c =
    let stays : Stays c.args.write.now c.args.old.now c.args.new.now = rw (c.in-Update.is, c.in-Some.is, c.in_default-new.is) tt in
    nothing_stays c.args.catalog.now (seen g.S.Store.content c.args.calls.now) c.requires.valid c.args.write.now c.args.old.now c.args.new.now stays c.requires.write c.requires.rows _ c.new-in_default-new.ensures

pub plan_moved-requires-in-Update-clause-rows : goal.plan_moved-requires-in-Update-clause-rows
plan_moved-requires-in-Update-clause-rows g c =
    update_moves c.args.catalog.now (seen g.S.Store.content c.args.calls.now) c.requires.valid c.args.write.now c.in-Update.table c.in-Update.key c.in-Update.sets c.in-Update.conds c.in-Some.old c.in-Some-new.new c.in-Update.is c.requires.write
    (rw (c.in-Some.is, c.in-Some-new.is) at c.requires.rows)

pub returns-in_default-old-clause-plan : goal.returns-in_default-old-clause-plan
returns-in_default-old-clause-plan g c =
    let stays : Stays c.args.write.now c.args.old.now c.args.new.now = rw (c.in-Delete.is, c.in_default-old.is) tt in
    nothing_stays c.args.catalog.now (seen g.S.Store.content c.args.calls.now) c.requires.valid c.args.write.now c.args.old.now c.args.new.now stays c.requires.write c.requires.rows _ c.new-in_default-old.ensures

pub plan_moved-requires-in-Delete-clause-rows : goal.plan_moved-requires-in-Delete-clause-rows
plan_moved-requires-in-Delete-clause-rows g c =
    delete_moves c.args.catalog.now (seen g.S.Store.content c.args.calls.now) c.requires.valid c.args.write.now c.in-Delete.table c.in-Delete.key c.in-Delete.conds c.in-Some-old.old c.args.new.now c.in-Delete.is c.requires.write
    (rw c.in-Some-old.is at c.requires.rows)
