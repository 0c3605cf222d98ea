use Rattle.std.proofs.Common.{subst}
use Rattle.pq_index_keep.specs.Spending.{CanSpend}
use Rattle.pq_index_keep.proofs.Behind.{insert_behind, update_behind, delete_behind, spent_as}
use Rattle.pq_index_keep.proofs.writes.plan_by.Goals as goal

pub plan_insert-requires-clause-share : goal.plan_insert-requires-clause-share
plan_insert-requires-clause-share g c = subst (CanSpend c.args.calls.now) (insert_behind _ c.args.catalog.now.tables c.args.write.now _ _ c.in-Insert.is) c.requires.share

pub plan_update-requires-clause-share : goal.plan_update-requires-clause-share
plan_update-requires-clause-share g c = subst (CanSpend c.args.calls.now) (update_behind _ c.args.catalog.now.tables c.args.write.now _ _ _ _ c.in-Update.is) c.requires.share

pub plan_delete-requires-clause-share : goal.plan_delete-requires-clause-share
plan_delete-requires-clause-share g c = subst (CanSpend c.args.calls.now) (delete_behind _ c.args.catalog.now.tables c.args.write.now _ _ _ c.in-Delete.is) c.requires.share

pub returns-in-Err-clause-spends : goal.returns-in-Err-clause-spends
returns-in-Err-clause-spends g c =
    spent_as g.S.Store c.args.calls.now c.plan_insert.new.calls c.args.catalog.now.tables c.args.write.now _ _ c.in-Insert.is (insert_behind _ c.args.catalog.now.tables c.args.write.now _ _ c.in-Insert.is) c.plan_insert.ensures.spends

pub returns-in-Ok-clause-spends : goal.returns-in-Ok-clause-spends
returns-in-Ok-clause-spends g c =
    spent_as g.S.Store c.args.calls.now c.plan_insert.new.calls c.args.catalog.now.tables c.args.write.now _ _ c.in-Insert.is (insert_behind _ c.args.catalog.now.tables c.args.write.now _ _ c.in-Insert.is) c.plan_insert.ensures.spends

pub returns-in-Update-clause-spends : goal.returns-in-Update-clause-spends
returns-in-Update-clause-spends g c =
    spent_as g.S.Store c.args.calls.now c.plan_update.new.calls c.args.catalog.now.tables c.args.write.now _ _ c.in-Update.is (update_behind _ c.args.catalog.now.tables c.args.write.now _ _ _ _ c.in-Update.is) c.plan_update.ensures.spends

pub returns-in-Delete-clause-spends : goal.returns-in-Delete-clause-spends
returns-in-Delete-clause-spends g c =
    spent_as g.S.Store c.args.calls.now c.plan_delete.new.calls c.args.catalog.now.tables c.args.write.now _ _ c.in-Delete.is (delete_behind _ c.args.catalog.now.tables c.args.write.now _ _ _ c.in-Delete.is) c.plan_delete.ensures.spends

pub returns-in-Update-clause-plan : goal.returns-in-Update-clause-plan
returns-in-Update-clause-plan g c = rw c.in-Update.is c.plan_update.ensures.plan
