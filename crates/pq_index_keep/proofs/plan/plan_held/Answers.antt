use Rattle.std.proofs.Common.{◌≡◌, ◌∙◌, List, Some, sym, inl, inr}
use Rattle.std.proofs.lemmas.Result.{IfOk-weaker}
use Rattle.pq_schema.specs.Tables.{table_at}
use Rattle.pq_pending.specs.Calls.{seen}
use Rattle.pq_index_keep.specs.Effects.{condition_refusal}
use Rattle.pq_index_keep.specs.declared.write.Cond.{Cond}
use Rattle.pq_index_keep.specs.declared.write.Write.TheVariants.{Delete}
use Rattle.pq_index_keep.proofs.Refusing.{unmet_can}
use Rattle.pq_index_keep.proofs.Deleting.{delete_unmet}
use Rattle.pq_index_keep.proofs.Planning.{refused_plan, held_plan}
use Rattle.pq_index_keep.proofs.plan.plan_held.Goals as goal

pub returns-in-Some-clause-plan : goal.returns-in-Some-clause-plan
returns-in-Some-clause-plan g c =
    let tables = c.args.keyed.now.catalog.now.tables in
    let t = c.args.keyed.now.number in
    let key = c.args.keyed.now.key.now in
    let conds = c.args.conds.now in
    let told : c.in_ok-refusal.field-0 ≡ condition_refusal (table_at tables t) conds c.args.row.now = rw (c.table_of-table.ensures.table, c.items.ensures) at c.in_ok-refusal.ensures in
    record {
      plan = refused_plan tables (seen g.S.Store.content c.args.calls.now) (Delete t key conds) (Some c.args.row.now) c.in-Some.refusal
          (inr (inl (unmet_can (table_at tables t) conds c.args.row.now c.in-Some.refusal (sym told ∙ c.in-Some.is))));
      answer = λ rows others s found. delete_unmet tables rows others t key conds c.args.row.now c.in-Some.refusal found (sym c.in-Some.is ∙ told);
    }

pub returns-in-None-clause-plan : goal.returns-in-None-clause-plan
returns-in-None-clause-plan g c =
    let tables = c.args.keyed.now.catalog.now.tables in
    let t = c.args.keyed.now.number in
    let key = c.args.keyed.now.key.now in
    let told : c.in_ok-refusal.field-0 ≡ condition_refusal (table_at tables t) c.args.conds.now c.args.row.now = rw (c.table_of-table.ensures.table, c.items.ensures) at c.in_ok-refusal.ensures in
    IfOk-weaker c.plan_removal.result _ _
    (λ planned plan. held_plan tables (seen g.S.Store.content c.args.calls.now) t key c.args.row.now (λ (conds : List Cond). Delete t key conds) planned plan c.args.conds.now (sym told ∙ c.in-None.is))
    c.plan_removal.ensures.plan
