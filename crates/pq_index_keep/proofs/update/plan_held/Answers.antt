use Rattle.std.proofs.Common.{◌≡◌, ◌∙◌, List, Some, sym}
use Rattle.pq_schema.specs.Tables.{table_at}
use Rattle.pq_pending.specs.Calls.{seen}
use Rattle.pq_index_keep.specs.Effects.{condition_refusal, held_refusal, sum_refusal}
use Rattle.pq_index_keep.specs.declared.write.Cond.{Cond}
use Rattle.pq_index_keep.specs.declared.write.Write.TheVariants.{Update}
use Rattle.pq_index_keep.proofs.Inserting.{or_none}
use Rattle.pq_index_keep.proofs.Planning.{refused_plan, held_plan}
use Rattle.pq_index_keep.proofs.Refusing.{held_can}
use Rattle.pq_index_keep.proofs.Updating.{sets_inside, update_unmet}
use Rattle.pq_index_keep.proofs.update.plan_held.Goals as goal

pub new_row-requires : goal.new_row-requires
new_row-requires g c = sets_inside (table_at c.args.keyed.now.catalog.now.tables c.args.keyed.now.number) c.args.sets.now c.args.row.now c.requires.update.each c.requires.held.fits

pub returns-in-Some-clause-plan : goal.returns-in-Some-clause-plan
returns-in-Some-clause-plan g c =
    let tables = c.args.keyed.now.catalog.now.tables in
    let t = c.args.keyed.now.number in
    let key = c.args.keyed.now.key.now in
    let sets = c.args.sets.now in
    let conds = c.args.conds.now in
    let old = c.args.row.now in
    let told : c.in_ok-refusal.field-0 ≡ held_refusal (table_at tables t) sets conds old = rw (c.table_of-table.ensures.table, c.items.ensures, c.items-2.ensures) at c.in_ok-refusal.ensures in
    record {
      plan = refused_plan tables (seen g.S.Store.content c.args.calls.now) (Update t key sets conds) (Some old) c.in-Some.refusal (held_can tables t key sets conds old c.in-Some.refusal (sym told ∙ c.in-Some.is));
      answer = λ rows others s found. update_unmet tables rows others t key sets conds old c.in-Some.refusal found (sym c.in-Some.is ∙ told);
    }

pub returns-in-Ok-clause-plan : goal.returns-in-Ok-clause-plan
returns-in-Ok-clause-plan g c =
    let tables = c.args.keyed.now.catalog.now.tables in
    let t = c.args.keyed.now.number in
    let key = c.args.keyed.now.key.now in
    let sets = c.args.sets.now in
    let conds = c.args.conds.now in
    let old = c.args.row.now in
    let told : c.in_ok-refusal.field-0 ≡ held_refusal (table_at tables t) sets conds old = rw (c.table_of-table.ensures.table, c.items.ensures, c.items-2.ensures) at c.in_ok-refusal.ensures in
    let held = or_none (condition_refusal (table_at tables t) conds old) (sum_refusal (table_at tables t) sets old) (sym told ∙ c.in-None.is) in
    held_plan tables (seen g.S.Store.content c.args.calls.now) t key old (λ (conds : List Cond). Update t key sets conds) _ c.in-Ok.ensures.plan conds held.0
