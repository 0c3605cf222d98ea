use Rattle.std.proofs.Common.{◌≡◌, ◌∙◌, None, ap, sym, subst, inl, refl, rules}
use Rattle.pq_base.specs.declared.refusal.Refusal.TheVariants.{NoRow}
use Rattle.pq_schema.specs.declared.table.Table.{Table}
use Rattle.pq_content.specs.Tables.{row_at}
use Rattle.pq_schema.proofs.TypeKinds.{kinds_from_fit}
use Rattle.pq_index_keep.specs.Effects.{no_row}
use Rattle.pq_index_keep.specs.Promises.{Plans, IsPlanOf}
use Rattle.pq_index_keep.specs.declared.plan.Planned.{Planned}
use Rattle.pq_index_keep.specs.declared.plan.Planned.TheVariants.{Refused}
use Rattle.pq_index_keep.specs.declared.write.Write.TheVariants.{Update}
use Rattle.pq_index_keep.proofs.Deleting.{none_read}
use Rattle.pq_index_keep.proofs.Updating.{update_absent}
use Rattle.pq_pending.specs.Calls.{seen}
use Rattle.pq_index_keep.proofs.Planning.{refused_plan}
use Rattle.pq_index_keep.proofs.update.plan_update.Goals as goal

pub find_row-requires-clause-kinds : goal.find_row-requires-clause-kinds
find_row-requires-clause-kinds g c = kinds_from_fit _ _ c.requires.update.fits

pub returns-in-Ok-clause-plan : goal.returns-in-Ok-clause-plan
returns-in-Ok-clause-plan g c =
    let tables = c.args.keyed.now.catalog.now.tables in
    let t = c.args.keyed.now.number in
    let key = c.args.keyed.now.key.now in
    let write = Update t key c.args.sets.now c.args.conds.now in
    let refused : c.in-Ok.planned ≡ Refused (no_row tables t) = c.in-Ok.ensures ∙ ap (λ (table : Table). Refused (NoRow table.name)) c.table_of.ensures.table in
    record {
      plan = subst (λ (p : Planned). IsPlanOf tables (seen g.S.Store.content c.args.calls.now) write None p) (sym refused) (refused_plan tables _ write None (no_row tables t) (inl refl));
      answer = λ rows others s. subst (λ (p : Planned). Plans tables rows others write p) (sym refused)
          (update_absent tables rows others t key c.args.sets.now c.args.conds.now (none_read c.in-Ok-None.field-0 (row_at tables rows t key) c.in-Ok-None.field-0-is (c.in-Ok-None.ensures.answer rows others s)));
      read = search rules;
      fits = tt;
      new = refl;
    }
