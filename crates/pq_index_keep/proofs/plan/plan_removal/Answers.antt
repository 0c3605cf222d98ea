use Rattle.std.proofs.Common.{◌≡◌, ◌∙◌, ℕ, sym, List, ◌∷◌, map, None, Some, subst}
use Rattle.pq_schema.specs.Tables.{table_at}
use Rattle.pq_schema.proofs.TypeKinds.{kinds_from_fit}
use Rattle.pq_index_keep.proofs.Asked.{where_none}
use Rattle.pq_index_keep.proofs.Changing.{first_at}
use Rattle.pq_index_keep.proofs.Coding.{delete_planned}
use Rattle.pq_index_keep.proofs.Deleting.{may_name, delete_refused, delete_made}
use Rattle.pq_index_keep.proofs.Inserting.{writable_at}
use Rattle.std.specs.Prelude.{IfSome}
use Rattle.pq_schema.specs.declared.table.Table.{Table}
use Rattle.pq_pending.specs.Calls.{seen}
use Rattle.pq_index_keep.specs.Promises.{PassesTests}
use Rattle.pq_index_keep.specs.Refusals.{IsDeleteRefusal}
use Rattle.pq_index_keep.specs.declared.write.Write.TheVariants.{Delete}
use Rattle.pq_index_keep.proofs.Refusing.{deletes_can, found_can}
use Rattle.pq_content.specs.Pairs.{removals, entries_from}
use Rattle.pq_content.specs.Standing.{change_of}
use Rattle.pq_index_keep.specs.declared.write.Cond.{Cond}
use Rattle.pq_index_keep.proofs.Planning.{refused_where}
use Rattle.pq_index_keep.proofs.Removing.{removal_removes}
use Rattle.pq_index_keep.proofs.Shortened.{delete_short}
use Rattle.pq_pending.specs.Pending.{RemovesAtMost}
use Rattle.pq_index_keep.proofs.plan.plan_removal.Goals as goal

pub child_refusal-requires-clause-may : goal.child_refusal-requires-clause-may
child_refusal-requires-clause-may g c =
    rw c.tables-tables.ensures.tables (may_name c.args.keyed.now.catalog.now.tables c.args.keyed.now.number c.args.keyed.now.key.now c.requires.sound (kinds_from_fit _ _ c.requires.key_fits))

pub returns-in-Some-clause-plan : goal.returns-in-Some-clause-plan
returns-in-Some-clause-plan g c =
    let tables = c.args.keyed.now.catalog.now.tables in
    let t = c.args.keyed.now.number in
    let key = c.args.keyed.now.key.now in
    let answer = rw c.tables-tables.ensures.tables at c.in_ok-refusal.ensures.answer in
    let can = subst (λ (ts : List Table). IfSome c.in_ok-refusal.refusal (IsDeleteRefusal ts)) c.tables-tables.ensures.tables c.in_ok-refusal.ensures.can in
    refused_where tables (seen g.S.Store.content c.args.calls.now) t key c.args.row.now (λ (conds : List Cond). Delete t key conds) c.in-Some.refusal
    (λ conds. found_can tables (Delete t key conds) c.in_ok-refusal.refusal c.in-Some.refusal c.in-Some.is (deletes_can tables t key conds c.in_ok-refusal.refusal can))
    (λ rows others s found conds holds. delete_refused tables rows others t key conds c.args.row.now c.in-Some.refusal found holds (sym c.in-Some.is ∙ answer rows others s))

pub returns-in_ok-changes-in-None-clause-plan : goal.returns-in_ok-changes-in-None-clause-plan
returns-in_ok-changes-in-None-clause-plan g c =
    let tables = c.args.keyed.now.catalog.now.tables in
    let t = c.args.keyed.now.number in
    let key = c.args.keyed.now.key.now in
    let table = table_at tables t in
    let old = c.args.row.now in
    let writable = writable_at tables t c.requires.sound c.requires.number in
    let made : map change_of c.in_ok-changes-in-None.changes ≡ (c.args.at, None) ∷ removals (entries_from t 1 table table.indexes old) = rw (← c.table_of-table.ensures.table) c.in_ok-changes-in-None.ensures in
    let answer = rw c.tables-tables.ensures.tables at c.in_ok-refusal.ensures.answer in
    record {
      within = λ conds. delete_planned tables table writable t old c.requires.held.fits key c.args.at c.requires.key_fits c.requires.held.at c.in_ok-changes-in-None.changes made;
      own = λ conds holds. (holds, first_at t key c.args.at None _ _ c.requires.held.at made);
      short = delete_short tables table writable t old c.requires.held.fits key c.args.at c.requires.key_fits c.requires.held.at _ made;
      thin = λ conds. subst (RemovesAtMost 1) (sym made) (subst (λ (at : List ℕ). RemovesAtMost 1 ((at, None) ∷ removals (entries_from t 1 table table.indexes old))) (sym c.requires.held.at) (removal_removes t table table.indexes key old));
      can = λ conds. tt;
      passed = λ conds. where_none c.in_ok-refusal.refusal (IfSome (seen g.S.Store.content c.args.calls.now) (PassesTests tables (Delete t key conds) (Some old))) c.in-None.is
          (rw c.tables-tables.ensures.tables at c.in_ok-refusal.ensures.passed);
      answer = λ rows others s found conds holds. delete_made tables rows others t key conds _ old c.in_ok-changes-in-None.changes s found holds (sym c.in-None.is ∙ answer rows others s) c.args.at c.requires.held.at made;
    }
