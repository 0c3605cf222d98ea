use Rattle.std.proofs.Common.{◌≡◌, ◌∙◌, ◌∷◌, None, map, sym, subst}
use Rattle.pq_schema.specs.Tables.{table_at}
use Rattle.pq_index_keep.specs.Promises.{IsTested, PassesTests}
use Rattle.pq_pending.specs.Calls.{seen}
use Rattle.pq_index_keep.proofs.Asked.{where_none}
use Rattle.pq_index_keep.proofs.Changing.{own_puts}
use Rattle.pq_index_keep.proofs.Coding.{codable, insert_planned}
use Rattle.pq_index_keep.proofs.Inserting.{writable_at, is_tested, insert_refused, insert_made}
use Rattle.std.specs.Prelude.{IfSome}
use Rattle.pq_schema.specs.declared.table.Table.{Table}
use Rattle.pq_index_keep.specs.Refusals.{IsInsertRefusal}
use Rattle.pq_index_keep.specs.declared.write.Write.TheVariants.{Insert}
use Rattle.pq_index_keep.proofs.Refusing.{found_can}
use Rattle.pq_content.specs.Pairs.{pairs_of_row, puts}
use Rattle.pq_content.specs.Standing.{change_of}
use Rattle.pq_content.specs.Tables.{key_of}
use Rattle.pq_key_code.specs.KeyCode.{row_key}
use Rattle.pq_index_keep.specs.NewRows.{NoneHolds}
use Rattle.pq_index_keep.proofs.Planning.{refused_plan}
use Rattle.pq_store.specs.declared.store.Test.TheVariants.{Has}
use Rattle.pq_index_keep.specs.Asking.{row_tests}
use Rattle.pq_index_keep.specs.declared.write.Scope.TheVariants.{All}
use Rattle.pq_index_keep.proofs.Removing.{puts_remove}
use Rattle.pq_index_keep.proofs.Shortened.{insert_short}
use Rattle.pq_pending.specs.Pending.{RemovesAtMost}
use Rattle.pq_index_keep.proofs.plan.plan_insert.Goals as goal

pub puts-requires-clause-row : goal.puts-requires-clause-row
puts-requires-clause-row g c =
    let tables = c.args.catalog.now.tables in
    codable tables (table_at tables c.args.number) (writable_at tables c.args.number c.requires.sound c.requires.insert.number) c.args.row.now c.requires.insert.fits

pub returns-in-Some-clause-plan : goal.returns-in-Some-clause-plan
returns-in-Some-clause-plan g c =
    let write = Insert c.args.number c.args.row.now in
    refused_plan c.args.catalog.now.tables (seen g.S.Store.content c.args.calls.now) write None c.in-Some.refusal
    (found_can c.args.catalog.now.tables write c.in_ok-refusal.refusal c.in-Some.refusal c.in-Some.is
    (subst (λ (t : Table). IfSome c.in_ok-refusal.refusal (IsInsertRefusal t)) c.table_of-table.ensures.table c.in_ok-refusal.ensures.can))

pub returns-in-Some-clause-answer : goal.returns-in-Some-clause-answer
returns-in-Some-clause-answer g c = λ rows others s.
    let tables = c.args.catalog.now.tables in
    let tested : IsTested tables c.table_of-table.result.now c.args.row.now = rw c.table_of-table.ensures.table (is_tested tables c.args.number c.args.row.now c.requires.sound c.requires.insert.number c.requires.insert.fits) in
    insert_refused tables rows others c.args.number c.args.row.now c.in-Some.refusal (sym c.in-Some.is ∙ c.in_ok-refusal.ensures.answer tables rows others s c.table_of-table.ensures.table tested)

pub returns-in_ok-changes-in-None-clause-plan : goal.returns-in_ok-changes-in-None-clause-plan
returns-in_ok-changes-in-None-clause-plan g c =
    let tables = c.args.catalog.now.tables in
    let t = c.args.number in
    let row = c.args.row.now in
    let table = table_at tables t in
    let writable = writable_at tables t c.requires.sound c.requires.insert.number in
    let made : map change_of c.in_ok-changes-in-None.changes ≡ puts (pairs_of_row t table row) = rw (← c.table_of-table.ensures.table) (own_puts t c.table_of-table.result.now row c.in_ok-at.at _ c.in_ok-at.ensures c.in_ok-changes-in-None.ensures) in
    record {
      within = insert_planned tables table writable t row c.requires.insert.fits c.in_ok-changes-in-None.changes made;
      own = made;
      short = insert_short tables table writable t row c.requires.insert.fits _ c.requires.insert.short made;
      thin = subst (RemovesAtMost 0) (sym made) (puts_remove (pairs_of_row t table row));
      can = tt;
      passed = where_none c.in_ok-refusal.refusal (IfSome (seen g.S.Store.content c.args.calls.now) (PassesTests tables (Insert t row) None)) c.in-None.is
          (subst (λ (own : Table). NoneHolds (seen g.S.Store.content c.args.calls.now) (Has (row_key t (key_of own row)) ∷ row_tests All None t own row) c.in_ok-refusal.refusal)
          c.table_of-table.ensures.table c.in_ok-refusal.ensures.passed);
    }

pub returns-in_ok-changes-in-None-clause-answer : goal.returns-in_ok-changes-in-None-clause-answer
returns-in_ok-changes-in-None-clause-answer g c = λ rows others s.
    let tables = c.args.catalog.now.tables in
    let tested : IsTested tables c.table_of-table.result.now c.args.row.now = rw c.table_of-table.ensures.table (is_tested tables c.args.number c.args.row.now c.requires.sound c.requires.insert.number c.requires.insert.fits) in
    insert_made tables rows others c.args.number c.args.row.now _ c.in_ok-changes-in-None.changes s c.requires.insert
    (sym c.in-None.is ∙ c.in_ok-refusal.ensures.answer tables rows others s c.table_of-table.ensures.table tested)
    (rw (← c.table_of-table.ensures.table) (own_puts c.args.number c.table_of-table.result.now c.args.row.now c.in_ok-at.at _ c.in_ok-at.ensures c.in_ok-changes-in-None.ensures))
