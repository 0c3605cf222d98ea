use Rattle.std.proofs.Common.{◌≡◌, ◌≤◌, ◌∙◌, ◌∷◌, List, length, map, Some, ap, sym, subst}
use Rattle.std.specs.Prelude.{IfSome}
use Rattle.pq_base.specs.declared.value.Value.{Value}
use Rattle.pq_schema.specs.Tables.{table_at}
use Rattle.pq_schema.specs.declared.table.Table.{Table}
use Rattle.pq_content.specs.Pairs.{entry_changes}
use Rattle.pq_content.specs.Standing.{change_of}
use Rattle.pq_content.specs.Tables.{stored_code}
use Rattle.pq_pending.specs.Calls.{seen}
use Rattle.pq_pending.specs.Pending.{RemovesAtMost}
use Rattle.pq_index_keep.specs.Promises.{IsTested}
use Rattle.pq_index_keep.specs.Refusals.{IsUpdateRefusal}
use Rattle.pq_index_keep.specs.Sound.{IsWritable}
use Rattle.pq_index_keep.specs.Tested.{with_sets, scope_of}
use Rattle.pq_index_keep.specs.declared.write.Cond.{Cond}
use Rattle.pq_index_keep.specs.declared.write.Write.TheVariants.{Update}
use Rattle.pq_index_keep.proofs.Asked.{as_asked, where_none}
use Rattle.pq_index_keep.proofs.Changing.{first_at}
use Rattle.pq_index_keep.proofs.Coding.{codable, update_planned}
use Rattle.pq_index_keep.proofs.Inserting.{writable_at, is_tested}
use Rattle.pq_index_keep.proofs.Planning.{refused_where}
use Rattle.pq_index_keep.proofs.Refusing.{found_can, updates_can}
use Rattle.pq_index_keep.proofs.Removing.{update_removes}
use Rattle.pq_index_keep.proofs.Shortened.{update_short, none_short}
use Rattle.pq_index_keep.proofs.Updating.{fit_sets, sets_small, as_update, kept_sequence, none_held, update_refused, update_made}
use Rattle.pq_index_keep.proofs.update.plan_change.Goals as goal

pub scope_of-scope-requires : goal.scope_of-scope-requires
scope_of-scope-requires g c =
    let tables = c.args.keyed.now.catalog.now.tables in
    let t = c.args.keyed.now.number in
    let writable : IsWritable tables (table_at tables t) = writable_at tables t c.requires.sound c.requires.number in
    sets_small (table_at tables t) c.args.sets.now writable.made.few_columns c.requires.each

pub update_refusal-requires-clause-row : goal.update_refusal-requires-clause-row
update_refusal-requires-clause-row g c =
    let tables = c.args.keyed.now.catalog.now.tables in
    let t = c.args.keyed.now.number in
    let table = table_at tables t in
    rw c.requires.new (codable tables table (writable_at tables t c.requires.sound c.requires.number) (with_sets c.args.sets.now c.args.row.now) (fit_sets table c.args.sets.now c.args.row.now c.requires.each c.requires.sums c.requires.held.fits))

pub updates-requires-clause-row : goal.updates-requires-clause-row
updates-requires-clause-row g c =
    let tables = c.args.keyed.now.catalog.now.tables in
    let t = c.args.keyed.now.number in
    let table = table_at tables t in
    rw c.requires.new (codable tables table (writable_at tables t c.requires.sound c.requires.number) (with_sets c.args.sets.now c.args.row.now) (fit_sets table c.args.sets.now c.args.row.now c.requires.each c.requires.sums c.requires.held.fits))

pub returns-in-Some-clause-plan : goal.returns-in-Some-clause-plan
returns-in-Some-clause-plan g c =
    let tables = c.args.keyed.now.catalog.now.tables in
    let t = c.args.keyed.now.number in
    let key = c.args.keyed.now.key.now in
    let sets = c.args.sets.now in
    let old = c.args.row.now in
    let table = table_at tables t in
    let fits = fit_sets table sets old c.requires.each c.requires.sums c.requires.held.fits in
    let tested : IsTested tables c.table_of-table.result.now c.args.new.now = rw (c.table_of-table.ensures.table, c.requires.new) (is_tested tables t (with_sets sets old) c.requires.sound c.requires.number fits) in
    let can = subst (λ (own : Table). IfSome c.in_ok-refusal.refusal (IsUpdateRefusal own)) c.table_of-table.ensures.table c.in_ok-refusal.ensures.can in
    refused_where tables (seen g.S.Store.content c.args.calls.now) t key old (λ (conds : List Cond). Update t key sets conds) c.in-Some.refusal
    (λ conds. found_can tables (Update t key sets conds) c.in_ok-refusal.refusal c.in-Some.refusal c.in-Some.is (updates_can tables t key sets conds c.in_ok-refusal.refusal can))
    (λ rows others s found conds holds. update_refused tables rows others t key sets conds old c.in-Some.refusal found holds c.requires.sums
    (sym c.in-Some.is ∙ as_update tables rows t sets old _ (Some c.in_ok-copy.copy) c.table_of-table.result.now c.args.new.now _ c.table_of-table.ensures.table c.requires.new c.scope_of-scope.ensures (ap (λ (v : List Value). Some v) c.in_ok-copy.ensures)
    (c.in_ok-refusal.ensures.answer tables rows others s c.table_of-table.ensures.table tested)))

pub returns-in_ok-changes-in-None-clause-plan : goal.returns-in_ok-changes-in-None-clause-plan
returns-in_ok-changes-in-None-clause-plan g c =
    let tables = c.args.keyed.now.catalog.now.tables in
    let t = c.args.keyed.now.number in
    let key = c.args.keyed.now.key.now in
    let sets = c.args.sets.now in
    let old = c.args.row.now in
    let new = with_sets sets old in
    let table = table_at tables t in
    let writable = writable_at tables t c.requires.sound c.requires.number in
    let fits = fit_sets table sets old c.requires.each c.requires.sums c.requires.held.fits in
    let tested : IsTested tables c.table_of-table.result.now c.args.new.now = rw (c.table_of-table.ensures.table, c.requires.new) (is_tested tables t new c.requires.sound c.requires.number fits) in
    let made : map change_of c.in_ok-changes-in-None.changes ≡ (c.args.at, Some (stored_code table new)) ∷ entry_changes t 1 table table.indexes old new = rw (← c.table_of-table.ensures.table, ← c.requires.new) c.in_ok-changes-in-None.ensures in
    let value : length (stored_code table new) ≤ 4096 = rw (← c.table_of-table.ensures.table, ← c.requires.new) (none_short c.in_ok-refusal.refusal _ c.in-None.is c.in_ok-refusal.ensures.short) in
    let before = ap (λ (v : List Value). Some v) c.in_ok-copy.ensures in
    record {
      within = λ conds. update_planned tables table writable t old c.requires.held.fits new fits (scope_of sets) (kept_sequence table sets old) key c.args.at c.requires.key_fits c.requires.held.at c.in_ok-changes-in-None.changes made;
      own = λ conds holds. (none_held table sets conds old holds c.requires.sums, first_at t key c.args.at (Some (stored_code table new)) _ _ c.requires.held.at made);
      short = update_short tables table writable t old c.requires.held.fits new fits key c.args.at c.requires.key_fits c.requires.held.at value _ made;
      thin = λ conds. subst (RemovesAtMost 1) (sym made) (update_removes t table table.indexes c.args.at (stored_code table new) old new);
      can = λ conds. tt;
      passed = λ conds. as_asked (seen g.S.Store.content c.args.calls.now) tables t sets old _ (Some c.in_ok-copy.copy) c.table_of-table.result.now c.args.new.now c.table_of-table.ensures.table c.requires.new c.scope_of-scope.ensures before
          (where_none c.in_ok-refusal.refusal _ c.in-None.is c.in_ok-refusal.ensures.passed);
      answer = λ rows others s found conds holds. update_made tables rows others t key sets conds _ old c.in_ok-changes-in-None.changes s c.requires.each found holds c.requires.sums
          (sym c.in-None.is ∙ as_update tables rows t sets old _ (Some c.in_ok-copy.copy) c.table_of-table.result.now c.args.new.now _ c.table_of-table.ensures.table c.requires.new c.scope_of-scope.ensures before
          (c.in_ok-refusal.ensures.answer tables rows others s c.table_of-table.ensures.table tested))
          c.args.at c.requires.held.at made;
    }
