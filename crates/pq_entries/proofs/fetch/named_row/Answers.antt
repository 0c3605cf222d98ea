use Rattle.std.proofs.Common.{rules, ap, ◌∙◌, subst, sym, ℕ, List, Some, None}
use Rattle.std.specs.Prelude.{All, IfSome}
use Rattle.std.specs.FinMap.{get}
use Rattle.std.proofs.lemmas.Result.{err_from_is_err_and}
use Rattle.pq_schema.specs.declared.table.Access.TheVariants.{Secondary}
use Rattle.pq_schema.specs.declared.table.Table.{Table}
use Rattle.pq_base.specs.Values.{IsType}
use Rattle.pq_key_code.specs.KeyCode.{row_key}
use Rattle.pq_schema.specs.Rows.{types_of, shape_of}
use Rattle.pq_schema.specs.Tables.{table_at}
use Rattle.pq_store.specs.Content.{Content}
use Rattle.pq_calls.specs.Calls.{seen_world}
use Rattle.pq_calls.specs.Evidence.{IsRead}
use Rattle.pq_calls.specs.Keys.{named_key}
use Rattle.pq_entries.proofs.Fetched.{fetch_explains, missing_shows, named, fetched}
use Rattle.pq_entries.proofs.fetch.named_row.Goals as goal

pub returns-in_err-stored-clause-asks : goal.returns-in_err-stored-clause-asks
returns-in_err-stored-clause-asks g c = record {
  uses = search rules;
  rounds = search rules;
  cause =
      let p = err_from_is_err_and c.from_residual-in_err-stored.result c.from_residual-in_err-stored.ensures.1 in
      rw (p.1, p.2)
      (fetch_explains c.args.catalog.now.tables c.args.number c.args.index c.args.values.now c.requires.sequence c.requires.values (seen_world g.S.Store.content g.S.Store.faults c.args.calls.now) (seen_world g.S.Store.content g.S.Store.faults c.row.new.self) c.in_err-stored.field-0.0
      (rw (← c.table_of-table.ensures.table, ← c.in_ok-key.ensures) c.in_err-stored.ensures.asks.cause));
  answered = search rules;
}

pub returns-in-Some-clause-answer : goal.returns-in-Some-clause-answer
returns-in-Some-clause-answer g c =
    let tables = c.args.catalog.now.tables in
    let table = c.table_of-table.ensures.table in
    fetched tables c.args.number c.args.index c.args.values.now c.in_ok-key.key c.in-Some.stored.row
    (subst (λ (own : Table). All IsType (types_of own)) table c.table_of-table.ensures.types)
    (c.in_ok-key.ensures ∙ ap (λ (own : Table). named_key own (Secondary c.args.index) c.args.values.now) table)
    (g.S.Store.content c.args.calls.now.store.now)
    (subst (λ (own : Table). IfSome (g.S.Store.content c.args.calls.now.store.now) (λ (content : Content). IsRead (shape_of own) (get content (row_key c.args.number c.in_ok-key.key)) (Some c.in-Some.stored.row))) table
    (rw c.in-Some.is at c.in_ok-stored.ensures.read))

pub returns-clause-asks : goal.returns-clause-asks
returns-clause-asks g c = record {
  uses = search rules;
  rounds = search rules;
  cause =
      let tables = c.args.catalog.now.tables in
      let table = c.table_of-table.ensures.table in
      missing_shows tables c.args.number c.args.index c.args.values.now c.in_ok-key.key c.in_ok-row_key-in-None.field-0 c.requires.sequence c.requires.values
      (c.in_ok-key.ensures ∙ ap (λ (own : Table). named_key own (Secondary c.args.index) c.args.values.now) table)
      c.in_ok-row_key-in-None.ensures
      (g.S.Store.content c.args.calls.now.store.now) c.requires.there
      (subst (λ (own : Table). IfSome (g.S.Store.content c.args.calls.now.store.now) (λ (content : Content). IsRead (shape_of own) (get content (row_key c.args.number c.in_ok-key.key)) None)) table
      (rw c.in-None.is at c.in_ok-stored.ensures.read));
  answered = subst (λ (key : List ℕ). g.S.Store.answers key None) (sym c.in_ok-row_key-in-None.ensures) (rw c.in-None.is at c.in_ok-stored.ensures.none);
}

pub returns-in-Some-clause-code : goal.returns-in-Some-clause-code
returns-in-Some-clause-code g c =
    let table = c.table_of-table.ensures.table in
    named c.args.number c.args.index (table_at c.args.catalog.now.tables c.args.number) c.args.values.now c.in_ok-key.key c.in-Some.stored.row
    (c.in_ok-key.ensures ∙ ap (λ (own : Table). named_key own (Secondary c.args.index) c.args.values.now) table)
    (g.S.Store.content c.args.calls.now.store.now)
    (subst (λ (own : Table). IfSome (g.S.Store.content c.args.calls.now.store.now) (λ (content : Content). IsRead (shape_of own) (get content (row_key c.args.number c.in_ok-key.key)) (Some c.in-Some.stored.row))) table
    (rw c.in-Some.is at c.in_ok-stored.ensures.read))
