use Rattle.std.proofs.Common.{◌≡◌, ◌∙◌, List, Option, Some, length, map, subst, sym, ap, ℕ}
use Rattle.std.specs.Prelude.{All, IsSome}
use Rattle.std.specs.List.{AllZip}
use Rattle.std.proofs.lemmas.List.{length-map}
use Rattle.std.proofs.lemmas.Result.{IfOk-weaker, IfErr-weaker}
use Rattle.pq_base.specs.Values.{IsType}
use Rattle.pq_schema.specs.declared.table.Table.{Table}
use Rattle.pq_schema.specs.Rows.{types_of, shape_of}
use Rattle.pq_schema.specs.Tables.{table_at}
use Rattle.pq_store.specs.Rounds.{IsValueOf, IsValueAnswered}
use Rattle.pq_calls.specs.Calls.{Uses, seen_world}
use Rattle.pq_content.specs.Tables.{stored_code}
use Rattle.pq_entries.specs.Entries.{IsUnread, OneNamesNoRow, named_at}
use Rattle.pq_entries.proofs.Named.{all_asked, named_explains, named_answered, named_codes, all_wanted}
use Rattle.pq_entries.proofs.fetch.named_rows.Goals as goal

pub rows_at-requires-clause-asked : goal.rows_at-requires-clause-asked
rows_at-requires-clause-asked g c =
    subst (All IsSome) (sym (c.items-2.ensures ∙ c.in_ok-asked.ensures)) (all_asked c.args.number c.table_of-table.result.now c.args.index c.args.found.now)

pub returns-clause-codes : goal.returns-clause-codes
returns-clause-codes g c =
    let table = c.table_of-table.ensures.table in
    let told = g.S.Store.content c.args.calls.now.store.now in
    let found = c.args.found.now in
    let asked = c.items.ensures ∙ c.in_ok-asked.ensures ∙ ap (λ (own : Table). map (named_at c.args.number own c.args.index) found) table in
    let values = subst (λ (l : List (Option (List ℕ))). AllZip (IsValueOf told) l c.in_ok-codes.codes) asked c.in_ok-codes.ensures.answer in
    IfOk-weaker c.rows_at.result _ _
    (λ named codes. named_codes c.args.catalog.now.tables c.args.number c.args.index c.requires.sequence told found c.in_ok-codes.codes named values
    (sym c.items-3.ensures ∙ subst (λ (own : Table). c.items-3.result.now ≡ map (λ row. Some (stored_code own row)) named) table codes)) c.rows_at.ensures.codes

pub returns-clause-answer : goal.returns-clause-answer
returns-clause-answer g c =
    let table = c.table_of-table.ensures.table in
    all_wanted c.args.catalog.now.tables c.args.number c.args.index c.requires.sequence
    (subst (λ (own : Table). All IsType (types_of own)) table c.table_of-table.ensures.types)
    (g.S.Store.content c.args.calls.now.store.now) c.args.found.now c.rows_at.result (rw (← table) c.rows_at.ensures.fit) (returns-clause-codes g c)

pub returns-clause-asks : goal.returns-clause-asks
returns-clause-asks g c = record {
  uses = subst (λ (n : ℕ). Uses g.S.Store.content g.S.Store.faults c.args.calls.now c.gets.new.self n n)
      (ap length (c.items.ensures ∙ c.in_ok-asked.ensures) ∙ length-map c.args.found.now _) c.in_ok-codes.ensures.asks.uses;
  rounds = c.in_ok-codes.ensures.asks.rounds;
  cause =
      let table = c.table_of-table.ensures.table in
      let told = g.S.Store.content c.args.calls.now.store.now in
      let found = c.args.found.now in
      let at : map (named_at c.args.number c.table_of-table.result.now c.args.index) found ≡ map (named_at c.args.number (table_at c.args.catalog.now.tables c.args.number) c.args.index) found = ap (λ (own : Table). map (named_at c.args.number own c.args.index) found) table in
      let values = subst (λ (l : List (Option (List ℕ))). AllZip (IsValueOf told) l c.in_ok-codes.codes) (c.items.ensures ∙ c.in_ok-asked.ensures ∙ at) c.in_ok-codes.ensures.answer in
      IfErr-weaker c.rows_at.result _ _
      (λ why unread. named_explains c.args.catalog.now.tables c.args.number c.args.index c.requires.sequence
      (seen_world g.S.Store.content g.S.Store.faults c.args.calls.now) (seen_world g.S.Store.content g.S.Store.faults c.gets.new.self)
      found c.in_ok-codes.codes c.requires.values c.requires.there values why
      (subst (λ (own : Table). IsUnread (OneNamesNoRow (shape_of own) (map (named_at c.args.number (table_at c.args.catalog.now.tables c.args.number) c.args.index) found) c.in_ok-codes.codes) why) table
      (subst (λ (l : List (Option (List ℕ))). IsUnread (OneNamesNoRow (shape_of c.table_of-table.result.now) l c.in_ok-codes.codes) why) (c.items-2.ensures ∙ c.in_ok-asked.ensures ∙ at)
      (subst (λ (l : List (Option (List ℕ))). IsUnread (OneNamesNoRow (shape_of c.table_of-table.result.now) c.items-2.result.now l) why) c.items-3.ensures unread)))) c.rows_at.ensures.cause;
  answered =
      let same = c.items.ensures ∙ sym c.items-2.ensures in
      IfErr-weaker c.rows_at.result _ _
      (named_answered g.S.Store.answers (shape_of c.table_of-table.result.now) c.items-2.result.now c.items-3.result.now
      (subst (λ (l : List (Option (List ℕ))). AllZip (IsValueAnswered g.S.Store.answers) c.items-2.result.now l) (sym c.items-3.ensures)
      (subst (λ (l : List (Option (List ℕ))). AllZip (IsValueAnswered g.S.Store.answers) l c.in_ok-codes.codes) same c.in_ok-codes.ensures.answers))) c.rows_at.ensures.cause;
}
