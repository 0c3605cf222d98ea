use Rattle.std.proofs.Common.{◌≡◌, ◌+◌, ◌++◌, ◌∷◌, [], length, refl, ap, subst, ◌∙◌, rules}
use Rattle.pq_schema.specs.declared.made.Definition.TheVariants.{OfTable}
use Rattle.std.specs.String.{string_bytes}
use Rattle.pq_schema.specs.Numbered.{AreNumbered, PutsNumber}
use Rattle.pq_schema.specs.Schema.{Schema, with_table}
use Rattle.pq_schema.proofs.Numbered.{catalog_as, same_numbered, table_numbered}
use Rattle.pq_schema.proofs.Valid.{valid_sound}
use Rattle.pq_schema.proofs.catalog.Held.push_table.Goals as goal

pub invariant_of-self-2 : goal.invariant_of-self-2
invariant_of-self-2 c =
    let inside = c.self.inside in
    let now = c.args.self.now in
    let table = c.args.table in
    let name = c.in_ok-name.name in
    let tns = inside.table_numbers.entries in
    let qns = inside.query_numbers.entries in
    let definition = OfTable (length inside.tables.items + 1) (length table.columns) (length table.indexes) in
    let tables : c.put_last-2.new.items.items ≡ inside.tables.items ++ table ∷ [] = search rules in
    let definitions : c.put_last.new.items.items ≡ inside.definitions.items ++ definition ∷ [] = search rules in
    let mid = c.make_room.new.numbers.entries in
    let next = c.put_number.new.numbers.entries in
    let numbered = same_numbered now tns qns (subst (λ (s : Schema). AreNumbered s tns qns) c.self.view_is c.self.invariant.1) mid qns c.make_room.ensures.numbers (λ n. refl) in
    let long : c.len.result ≡ length inside.tables.items = search rules in
    let put : PutsNumber (string_bytes name) (length now.tables + 1) mid next =
    subst (λ n. PutsNumber (string_bytes name) (n + 1) mid next) (long ∙ ap (λ (s : Schema). length s.tables) c.self.view_is) c.put_number.ensures in
    catalog_as (with_table now table) _ _ next qns
    (tables ∙ ap (λ (s : Schema). s.tables ++ table ∷ []) c.self.view_is)
    (definitions ∙ ap (λ (s : Schema). s.definitions ++ OfTable (length s.tables + 1) (length table.columns) (length table.indexes) ∷ []) c.self.view_is)
    (valid_sound c.requires.next)
    (table_numbered now mid qns numbered (string_bytes name) table next (c.in_ok-name.ensures.ok ∙ c.as_str.ensures) c.requires.free put)
