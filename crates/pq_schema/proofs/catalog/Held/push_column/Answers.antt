use Rattle.std.proofs.Common.{◌≡◌, ◌++◌, ◌∷◌, [], length, ap, subst, ◌∙◌, rules}
use Rattle.pq_schema.specs.declared.made.Definition.TheVariants.{OfColumn}
use Rattle.pq_schema.specs.Numbered.{AreNumbered}
use Rattle.pq_schema.specs.Schema.{Schema, with_added, with_column}
use Rattle.pq_schema.specs.Tables.{table_at}
use Rattle.pq_schema.proofs.Numbered.{catalog_as, column_numbered}
use Rattle.pq_schema.proofs.Valid.{valid_sound}
use Rattle.pq_schema.proofs.catalog.Held.push_column.Goals as goal

pub invariant_of-self-2 : goal.invariant_of-self-2
invariant_of-self-2 c =
    let inside = c.self.inside in
    let now = c.args.self.now in
    let number = c.args.number in
    let column = c.args.column in
    let filler = c.args.filler in
    let tns = inside.table_numbers.entries in
    let qns = inside.query_numbers.entries in
    let tables : c.put_column.new.tables.items ≡ with_added inside.tables.items number column filler = search rules in
    let definitions : c.put_last.new.items.items ≡ inside.definitions.items ++ OfColumn number (length (table_at now.tables number).columns) ∷ [] = search rules in
    catalog_as (with_column now number column filler) _ _ tns qns
    (tables ∙ ap (λ (s : Schema). with_added s.tables number column filler) c.self.view_is)
    (definitions ∙ ap (λ (s : Schema). s.definitions ++ OfColumn number (length (table_at now.tables number).columns) ∷ []) c.self.view_is)
    (valid_sound c.requires.next)
    (column_numbered now tns qns (subst (λ (s : Schema). AreNumbered s tns qns) c.self.view_is c.self.invariant.1) number column filler)
