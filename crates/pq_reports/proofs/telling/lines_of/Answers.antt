use Rattle.std.proofs.Common.{◌≤◌, sym, subst, length}
use Rattle.pq_schema.specs.Schema.{Schema}
use Rattle.pq_schema.specs.Sound.{IsMade}
use Rattle.pq_schema.specs.Tables.{table_at}
use Rattle.pq_schema.specs.Valid.{IsValid}
use Rattle.pq_schema.specs.declared.table.Table.{Table}
use Rattle.pq_content.specs.Tables.{IsTableNumber}
use Rattle.pq_planning.specs.Lines.{AreInside}
use Rattle.pq_catalog.proofs.Made.{made_of}
use Rattle.pq_planning.proofs.Shown.{inside_of}
use Rattle.pq_reports.proofs.telling.lines_of.Goals as goal

pub table_lines-requires-clause-few : goal.table_lines-requires-clause-few
table_lines-requires-clause-few c =
    let s = c.catalog.result.now in
    let number = subst (λ (x : Schema). IsTableNumber x.tables c.args.table) (sym c.catalog.ensures) c.requires in
    let own : IsMade s.tables c.args.table (table_at s.tables c.args.table) = made_of s (subst IsValid (sym c.catalog.ensures) c.known.ensures) c.args.table number.0 number.1 in
    subst (λ (t : Table). length t.indexes ≤ 16) (sym c.table.ensures) own.few_indexes

pub table_lines-requires-clause-inside : goal.table_lines-requires-clause-inside
table_lines-requires-clause-inside c =
    let s = c.catalog.result.now in
    let number = subst (λ (x : Schema). IsTableNumber x.tables c.args.table) (sym c.catalog.ensures) c.requires in
    let own : IsMade s.tables c.args.table (table_at s.tables c.args.table) = made_of s (subst IsValid (sym c.catalog.ensures) c.known.ensures) c.args.table number.0 number.1 in
    subst (λ (t : Table). AreInside t.columns t.indexes) (sym c.table.ensures) (inside_of s.tables c.args.table (table_at s.tables c.args.table) own)
