use Rattle.std.proofs.Common.{sym, subst}
use Rattle.pq_content.specs.Tables.{IsTableNumber}
use Rattle.pq_schema.specs.Schema.{Schema}
use Rattle.pq_schema.specs.Sound.{AreColumns}
use Rattle.pq_schema.specs.Valid.{IsValid}
use Rattle.pq_schema.specs.declared.table.Table.{Table}
use Rattle.pq_prepare.proofs.Prepared.{key_columns}
use Rattle.pq_prepare.proofs.prepare.target.Goals as goal

pub wanted-requires-clause-key : goal.wanted-requires-clause-key
wanted-requires-clause-key c =
    let number = subst (λ (s : Schema). IsTableNumber s.tables c.args.new.now.table) (sym c.catalog.ensures) c.requires.0 in
    subst (λ (t : Table). AreColumns t.key) (sym c.table.ensures) (key_columns c.catalog.result.now c.args.new.now.table (subst IsValid (sym c.catalog.ensures) c.known.ensures) number)
