use Rattle.std.proofs.Common.{sym, subst}
use Rattle.pq_schema.specs.Valid.{IsValid}
use Rattle.pq_planning.proofs.Shown.{is_shown}
use Rattle.pq_reports.proofs.telling.show.Goals as goal

pub show_lines-requires : goal.show_lines-requires
show_lines-requires c = is_shown c.catalog.result.now (subst IsValid (sym c.catalog.ensures) c.known.ensures)
