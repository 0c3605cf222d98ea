use Rattle.pq_running.proofs.Begins.{cursor_long}
use Rattle.pq_pages.proofs.page.cursor_at.Goals as goal

pub cursor_text-requires : goal.cursor_text-requires
cursor_text-requires c = rw (c.items.ensures, c.in_ok-shape.ensures.dirs) (cursor_long c.args.catalog.now.tables c.args.query.now c.args.position.now c.requires.fits)
