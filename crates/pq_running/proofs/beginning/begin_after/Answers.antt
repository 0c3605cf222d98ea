use Rattle.std.proofs.Common.{◌≡◌, true}
use Rattle.std.specs.Prelude.{is_some}
use Rattle.pq_cursor.specs.Cursors.{IsCursorOf}
use Rattle.pq_nodes.specs.Combos.{position_types}
use Rattle.pq_running.specs.Running.{page_size, position_dirs}
use Rattle.pq_running.proofs.Begins.{begins_behind}
use Rattle.pq_running.proofs.beginning.begin_after.Goals as goal

pub returns-clause-answer : goal.returns-clause-answer
returns-clause-answer c =
    let paged : is_some (page_size c.args.query.now.stop) ≡ true = rw (← c.page_size.ensures) c.if-is_none.ensures in
    let found : IsCursorOf c.args.number (position_types c.args.catalog.now.tables c.args.query.now) (position_dirs c.args.catalog.now.tables c.args.query.now) c.in-Some.text.now c.in_ok-position.position =
    rw (← c.in_ok-shape.ensures.types, ← c.in_ok-shape.ensures.dirs, ← c.items.ensures, ← c.items-2.ensures) c.in_ok-position.ensures.found in
    rw c.in-Some.is (begins_behind c.args.catalog.now.tables c.args.number c.args.query.now c.in-Some.text.now paged c.in_ok-position.position found)
