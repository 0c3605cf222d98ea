use Rattle.std.proofs.Common.{◌+◌, ◌++◌, length, drop, ap, ◌∙◌}
use Rattle.std.specs.Prelude.{string_bytes}
use Rattle.std.specs.List.{list_any}
use Rattle.pq_shell.specs.Serving.{rest_text}
use Rattle.pq_client_shell.specs.Lines.{skipped_text}
use Rattle.pq_client_shell.specs.Writes.{is_skipped, writes_of}
use Rattle.pq_client_shell.proofs.Gathering.{writes_behind, skips_behind, between_is}
use Rattle.pq_client_shell.proofs.gathered.prepare.Goals as goal

pub returns-clause-writes : goal.returns-clause-writes
returns-clause-writes c =
    writes_behind c.args.parted.now.script.now.pieces c.args.parted.now.front c.requires.front c.args.catalog.now _
    (c.in_ok-sorted.ensures.writes ∙ ap (writes_of c.args.catalog.now) (c.behind-rest.ensures ∙ ap (drop c.args.parted.now.front) c.items-pieces.ensures))

pub returns-clause-text : goal.returns-clause-text
returns-clause-text c =
    between_is c.args.parted.now.script.now.pieces c.args.parted.now.front c.requires.front c.args.catalog.now c.args.parted.now.script.now.unfinished _ _
    (c.in_ok-sorted.ensures.lines ∙ ap (skipped_text c.args.catalog.now (c.args.parted.now.front + 1)) (c.behind-rest.ensures ∙ ap (drop c.args.parted.now.front) c.items-pieces.ensures))
    (c.in_ok-text.ensures ∙ ap (λ n. string_bytes c.in_ok-sorted.sorted.lines ++ rest_text c.args.parted.now.script.now.unfinished (n + 1)) (ap length c.items-pieces.ensures))

pub returns-clause-skipped : goal.returns-clause-skipped
returns-clause-skipped c =
    skips_behind c.args.parted.now.script.now.pieces c.args.parted.now.front c.requires.front c.args.catalog.now _
    (c.in_ok-sorted.ensures.skipped ∙ ap (list_any (is_skipped c.args.catalog.now)) (c.behind-rest.ensures ∙ ap (drop c.args.parted.now.front) c.items-pieces.ensures))
