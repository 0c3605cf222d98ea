use Rattle.std.proofs.Common.{◌≡◌, ◌+◌, ◌++◌, List, ℕ, length, ap, ◌∙◌, arith}
use Rattle.std.specs.List.{flat_map, range_with_len}
use Rattle.pq_print.specs.declared.report.Line.{Line}
use Rattle.pq_planning.specs.Lines.{definition_lines, show_lines}
use Rattle.pq_planning.proofs.Shown.{lines_more}
use Rattle.pq_planning.proofs.lines.show_lines.Goals as goal

pub loop-place-preserved : goal.loop-place-preserved
loop-place-preserved c =
    c.in_ok-put_definition_lines.ensures ∙ ap (λ (ls : List Line). ls ++ definition_lines c.args.catalog.now (c.loop-place.place + 1)) c.loop-place.invariant
    ∙ lines_more (definition_lines c.args.catalog.now) c.loop-place.place (c.loop-place.place + 1) (omega arith)

pub returns : goal.returns
unfolding show_lines
returns c =
    let all : c.loop-place.place ≡ length c.args.catalog.now.definitions = omega (arith, c.defs-place-end.ensures.defs, c.loop-place-test.false, c.loop-place.auto.place-end) in
    c.loop-place.invariant ∙ ap (λ (n : ℕ). flat_map (definition_lines c.args.catalog.now) (range_with_len 1 n)) all
