use Rattle.std.proofs.Common.{◌≡◌, ◌+◌, take, arith}
use Rattle.std.specs.Prelude.{pos, ◌+ℤ◌}
use Rattle.std.proofs.lemmas.Int.{ints}
use Rattle.std.proofs.lemmas.List.Sums.{fold_more}
use Rattle.pq_fill.specs.Summary.{line_number, sum_of}
use Rattle.pq_fill.proofs.numbers.sum_of.Goals as goal

pub loop-line-preserved : goal.loop-line-preserved
loop-line-preserved c =
    let before = c.loop-line.invariant in
    let here = c.line_number.ensures in
    let item = c.line-item.is in
    let more = fold_more (λ so_far line. so_far +ℤ line_number line) (pos 0) c.args.lines.now c.loop-line.line-index c.line-item.result c.loop-line-test.true in
    let sum : c.loop-line.sum +ℤ c.line_number.result ≡ sum_of (take (c.loop-line.line-index + 1) c.args.lines.now) = cc in
    (omega (arith, ints), (omega (arith, ints), omega (arith, ints)))
