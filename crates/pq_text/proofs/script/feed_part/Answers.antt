use Rattle.std.proofs.Common.{◌≡◌, ◌-◌, ◌∙◌, ap, arith, length, length-drop}
use Rattle.pq_text.proofs.Feeding.{feed_pieces, feed_rest}
use Rattle.pq_text.proofs.script.feed_part.Goals as goal

pub part-preserved : goal.part-preserved
part-preserved c =
    let i = c.part.invariant in
    let fed = c.in_ok-count.ensures in
    let len : length c.behind.result.now ≡ length c.args.part.now - c.part.taken = ap length c.behind.ensures ∙ length-drop c.part.taken c.args.part.now in
    record {
      within = omega (arith, fed.some.1, len);
      pieces = λ more. feed_pieces c.part.splitter c.feed.new.self c.args.part.now c.behind.result.now c.part.taken c.in_ok-count.count c.part.pieces c.put.new.pieces _ c.in_ok-count.piece more c.behind.ensures fed.pieces (i.pieces more) c.in_ok-put.ensures;
      rest = λ more. feed_rest c.part.splitter c.feed.new.self c.args.part.now c.behind.result.now c.part.taken c.in_ok-count.count more c.behind.ensures fed.rest ∙ i.rest more;
    }
