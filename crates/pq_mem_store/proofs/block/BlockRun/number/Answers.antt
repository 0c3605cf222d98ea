use Rattle.std.proofs.Common.{◌≡◌, ◌∙◌, length, min, filter, ap, arith}
use Rattle.pq_store.specs.Content.{is_within}
use Rattle.pq_mem_store.proofs.block.BlockRun.number.Goals as goal

pub returns-then-n-cap : goal.returns-then-n-cap
returns-then-n-cap c =
    let few : length c.between-n.result.now ≡ min c.args.cap (length c.between-n.result.now) = omega arith in
    few ∙ ap (min c.args.cap) (ap length (c.between-n.ensures ∙ ap (filter (is_within c.args.low.now c.args.high.now)) (c.as_slice.ensures.value ∙ c.self.view_is)))

pub returns : goal.returns
returns c =
    let many : c.args.cap ≡ min c.args.cap (length c.between-n.result.now) = omega arith in
    many ∙ ap (min c.args.cap) (ap length (c.between-n.ensures ∙ ap (filter (is_within c.args.low.now c.args.high.now)) (c.as_slice.ensures.value ∙ c.self.view_is)))
