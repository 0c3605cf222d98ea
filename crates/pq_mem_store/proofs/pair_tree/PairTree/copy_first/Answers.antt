use Rattle.std.proofs.Common.{◌+◌, ◌++◌, ◌∙◌, map, take, length, ap, sym, arith}
use Rattle.pq_store.specs.Content.{entry, pairs_within}
use Rattle.pq_store.proofs.Views.{seen_within}
use Rattle.pq_mem_store.proofs.Split.{on_ok}
use Rattle.pq_mem_store.proofs.Seats.{range_limit}
use Rattle.pq_mem_store.proofs.pair_tree.PairTree.copy_first.Goals as goal

pub copy_range-requires : goal.copy_range-requires
copy_range-requires c = omega (arith, ap length c.items.ensures)

pub returns : goal.returns
returns c = on_ok c.copy_range.result (λ is. is
    ∙ range_limit c.args.copies.now _ (length c.items.result.now + c.args.limit) c.args.limit (ap (λ ps. length ps + c.args.limit) c.items.ensures)
    ∙ ap (λ ps. map entry c.args.copies.now ++ take c.args.limit ps) (sym (seen_within c.args.low.now c.args.high.now c.self.inside.runs c.self.invariant)
    ∙ ap (λ content. pairs_within content c.args.low.now c.args.high.now) c.self.view_is)) c.copy_range.ensures.ok
