use Rattle.std.proofs.Common.{◌≡◌, ◌+◌, ◌++◌, [], ◌∷◌, List, take, sym, subst, rules}
use Rattle.std.specs.List.{AllZip, flat_map}
use Rattle.pq_store.specs.declared.store.Pair.{Pair}
use Rattle.pq_store.specs.Rounds.{IsPartAsked}
use Rattle.pq_store.proofs.Rounds.{all_zip_more}
use Rattle.pq_host.specs.Frames.{part_bytes}
use Rattle.pq_host.proofs.Parted.{read_more}
use Rattle.pq_host.proofs.answer.read_parts.Goals as goal

pub loop-asked-preserved : goal.loop-asked-preserved
loop-asked-preserved c =
    let h = c.loop-asked.invariant in
    let i = c.loop-asked.asked-index in
    let asks = c.args.asks.now in
    let found = c.loop-asked.found in
    let pairs = c.in_ok-pairs.pairs in
    let one : IsPartAsked c.args.limit c.asked-item.result pairs = search rules in
    let both : AllZip (IsPartAsked c.args.limit) (take (i + 1) asks) (found ++ pairs ∷ []) × (c.args.body.now ≡ flat_map part_bytes (found ++ pairs ∷ []) ++ c.in_ok-pairs.behind.now) = (
      all_zip_more (IsPartAsked c.args.limit) asks found i c.asked-item.result pairs c.loop-asked-test.true c.asked-item.is h.0 one,
      read_more part_bytes found pairs c.args.body.now c.loop-asked.rest.now c.in_ok-pairs.behind.now h.1 c.in_ok-pairs.ensures.said,
    ) in
    subst (λ (l : List (List Pair)). AllZip (IsPartAsked c.args.limit) (take (i + 1) asks) l × (c.args.body.now ≡ flat_map part_bytes l ++ c.in_ok-pairs.behind.now))
    (sym c.in_ok-push.ensures.ok) both
