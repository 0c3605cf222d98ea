use Rattle.std.proofs.Common.{◌≡◌, ◌+◌, ◌++◌, [], ◌∷◌, ℕ, List, Option, take, sym, subst}
use Rattle.std.specs.List.{AllZip, flat_map}
use Rattle.pq_store.specs.Rounds.{IsValueAnswered}
use Rattle.pq_store.proofs.Rounds.{all_zip_more}
use Rattle.pq_host.specs.Ends.{any_answer}
use Rattle.pq_host.specs.Frames.{value_bytes}
use Rattle.pq_host.proofs.Parted.{read_more}
use Rattle.pq_host.proofs.answer.read_values.Goals as goal

pub loop-asked-preserved : goal.loop-asked-preserved
loop-asked-preserved c =
    let h = c.loop-asked.invariant in
    let i = c.loop-asked.asked-index in
    let keys = c.args.keys.now in
    let found = c.loop-asked.found in
    let value = c.in_ok-value.value in
    let one = c.in_ok-value.ensures in
    let both : AllZip (IsValueAnswered any_answer) (take (i + 1) keys) (found ++ value ∷ []) × (c.args.body.now ≡ flat_map value_bytes (found ++ value ∷ []) ++ c.in_ok-value.behind.now) = (
      all_zip_more (IsValueAnswered any_answer) keys found i c.asked-item.result value c.loop-asked-test.true c.asked-item.is h.0 one.answered,
      read_more value_bytes found value c.args.body.now c.loop-asked.rest.now c.in_ok-value.behind.now h.1 one.said,
    ) in
    subst (λ (l : List (Option (List ℕ))). AllZip (IsValueAnswered any_answer) (take (i + 1) keys) l × (c.args.body.now ≡ flat_map value_bytes l ++ c.in_ok-value.behind.now))
    (sym c.in_ok-push.ensures.ok) both
