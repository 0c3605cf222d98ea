use Rattle.std.proofs.Common.{◌+◌, ◌∙◌, ℕ, List, length, Option, take, ap, sym, subst, arith}
use Rattle.std.specs.List.{AllZip}
use Rattle.std.proofs.lemmas.List.{length_push}
use Rattle.pq_store.specs.Content.{Content}
use Rattle.pq_store.specs.Rounds.{one_if_some, IsValueOf, IsValueAnswered}
use Rattle.pq_store.proofs.Rounds.{all_zip_more, pays_then, round_then}
use Rattle.pq_store.proofs.store.Store.gets_singly.Goals as goal

pub loop-asked-preserved : goal.loop-asked-preserved
loop-asked-preserved g c =
    let h = c.loop-asked.invariant in
    let one = c.in_ok-value.ensures in
    let i = c.loop-asked.asked-index in
    let keys = c.args.keys.now in
    let found = c.loop-asked.found in
    let value = c.in_ok-value.value in
    let told = g.Self.Store.content c.args.self.now in
    let here : IsValueOf told c.asked-item.result value = subst (λ (o : Option Content). IsValueOf o c.asked-item.result value) h.same one.answer in
    let pushed = sym c.in_ok-push.ensures.ok in
    record {
      long = ap length c.in_ok-push.ensures.ok ∙ length_push found value ∙ ap (λ n. n + 1) h.long;
      answer = subst (λ (l : List (Option (List ℕ))). AllZip (IsValueOf told) (take (i + 1) keys) l) pushed
          (all_zip_more (IsValueOf told) keys found i c.asked-item.result value c.loop-asked-test.true c.asked-item.is h.answer here);
      answered = subst (λ (l : List (Option (List ℕ))). AllZip (IsValueAnswered g.Self.Store.answers) (take (i + 1) keys) l) pushed
          (all_zip_more (IsValueAnswered g.Self.Store.answers) keys found i c.asked-item.result value c.loop-asked-test.true c.asked-item.is h.answered one.answered);
      same = one.same ∙ h.same;
      later = omega (arith, h.later, one.cause.later);
      paid = pays_then _ _ _ _ _ _ i i 1 1 _ _ h.paid one.paid (omega arith) (omega arith);
      counted = round_then one_if_some one_if_some _ _ _ keys found _ i c.asked-item.result value c.loop-asked-test.true c.asked-item.is c.in_ok-push.ensures.ok h.counted one.counted;
    }
