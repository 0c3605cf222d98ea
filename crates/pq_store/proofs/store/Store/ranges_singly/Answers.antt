use Rattle.std.proofs.Common.{◌+◌, ◌*◌, ◌∙◌, List, length, Option, take, ap, sym, subst, arith}
use Rattle.std.specs.List.{AllZip, AllByRecursion}
use Rattle.std.proofs.lemmas.List.{length_push}
use Rattle.pq_store.specs.Content.{Content, AreAnswers}
use Rattle.pq_store.specs.declared.store.Pair.{Pair}
use Rattle.pq_store.specs.Rounds.{one_if_some, ArePairsOf, IsPartAsked}
use Rattle.pq_store.proofs.Rounds.{all_zip_more, all_more, pays_then, one_more_times, round_then}
use Rattle.pq_store.proofs.store.Store.ranges_singly.Goals as goal

pub loop-asked-preserved : goal.loop-asked-preserved
loop-asked-preserved g c =
    let h = c.loop-asked.invariant in
    let one = c.in_ok-pairs.ensures in
    let i = c.loop-asked.asked-index in
    let asks = c.args.asks.now in
    let limit = c.args.limit in
    let found = c.loop-asked.found in
    let pairs = c.in_ok-pairs.pairs in
    let told = g.Self.Store.content c.args.self.now in
    let here : ArePairsOf told limit c.asked-item.result pairs = subst (λ (o : Option Content). ArePairsOf o limit c.asked-item.result pairs) h.same one.answer in
    let pushed = sym c.in_ok-push.ensures.ok in
    let times = one_more_times i limit in
    record {
      long = ap length c.in_ok-push.ensures.ok ∙ length_push found pairs ∙ ap (λ n. n + 1) h.long;
      answer = subst (λ (l : List (List Pair)). AllZip (ArePairsOf told limit) (take (i + 1) asks) l) pushed
          (all_zip_more (ArePairsOf told limit) asks found i c.asked-item.result pairs c.loop-asked-test.true c.asked-item.is h.answer here);
      parts = subst (λ (l : List (List Pair)). AllZip (IsPartAsked limit) (take (i + 1) asks) l) pushed
          (all_zip_more (IsPartAsked limit) asks found i c.asked-item.result pairs c.loop-asked-test.true c.asked-item.is h.parts one.part);
      answered = subst (λ (l : List (List Pair)). AllByRecursion (AreAnswers g.Self.Store.answers) l) pushed (all_more (AreAnswers g.Self.Store.answers) found pairs h.answered one.answered);
      same = one.same ∙ h.same;
      later = omega (arith, h.later, one.cause.later);
      paid = pays_then _ _ _ _ _ _ i (i * limit) 1 limit _ _ h.paid one.paid (omega arith) (omega (arith, times));
      counted = round_then one_if_some length _ _ _ asks found _ i c.asked-item.result pairs c.loop-asked-test.true c.asked-item.is c.in_ok-push.ensures.ok h.counted one.counted;
    }
