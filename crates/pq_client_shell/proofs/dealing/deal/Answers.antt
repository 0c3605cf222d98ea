use Rattle.std.proofs.Common.{◌+◌, List, [], ◌∷◌, ◌++◌, length, get_or, set, rules, ap, sym, ◌∙◌, arith}
use Rattle.pq_index_keep.specs.declared.write.Write.{Write}
use Rattle.pq_client_shell.specs.Dealing.{following, hands}
use Rattle.pq_client_shell.proofs.Dealt.{behind_more, hands_more, hand_at, hands_length, following_within}
use Rattle.pq_client_shell.proofs.dealing.deal.Goals as goal

pub index_mut-requires : goal.index_mut-requires
index_mut-requires c =
    let within = c.loop-write.invariant.within in
    let same = ap length c.loop-write.invariant.hands in
    omega (arith, within, same, hands_length c.args.k c.loop-write.yielded, c.loop-write.hands.ok)

pub loop-write-preserved : goal.loop-write-preserved
loop-write-preserved c =
    let k = c.args.k in
    let ys = c.loop-write.yielded in
    let w = c.in-Some.write in
    let next = c.loop-write.next in
    let so_far = c.loop-write.invariant in
    let hand_is = c.in_ok-push.ensures.ok
    ∙ ap (λ (h : List Write). h ++ w ∷ []) (c.index_mut.ensures.value ∙ ap (λ (hs : List (List Write)). get_or hs next c.index_mut.result.now) so_far.hands ∙ hand_at k ys next c.index_mut.result.now so_far.within) in
    record {
      hands = ap (λ (hs : List (List Write)). set hs next c.push.new.self) so_far.hands ∙ sym (hands_more k ys w next c.push.new.self so_far.place so_far.within hand_is);
      place = c.following-next.ensures ∙ ap (following k) so_far.place ∙ sym (behind_more k 0 ys w);
      within = following_within k next c.following-next.result so_far.within c.following-next.ensures;
    }
