use Rattle.std.proofs.Common.{List, [], ◌∷◌, ◌++◌, ap, sym, ◌∙◌}
use Rattle.pq_index_keep.specs.declared.write.Write.{Write}
use Rattle.pq_client_shell.specs.Dealing.{hands}
use Rattle.pq_client_shell.proofs.Dealt.{empty_more}
use Rattle.pq_client_shell.proofs.dealing.empty_hands.Goals as goal

pub loop-place-preserved : goal.loop-place-preserved
loop-place-preserved c =
    c.in_ok-push.ensures.items ∙ ap (λ (h : List Write). c.loop-place.hands.items ++ h ∷ []) c.new.ensures
    ∙ ap (λ (hs : List (List Write)). hs ++ [] ∷ []) c.loop-place.invariant ∙ sym (empty_more c.loop-place.place)
