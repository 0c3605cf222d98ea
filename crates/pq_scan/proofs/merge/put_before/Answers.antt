use Rattle.std.proofs.Common.{rules, ◌∷◌, ◌++◌, List, IsPermutation, refl, sym, subst}
use Rattle.pq_scan.specs.declared.merge.Numbered.{Numbered}
use Rattle.pq_scan.specs.declared.merge.Rising.{Rising}
use Rattle.pq_scan.specs.Merging.{numbered_items, waiting_heads, IsUpToNumbered}
use Rattle.pq_scan.proofs.Merging.{rises_before, set_aside, moved_before}
use Rattle.pq_scan.proofs.merge.put_before.Goals as goal

pub returns-then-is_gt-clause-same : goal.returns-then-is_gt-clause-same
returns-then-is_gt-clause-same g c =
    let item = c.args.item in
    let all = item ∷ (numbered_items c.args.list ++ waiting_heads c.args.lists.now.items) in
    subst (λ (l : List (Numbered g.row.T.Denot)). IsPermutation all (item ∷ (l ++ waiting_heads c.push.new.self.items))) (sym c.new.ensures.items)
    (subst (λ (l : List (Rising g.row.T.Denot)). IsPermutation all (item ∷ waiting_heads l)) (sym c.in_ok-push.ensures.items) (set_aside item c.args.list c.args.lists.now.items))

pub returns-clause-rises : goal.returns-clause-rises
returns-clause-rises g c =
    let up : IsUpToNumbered c.args.item c.args.list.head = search rules in
    rises_before c.args.item c.args.list (record { head = c.args.item; behind = c.push-2.new.self }) c.requires.rises up refl c.in_ok-push-2.ensures.items

pub returns-clause-same : goal.returns-clause-same
returns-clause-same g c = moved_before c.args.item c.args.list c.push-2.new.self.items (waiting_heads c.args.lists.now.items) c.in_ok-push-2.ensures.items
