use Rattle.std.proofs.Common.{◌≡◌, ◌++◌, [], List, sym, subst, arith}
use Rattle.std.proofs.lemmas.List.{nil_from_length}
use Rattle.std.specs.List.{AllByRecursion}
use Rattle.pq_scan.specs.declared.merge.Rising.{Rising}
use Rattle.pq_scan.specs.Merging.{numbered_from, numbered_items, waiting_heads, IsRisingList}
use Rattle.pq_scan.proofs.Merging.{alone, first_one, one_more, all_listed}
use Rattle.pq_scan.proofs.merge.rising_lists.Goals as goal

pub loop-placed-init : goal.loop-placed-init
loop-placed-init g c =
    let list : Rising g.row.T.Denot = record { head = record { placed = c.in-Some.placed; number = c.len.result }; behind = c.new.result } in
    let front = c.pop.new.self in (
      alone list c.new.ensures.items,
      subst (λ (l : List (Rising g.row.T.Denot)). AllByRecursion IsRisingList l) (sym c.new-lists.ensures.items) tt,
      first_one c.args.found.items front.items c.in-Some.placed c.len.result c.new.result.items c.new-lists.result.items c.in-Some.ensures.items (omega (arith, c.len.ensures, front.ok.0)) c.new.ensures.items c.new-lists.ensures.items,
    )

pub loop-placed-preserved : goal.loop-placed-preserved
loop-placed-preserved g c =
    let i = c.loop-placed.invariant in
    let front = c.pop-in-loop-placed.new.self in
    let list = c.loop-placed.list in
    let lists = c.loop-placed.lists.items in
    let made = c.in_ok-list.list in (
      c.in_ok-list.ensures.rises,
      c.in_ok-list.ensures.all_rise,
      one_more (numbered_from 0 c.args.found.items) c.loop-placed.found.items front.items c.in-Some-pop.placed c.len-number.result (numbered_items list ++ waiting_heads lists) (numbered_items made ++ waiting_heads c.put_before.new.lists.items)
          c.in-Some-pop.ensures.items (omega (arith, c.len-number.ensures, front.ok.0)) i.2 c.in_ok-list.ensures.same,
    )

pub returns-clause-same : goal.returns-clause-same
returns-clause-same g c =
    let found = c.loop-placed.found in
    let none : found.items ≡ [] = nil_from_length found.items (omega (arith, c.in_default-pop.ensures.cases.0, found.ok.0)) in
    all_listed (numbered_from 0 c.args.found.items) found.items c.loop-placed.list c.loop-placed.lists.items c.push.new.self.items none c.in_ok-push.ensures.items c.loop-placed.invariant.2
