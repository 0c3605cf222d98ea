use Rattle.std.proofs.Common.{◌≡◌, ◌+◌, ◌++◌, ◌∷◌, [], List, Option, length, length-append, sym, ap, subst, ◌∙◌, arith}
use Rattle.std.specs.BinaryHeap.{heap_items}
use Rattle.pq_scan.specs.declared.merge.Placed.{Placed}
use Rattle.pq_scan.specs.Merging.{merged_lists, GivesNext}
use Rattle.pq_scan.proofs.Merging.{one_taken, fewer_taken, just_taken}
use Rattle.pq_scan.proofs.merge.Heads.first.Goals as goal

pub loop-init : goal.loop-init
loop-init g c =
    (c.requires, ap (λ (l : List (Placed g.row.T.Denot)). l ++ merged_lists (heap_items c.args.self.heap)) (sym c.in_ok-first.ensures), ap (λ (l : List (Placed g.row.T.Denot)). length l) c.in_ok-first.ensures)

pub next-requires : goal.next-requires
next-requires g c = c.loop.invariant.0

pub returns-in_default : goal.returns-in_default
returns-in_default g c =
    let old = merged_lists (heap_items c.loop.self.heap) in
    let none : old ≡ [] = subst (λ (o : Option (Placed g.row.T.Denot)). GivesNext old (merged_lists (heap_items c.next.new.self.heap)) o) c.in_default.is c.in_ok-placed.ensures.next in
    fewer_taken c.args.k (merged_lists (heap_items c.args.self.heap)) c.loop.first old c.loop.invariant.1 none (omega (arith, c.loop.invariant.2, c.loop.auto.counter-end))

pub loop-preserved : goal.loop-preserved
loop-preserved g c =
    let old = merged_lists (heap_items c.loop.self.heap) in
    let left = merged_lists (heap_items c.next.new.self.heap) in
    let x = c.in-Some.placed in
    let given : old ≡ x ∷ left = subst (λ (o : Option (Placed g.row.T.Denot)). GivesNext old left o) c.in-Some.is c.in_ok-placed.ensures.next in
    let pushed : c.push.new.self ≡ c.loop.first ++ x ∷ [] = c.in_ok-push.ensures.ok in
    let more : length c.push.new.self ≡ length c.loop.first + 1 = ap (λ (l : List (Placed g.row.T.Denot)). length l) pushed ∙ length-append c.loop.first (x ∷ []) in (
      c.in_ok-placed.ensures.ready,
      one_taken (merged_lists (heap_items c.args.self.heap)) c.loop.first c.push.new.self x old left c.loop.invariant.1 given pushed,
      omega (arith, more, c.loop.invariant.2),
    )

pub returns : goal.returns
returns g c =
    just_taken c.args.k (merged_lists (heap_items c.args.self.heap)) c.loop.first (merged_lists (heap_items c.loop.self.heap)) c.loop.invariant.1
    (omega (arith, c.loop.invariant.2, c.loop.auto.counter-end, c.loop-test.false))
