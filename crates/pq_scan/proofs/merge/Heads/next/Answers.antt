use Rattle.std.specs.BinaryHeap.{heap_items}
use Rattle.pq_scan.proofs.Merging.{next_made}
use Rattle.pq_scan.proofs.merge.Heads.next.Goals as goal

pub returns-clause-ready : goal.returns-clause-ready
returns-clause-ready g c =
    (next_made (heap_items c.args.self.now.heap) (heap_items c.pop.new.self) (heap_items c.put_back.new.self.heap) c.in-Some.field-0
    c.requires c.in-Some.ensures.permutation c.in-Some.ensures.heap_order c.in_ok-put_back.ensures.heap).0

pub returns-clause-next : goal.returns-clause-next
returns-clause-next g c =
    (next_made (heap_items c.args.self.now.heap) (heap_items c.pop.new.self) (heap_items c.put_back.new.self.heap) c.in-Some.field-0
    c.requires c.in-Some.ensures.permutation c.in-Some.ensures.heap_order c.in_ok-put_back.ensures.heap).1
