use Rattle.std.specs.BinaryHeap.{heap_items}
use Rattle.pq_scan.proofs.Merging.{put_back_made}
use Rattle.pq_scan.proofs.merge.Heads.put_back.Goals as goal

pub returns-in_ok-push : goal.returns-in_ok-push
returns-in_ok-push g c =
    record {
      heap = put_back_made c.args.list.items (record { head = c.in-Some.head; behind = c.pop.new.self }) (heap_items c.args.self.now.heap) (heap_items c.push.new.self)
          c.in-Some.ensures.items c.in_ok-push.ensures.heap_order c.in_ok-push.ensures.permutation;
    }
