use Rattle.std.proofs.Common.{◌∙◌, ap}
use Rattle.pq_mem_store.proofs.PairMaps.{bytes_of, copied_mapped}
use Rattle.pq_mem_store.proofs.pair_map.copy_range.Goals as goal

pub loop-key-preserved : goal.loop-key-preserved
loop-key-preserved c = copied_mapped bytes_of bytes_of c.loop-key.copies c.push.new.self c.in_ok-pair_of.field-0 c.next.new.self.n c.loop-key.key-iterator.n
    c.loop-key.key-iterator.iter c.next.new.self.iter (c.in-Some.key.now, c.in-Some.value.now) _
    c.in_ok-push.ensures.ok
    (c.in_ok-pair_of.ensures ∙ ap (λ key. (key, c.as_slice-in-loop-key.result.now)) c.as_slice.ensures.value ∙ ap (λ value. (bytes_of c.in-Some.key.now, value)) c.as_slice-in-loop-key.ensures.value)
    c.in-Some.ensures.steps.1 c.in-Some.ensures.steps.0 c.loop-key.invariant
