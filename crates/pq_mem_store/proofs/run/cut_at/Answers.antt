use Rattle.std.proofs.Common.{◌<◌, ◌∙◌, length, arith}
use Rattle.pq_mem_store.proofs.Seats.{cut_off}
use Rattle.pq_mem_store.proofs.run.cut_at.Goals as goal

pub returns-clause-ok : goal.returns-clause-ok
returns-clause-ok g c =
    let within : c.cut_place-at.result < length c.args.runs.now.items = omega arith in
    cut_off c.args.runs.now.items c.split_off.new.self.items c.with_room.result.items c.cut_place-at.result
    c.in_ok-split_off.ensures.items (c.with_room.ensures ∙ c.in_ok-split_off.ensures.tail) c.cut_place-at.ensures.some within
