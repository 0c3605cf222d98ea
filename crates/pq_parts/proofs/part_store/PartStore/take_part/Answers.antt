use Rattle.std.proofs.Common.{◌-◌, length, ap, Ok, Err}
use Rattle.pq_parts.proofs.Gather.{gathers, gather_error}
use Rattle.pq_parts.proofs.part_store.PartStore.take_part.Goals as goal

pub returns-in-Ok-append-clause-gathers : goal.returns-in-Ok-append-clause-gathers
returns-in-Ok-append-clause-gathers g c = λ before gathered.
    gathers _ before _ _ c.args.at c.args.low.now c.args.high.now c.args.limit _ c.args.found.now c.in-Ok.piece c.append.new.found
    (ap (λ xs. c.args.limit - length xs) c.items.ensures) c.in-Ok-append.ensures c.in-Ok.ensures.piece gathered

pub returns-in-Err-append-clause-nodes : goal.returns-in-Err-append-clause-nodes
returns-in-Err-append-clause-nodes g c = λ before gathered.
    gather_error _ before _ _ c.args.at c.args.low.now c.args.high.now c.args.limit _ c.args.found.now (Ok c.in-Ok.piece) c.requires.few
    (ap (λ xs. c.args.limit - length xs) c.items.ensures) c.in-Ok.ensures.piece _ gathered

pub returns-in-Err-clause-nodes : goal.returns-in-Err-clause-nodes
returns-in-Err-clause-nodes g c = λ before gathered.
    gather_error _ before _ _ c.args.at c.args.low.now c.args.high.now c.args.limit _ c.args.found.now (Err c.in-Err.error) c.requires.few
    (ap (λ xs. c.args.limit - length xs) c.items.ensures) c.in-Err.ensures.piece _ gathered
