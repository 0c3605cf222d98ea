use Rattle.pq_define.proofs.Defining.{present_of}
use Rattle.pq_define.proofs.define.put_absent.Goals as goal

pub returns-in-Ok-false-clause-shown : goal.returns-in-Ok-false-clause-shown
returns-in-Ok-false-clause-shown g c =
    present_of _ c.args.pair.key c.present.result c.in-Ok-false.field-0 c.in-Ok-false.field-0-test c.present.ensures.key c.present.ensures.value (rw (← c.items.ensures) c.in-Ok-false.ensures.answer)
