use Rattle.pq_clients.proofs.check_steps.check_led.Goals as goal

pub returns-then-passed : goal.returns-then-passed
returns-then-passed c = rw c.if-passed.true c.passed_led.ensures

pub returns : goal.returns
returns c = rw c.if-passed.false c.refused_led.ensures
