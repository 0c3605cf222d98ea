use Rattle.std.proofs.Common.{ap₂, sym, ◌∙◌}
use Rattle.pq_client_shell.specs.Telling.{fault_of, first_of}
use Rattle.pq_client_shell.proofs.Outcomes.{first_more}
use Rattle.pq_client_shell.proofs.telling.first_fault.Goals as goal

pub loop-one-preserved : goal.loop-one-preserved
loop-one-preserved c =
    c.first_of-fault.ensures ∙ ap₂ first_of c.loop-one.invariant c.fault_of.ensures ∙ sym (first_more c.loop-one.yielded c.in-Some.one)
