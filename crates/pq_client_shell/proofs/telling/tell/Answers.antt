use Rattle.std.proofs.Common.{◌≡◌, Result, Err, Some, Bool, ap, sym, ◌∙◌}
use Rattle.pq_console.specs.declared.stop.Stop.{Stop}
use Rattle.pq_client_shell.proofs.Outcomes.{never_written}
use Rattle.pq_client_shell.proofs.telling.tell.Goals as goal

same_err : (a b : Stop) → ◌≡◌ {A = Result Bool Stop} (Err a) (Err b) → a ≡ b
same_err a b e = cc

pub returns-in-Some-clause-write_failed : goal.returns-in-Some-clause-write_failed
returns-in-Some-clause-write_failed g c = λ e. absurd (never_written c.args.told (sym c.first_fault.ensures ∙ c.in-Some.is ∙ ap (λ (s : Stop). Some s) (same_err c.in-Some.stop _ e)))
