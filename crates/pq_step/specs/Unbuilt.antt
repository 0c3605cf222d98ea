-- Statements that make no index.
use Rattle.std.specs.Prelude.{◌≡◌, None, Result, Ok}
use Rattle.pq_base.specs.declared.refusal.Refusal.{Refusal}
use Rattle.pq_statement.specs.Actions.{Action, Prepares}

-- only a PREPARE makes one, where its query wants it
abbrev pub MakesNoIndex : Result Action Refusal → Type 0
MakesNoIndex (Ok (Prepares plan)) = plan.chosen.wanted ≡ None
MakesNoIndex asked = Unit {0}
