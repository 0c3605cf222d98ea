-- A client of the code, its stages and what its calls answer, as they are seen.
use Rattle.std.specs.Prelude.{ℕ, List, map, Option}
use Rattle.pq_index_keep.specs.declared.write.Write.{Write}
use Rattle.pq_clients.specs.declared.stage.Check.{Check as CodeCheck}
use Rattle.pq_clients.specs.declared.stage.Check.TheVariants as check
use Rattle.pq_clients.specs.declared.stage.Stage.{Stage as CodeStage}
use Rattle.pq_clients.specs.declared.stage.Stage.TheVariants as stage
use Rattle.pq_clients.specs.declared.stage.Phase.{Phase}
use Rattle.pq_clients.specs.declared.stage.Phase.TheVariants as phase
use Rattle.pq_clients.specs.declared.outcome.Outcome.{Outcome}
use Rattle.pq_clients.specs.declared.outcome.Outcome.TheVariants as outcome
use Rattle.pq_clients.specs.declared.stage.Ending.{Ending}
use Rattle.pq_clients.specs.declared.stage.Ending.TheVariants as ending
use Rattle.pq_clients.specs.declared.stage.Course.{Course}
use Rattle.pq_clients.specs.declared.stage.Course.TheVariants as course
use Rattle.pq_clients.specs.Flights.{Flight, Check, Parent, Child}
use Rattle.pq_clients.specs.Clients.{Stage, Checking, Adding, Testing, Putting, Clearing, Freeing, Undoing, Releasing, Next, Reading, Taking, Looking, Flying}
use Rattle.pq_clients.specs.Steps.{Then, On, Puts, Ends}

abbrev pub flight : Write → Option (List ℕ) → Flight
flight w read = record { write = w; read = read }

abbrev pub seen_check : CodeCheck → Check
seen_check (check.Parent place table at) = Parent place table at
seen_check (check.Child table place front) = Child table place front

abbrev pub seen_stage : CodeStage → Stage
seen_stage (stage.Checking check left) = Checking (seen_check check) (map seen_check left)
seen_stage (stage.Adding entry left added) = Adding entry left added
seen_stage (stage.Testing place left passed) = Testing place left passed
seen_stage stage.Putting = Putting
seen_stage (stage.Clearing entry left) = Clearing entry left
seen_stage stage.Freeing = Freeing
seen_stage (stage.Undoing entry left refusal) = Undoing entry left refusal
seen_stage (stage.Releasing refusal) = Releasing refusal

abbrev pub seen_next : Flight → Phase → Next
seen_next f phase.Reading = Reading
seen_next f phase.Taking = Taking f
seen_next f phase.Looking = Looking f
seen_next f (phase.Flying at) = Flying f (seen_stage at)

abbrev pub seen_ending : Ending → Outcome
seen_ending ending.Done = outcome.Done
seen_ending (ending.Refused refusal) = outcome.Refused refusal
seen_ending (ending.Busy found) = outcome.Busy found
seen_ending (ending.Conflict read found) = outcome.Conflict read found
seen_ending (ending.Damaged damage) = outcome.Damaged damage

abbrev pub seen_course : Flight → Course → Then
seen_course f (course.On next) = On (seen_next f next)
seen_course f (course.Takes read) = On (Taking (flight f.write read))
seen_course f (course.Puts next) = Puts (seen_next f next)
seen_course f (course.Ends ending) = Ends (seen_ending ending)
