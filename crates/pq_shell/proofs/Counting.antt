-- How many bytes are counted of a source where a run ended so.
use Rattle.std.proofs.Common.{◌≡◌, ◌↔◌, ℕ, ◌+◌, ◌≤◌, Bool, true, false, Option, List, Result, Ok, Err, IfOk, IfErr, OnErr, true≢false, refl, sym, subst, arith}
use Rattle.std.proofs.lemmas.Result.{IfOk-weaker}
use Rattle.pq_console.specs.Reading.{CountsBytes, script_limit}
use Rattle.pq_shell.specs.Run.{Closes, status_of}
use Rattle.pq_shell.specs.Serving.{ReportsRest, StoppedAtRest}
use Rattle.pq_console.specs.declared.reading.Ending.{Ending}
use Rattle.pq_console.specs.declared.reading.Ending.TheVariants.{Whole, Faulted, TooLong}
use Rattle.pq_shell.specs.declared.serving.Ended.{Ended}
use Rattle.pq_shell.specs.declared.serving.Progress.{Progress}
use Rattle.pq_shell.specs.declared.status.Status.{Status}
use Rattle.pq_shell.specs.declared.status.Status.TheVariants as status
use Rattle.pq_console.specs.declared.stop.Stop.{Stop}
use Rattle.pq_console.specs.declared.stop.Stop.TheVariants as stops

abbrev pub IsTooLong : Status → Type 0
IsTooLong status.TooLong = Unit {0}
IsTooLong status.Good = ⊥
IsTooLong status.SomeRefused = ⊥
IsTooLong status.Usage = ⊥
IsTooLong status.ReadFault = ⊥
IsTooLong status.WriteFault = ⊥
IsTooLong status.StoreFault = ⊥
IsTooLong status.Damaged = ⊥
IsTooLong status.NoMem = ⊥

-- at most as many bytes as a script may have, and one; and so many exactly where the script is too long
pub record Counted (is : Status) (count count_now : ℕ) : Type 0 where
  pub reads : count_now ≤ count + (script_limit + 1)
  pub too_long : is ≡ status.TooLong ↔ count_now ≡ count + (script_limit + 1)

-- where the script is not too long
within : (is : Status) (count count_now : ℕ) → (IsTooLong is → ⊥) → count_now ≤ count + script_limit → Counted is count count_now
within is count count_now other few = record {
  reads = omega (arith, few);
  too_long = ((λ e. absurd (other (subst IsTooLong (sym e) tt))), (λ e. absurd (omega (arith, few, e))));
}

counted_status : (ending : Ending) (refused : Bool) (count count_now : ℕ) → CountsBytes ending count count_now → Counted (status_of ending refused) count count_now
counted_status Whole false count count_now few = within status.Good count count_now (λ long. long) few
counted_status Whole true count count_now few = within status.SomeRefused count count_now (λ long. long) few
counted_status Faulted refused count count_now few = within status.ReadFault count count_now (λ long. long) few
counted_status TooLong refused count count_now long = record { reads = omega (arith, long); too_long = ((λ e. long), (λ e. refl)) }

counted_as : (is expected : Status) (count count_now : ℕ) → is ≡ expected → Counted expected count count_now → Counted is count count_now
counted_as is expected count count_now same counted = subst (λ (s : Status). Counted s count count_now) (sym same) counted

pub counted_run : (outcome : Result Ended Stop) (is : Status) (held held_now : Option (List ℕ)) (count count_now : ℕ) → IfOk outcome (λ ended. CountsBytes ended.ending count count_now)
    → OnErr outcome (count_now ≤ count + script_limit) → Closes outcome is held held_now → Counted is count count_now
counted_run (Ok ended) is held held_now count count_now ok few closes = counted_as is _ count count_now closes.0 (counted_status ended.ending ended.refused count count_now ok)
counted_run (Err stops.StoreFailed) is held held_now count count_now ok few closes = counted_as is _ count count_now closes.0 (within status.StoreFault count count_now (λ long. long) few)
counted_run (Err stops.WriteFailed) is held held_now count count_now ok few closes = counted_as is _ count count_now closes.0 (within status.WriteFault count count_now (λ long. long) few)
counted_run (Err stops.NoMem) is held held_now count count_now ok few closes = counted_as is _ count count_now closes.0 (within status.NoMem count count_now (λ long. long) few)
counted_run (Err (stops.Damaged damage)) status.Damaged held held_now count count_now ok few closes = within status.Damaged count count_now (λ long. long) few
counted_run (Err (stops.Damaged damage)) status.WriteFault held held_now count count_now ok few closes = within status.WriteFault count count_now (λ long. long) few
counted_run (Err (stops.Damaged damage)) status.NoMem held held_now count count_now ok few closes = within status.NoMem count count_now (λ long. long) few
counted_run (Err (stops.Damaged damage)) status.Good held held_now count count_now ok few closes = absurd closes
counted_run (Err (stops.Damaged damage)) status.SomeRefused held held_now count count_now ok few closes = absurd closes
counted_run (Err (stops.Damaged damage)) status.Usage held held_now count count_now ok few closes = absurd closes
counted_run (Err (stops.Damaged damage)) status.ReadFault held held_now count count_now ok few closes = absurd closes
counted_run (Err (stops.Damaged damage)) status.StoreFault held held_now count count_now ok few closes = absurd closes
counted_run (Err (stops.Damaged damage)) status.TooLong held held_now count count_now ok few closes = absurd closes

-- behind the rest
pub counted_rest : (outcome : Result Ended Stop) (ending : Ending) (progress : Progress) (held held_now : Option (List ℕ)) (count count_now : ℕ) → CountsBytes ending count count_now
    → IfOk outcome (λ ended. ReportsRest ending progress ended held held_now) → IfOk outcome (λ ended. CountsBytes ended.ending count count_now)
counted_rest outcome ending progress held held_now count count_now counted reports = IfOk-weaker outcome _ _ (λ ended rest. subst (λ (e : Ending). CountsBytes e count count_now) (sym rest.ending_is) counted) reports

pub stopped_rest : (outcome : Result Ended Stop) (ending : Ending) (progress : Progress) (held held_now : Option (List ℕ)) (count count_now : ℕ) → CountsBytes ending count count_now
    → IfErr outcome (λ stop. StoppedAtRest stop ending progress held held_now) → OnErr outcome (count_now ≤ count + script_limit)
stopped_rest (Ok ended) ending progress held held_now count count_now counted stops_at = tt
stopped_rest (Err stop) Whole progress held held_now count count_now counted stops_at = counted
stopped_rest (Err stop) Faulted progress held held_now count count_now counted stops_at = counted
stopped_rest (Err stop) TooLong progress held held_now count count_now counted stops_at = absurd (true≢false (sym stops_at.some_rest))
