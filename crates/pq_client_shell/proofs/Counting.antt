-- How many bytes are counted of a source where a run of clients ended so.
use Rattle.std.proofs.Common.{◌≡◌, ℕ, ◌+◌, ◌≤◌, Bool, true, false, Option, List, Result, Ok, Err, IfOk, sym, subst}
use Rattle.std.proofs.lemmas.Result.{IfOk-weaker}
use Rattle.pq_console.specs.Reading.{CountsBytes, script_limit}
use Rattle.pq_shell.specs.Run.{Closes, status_of}
use Rattle.pq_console.specs.declared.reading.Ending.{Ending}
use Rattle.pq_console.specs.declared.reading.Ending.TheVariants.{Whole, Faulted, TooLong}
use Rattle.pq_shell.specs.declared.serving.Ended.{Ended}
use Rattle.pq_shell.specs.declared.status.Status.{Status}
use Rattle.pq_shell.specs.declared.status.Status.TheVariants as status
use Rattle.pq_console.specs.declared.stop.Stop.{Stop}
use Rattle.pq_console.specs.declared.stop.Stop.TheVariants as stops
use Rattle.pq_shell.proofs.Counting.{IsTooLong}
use Rattle.pq_client_shell.specs.Runs.{IsReadWithin}

long_status : (ending : Ending) (refused : Bool) (count count_now : ℕ) → CountsBytes ending count count_now → IsTooLong (status_of ending refused) → count_now ≡ count + (script_limit + 1)
long_status Whole false count count_now counted long = absurd long
long_status Whole true count count_now counted long = absurd long
long_status Faulted refused count count_now counted long = absurd long
long_status TooLong refused count count_now counted long = counted

long_at : (outcome : Result Ended Stop) (is : Status) (held held_now : Option (List ℕ)) (count count_now : ℕ) → IfOk outcome (λ ended. CountsBytes ended.ending count count_now) → Closes outcome is held held_now → IsTooLong is
    → count_now ≡ count + (script_limit + 1)
long_at (Ok ended) is held held_now count count_now ok closes long = long_status ended.ending ended.refused count count_now ok (subst IsTooLong closes.0 long)
long_at (Err stops.StoreFailed) is held held_now count count_now ok closes long = absurd (subst IsTooLong closes.0 long)
long_at (Err stops.WriteFailed) is held held_now count count_now ok closes long = absurd (subst IsTooLong closes.0 long)
long_at (Err stops.NoMem) is held held_now count count_now ok closes long = absurd (subst IsTooLong closes.0 long)
long_at (Err (stops.Damaged damage)) status.TooLong held held_now count count_now ok closes long = absurd closes
long_at (Err (stops.Damaged damage)) status.Good held held_now count count_now ok closes long = absurd long
long_at (Err (stops.Damaged damage)) status.SomeRefused held held_now count count_now ok closes long = absurd long
long_at (Err (stops.Damaged damage)) status.Usage held held_now count count_now ok closes long = absurd long
long_at (Err (stops.Damaged damage)) status.ReadFault held held_now count count_now ok closes long = absurd long
long_at (Err (stops.Damaged damage)) status.WriteFault held held_now count count_now ok closes long = absurd long
long_at (Err (stops.Damaged damage)) status.StoreFault held held_now count count_now ok closes long = absurd long
long_at (Err (stops.Damaged damage)) status.Damaged held held_now count count_now ok closes long = absurd long
long_at (Err (stops.Damaged damage)) status.NoMem held held_now count count_now ok closes long = absurd long

pub reads_long : (outcome : Result Ended Stop) (is : Status) (held held_now : Option (List ℕ)) (count count_now : ℕ) → IfOk outcome (λ ended. CountsBytes ended.ending count count_now) → Closes outcome is held held_now → is ≡ status.TooLong
    → count_now ≡ count + (script_limit + 1)
reads_long outcome is held held_now count count_now ok closes same = long_at outcome is held held_now count count_now ok closes (subst IsTooLong (sym same) tt)

short_status : (ending : Ending) (refused : Bool) (count count_now : ℕ) → CountsBytes ending count count_now → IsReadWithin (status_of ending refused) → count_now ≤ count + script_limit
short_status Whole false count count_now counted within = counted
short_status Whole true count count_now counted within = counted
short_status Faulted refused count count_now counted within = counted
short_status TooLong refused count count_now counted within = absurd within

pub reads_short : (outcome : Result Ended Stop) (is : Status) (held held_now : Option (List ℕ)) (count count_now : ℕ) → IfOk outcome (λ ended. CountsBytes ended.ending count count_now) → Closes outcome is held held_now → IsReadWithin is
    → count_now ≤ count + script_limit
reads_short (Ok ended) is held held_now count count_now ok closes within = short_status ended.ending ended.refused count count_now ok (subst IsReadWithin closes.0 within)
reads_short (Err stops.StoreFailed) is held held_now count count_now ok closes within = absurd (subst IsReadWithin closes.0 within)
reads_short (Err stops.WriteFailed) is held held_now count count_now ok closes within = absurd (subst IsReadWithin closes.0 within)
reads_short (Err stops.NoMem) is held held_now count count_now ok closes within = absurd (subst IsReadWithin closes.0 within)
reads_short (Err (stops.Damaged damage)) status.Good held held_now count count_now ok closes within = absurd closes
reads_short (Err (stops.Damaged damage)) status.SomeRefused held held_now count count_now ok closes within = absurd closes
reads_short (Err (stops.Damaged damage)) status.ReadFault held held_now count count_now ok closes within = absurd closes
reads_short (Err (stops.Damaged damage)) status.Usage held held_now count count_now ok closes within = absurd within
reads_short (Err (stops.Damaged damage)) status.WriteFault held held_now count count_now ok closes within = absurd within
reads_short (Err (stops.Damaged damage)) status.StoreFault held held_now count count_now ok closes within = absurd within
reads_short (Err (stops.Damaged damage)) status.Damaged held held_now count count_now ok closes within = absurd within
reads_short (Err (stops.Damaged damage)) status.NoMem held held_now count count_now ok closes within = absurd within
reads_short (Err (stops.Damaged damage)) status.TooLong held held_now count count_now ok closes within = absurd within

-- behind the clients
pub counted_ending : (outcome : Result Ended Stop) (ending : Ending) (count count_now : ℕ) → CountsBytes ending count count_now → IfOk outcome (λ ended. ended.ending ≡ ending) → IfOk outcome (λ ended. CountsBytes ended.ending count count_now)
counted_ending outcome ending count count_now counted same = IfOk-weaker outcome _ _ (λ ended is. subst (λ (e : Ending). CountsBytes e count count_now) (sym is) counted) same
