-- What a call that may refuse answers, unless memory runs out.
use Rattle.std.specs.Prelude.{◌≡◌, Option, Some, None, Result, Ok, Err}
use Rattle.pq_base.specs.declared.refusal.Refusal.{Refusal}
use Rattle.pq_base.specs.declared.refusal.Stopped.{Stopped}
use Rattle.pq_base.specs.declared.refusal.Stopped.TheVariants.{Refused, NoMem}

-- just what is said
abbrev pub Answers : {A : Type 0} → Result A Stopped → Result A Refusal → Type 0
Answers (Ok answer) said = said ≡ Ok answer
Answers (Err (Refused refusal)) said = said ≡ Err refusal
Answers (Err NoMem) said = Unit {0}

-- a test is passed exactly where there is no refusal
abbrev pub Passes : {A : Type 0} → Result A Stopped → Option Refusal → Type 0
Passes (Ok answer) refusal = refusal ≡ None
Passes (Err (Refused refusal)) found = found ≡ Some refusal
Passes (Err NoMem) found = Unit {0}

-- the first refusal of two
abbrev pub or_else : Option Refusal → Option Refusal → Option Refusal
or_else None next = next
or_else (Some refusal) next = Some refusal

-- a refusal is the one that is said
abbrev pub Refuses : {A : Type 0} → Stopped → Result A Refusal → Type 0
Refuses (Refused refusal) said = said ≡ Err refusal
Refuses NoMem said = Unit {0}
