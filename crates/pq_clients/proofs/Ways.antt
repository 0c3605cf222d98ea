-- From what an answer led to, to a way on of the definitions, over every store.
use Rattle.std.proofs.Common.{◌≡◌, ℕ, List, Bool, true, false, Result, Ok, Err, refl, sym, ap, ◌∙◌, subst}
use Rattle.std.specs.Prelude.{IfOk, if◌then◌else◌}
use Rattle.pq_base.specs.declared.list.NoMem.{NoMem}
use Rattle.pq_clients.specs.declared.halt.Halt.{Halt}
use Rattle.pq_clients.specs.declared.stage.Course.{Course}
use Rattle.pq_clients.specs.Flights.{Flight}
use Rattle.pq_store.specs.Content.{Content}
use Rattle.pq_clients.specs.Goes.{Spot, Goes, Memory}
use Rattle.pq_clients.specs.Seen.{seen_course}
use Rattle.pq_schema.specs.declared.table.Table.{Table}
use Rattle.pq_clients.specs.InFlight.{StepsFrom}
use Rattle.pq_clients.specs.Clients.{Stage, Flying}
use Rattle.pq_clients.specs.Steps.{Then}
use Rattle.pq_clients.proofs.Going.{follow, starved}

-- one of two ways
abbrev pub IsOne : Flight → (Bool → Then) → Course → Type 0
IsOne f to course = (b : Bool) × (seen_course f course ≡ to b)

-- memory for what an answer leads to
pub some_way : (f : Flight) (to : Bool → Then) (b : Bool) (made : Result Course NoMem) (r : Result Course Halt)
    → IfOk made (λ course. seen_course f course ≡ to b) → Memory made r → IfOk r (IsOne f to)
some_way f to b (Ok course) r is memory = subst (λ (z : Result Course Halt). IfOk z (IsOne f to)) (sym memory) (b, is)
some_way f to b (Err e) r is memory = subst (λ (z : Result Course Halt). IfOk z (IsOne f to)) (sym memory) tt

-- a call behind which the write goes on as it was given
pub pass_way : (f : Flight) (r : Result Course Halt) (pass : Course) (to : Bool → Then)
    → IfOk r (λ course. (f : Flight) → seen_course f course ≡ seen_course f pass) → seen_course f pass ≡ to true → IfOk r (IsOne f to)
pass_way f (Ok k) pass to is same = (true, is f ∙ same)
pass_way f (Err e) pass to is same = tt

two : (b : Bool) (one more lost gone : Then) → one ≡ more → lost ≡ gone → (if b then one else lost) ≡ (if b then more else gone)
two true one more lost gone first second = first
two false one more lost gone first second = second

-- the same two ways by other words
pub own_way : (f : Flight) (r : Result Course Halt) (one more lost gone : Then) → one ≡ more → lost ≡ gone
    → IfOk r (IsOne f (λ (b : Bool). if b then one else lost)) → IfOk r (IsOne f (λ (b : Bool). if b then more else gone))
own_way f (Ok k) one more lost gone first second is = (is.0, is.1 ∙ two is.0 one more lost gone first second)
own_way f (Err e) one more lost gone first second is = tt

-- an answer that changes nothing, and then memory for what it leads to
pub led_by : {X S U : Type 0} (show : S → U) (test other : Content → X) (to : X → U) (before after : Spot) (x : X) (made : Result S NoMem) (r : Result S Halt)
    → Goes (λ (y : X). y) (λ (c : Content). (c, test c)) before after (Ok x) → ((c : Content) → test c ≡ other c)
    → IfOk made (λ s. show s ≡ to x) → Memory made r
    → Goes show (λ (c : Content). (c, to (other c))) before after r
led_by {X} show test other to before after x (Ok s) r goes same is memory =
    subst (Goes show (λ (c : Content). (c, to (other c))) before after) (sym memory)
    (follow (λ (y : X). y) (λ (c : Content). (c, test c)) show (λ (c : Content). (c, to (other c))) before after x s goes
    (λ c e. (is ∙ ap to (e ∙ same c), refl)))
led_by {X} show test other to before after x (Err e) r goes same is memory =
    subst (Goes show (λ (c : Content). (c, to (other c))) before after) (sym memory)
    (starved (λ (y : X). y) (λ (c : Content). (c, test c)) show (λ (c : Content). (c, to (other c))) before after x goes (λ c. refl))

pub found_way : {X : Type 0} (f : Flight) (to : X → Then) (x : X) (made : Result Course NoMem) (r : Result Course Halt)
    → IfOk made (λ course. seen_course f course ≡ to x) → Memory made r → IfOk r (λ course. (y : X) × (seen_course f course ≡ to y))
found_way {X} f to x (Ok course) r is memory = subst (λ (z : Result Course Halt). IfOk z (λ (k : Course). (y : X) × (seen_course f k ≡ to y))) (sym memory) (x, is)
found_way {X} f to x (Err e) r is memory = subst (λ (z : Result Course Halt). IfOk z (λ (k : Course). (y : X) × (seen_course f k ≡ to y))) (sym memory) tt

-- at one of those that it holds of
pub ok_at : {A E B : Type 0} (P : A → B → Type 0) (r : Result A E) → IfOk r (λ x. (b : B) → P x b) → (b : B) → IfOk r (λ x. P x b)
ok_at P (Ok x) is b = is b
ok_at P (Err e) is b = tt

-- a step of a stage that is known by other words
module _ (tables : List Table) (client number : ℕ) (f : Flight) (one other : Stage) (r : Result Course Halt) (same : one ≡ other) where
  pub of_stage : (before after : Spot) → StepsFrom tables client number f.write (Flying f one) f before after r
      → StepsFrom tables client number f.write (Flying f other) f before after r
  of_stage before after steps = subst (λ (s : Stage). StepsFrom tables client number f.write (Flying f s) f before after r) same steps
