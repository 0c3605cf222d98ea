-- Each step is its one call, and goes on by the call's answer.
use Rattle.std.proofs.Common.{◌≡◌, ℕ, Bool, true, false, cond, List, Option, Some, None, refl, ap}
use Rattle.std.specs.FinMap.{get}
use Rattle.pq_schema.specs.declared.table.Table.{Table}
use Rattle.pq_store.specs.Content.{Content, written_content}
use Rattle.pq_index_keep.specs.declared.write.Write.{Write}
use Rattle.pq_clients.specs.declared.outcome.Outcome.TheVariants as outcome
use Rattle.pq_clients.specs.Held.{held_value}
use Rattle.pq_clients.specs.Flights.{Flight, Parent, Child, flight_key, new_code, stale_entries, flight_checks}
use Rattle.pq_clients.specs.Clients.{Stage, Checking, Adding, Testing, Putting, Clearing, Freeing, Undoing, Releasing, Next, Reading, Taking, Looking, Flying, View}
use Rattle.pq_clients.specs.Steps.{Then, On, Puts, Ends, is_just, damaged, refused, checking, clearing, read_on, flown, gone_on, if_own}
use Rattle.pq_clients.specs.Calling.{way}
use Rattle.pq_clients.specs.OneCall.{answer_of, left_by, stage_call, stage_passed, next_call, next_behind, MakesOneCall}

-- one test for both parts
apart : {A B : Type 0} (b : Bool) (x y : A) (s t : B) → ◌≡◌ {A = A × B} (cond {A = A × B} b (x, s) (y, t)) (cond b x y, cond b s t)
apart true x y s t = refl
apart false x y s t = refl

module _ (tables : List Table) (client number : ℕ) where
  own_call : (f : Flight) (present new : Option (List ℕ)) (next : Then) (c : Content) → if_own tables client number f present c new next
      ≡ (
        cond (is_just (Some (held_value client number present)) (get c (flight_key tables f))) (written_content (flight_key tables f) new c) c,
        cond (is_just (Some (held_value client number present)) (get c (flight_key tables f))) next (damaged (flight_key tables f) None),
      )
  own_call f present new next c =
      apart (is_just (Some (held_value client number present)) (get c (flight_key tables f))) (written_content (flight_key tables f) new c) c next (damaged (flight_key tables f) None)

  stage_is : (f : Flight) (stage : Stage) (c : Content) → flown tables client number f stage c
      ≡ (left_by (stage_call tables client number f stage) c, way tables f stage (stage_passed tables f stage (answer_of (stage_call tables client number f stage) c)))
  stage_is f (Checking (Parent place u at) left) c = refl
  stage_is f (Checking (Child u place front) left) c = refl
  stage_is f (Adding entry left added) c = refl
  stage_is f (Testing place left passed) c = refl
  stage_is f Putting c = own_call f f.read (Some (held_value client number (new_code tables f))) (Puts (Flying f (clearing (stale_entries tables f)))) c
  stage_is f (Clearing entry left) c = refl
  stage_is f Freeing c = own_call f (new_code tables f) (new_code tables f) (Ends outcome.Done) c
  stage_is f (Undoing entry left refusal) c = refl
  stage_is f (Releasing refusal) c = own_call f f.read f.read (refused refusal) c

pub makes_one_call : (tables : List Table) (v : View) (c : Content) → MakesOneCall tables v c
makes_one_call tables v c w at = by v.next
  where
    by : (next : Next) → gone_on tables v next c
        ≡ (left_by (next_call tables v.number v.at w next) c, next_behind tables v.number w next (answer_of (next_call tables v.number v.at w next) c))
    by Reading = ap (λ (o : Option Write). read_on tables v.number o c) at
    by (Taking f) =
        apart (is_just f.read (get c (flight_key tables f))) (written_content (flight_key tables f) (Some (held_value v.number v.at f.read)) c) c
        (On (Flying f (checking tables f (flight_checks tables f)))) (On (Looking f))
    by (Looking f) = refl
    by (Flying f stage) = stage_is tables v.number v.at f stage c
