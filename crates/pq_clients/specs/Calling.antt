-- The one call of a step, of a write that is given.
use Rattle.std.specs.Prelude.{◌≡◌, ℕ, Bool, List, ◌∷◌, Option, Some, None, if◌then◌else◌}
use Rattle.std.specs.FinMap.{get}
use Rattle.pq_schema.specs.declared.table.Table.{Table}
use Rattle.pq_store.specs.Content.{Content, written_content}
use Rattle.pq_index_keep.specs.declared.write.Write.{Write}
use Rattle.pq_clients.specs.declared.outcome.Outcome.TheVariants as outcome
use Rattle.pq_clients.specs.Held.{held_value}
use Rattle.pq_clients.specs.Flights.{Flight, pair_key, flight_key, flight_checks, fresh_entries, stale_entries, check_refusal, test_refusal}
use Rattle.pq_clients.specs.Clients.{Stage, Checking, Adding, Testing, Putting, Clearing, Freeing, Undoing, Releasing, Next, Reading, Taking, Looking, Flying}
use Rattle.pq_clients.specs.Steps.{Then, On, Puts, Ends, is_just, damaged, refused, testing, adding, checking, clearing, undoing, after_read, flown}

abbrev pub taken_from : List Table → ℕ → ℕ → Flight → Content → Content × Then
taken_from tables client number f c =
    if is_just f.read (get c (flight_key tables f))
    then (
      written_content (flight_key tables f) (Some (held_value client number f.read)) c,
      On (Flying f (checking tables f (flight_checks tables f))),
    )
    else (c, On (Looking f))

abbrev pub gone_from : List Table → ℕ → ℕ → Write → Next → Content → Content × Then
gone_from tables client number w Reading c = (c, after_read tables client w (get c (pair_key tables w)))
gone_from tables client number w (Taking f) c = taken_from tables client number f c
gone_from tables client number w (Looking f) c = (c, Ends (outcome.Conflict f.read (get c (flight_key tables f))))
gone_from tables client number w (Flying f stage) c = flown tables client number f stage c

-- ---- over a store that tells no content

-- how a write goes on behind its call, by whether a test passed or a guard held
abbrev pub way : List Table → Flight → Stage → Bool → Then
way tables f (Checking check left) passed =
    if passed then On (Flying f (checking tables f left)) else On (Flying f (Releasing (check_refusal tables f check)))
way tables f (Adding entry left added) done = On (Flying f (adding tables f left (entry ∷ added)))
way tables f (Testing place left passed) room =
    if room then On (Flying f (testing left (place ∷ passed)))
    else On (Flying f (undoing (fresh_entries tables f) (test_refusal tables f place)))
way tables f Putting done =
    if done then Puts (Flying f (clearing (stale_entries tables f))) else damaged (flight_key tables f) None
way tables f (Clearing entry left) done = On (Flying f (clearing left))
way tables f Freeing done = if done then Ends outcome.Done else damaged (flight_key tables f) None
way tables f (Undoing entry left refusal) done = On (Flying f (undoing left refusal))
way tables f (Releasing refusal) done = if done then refused refusal else damaged (flight_key tables f) None

abbrev pub taken_way : List Table → Flight → Bool → Then
taken_way tables f done = if done then On (Flying f (checking tables f (flight_checks tables f))) else On (Looking f)

-- it is how the write goes on behind some answer
abbrev pub IsWay : List Table → ℕ → Write → Next → Then → Type 0
IsWay tables client w Reading goes = (found : Option (List ℕ)) × (goes ≡ after_read tables client w found)
IsWay tables client w (Taking f) goes = (done : Bool) × (goes ≡ taken_way tables f done)
IsWay tables client w (Looking f) goes = (found : Option (List ℕ)) × (goes ≡ Ends (outcome.Conflict f.read found))
IsWay tables client w (Flying f stage) goes = (b : Bool) × (goes ≡ way tables f stage b)
