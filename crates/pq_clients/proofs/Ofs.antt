-- In every schedule the tests of a write at hand are its own, and an INSERT found nothing where another write found a row.
use Rattle.std.proofs.Common.{◌≡◌, List, [], ◌∷◌, Option, Some, None, refl, sym, ap, subst}
use Rattle.std.specs.List.{AllByRecursion, slice_get}
use Rattle.pq_schema.specs.declared.table.Table.{Table}
use Rattle.pq_clients.specs.Clients.{Next, View}
use Rattle.pq_clients.specs.Steps.{stepped}
use Rattle.pq_clients.specs.Runs.{Event, Run, turned, turn, run}
use Rattle.pq_clients.specs.Promises.{IsFresh}
use Rattle.pq_clients.proofs.Leads.{OfNext, step_of}
use Rattle.pq_clients.proofs.Once.{all_map}
use Rattle.pq_clients.proofs.Whole.{at_place, set_place}

module _ (tables : List Table) where
  abbrev pub OfView : View → Type 0
  OfView v = OfNext tables v.next

  turn_of : (r : Run) (e : Event) (o : Option View) → slice_get r.clients e.place ≡ o → AllByRecursion OfView r.clients → AllByRecursion OfView (turned tables r e o).clients
  turn_of r e None is all = all
  turn_of r e (Some v) is all = set_place OfView r.clients e.place (stepped tables v r.content e.fate).view all (step_of tables v r.content e.fate (at_place OfView r.clients e.place v all is))

  pub run_of : (es : List Event) (r : Run) → AllByRecursion OfView r.clients → AllByRecursion OfView (run tables r es).clients
  run_of [] r all = all
  run_of (e ∷ es) r all = run_of es (turn tables r e) (turn_of r e (slice_get r.clients e.place) refl all)

  pub fresh_of : (vs : List View) → AllByRecursion (IsFresh tables) vs → AllByRecursion OfView vs
  fresh_of vs all = all_map (IsFresh tables) OfView vs (λ v h. subst (λ (n : Next). OfNext tables n) (sym (ap (λ (v : View). v.next) h.fresh)) tt) all
