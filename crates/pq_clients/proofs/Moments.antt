-- What stands in the lists of a run was said by a step at some moment.
use Rattle.std.proofs.Common.{◌≡◌, ◌⊎◌, inl, inr, List, [], ◌∷◌, ◌++◌, Option, Some, None, refl, ap}
use Rattle.std.specs.List.{slice_get}
use Rattle.pq_base.specs.Members.{In}
use Rattle.pq_schema.specs.declared.table.Table.{Table}
use Rattle.pq_store.specs.Content.{Content}
use Rattle.pq_clients.specs.declared.outcome.Step.{Step}
use Rattle.pq_clients.specs.declared.outcome.Step.TheVariants as step
use Rattle.pq_clients.specs.declared.outcome.Told.{Told}
use Rattle.pq_clients.specs.declared.outcome.Wrote.{Wrote}
use Rattle.pq_clients.specs.Clients.{View}
use Rattle.pq_clients.specs.Steps.{stepped}
use Rattle.pq_clients.specs.Runs.{Event, Run, begun, told_by, put_by, turned, turn, run}
use Rattle.pq_clients.specs.Promises.{WasSaid, SaysAll}

in_either : {A : Type 0} (x : A) (xs ys : List A) → In x (xs ++ ys) → In x xs ⊎ In x ys
in_either x [] ys i = inr i
in_either x (z ∷ xs) ys (inl e) = inl (inl e)
in_either x (z ∷ xs) ys (inr i) = elim (in_either x xs ys i) [ inl i ↦ inl (inr i) | inr i ↦ inr i ]

told_is : (t : Told) (s : Step) → In t (told_by s) → s ≡ step.Tells t
told_is t step.Moved i = absurd i
told_is t (step.Put wrote) i = absurd i
told_is t (step.Tells told) (inl e) = ap (λ (t : Told). step.Tells t) e
told_is t (step.Tells told) (inr i) = absurd i
told_is t step.Over i = absurd i

put_is : (wrote : Wrote) (s : Step) → In wrote (put_by s) → s ≡ step.Put wrote
put_is wrote step.Moved i = absurd i
put_is wrote (step.Put w) (inl e) = ap (λ (w : Wrote). step.Put w) e
put_is wrote (step.Put w) (inr i) = absurd i
put_is wrote (step.Tells told) i = absurd i
put_is wrote step.Over i = absurd i

module _ (tables : List Table) where
  -- the first step of some
  at_first : (r : Run) (e : Event) (es : List Event) (v : View) (s : Step) → slice_get r.clients e.place ≡ Some v → (stepped tables v r.content e.fate).step ≡ s → WasSaid tables r (e ∷ es) s
  at_first r e es v s own says = record { front = []; event = e; back = es; split = refl; view = v; own = own; says = says }

  -- a later one
  later : (r : Run) (e : Event) (es : List Event) (s : Step) → WasSaid tables (turn tables r e) es s → WasSaid tables r (e ∷ es) s
  later r e es s w = record { front = e ∷ w.front; event = w.event; back = w.back; split = ap (λ (es : List Event). e ∷ es) w.split; view = w.view; own = w.own; says = w.says }

  turn_told : (r : Run) (e : Event) (es : List Event) (t : Told) (o : Option View) → slice_get r.clients e.place ≡ o → In t (turned tables r e o).told → In t r.told ⊎ WasSaid tables r (e ∷ es) (step.Tells t)
  turn_told r e es t None is i = inl i
  turn_told r e es t (Some v) is i = elim (in_either t r.told (told_by (stepped tables v r.content e.fate).step) i) [
    | inl i ↦ inl i
    | inr i ↦ inr (at_first r e es v (step.Tells t) is (told_is t (stepped tables v r.content e.fate).step i))
  ]

  turn_put : (r : Run) (e : Event) (es : List Event) (w : Wrote) (o : Option View) → slice_get r.clients e.place ≡ o → In w (turned tables r e o).puts → In w r.puts ⊎ WasSaid tables r (e ∷ es) (step.Put w)
  turn_put r e es w None is i = inl i
  turn_put r e es w (Some v) is i = elim (in_either w r.puts (put_by (stepped tables v r.content e.fate).step) i) [
    | inl i ↦ inl i
    | inr i ↦ inr (at_first r e es v (step.Put w) is (put_is w (stepped tables v r.content e.fate).step i))
  ]

  run_told : (es : List Event) (r : Run) (t : Told) → In t (run tables r es).told → In t r.told ⊎ WasSaid tables r es (step.Tells t)
  run_told [] r t i = inl i
  run_told (e ∷ es) r t i = elim (run_told es (turn tables r e) t i) [
    | inl i ↦ turn_told r e es t (slice_get r.clients e.place) refl i
    | inr w ↦ inr (later r e es (step.Tells t) w)
  ]

  run_put : (es : List Event) (r : Run) (w : Wrote) → In w (run tables r es).puts → In w r.puts ⊎ WasSaid tables r es (step.Put w)
  run_put [] r w i = inl i
  run_put (e ∷ es) r w i = elim (run_put es (turn tables r e) w i) [
    | inl i ↦ turn_put r e es w (slice_get r.clients e.place) refl i
    | inr x ↦ inr (later r e es (step.Put w) x)
  ]

  pub says_all : (c : Content) (clients : List View) (events : List Event) → SaysAll tables (begun c clients) events
  says_all c clients events = record {
    told = λ t i. elim (run_told events (begun c clients) t i) [ inl none ↦ absurd none | inr w ↦ w ];
    puts = λ wrote i. elim (run_put events (begun c clients) wrote i) [ inl none ↦ absurd none | inr w ↦ w ];
  }
