-- From what a step's call left and what the client made of it to a step of the definitions.
use Rattle.std.proofs.Common.{◌≡◌, ℕ, Bool, true, false, List, Option, Some, None, Result, Ok, Err, refl, sym, ap, ◌∙◌, inl, inr, ◌⊎◌, subst, arith}
use Rattle.std.specs.Prelude.{IfSome, if◌then◌else◌, option_map}
use Rattle.std.specs.FinMap.{get}
use Rattle.pq_schema.specs.declared.table.Table.{Table}
use Rattle.pq_store.specs.Content.{Content, written_content}
use Rattle.pq_index_keep.specs.declared.write.Write.{Write}
use Rattle.pq_clients.specs.declared.halt.Halt.{Halt}
use Rattle.pq_clients.specs.declared.halt.Halt.TheVariants as halt
use Rattle.pq_clients.specs.declared.outcome.Outcome.{Outcome}
use Rattle.pq_clients.specs.declared.outcome.Outcome.TheVariants as outcome
use Rattle.pq_clients.specs.declared.outcome.Step.{Step}
use Rattle.pq_clients.specs.declared.outcome.Step.TheVariants as step
use Rattle.pq_clients.specs.declared.stage.Course.{Course}
use Rattle.pq_clients.specs.declared.stage.Course.TheVariants as course
use Rattle.pq_clients.specs.declared.stage.Ending.TheVariants as ending
use Rattle.pq_clients.specs.Held.{held_value}
use Rattle.pq_clients.specs.Flights.{Flight, flight_key, new_code, stale_entries}
use Rattle.pq_clients.specs.Clients.{Stage, Checking, Adding, Testing, Putting, Clearing, Freeing, Undoing, Releasing, Next, Reading, Taking, Looking, Flying, View, is_over, write_at}
use Rattle.pq_clients.specs.Steps.{Then, On, Puts, Ends, After, Fate, Answers, NotDone, DoneUnseen, NoMemory, is_just, damaged, refused, clearing, flown, read_on, gone_on, after_call, met, stepped}
use Rattle.pq_clients.specs.Goes.{Spot, Goes}
use Rattle.pq_clients.specs.Seen.{seen_course}
use Rattle.pq_clients.specs.Stepping.{Ended, Follows, Concludes, IsStep, LeavesStep, TellsOf, MakesCall}

-- where damage ends a write the content is as it was
abbrev IsCalm : Content → Content × Then → Type 0
IsCalm c (d, Ends (outcome.Damaged damage)) = d ≡ c
IsCalm c _ = Unit {0}

calm_same : (c : Content) (goes : Then) → IsCalm c (c, goes)
calm_same c (On next) = tt
calm_same c (Puts next) = tt
calm_same c (Ends outcome.Done) = tt
calm_same c (Ends (outcome.Refused why)) = tt
calm_same c (Ends (outcome.Busy found)) = tt
calm_same c (Ends (outcome.Conflict read found)) = tt
calm_same c (Ends outcome.Failed) = tt
calm_same c (Ends outcome.NoMem) = tt
calm_same c (Ends (outcome.Damaged damage)) = refl

calm_if : (c d : Content) (goes : Then) (b : Bool) (key : List ℕ) → IsCalm c (d, goes) → IsCalm c (if b then (d, goes) else (c, damaged key None))
calm_if c d goes true key calm = calm
calm_if c d goes false key calm = refl

calm_taken : (c d : Content) (one other : Next) (b : Bool) → IsCalm c (if b then (d, On one) else (c, On other))
calm_taken c d one other true = tt
calm_taken c d one other false = tt

calm_flown : (tables : List Table) (client number : ℕ) (f : Flight) (stage : Stage) (c : Content) → IsCalm c (flown tables client number f stage c)
calm_flown tables client number f (Checking check left) c = calm_same c _
calm_flown tables client number f (Adding entry left added) c = tt
calm_flown tables client number f (Testing place left passed) c = calm_same c _
calm_flown tables client number f Putting c =
    calm_if c (written_content (flight_key tables f) (Some (held_value client number (new_code tables f))) c) (Puts (Flying f (clearing (stale_entries tables f))))
    (is_just (Some (held_value client number f.read)) (get c (flight_key tables f))) (flight_key tables f) tt
calm_flown tables client number f (Clearing entry left) c = tt
calm_flown tables client number f Freeing c =
    calm_if c (written_content (flight_key tables f) (new_code tables f) c) (Ends outcome.Done)
    (is_just (Some (held_value client number (new_code tables f))) (get c (flight_key tables f))) (flight_key tables f) tt
calm_flown tables client number f (Undoing entry left why) c = tt
calm_flown tables client number f (Releasing why) c =
    calm_if c (written_content (flight_key tables f) f.read c) (refused why)
    (is_just (Some (held_value client number f.read)) (get c (flight_key tables f))) (flight_key tables f) tt

calm : (tables : List Table) (v : View) (next : Next) (c : Content) → IsCalm c (gone_on tables v next c)
calm tables v Reading c = calm_read (write_at v.writes v.at)
  where
    calm_read : (w : Option Write) → IsCalm c (read_on tables v.number w c)
    calm_read None = tt
    calm_read (Some w) = calm_same c _
calm tables v (Taking f) c = calm_taken c _ _ _ (is_just f.read (get c (flight_key tables f)))
calm tables v (Looking f) c = tt
calm tables v (Flying f stage) c = calm_flown tables v.number v.at f stage c

module _ (tables : List Table) (v left : View) (s : Step) (c : Content) where
  -- what follows a call that answered is the step where it answers, or the one for want of memory
  followed : (gone : Content × Then) → Follows v gone.1 left s → IsCalm c gone
      → IsStep (after_call v gone) (Some gone.0) left s ⊎ IsStep (met tables v c NoMemory) (Some gone.0) left s
  followed (d, On next) is calm = inl (record { content = refl; view = is.view; step = is.step })
  followed (d, Puts next) is calm = inl (record { content = refl; view = is.view; step = is.step })
  followed (d, Ends outcome.Done) is calm = inl (record { content = refl; view = is.view; step = is.step })
  followed (d, Ends (outcome.Refused why)) is calm = inl (record { content = refl; view = is.view; step = is.step })
  followed (d, Ends (outcome.Busy found)) is calm = inl (record { content = refl; view = is.view; step = is.step })
  followed (d, Ends (outcome.Conflict read found)) is calm = inl (record { content = refl; view = is.view; step = is.step })
  followed (d, Ends outcome.Failed) is calm = inl (record { content = refl; view = is.view; step = is.step })
  followed (d, Ends outcome.NoMem) is calm = inl (record { content = refl; view = is.view; step = is.step })
  followed (d, Ends (outcome.Damaged damage)) is calm = elim is [
    | inl e ↦ inl (record { content = refl; view = e.view; step = e.step })
    | inr e ↦ inr (record { content = ap Some calm; view = e.view; step = e.step })
  ]

  going : (fate : Fate) → is_over v ≡ false → met tables v c fate ≡ stepped tables v c fate
  going fate e = rw e refl

  -- a step of those that are not over
  abbrev StepsOn : Option Content → Type 0
  StepsOn content = (fate : Fate) × IsStep (stepped tables v c fate) content left s

  steps_by : (fate : Fate) (content : Option Content) → is_over v ≡ false → IsStep (met tables v c fate) content left s → StepsOn content
  steps_by fate content e is = (fate, subst (λ (after : After). IsStep after content left s) (going fate e) is)

  steps_ok : (f : Flight) (course : Course) (content : Option Content) → is_over v ≡ false
      → seen_course f course ≡ (gone_on tables v v.next c).1 → content ≡ Some (gone_on tables v v.next c).0
      → Follows v (seen_course f course) left s → StepsOn content
  steps_ok f course content e same is follows =
      elim (followed (gone_on tables v v.next c) (subst (λ (goes : Then). Follows v goes left s) same follows) (calm tables v v.next c)) [
        | inl step ↦ steps_by Answers content e (subst (λ (k : Option Content). IsStep (after_call v (gone_on tables v v.next c)) k left s) (sym is) step)
        | inr step ↦ steps_by NoMemory content e (subst (λ (k : Option Content). IsStep (met tables v c NoMemory) k left s) (sym is) step)
      ]

  steps_broke : (h : Halt) (content : Option Content) → is_over v ≡ false
      → (content ≡ Some c) ⊎ (content ≡ Some (gone_on tables v v.next c).0) → Ended v outcome.Failed left s → StepsOn content
  steps_broke h content e is ended = elim is [
    | inl same ↦ steps_by NotDone content e (record { content = same; view = ended.view; step = ended.step })
    | inr done ↦ steps_by DoneUnseen content e (record { content = done; view = ended.view; step = ended.step })
  ]

-- over a told content the step is one of the definitions'
pub leaves_step : (tables : List Table) (v : View) (f : Flight) (before after : Spot) (went : Result Course Halt) (left : View) (s : Step)
    → is_over v ≡ false → Goes (seen_course f) (gone_on tables v v.next) before after went → Concludes v f went left s
    → LeavesStep tables v before.told after.told left s
leaves_step tables v f before after went left s going goes concludes = by_told before.told refl
  where
    by_went : (c : Content) → before.told ≡ Some c → (went : Result Course Halt) → Goes (seen_course f) (gone_on tables v v.next) before after went
        → Concludes v f went left s → (fate : Fate) × IsStep (stepped tables v c fate) after.told left s
    by_went c e (Ok course) goes concludes =
        steps_ok tables v left s c f course after.told going
        (subst (λ (o : Option Content). IfSome o (λ c. seen_course f course ≡ (gone_on tables v v.next c).1)) e goes.0)
        (goes.1.told ∙ ap (option_map (λ (c : Content). (gone_on tables v v.next c).0)) e) concludes
    by_went c e (Err halt.Failed) goes concludes =
        steps_broke tables v left s c halt.Failed after.told going
        (elim goes.told [ inl same ↦ inl (same ∙ e) | inr done ↦ inr (done ∙ ap (option_map (λ (c : Content). (gone_on tables v v.next c).0)) e) ]) concludes
    by_went c e (Err halt.NoMem) goes concludes =
        steps_by tables v left s c NoMemory after.told going (record { content = goes.told ∙ e; view = concludes.view; step = concludes.step })

    by_told : (o : Option Content) → before.told ≡ o → IfSome o (λ c. (fate : Fate) × IsStep (stepped tables v c fate) after.told left s)
    by_told None e = tt
    by_told (Some c) e = by_went c e went goes concludes

pub differ : true ≡ false → ⊥
differ e = cc

unlike : outcome.NoMem ≡ outcome.Failed → ⊥
unlike e = cc

tells_other : (v : View) (told : Outcome) (left : View) (s : Step) → Ended v told left s → TellsOf s outcome.Failed → told ≡ outcome.Failed
tells_other v told left s ended is = subst (λ (t : Step). TellsOf t outcome.Failed) ended.step is

-- a call that answered never leads to Failed
sober : (v : View) (f : Flight) (course : Course) (left : View) (s : Step) → Follows v (seen_course f course) left s → TellsOf s outcome.Failed → ⊥
sober v f (course.On next) left s follows is = subst (λ (t : Step). TellsOf t outcome.Failed) follows.step is
sober v f (course.Takes read) left s follows is = subst (λ (t : Step). TellsOf t outcome.Failed) follows.step is
sober v f (course.Puts next) left s follows is = subst (λ (t : Step). TellsOf t outcome.Failed) follows.step is
sober v f (course.Ends ending.Done) left s follows is = let e = tells_other v _ left s follows is in cc
sober v f (course.Ends (ending.Refused refusal)) left s follows is = let e = tells_other v _ left s follows is in cc
sober v f (course.Ends (ending.Busy found)) left s follows is = let e = tells_other v _ left s follows is in cc
sober v f (course.Ends (ending.Conflict read found)) left s follows is = let e = tells_other v _ left s follows is in cc
sober v f (course.Ends (ending.Damaged damage)) left s follows is = elim follows [
  | inl ended ↦ (let e = tells_other v _ left s ended is in cc)
  | inr ended ↦ (let e = tells_other v _ left s ended is in cc)
]

-- a step that made its call, over every store
pub makes_call : (v : View) (f : Flight) (gone : Content → Content × Then) (before after : Spot) (went : Result Course Halt) (left : View) (s : Step)
    → is_over v ≡ false → Goes (seen_course f) gone before after went → Concludes v f went left s → MakesCall v left before after s
makes_call v f gone before after (Ok course) left s going goes concludes = record {
  over = λ e. absurd (differ (sym e ∙ going));
  once = λ e. inl goes.1.once;
  later = goes.1.later;
  failed = λ told. absurd (sober v f course left s concludes told);
  untold = λ e. goes.1.told ∙ ap (option_map (λ (c : Content). (gone c).0)) e;
}
makes_call v f gone before after (Err halt.Failed) left s going goes concludes = record {
  over = λ e. absurd (differ (sym e ∙ going));
  once = λ e. inl goes.once;
  later = goes.later;
  failed = λ told. goes.risen;
  untold = λ e. elim goes.told [ inl same ↦ same ∙ e | inr done ↦ done ∙ ap (option_map (λ (c : Content). (gone c).0)) e ];
}
makes_call v f gone before after (Err halt.NoMem) left s going goes concludes = record {
  over = λ e. absurd (differ (sym e ∙ going));
  once = λ e. elim goes.once [ inl same ↦ inr (same, subst (λ (t : Step). TellsOf t outcome.NoMem) (sym concludes.step) refl) | inr one ↦ inl one ];
  later = goes.later;
  failed = λ told. absurd (unlike (subst (λ (t : Step). TellsOf t outcome.Failed) concludes.step told));
  untold = λ e. goes.told ∙ e;
}

-- a step of a client that is over
pub over_leaves : (tables : List Table) (v : View) (told : Option Content) → is_over v ≡ true → LeavesStep tables v told told v step.Over
over_leaves tables v None e = tt
over_leaves tables v (Some c) e = (Answers, rw e (record { content = refl; view = refl; step = refl }))

pub over_calls : (v : View) (at : Spot) → is_over v ≡ true → MakesCall v v at at step.Over
over_calls v at e = record {
  over = λ is. (refl, refl, refl);
  once = λ is. absurd (differ (sym e ∙ is));
  later = omega arith;
  failed = λ is. absurd is;
  untold = λ is. is;
}
