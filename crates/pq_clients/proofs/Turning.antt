-- From turns of clients to a run of the definitions, and to the calls that it makes.
use Rattle.std.proofs.Common.{◌≡◌, ℕ, zero, suc, ◌+◌, ◌≤◌, ◌<◌, Bool, true, false, List, [], ◌∷◌, ◌++◌, map, length, take, get_or, Option, Some, None, refl, sym, ap, ◌∙◌, inl, inr, ◌⊎◌, subst, arith, eq-or-lt_of_le}
use Rattle.std.specs.Prelude.{IfSome, slice_set}
use Rattle.std.proofs.lemmas.List.{take_more}
use Rattle.pq_base.specs.Members.{In}
use Rattle.pq_schema.specs.declared.table.Table.{Table}
use Rattle.pq_store.specs.Content.{Content, HasRisen}
use Rattle.pq_clients.specs.declared.client.Client.{Client}
use Rattle.pq_clients.specs.declared.outcome.Step.{Step}
use Rattle.pq_clients.specs.declared.outcome.Step.TheVariants as step
use Rattle.pq_clients.specs.declared.outcome.Told.{Told}
use Rattle.pq_clients.specs.declared.outcome.Wrote.{Wrote}
use Rattle.pq_clients.specs.Clients.{View, is_over}
use Rattle.pq_clients.specs.Steps.{Fate, stepped}
use Rattle.pq_clients.specs.Runs.{Event, Run, run, turn, turned, told_by, put_by}
use Rattle.pq_clients.specs.Goes.{Spot}
use Rattle.pq_clients.specs.Stepping.{IsStep, TellsOf, MakesCall}
use Rattle.pq_clients.specs.Running.{Moment, moment, views_of, Turn, Turns, IsRun, LeavesRun, MakesCalls}

-- one turn more
pub turns_more : (tables : List Table) (places : List ℕ) (place : ℕ) (before between after : Moment)
    → Turns tables places before between → Turn tables place between after → Turns tables (places ++ place ∷ []) before after
turns_more tables [] place before between after same turn = (after, subst (λ (m : Moment). Turn tables place m after) (sym same) turn, refl)
turns_more tables (p ∷ ps) place before between after turns turn =
    (turns.0, turns.1, turns_more tables ps place turns.0 between after turns.2 turn)

pub turns_next : (tables : List Table) (order : List ℕ) (i : ℕ) (before between after : Moment) → i < length order
    → Turns tables (take i order) before between → Turn tables (get_or order i 0) between after → Turns tables (take (i + 1) order) before after
turns_next tables order i before between after less turns turn =
    subst (λ (l : List ℕ). Turns tables l before after) (sym (take_more order i 0 less)) (turns_more tables (take i order) (get_or order i 0) before between after turns turn)

take_past : (xs : List ℕ) (i : ℕ) → length xs ≤ i → take i xs ≡ xs
take_past [] zero done = refl
take_past [] (suc i) done = refl
take_past (x ∷ xs) zero done = absurd (omega arith)
take_past (x ∷ xs) (suc i) done = ap (λ (l : List ℕ). x ∷ l) (take_past xs i (omega arith))

pub turns_all : (tables : List Table) (order : List ℕ) (i : ℕ) (before after : Moment) → length order ≤ i
    → Turns tables (take i order) before after → Turns tables order before after
turns_all tables order i before after done turns = subst (λ (l : List ℕ). Turns tables l before after) (take_past order i done) turns

-- ---- a run

abbrev run_of : Content → List View → List Told → List Wrote → Run
run_of c clients told puts = record { content = c; clients = clients; told = told; puts = puts }

same_run : (c : Content) (vs ws : List View) (ts us : List Told) (ps qs : List Wrote) → vs ≡ ws → ts ≡ us → ps ≡ qs → run_of c vs ts ps ≡ run_of c ws us qs
same_run c vs ws ts us ps qs v t p = ap (λ (x : List View). run_of c x ts ps) v ∙ ap (λ (x : List Told). run_of c ws x ps) t ∙ ap (λ (x : List Wrote). run_of c ws us x) p

abbrev Runs : List Table → List ℕ → Content → Moment → Moment → Type 0
Runs tables places c before after = (events : List Event) × (map (λ (e : Event). e.place) events ≡ places)
    × IsRun (run tables (run_of c before.clients before.told before.puts) events) after.spot.told after.clients after.told after.puts

-- what a turn leaves is what its event leaves
turn_is : (tables : List Table) (place : ℕ) (before after : Moment) (c : Content) (fate : Fate) (t : Turn tables place before after)
    → IsStep (stepped tables t.view c fate) after.spot.told t.left t.said
    → run_of (stepped tables t.view c fate).content after.clients after.told after.puts
    ≡ turn tables (run_of c before.clients before.told before.puts) (record { place = place; fate = fate })
turn_is tables place before after c fate t is =
    let e : Event = record { place = place; fate = fate } in
    let r = run_of c before.clients before.told before.puts in
    let a = stepped tables t.view c fate in
    same_run a.content after.clients (slice_set before.clients place a.view) after.told (before.told ++ told_by a.step) after.puts (before.puts ++ put_by a.step)
    (t.others ∙ ap (λ (v : View). slice_set before.clients place v) is.view)
    (t.tells ∙ ap (λ (s : Step). before.told ++ told_by s) is.step)
    (t.puts ∙ ap (λ (s : Step). before.puts ++ put_by s) is.step)
    ∙ sym (ap (turned tables r e) t.at)

runs : (tables : List Table) (places : List ℕ) (before after : Moment) (c : Content) → before.spot.told ≡ Some c → Turns tables places before after → Runs tables places c before after
runs tables [] before after c told same = (
  [],
  refl,
  record {
    content = ap (λ (m : Moment). m.spot.told) (sym same) ∙ told;
    views = ap (λ (m : Moment). m.clients) (sym same);
    says = ap (λ (m : Moment). m.told) (sym same);
    writes = ap (λ (m : Moment). m.puts) (sym same);
  },
)
runs tables (p ∷ ps) before after c told turns =
    let between = turns.0 in
    let t = turns.1 in
    let leaves : (fate : Fate) × IsStep (stepped tables t.view c fate) between.spot.told t.left t.said =
    subst (λ (o : Option Content). IfSome o (λ c. (fate : Fate) × IsStep (stepped tables t.view c fate) between.spot.told t.left t.said)) told t.leaves in
    let rest = runs tables ps between after (stepped tables t.view c leaves.0).content leaves.1.content turns.2 in (
      record { place = p; fate = leaves.0 } ∷ rest.0,
      ap (λ (l : List ℕ). p ∷ l) rest.1,
      subst (λ (r : Run). IsRun (run tables r rest.0) after.spot.told after.clients after.told after.puts) (turn_is tables p before between c leaves.0 t leaves.1) rest.2,
    )

pub leaves_run : (tables : List Table) (places : List ℕ) (before after : Moment) → Turns tables places before after → LeavesRun tables places before after
leaves_run tables places before after turns = by_told before.spot.told refl
  where
    by_told : (o : Option Content) → before.spot.told ≡ o → IfSome o (λ c. Runs tables places c before after)
    by_told None is = tt
    by_told (Some c) is = runs tables places before after c is turns

-- ---- its calls

pub risen_later : (a b c : ℕ) → HasRisen a b → b ≤ c → a ≤ b → HasRisen a c
risen_later a b c risen later before = elim risen [
  | inl less ↦ inl (omega arith)
  | inr top ↦ elim (eq-or-lt_of_le {n = a} {m = c} (omega arith)) [ inl same ↦ inr (omega arith) | inr less ↦ inl less ]
]

pub risen_before : (a b c : ℕ) → a ≤ b → HasRisen b c → HasRisen a c
risen_before a b c before risen = elim risen [ inl less ↦ inl (omega arith) | inr top ↦ inr top ]

told_in : (told : Told) (xs : List Told) (s : Step) → In told (xs ++ told_by s) → In told xs ⊎ TellsOf s told.outcome
told_in told [] step.Moved is = absurd is
told_in told [] (step.Put wrote) is = absurd is
told_in told [] (step.Tells other) is = elim is [ inl same ↦ inr (ap (λ (t : Told). t.outcome) same) | inr none ↦ absurd none ]
told_in told [] step.Over is = absurd is
told_in told (x ∷ xs) s is = elim is [
  | inl same ↦ inl (inl same)
  | inr more ↦ elim (told_in told xs s more) [ inl there ↦ inl (inr there) | inr said ↦ inr said ]
]

one_call : (v left : View) (before after : Spot) (s : Step) → MakesCall v left before after s → after.used.ops ≤ before.used.ops + 1
one_call v left before after s calls = by_over (is_over v) refl
  where
    by_over : (b : Bool) → is_over v ≡ b → after.used.ops ≤ before.used.ops + 1
    by_over true e = let same = ap (λ (x : Spot). x.used.ops) (calls.over e).0 in omega arith
    by_over false e = elim (calls.once e) [ inl one ↦ omega arith | inr none ↦ (let same = none.0 in omega arith) ]

pub makes_calls : (tables : List Table) (places : List ℕ) (before after : Moment) → Turns tables places before after → MakesCalls (length places) before after
makes_calls tables [] before after same =
    subst (λ (m : Moment). MakesCalls 0 before m) same
    (record { few = omega arith; later = omega arith; failed = λ told is failed. inl is; untold = λ e. e })
makes_calls tables (p ∷ ps) before after turns =
    let between = turns.0 in
    let t = turns.1 in
    let rest = makes_calls tables ps between after turns.2 in
    record {
      few = omega (arith, one_call t.view t.left before.spot between.spot t.said t.calls, rest.few);
      later = omega (arith, t.calls.later, rest.later);
      failed = λ told is failed. elim (rest.failed told is failed) [
        | inl there ↦ (elim (told_in told before.told t.said (subst (λ (l : List Told). In told l) t.tells there)) [
          | inl first ↦ inl first
          | inr said ↦ inr (risen_later before.spot.faults between.spot.faults after.spot.faults
              (t.calls.failed (subst (TellsOf t.said) failed said)) rest.later t.calls.later)
        ])
        | inr risen ↦ inr (risen_before before.spot.faults between.spot.faults after.spot.faults t.calls.later risen)
      ];
      untold = λ e. rest.untold (t.calls.untold e);
    }

-- ---- the same moments by other words

abbrev moment_of : Spot → List Client → List Told → List Wrote → Moment
moment_of spot clients told puts = moment spot (views_of clients) told puts

pub turns_same : (tables : List Table) (places : List ℕ) (a b : Spot) (xs xs' ys ys' : List Client) (ts ts' us us' : List Told) (ps ps' qs qs' : List Wrote)
    → xs ≡ xs' → ts ≡ ts' → ps ≡ ps' → ys ≡ ys' → us ≡ us' → qs ≡ qs'
    → Turns tables places (moment_of a xs ts ps) (moment_of b ys us qs) → Turns tables places (moment_of a xs' ts' ps') (moment_of b ys' us' qs')
turns_same tables places a b xs xs' ys ys' ts ts' us us' ps ps' qs qs' x t p y u q turns =
    let first = subst (λ (l : List Client). Turns tables places (moment_of a l ts ps) (moment_of b ys us qs)) x turns in
    let second = subst (λ (l : List Told). Turns tables places (moment_of a xs' l ps) (moment_of b ys us qs)) t first in
    let third = subst (λ (l : List Wrote). Turns tables places (moment_of a xs' ts' l) (moment_of b ys us qs)) p second in
    let fourth = subst (λ (l : List Client). Turns tables places (moment_of a xs' ts' ps') (moment_of b l us qs)) y third in
    let fifth = subst (λ (l : List Told). Turns tables places (moment_of a xs' ts' ps') (moment_of b ys' l qs)) u fourth in
    subst (λ (l : List Wrote). Turns tables places (moment_of a xs' ts' ps') (moment_of b ys' us' l)) q fifth
