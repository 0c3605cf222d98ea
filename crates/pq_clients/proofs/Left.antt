-- What clients may still be told and put: each step that tells or puts leaves less.
use Rattle.std.proofs.Common.{◌≡◌, ℕ, ◌+◌, ◌-◌, ◌≤◌, Bool, true, false, List, [], ◌∷◌, length, map, Option, Some, None, refl, sym, ap, ◌∙◌, inl, inr, subst, arith}
use Rattle.std.specs.Prelude.{nat_lt, if◌then◌else◌, slice_set}
use Rattle.std.specs.List.{slice_get, sum_by}
use Rattle.std.proofs.lemmas.Option.{slice_get_within, get_or_from_slice_get}
use Rattle.std.proofs.lemmas.List.Sums.{sum_by-set, sum_by-cons, sum_by-le-sum_by}
use Rattle.pq_schema.specs.declared.table.Table.{Table}
use Rattle.pq_base.specs.declared.value.Value.{Value}
use Rattle.pq_base.specs.declared.refusal.Refusal.TheVariants as refusal
use Rattle.pq_content.specs.Tables.{stored_code}
use Rattle.pq_index_keep.specs.declared.write.Write.{Write}
use Rattle.pq_index_keep.specs.declared.write.Write.TheVariants as write
use Rattle.pq_clients.specs.declared.outcome.Outcome.{Outcome}
use Rattle.pq_clients.specs.declared.outcome.Outcome.TheVariants as outcome
use Rattle.pq_clients.specs.declared.outcome.Step.{Step}
use Rattle.pq_clients.specs.declared.outcome.Step.TheVariants as step
use Rattle.pq_clients.specs.declared.outcome.Wrote.{Wrote}
use Rattle.pq_clients.specs.Held.{Cell, Free, Held, cell_of}
use Rattle.pq_clients.specs.Flights.{Flight, table_of, row_made, flight_key, flight_table, pair_key, flight_checks, stale_entries, row_refusal}
use Rattle.pq_clients.specs.Clients.{Stage, Checking, Adding, Testing, Putting, Clearing, Freeing, Undoing, Releasing, Next, Reading, Taking, Looking, Flying, View, is_over}
use Rattle.pq_clients.specs.Runs.{told_by, put_by}
use Rattle.pq_clients.specs.Steps.{Then, On, Puts, Ends, damaged, refused, is_held_by_other, checking, taking_short, after_row, after_code, after_cell, after_read, clearing, is_fault, tells}
use Rattle.pq_clients.specs.Calling.{way, taken_way, IsWay}
use Rattle.pq_clients.specs.Goes.{Spot}
use Rattle.pq_clients.specs.Stepping.{Ended, GoesOn, Follows, TakesWay, MakesCall}
use Rattle.pq_clients.specs.Running.{tells_left, puts_left, was_put}
use Rattle.pq_clients.proofs.Hands.{going_at}
use Rattle.pq_clients.proofs.Granting.{refused_or}

-- ---- how the next step stands to the put

at_most_one : (next : Next) → was_put next ≤ 1
at_most_one Reading = omega arith
at_most_one (Taking f) = omega arith
at_most_one (Looking f) = omega arith
at_most_one (Flying f (Checking check left)) = omega arith
at_most_one (Flying f (Adding entry left added)) = omega arith
at_most_one (Flying f (Testing place left passed)) = omega arith
at_most_one (Flying f Putting) = omega arith
at_most_one (Flying f (Clearing entry left)) = omega arith
at_most_one (Flying f Freeing) = omega arith
at_most_one (Flying f (Undoing entry left why)) = omega arith
at_most_one (Flying f (Releasing why)) = omega arith

cleared : (f : Flight) (left : List (List ℕ)) → was_put (Flying f (clearing left)) ≡ 1
cleared f [] = refl
cleared f (entry ∷ left) = refl

-- a write that was put isn't put again
abbrev PutsOnce : Next → Then → Type 0
PutsOnce next (On after) = was_put next ≤ was_put after
PutsOnce next (Puts after) = (was_put next ≡ 0) × (was_put after ≡ 1)
PutsOnce next (Ends told) = Unit {0}

-- before the put any next step does
abbrev NoPut : Then → Type 0
NoPut (On after) = Unit {0}
NoPut (Puts after) = ⊥
NoPut (Ends told) = Unit {0}

unput : (next : Next) (goes : Then) → was_put next ≡ 0 → NoPut goes → PutsOnce next goes
unput next (On after) none never = omega arith
unput next (Puts after) none never = absurd never
unput next (Ends told) none never = tt

one_of : (P : Then → Type 0) (b : Bool) (x y : Then) → P x → P y → P (if b then x else y)
one_of P true x y px py = px
one_of P false x y px py = py

short_no : (tables : List Table) (f : Flight) (new : Option (List Value)) → NoPut (taking_short tables f new)
short_no tables f None = tt
short_no tables f (Some row) =
    one_of NoPut (nat_lt 4096 (length (stored_code (flight_table tables f) row)))
    (refused (refusal.RowLong (flight_table tables f).name (length (stored_code (flight_table tables f) row)))) (On (Taking f)) tt tt

row_no : (tables : List Table) (w : Write) (read : Option (List ℕ)) (old : Option (List Value)) → NoPut (after_row tables w read old)
row_no tables (write.Insert t row) read None = tt
row_no tables (write.Insert t row) read (Some old) = tt
row_no tables (write.Update t key sets conds) read None = tt
row_no tables (write.Update t key sets conds) read (Some old) =
    refused_or NoPut _ _ (λ why is. tt) (λ none. short_no tables (record { write = write.Update t key sets conds; read = read }) (row_made (write.Update t key sets conds) (Some old)))
row_no tables (write.Delete t key conds) read None = tt
row_no tables (write.Delete t key conds) read (Some old) = refused_or NoPut (row_refusal tables (write.Delete t key conds) old) (On (Taking (record { write = write.Delete t key conds; read = read }))) (λ why is. tt) (λ none. tt)

code_no : (tables : List Table) (w : Write) (code : List ℕ) (row : Option (List Value)) → NoPut (after_code tables w code row)
code_no tables w code None = tt
code_no tables w code (Some row) = row_no tables w (Some code) (Some row)

cell_no : (tables : List Table) (client : ℕ) (w : Write) (value : List ℕ) (cell : Cell) → NoPut (after_cell tables client w value cell)
cell_no tables client w value (Free code) = code_no tables w value _
cell_no tables client w value (Held holder number present) =
    one_of NoPut (is_held_by_other (table_of tables w) client (Held holder number present)) (Ends (outcome.Busy value)) (damaged (pair_key tables w) (Some value)) tt tt

read_no : (tables : List Table) (client : ℕ) (w : Write) (found : Option (List ℕ)) → NoPut (after_read tables client w found)
read_no tables client w None = row_no tables w None None
read_no tables client w (Some value) = cell_no tables client w value (cell_of value)

stage_once : (tables : List Table) (f : Flight) (stage : Stage) (b : Bool) → PutsOnce (Flying f stage) (way tables f stage b)
stage_once tables f (Checking check left) b =
    unput (Flying f (Checking check left)) (way tables f (Checking check left) b) refl (one_of NoPut b _ _ tt tt)
stage_once tables f (Adding entry left added) b = unput (Flying f (Adding entry left added)) (way tables f (Adding entry left added) b) refl tt
stage_once tables f (Testing place left passed) b =
    unput (Flying f (Testing place left passed)) (way tables f (Testing place left passed) b) refl (one_of NoPut b _ _ tt tt)
stage_once tables f Putting b =
    one_of (PutsOnce (Flying f Putting)) b (Puts (Flying f (clearing (stale_entries tables f)))) (damaged (flight_key tables f) None)
    (refl, cleared f (stale_entries tables f)) tt
stage_once tables f (Clearing entry left) b = let e = cleared f left in omega arith
stage_once tables f Freeing b = one_of (PutsOnce (Flying f Freeing)) b (Ends outcome.Done) (damaged (flight_key tables f) None) tt tt
stage_once tables f (Undoing entry left why) b = unput (Flying f (Undoing entry left why)) (way tables f (Undoing entry left why) b) refl tt
stage_once tables f (Releasing why) b =
    one_of (PutsOnce (Flying f (Releasing why))) b (refused why) (damaged (flight_key tables f) None) tt tt

puts_once : (tables : List Table) (client : ℕ) (w : Write) (next : Next) (goes : Then) → IsWay tables client w next goes → PutsOnce next goes
puts_once tables client w Reading goes is = subst (PutsOnce Reading) (sym is.1) (unput Reading _ refl (read_no tables client w is.0))
puts_once tables client w (Taking f) goes is =
    subst (PutsOnce (Taking f)) (sym is.1) (unput (Taking f) (taken_way tables f is.0) refl (one_of NoPut is.0 (On (Flying f (checking tables f (flight_checks tables f)))) (On (Looking f)) tt tt))
puts_once tables client w (Looking f) goes is = subst (PutsOnce (Looking f)) (sym is.1) tt
puts_once tables client w (Flying f stage) goes is = subst (PutsOnce (Flying f stage)) (sym is.1) (stage_once tables f stage is.0)

-- ---- what is left

within : (b : Bool) (n : ℕ) → (if b then 0 else n) ≤ n
within true n = omega arith
within false n = omega arith

most_tells : (v : View) → tells_left v ≤ length v.writes - (v.at - 1)
most_tells v = within (is_over v) (length v.writes - (v.at - 1))

most_puts : (v : View) → puts_left v ≤ length v.writes - (v.at - 1) - was_put v.next
most_puts v = within (is_over v) (length v.writes - (v.at - 1) - was_put v.next)

going_tells : (v : View) → is_over v ≡ false → tells_left v ≡ length v.writes - (v.at - 1)
going_tells v e = rw e refl

going_puts : (v : View) → is_over v ≡ false → puts_left v ≡ length v.writes - (v.at - 1) - was_put v.next
going_puts v e = rw e refl

-- what a step tells and puts, and what is left then
pub record LeavesLess (v left : View) (s : Step) : Type 0 where
  pub told : length (told_by s) + tells_left left ≤ tells_left v
  pub puts : length (put_by s) + puts_left left ≤ puts_left v

went_tells : (v : View) (next : Next) → is_over v ≡ false → tells_left (record v { next = next }) ≤ tells_left v
went_tells v next going =
    let now = going_tells v going in let later = most_tells (record v { next = next }) in omega arith

went_on : (v left : View) (next : Next) (s : Step) → is_over v ≡ false → GoesOn v next step.Moved left s → was_put v.next ≤ was_put next
    → LeavesLess v left s
went_on v left next s going goes puts =
    subst (λ (t : Step). LeavesLess v left t) (sym goes.step) (subst (λ (u : View). LeavesLess v u step.Moved) (sym goes.view) (record {
      told = let told = went_tells v next going in omega arith;
      puts = let now = going_puts v going in let later = most_puts (record v { next = next }) in omega arith;
    }))

put_on : (v left : View) (next : Next) (wrote : Wrote) (s : Step) → is_over v ≡ false → 1 ≤ v.at → GoesOn v next (step.Put wrote) left s
    → was_put v.next ≡ 0 → was_put next ≡ 1 → LeavesLess v left s
put_on v left next wrote s going one goes before after =
    subst (λ (t : Step). LeavesLess v left t) (sym goes.step) (subst (λ (u : View). LeavesLess v u (step.Put wrote)) (sym goes.view) (record {
      told = let told = went_tells v next going in omega arith;
      puts = let there = going_at v going in let now = going_puts v going in let later = most_puts (record v { next = next }) in omega arith;
    }))

ended : (v left : View) (told : Outcome) (s : Step) → is_over v ≡ false → 1 ≤ v.at → Ended v told left s → LeavesLess v left s
ended v left told s going one is =
    subst (λ (t : Step). LeavesLess v left t) (sym is.step) (subst (λ (u : View). LeavesLess v u (tells v told)) (sym is.view) (by_fault (is_fault told)))
  where
    by_fault : (b : Bool) → LeavesLess v (if b then record v { over = Some told } else record v { at = v.at + 1; next = Reading }) (tells v told)
    by_fault true = record {
      told = let there = going_at v going in let now = going_tells v going in omega arith;
      puts = omega arith;
    }
    by_fault false =
        let there = going_at v going in
        let most = at_most_one v.next in
        let now_tells = going_tells v going in
        let now_puts = going_puts v going in
        let later_tells = most_tells (record v { at = v.at + 1; next = Reading }) in
        let later_puts = most_puts (record v { at = v.at + 1; next = Reading }) in
        record { told = omega arith; puts = omega arith }

followed : (v left : View) (goes : Then) (s : Step) → is_over v ≡ false → 1 ≤ v.at → PutsOnce v.next goes → Follows v goes left s → LeavesLess v left s
followed v left (On next) s going one once follows = went_on v left next s going follows once
followed v left (Puts next) s going one once follows = put_on v left next _ s going one follows once.0 once.1
followed v left (Ends outcome.Done) s going one once follows = ended v left _ s going one follows
followed v left (Ends (outcome.Refused why)) s going one once follows = ended v left _ s going one follows
followed v left (Ends (outcome.Busy found)) s going one once follows = ended v left _ s going one follows
followed v left (Ends (outcome.Conflict read found)) s going one once follows = ended v left _ s going one follows
followed v left (Ends outcome.Failed) s going one once follows = ended v left _ s going one follows
followed v left (Ends outcome.NoMem) s going one once follows = ended v left _ s going one follows
followed v left (Ends (outcome.Damaged damage)) s going one once follows = elim follows [
  | inl first ↦ ended v left _ s going one first
  | inr other ↦ ended v left _ s going one other
]

-- a step that tells or puts leaves less to tell or to put, over every store
pub leaves_less : (tables : List Table) (v left : View) (before after : Spot) (s : Step) → 1 ≤ v.at
    → (is_over v ≡ false → TakesWay tables v left s) → MakesCall v left before after s → LeavesLess v left s
leaves_less tables v left before after s one takes calls = by_over (is_over v) refl
  where
    by_over : (b : Bool) → is_over v ≡ b → LeavesLess v left s
    by_over true e =
        let over = calls.over e in
        subst (λ (t : Step). LeavesLess v left t) (sym over.2) (subst (λ (u : View). LeavesLess v u step.Over) (sym over.1)
        (record { told = omega arith; puts = omega arith }))
    by_over false e = elim (takes e) [
      | inl goes ↦ followed v left goes.0 s e one (puts_once tables v.number _ v.next goes.0 goes.1) goes.2
      | inr fell ↦ elim fell [ inl failed ↦ ended v left _ s e one failed | inr starved ↦ ended v left _ s e one starved ]
    ]

-- of all clients, where one takes a step
pub sum_set : (f : View → ℕ) (vs : List View) (place : ℕ) (v left : View) (n : ℕ) → slice_get vs place ≡ Some v → n + f left ≤ f v
    → n + sum_by f (slice_set vs place left) ≤ sum_by f vs
sum_set f vs place v left n at less =
    let within = slice_get_within vs place v at in
    let is = ap f (get_or_from_slice_get vs place v v at) in
    let sums = sum_by-set f vs place left v within in
    omega (arith, is, sums)

pub sum_map : {A B : Type 0} (f : B → ℕ) (g : A → B) (xs : List A) → sum_by f (map g xs) ≡ sum_by (λ x. f (g x)) xs
sum_map f g [] = refl
sum_map {A} f g (x ∷ xs) =
    sum_by-cons f (g x) (map g xs) ∙ ap (λ (n : ℕ). f (g x) + n) (sum_map f g xs) ∙ sym (sum_by-cons (λ (y : A). f (g y)) x xs)

-- there is room for all of it where there is room for one of each write
pub tells_within : (vs : List View) → sum_by tells_left vs ≤ sum_by (λ v. length v.writes) vs
tells_within vs = sum_by-le-sum_by tells_left (λ (v : View). length v.writes) vs (λ v. let most = most_tells v in omega arith)

pub puts_within : (vs : List View) → sum_by puts_left vs ≤ sum_by (λ v. length v.writes) vs
puts_within vs = sum_by-le-sum_by puts_left (λ (v : View). length v.writes) vs (λ v. let most = most_puts v in omega arith)
