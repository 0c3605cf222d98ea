-- A write makes few calls, in every schedule.
use Rattle.std.proofs.Common.{◌≡◌, ℕ, zero, suc, ◌+◌, ◌≤◌, ◌==◌, nat_lt, Bool, true, false, cond, not, ◌&&◌, List, [], ◌∷◌, Option, Some, None, refl, sym, ap, ◌∙◌, subst, arith}
use Rattle.std.specs.Prelude.{slice_set}
use Rattle.std.specs.List.{slice_get}
use Rattle.std.proofs.lemmas.Bool.{eqb-true, eqb-false, eq-eqb, ne_eqb}
use Rattle.pq_schema.specs.declared.table.Table.{Table}
use Rattle.pq_store.specs.Content.{Content}
use Rattle.pq_index_keep.proofs.Inserting.{each_by}
use Rattle.pq_index_keep.specs.declared.write.Write.{Write}
use Rattle.pq_clients.specs.Clients.{Next, Reading, View, write_at, is_over}
use Rattle.pq_clients.specs.Steps.{stepped}
use Rattle.pq_clients.specs.Runs.{Event, Run, begun, turned}
use Rattle.pq_clients.specs.Promises.{IsFresh, AreFresh, calls_of_write, is_step_of, steps_of, HasFewCalls}
use Rattle.pq_clients.proofs.Fewer.{calls_at, calls_to_come, one_at, no_more, step_comes, step_writes}
use Rattle.pq_clients.proofs.Once.{step_number}
use Rattle.pq_clients.proofs.Whole.{Differ, differ_from, differ_with, at_place}

-- ---- places of a list

pub set_here : {A : Type 0} (xs : List A) (p : ℕ) (x y : A) → slice_get xs p ≡ Some x → slice_get (slice_set xs p y) p ≡ Some y
set_here [] p x y is = absurd (cc)
set_here (z ∷ xs) zero x y is = refl
set_here (z ∷ xs) (suc p) x y is = set_here xs p x y is

pub set_apart : {A : Type 0} (xs : List A) (p q : ℕ) (y : A) → (p ≡ q → ⊥) → slice_get (slice_set xs p y) q ≡ slice_get xs q
set_apart [] p q y ne = refl
set_apart (x ∷ xs) zero zero y ne = absurd (ne refl)
set_apart (x ∷ xs) zero (suc q) y ne = refl
set_apart (x ∷ xs) (suc p) zero y ne = refl
set_apart (x ∷ xs) (suc p) (suc q) y ne = set_apart xs p q y (λ e. ne (ap suc e))

-- clients at different places have different numbers
numbers_apart : (vs : List View) (p q : ℕ) (u v : View) → Differ vs → slice_get vs p ≡ Some u → slice_get vs q ≡ Some v → (p ≡ q → ⊥) → (u.number == v.number) ≡ false
numbers_apart [] p q u v d here there ne = absurd (cc)
numbers_apart (x ∷ xs) zero zero u v d here there ne = absurd (ne refl)
numbers_apart (x ∷ xs) zero (suc q) u v d here there ne =
    let same : x ≡ u = cc in
    subst (λ (x : View). (x.number == v.number) ≡ false) same (at_place (λ (w : View). (x.number == w.number) ≡ false) xs q v d.0 there)
numbers_apart (x ∷ xs) (suc p) zero u v d here there ne =
    let same : x ≡ v = cc in
    let apart = at_place (λ (w : View). (x.number == w.number) ≡ false) xs p u d.0 here in
    subst (λ (x : View). (u.number == x.number) ≡ false) same (ne_eqb u.number x.number (λ e. eqb-false x.number u.number apart (sym e)))
numbers_apart (x ∷ xs) (suc p) (suc q) u v d here there ne = numbers_apart xs p q u v d.1 here there (λ e. ne (ap suc e))

module _ (tables : List Table) where
  abbrev FewLeft : List Event → Type 0
  FewLeft es = (r : Run) (p : ℕ) (v : View) (number : ℕ) (w : Write) → Differ r.clients → slice_get r.clients p ≡ Some v → write_at v.writes number ≡ Some w
      → steps_of tables r es v.number number ≤ calls_to_come tables w number v

  own_step : (v : View) (number : ℕ) → cond {A = ℕ} (is_step_of (Some v) v.number number) 1 0 ≡ one_at tables number v
  own_step v number = ap (λ b. cond {A = ℕ} (b && v.at == number && not (is_over v)) 1 0) (eq-eqb v.number v.number refl)

  other_step : (u : View) (n number : ℕ) → (u.number == n) ≡ false → cond {A = ℕ} (is_step_of (Some u) n number) 1 0 ≡ 0
  other_step u n number apart = ap (λ b. cond {A = ℕ} (b && u.at == number && not (is_over u)) 1 0) apart

  turn_few : (e : Event) (es : List Event) → FewLeft es → (r : Run) (p : ℕ) (v : View) (number : ℕ) (w : Write) → Differ r.clients → slice_get r.clients p ≡ Some v → write_at v.writes number ≡ Some w
      → (o : Option View) → slice_get r.clients e.place ≡ o → cond (is_step_of o v.number number) 1 0 + steps_of tables (turned tables r e o) es v.number number ≤ calls_to_come tables w number v
  turn_few e es rest r p v number w d is at None there = omega (arith, rest r p v number w d is at)
  turn_few e es rest r p v number w d is at (Some u) there = by (e.place == p) refl
    where
      behind : View
      behind = (stepped tables u r.content e.fate).view

      same_number : behind.number ≡ u.number
      same_number = step_number tables u r.content e.fate

      differs : Differ (slice_set r.clients e.place behind)
      differs = differ_with r.clients e.place u behind d there same_number

      after : Run
      after = turned tables r e (Some u)

      own : e.place ≡ p → u ≡ v → cond (is_step_of (Some u) v.number number) 1 0 + steps_of tables after es v.number number ≤ calls_to_come tables w number v
      own place same =
          let number_is : behind.number ≡ v.number = subst (λ (w : View). behind.number ≡ w.number) same same_number in
          let writes_are : behind.writes ≡ v.writes = subst (λ (w : View). behind.writes ≡ w.writes) same (step_writes tables u r.content e.fate) in
          let left = rest after p behind number w differs (subst (λ q. slice_get (slice_set r.clients e.place behind) q ≡ Some behind) place (set_here r.clients e.place u behind there)) (ap (λ (ws : List Write). write_at ws number) writes_are ∙ at) in
          let left_v : steps_of tables after es v.number number ≤ calls_to_come tables w number behind = subst (λ n. steps_of tables after es n number ≤ calls_to_come tables w number behind) number_is left in
          let comes = step_comes tables w number u (ap (λ (v : View). write_at v.writes number) same ∙ at) r.content e.fate in
          let one : cond (is_step_of (Some u) v.number number) 1 0 ≡ one_at tables number u = subst (λ (w : View). cond {A = ℕ} (is_step_of (Some u) w.number number) 1 0 ≡ one_at tables number u) same (own_step u number) in
          let whole : calls_to_come tables w number u ≡ calls_to_come tables w number v = ap (calls_to_come tables w number) same in
          total (cond (is_step_of (Some u) v.number number) 1 0) (one_at tables number u) (steps_of tables after es v.number number) (calls_to_come tables w number behind) (calls_to_come tables w number u) (calls_to_come tables w number v) one left_v comes whole
        where
          total : (x y steps a u v : ℕ) → x ≡ y → steps ≤ a → a + y ≤ u → u ≡ v → x + steps ≤ v
          total x y steps a u v e f g h = omega arith

      other : (e.place ≡ p → ⊥) → cond (is_step_of (Some u) v.number number) 1 0 + steps_of tables after es v.number number ≤ calls_to_come tables w number v
      other ne =
          let left = rest after p v number w differs (set_apart r.clients e.place p behind ne ∙ is) at in
          let none = other_step u v.number number (numbers_apart r.clients e.place p u v d there is ne) in
          none_first (cond (is_step_of (Some u) v.number number) 1 0) (steps_of tables after es v.number number) (calls_to_come tables w number v) none left
        where
          none_first : (x steps n : ℕ) → x ≡ 0 → steps ≤ n → x + steps ≤ n
          none_first x steps n e h = omega arith

      by : (b : Bool) → (e.place == p) ≡ b → cond (is_step_of (Some u) v.number number) 1 0 + steps_of tables after es v.number number ≤ calls_to_come tables w number v
      by true place =
          let here = eqb-true e.place p place in
          let both : ◌≡◌ {A = Option View} (Some u) (Some v) = sym there ∙ ap (slice_get r.clients) here ∙ is in
          let same : u ≡ v = cc in
          own here same
      by false place = other (eqb-false e.place p place)

  steps_few : (es : List Event) → FewLeft es
  steps_few [] r p v number w d is at = omega arith
  steps_few (e ∷ es) r p v number w d is at = turn_few e es (steps_few es) r p v number w d is at (slice_get r.clients e.place) refl

  -- a client that has taken no step may call as often as its writes may
  all_to_come : (w : Write) (number : ℕ) (v : View) → v.next ≡ Reading → calls_to_come tables w number v ≤ calls_of_write tables w
  all_to_come w number v reading =
      omega (arith, no_more tables (is_over v) (calls_at tables w number v.at v.next), subst (λ (next : Next). calls_at tables w number v.at next ≤ calls_of_write tables w) (sym reading) (most (v.at == number) (nat_lt v.at number) (calls_of_write tables w)))
    where
      most : (a b : Bool) (n : ℕ) → cond a n (cond b n 0) ≤ n
      most true b n = omega arith
      most false true n = omega arith
      most false false n = omega arith

  -- each write of each client makes few calls
  pub few_calls : (c : Content) (clients : List View) (events : List Event) → AreFresh tables clients → HasFewCalls tables (begun c clients) events
  few_calls c clients events fresh p v number w is at =
      let own : IsFresh tables v = at_place (IsFresh tables) clients p v (each_by (IsFresh tables) clients fresh.each) is in
      let left = steps_few events (begun c clients) p v number w (differ_from clients fresh.differ) is at in
      omega (arith, left, all_to_come w number v (ap (λ (v : View). v.next) own.fresh))
