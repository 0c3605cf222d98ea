-- The present tables are those at entry, changed by the writes that were put.
use Rattle.std.proofs.Common.{◌≡◌, ℕ, zero, suc, ◌==◌, cond, List, [], ◌∷◌, ◌++◌, Option, Some, refl, sym, ap, ◌∙◌, append_assoc}
use Rattle.std.specs.Prelude.{slice_set}
use Rattle.std.specs.List.{AllByRecursion, slice_get}
use Rattle.pq_base.specs.declared.value.Value.{Value}
use Rattle.pq_schema.specs.declared.table.Table.{Table}
use Rattle.pq_store.specs.Content.{Content}
use Rattle.pq_index_keep.specs.declared.write.Write.{Write}
use Rattle.pq_clients.specs.declared.outcome.Wrote.{Wrote}
use Rattle.pq_clients.specs.declared.outcome.Outcome.{Outcome}
use Rattle.pq_clients.specs.declared.outcome.Outcome.TheVariants as outcome
use Rattle.pq_clients.specs.Held.{present_code}
use Rattle.pq_clients.specs.Flights.{flight_key, new_code}
use Rattle.pq_clients.specs.Steps.{is_just}
use Rattle.pq_clients.specs.Clients.{Putting, Next, Flying, View, write_at}
use Rattle.std.specs.FinMap.{get}
use Rattle.pq_clients.specs.Present.{found_write, write_named, writes_named}
use Rattle.pq_clients.specs.Runs.{Run}
use Rattle.pq_clients.proofs.Effects.{effects, effects-append}

-- a client ended by Failed at its put, and the content shows the row that it was to put, or none for a DELETE
abbrev pub shown_write : List Table → Content → Option Outcome → Next → List Write
shown_write tables c (Some outcome.Failed) (Flying f Putting) = cond (is_just (new_code tables f) (present_code (get c (flight_key tables f)))) (f.write ∷ []) []
shown_write tables c over next = []

abbrev pub shown_writes : List Table → Content → List View → List Write
shown_writes tables c [] = []
shown_writes tables c (v ∷ vs) = shown_write tables c v.over v.next ++ shown_writes tables c vs

-- the writes that were put, in their order, and those that failed at the put and show, by the lists that the clients have now
abbrev pub made_now : List Table → Run → List Write
made_now tables r = writes_named r.clients r.puts ++ shown_writes tables r.content r.clients

module _ (tables : List Table) (t : ℕ) (key : List Value) where
  abbrev E : List Write → Option (List Value) → Option (List Value)
  E ws o = effects tables t key ws o

  -- ---- the writes of clients that ended at their put
  -- writes that leave the row at the key as it is
  abbrev pub Leaves : List Write → Type 0
  Leaves ws = (o : Option (List Value)) → E ws o ≡ o

  pub leaves_shown : (c : Content) (vs : List View) → AllByRecursion (λ (v : View). Leaves (shown_write tables c v.over v.next)) vs → Leaves (shown_writes tables c vs)
  leaves_shown c [] all o = refl
  leaves_shown c (v ∷ vs) all o = effects-append tables t key (shown_write tables c v.over v.next) (shown_writes tables c vs) o ∙ ap (E (shown_writes tables c vs)) (all.0 o) ∙ leaves_shown c vs all.1 o

  each_same : (c d : Content) (vs : List View) → AllByRecursion (λ (u : View). (o : Option (List Value)) → E (shown_write tables d u.over u.next) o ≡ E (shown_write tables c u.over u.next) o) vs → (o : Option (List Value)) → E (shown_writes tables d vs) o ≡ E (shown_writes tables c vs) o
  each_same c d [] all o = refl
  each_same c d (x ∷ vs) all o =
      effects-append tables t key (shown_write tables d x.over x.next) (shown_writes tables d vs) o
      ∙ ap (E (shown_writes tables d vs)) (all.0 o) ∙ each_same c d vs all.1 (E (shown_write tables c x.over x.next) o)
      ∙ sym (effects-append tables t key (shown_write tables c x.over x.next) (shown_writes tables c vs) o)

  -- one client's view is another, which shows the same
  pub shown_same : (c d : Content) (vs : List View) (p : ℕ) (v w : View) → slice_get vs p ≡ Some v
      → AllByRecursion (λ (u : View). (o : Option (List Value)) → E (shown_write tables d u.over u.next) o ≡ E (shown_write tables c u.over u.next) o) vs
      → ((o : Option (List Value)) → E (shown_write tables d w.over w.next) o ≡ E (shown_write tables c v.over v.next) o)
      → (o : Option (List Value)) → E (shown_writes tables d (slice_set vs p w)) o ≡ E (shown_writes tables c vs) o
  shown_same c d [] p v w is all same o = absurd (cc)
  shown_same c d (x ∷ vs) zero v w is all same o =
      let here : x ≡ v = cc in
      effects-append tables t key (shown_write tables d w.over w.next) (shown_writes tables d vs) o
      ∙ each_same c d vs all.1 (E (shown_write tables d w.over w.next) o)
      ∙ ap (E (shown_writes tables c vs)) (same o ∙ ap (λ (u : View). E (shown_write tables c u.over u.next) o) (sym here))
      ∙ sym (effects-append tables t key (shown_write tables c x.over x.next) (shown_writes tables c vs) o)
  shown_same c d (x ∷ vs) (suc p) v w is all same o =
      effects-append tables t key (shown_write tables d x.over x.next) (shown_writes tables d (slice_set vs p w)) o
      ∙ ap (E (shown_writes tables d (slice_set vs p w))) (all.0 o)
      ∙ shown_same c d vs p v w is all.1 same (E (shown_write tables c x.over x.next) o)
      ∙ sym (effects-append tables t key (shown_write tables c x.over x.next) (shown_writes tables c vs) o)

  -- one client's view is another, and the others show nothing at the key
  pub shown_one : (d : Content) (vs : List View) (p : ℕ) (v w : View) → slice_get vs p ≡ Some v
      → AllByRecursion (λ (u : View). Leaves (shown_write tables d u.over u.next)) vs
      → (o : Option (List Value)) → E (shown_writes tables d (slice_set vs p w)) o ≡ E (shown_write tables d w.over w.next) o
  shown_one d [] p v w is all o = absurd (cc)
  shown_one d (x ∷ vs) zero v w is all o = effects-append tables t key (shown_write tables d w.over w.next) (shown_writes tables d vs) o ∙ leaves_shown d vs all.1 (E (shown_write tables d w.over w.next) o)
  shown_one d (x ∷ vs) (suc p) v w is all o =
      effects-append tables t key (shown_write tables d x.over x.next) (shown_writes tables d (slice_set vs p w)) o
      ∙ ap (E (shown_writes tables d (slice_set vs p w))) (all.0 o)
      ∙ shown_one d vs p v w is all.1 o

-- ---- named writes
pub named_same : (vs : List View) (p : ℕ) (v w : View) (wrote : Wrote) → slice_get vs p ≡ Some v → w.number ≡ v.number → w.writes ≡ v.writes → write_named (slice_set vs p w) wrote ≡ write_named vs wrote
named_same [] p v w wrote is number writes = absurd (cc)
named_same (x ∷ vs) zero v w wrote is number writes =
    let here : x ≡ v = cc in
    ap (λ (n : ℕ). cond (n == wrote.client) (found_write (write_at w.writes wrote.number)) (write_named vs wrote)) (number ∙ ap (λ (v : View). v.number) (sym here))
    ∙ ap (λ (ws : List Write). cond (x.number == wrote.client) (found_write (write_at ws wrote.number)) (write_named vs wrote)) (writes ∙ ap (λ (v : View). v.writes) (sym here))
named_same (x ∷ vs) (suc p) v w wrote is number writes = ap (cond (x.number == wrote.client) (found_write (write_at x.writes wrote.number))) (named_same vs p v w wrote is number writes)

pub all_named_same : (vs : List View) (p : ℕ) (v w : View) (puts : List Wrote) → slice_get vs p ≡ Some v → w.number ≡ v.number → w.writes ≡ v.writes → writes_named (slice_set vs p w) puts ≡ writes_named vs puts
all_named_same vs p v w [] is number writes = refl
all_named_same vs p v w (x ∷ puts) is number writes = λ i. named_same vs p v w x is number writes i ++ all_named_same vs p v w puts is number writes i

pub named-append : (vs : List View) (xs ys : List Wrote) → writes_named vs (xs ++ ys) ≡ writes_named vs xs ++ writes_named vs ys
named-append vs [] ys = refl
named-append vs (x ∷ xs) ys = ap (λ (ws : List Write). write_named vs x ++ ws) (named-append vs xs ys) ∙ sym (append_assoc (write_named vs x) (writes_named vs xs) (writes_named vs ys))
