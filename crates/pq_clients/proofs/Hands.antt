-- The write at hand of a client that is not over.
use Rattle.std.proofs.Common.{◌≡◌, ℕ, zero, suc, ◌-◌, ◌≤◌, ◌<◌, ◌^◌, Bool, true, false, ◌||◌, List, [], ◌∷◌, length, Option, Some, refl, sym, ap, ◌∙◌, arith}
use Rattle.std.specs.Prelude.{nat_lt, is_some, slice_index_or}
use Rattle.std.specs.List.{slice_get}
use Rattle.std.proofs.lemmas.Bool.{ltb-false}
use Rattle.pq_schema.specs.declared.table.Table.{Table}
use Rattle.pq_schema.specs.Sound.{AreMade}
use Rattle.pq_store.specs.Content.{Content}
use Rattle.pq_index_keep.specs.Sound.{AreWritable}
use Rattle.pq_index_keep.specs.declared.write.Write.{Write}
use Rattle.pq_index_keep.specs.declared.write.Write.TheVariants as write
use Rattle.pq_clients.specs.Clients.{Next, Reading, Taking, Looking, Flying, View, is_over, write_at}
use Rattle.pq_clients.specs.Fitting.{MayWrite}
use Rattle.pq_clients.specs.Steps.{gone_on, read_on}
use Rattle.pq_clients.specs.Stepping.{IsClient, at_hand, gone_from}

or_right : (a b : Bool) → (a || b) ≡ false → b ≡ false
or_right true b e = cc
or_right false b e = e

pub going_at : (v : View) → is_over v ≡ false → v.at ≤ length v.writes
going_at v e = ltb-false (length v.writes) v.at (or_right (is_some v.over) (nat_lt (length v.writes) v.at) e)

get_there : {A : Type 0} (xs : List A) (k : ℕ) (d : A) → k < length xs → slice_get xs k ≡ Some (slice_index_or xs k d)
get_there [] k d less = absurd (omega arith)
get_there (x ∷ xs) zero d less = refl
get_there (x ∷ xs) (suc k) d less = get_there xs k d (omega arith)

write_there : (writes : List Write) (at : ℕ) (d : Write) → 1 ≤ at → at - 1 < length writes → write_at writes at ≡ Some (slice_index_or writes (at - 1) d)
write_there writes zero d one less = absurd (omega arith)
write_there writes (suc before) d one less =
    let same : suc before - 1 ≡ before = omega arith in
    get_there writes before d (omega (arith, less, same)) ∙ ap (λ (k : ℕ). Some (slice_index_or writes k d)) (sym same)

module _ (tables : List Table) (v : View) (client : IsClient tables v) (going : is_over v ≡ false) where
  inside : v.at - 1 < length v.writes
  inside = let there = going_at v going in let one = client.from_one in omega arith

  pub hand_writes : AreWritable tables → AreMade tables → MayWrite tables (at_hand v.writes v.at)
  hand_writes sound made = record { sound = sound; made = made; write = client.writes (v.at - 1) (write.Delete 0 [] []) inside }

  pub hand_is : write_at v.writes v.at ≡ Some (at_hand v.writes v.at)
  hand_is = write_there v.writes v.at (write.Delete 0 [] []) client.from_one inside

  pub small_at : v.at < 2 ^ 32
  small_at = let there = going_at v going in let few = client.few in omega arith

-- the call at the write at hand is the one of the view
pub gone_same : (tables : List Table) (v : View) (w : Write) (next : Next) (c : Content) → write_at v.writes v.at ≡ Some w
    → gone_from tables v.number v.at w next c ≡ gone_on tables v next c
gone_same tables v w Reading c e = sym (ap (λ (o : Option Write). read_on tables v.number o c) e)
gone_same tables v w (Taking f) c e = refl
gone_same tables v w (Looking f) c e = refl
gone_same tables v w (Flying f stage) c e = refl
