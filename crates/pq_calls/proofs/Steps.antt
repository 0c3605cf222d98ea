-- One call after another, and what is left for the next one.
use Rattle.std.proofs.Common.{◌≡◌, ◌≤◌, ◌<◌, ◌+◌, ℕ, List, length, take, get_or, Option, sym, ap, ◌∙◌, arith}
use Rattle.std.specs.List.{sum_by}
use Rattle.std.proofs.lemmas.List.Sums.{sum_by_more, sum_by-take-le}
use Rattle.pq_store.specs.Breaks.{IsUndamaged}
use Rattle.pq_store.specs.Content.{Content}
use Rattle.pq_store.specs.declared.damage.Broke.{Broke}
use Rattle.pq_store.specs.declared.damage.Broke.TheVariants.{Failed, NoMem, Damaged}
use Rattle.pq_store.specs.declared.damage.Damage.{Damage}
use Rattle.pq_calls.specs.Calls.{Uses, seen_world}
use Rattle.pq_calls.specs.World.{World, Affords, Reads, Explains}
use Rattle.pq_calls.specs.declared.calls.Calls.{Calls}

pub reads_then : (a b c : World) (o e p q o' e' : ℕ) → Reads a b o e → Reads b c p q → o + p ≤ o' → e + q ≤ e' → Reads a c o' e'
reads_then a b c o e p q o' e' f g ops entries = record {
  same = g.same ∙ f.same;
  later = omega arith;
  granted = g.granted ∙ f.granted;
  spent_ops = omega arith;
  spent_entries = omega arith;
  rise_ops = omega arith;
  rise_entries = omega arith;
  few_ops = omega arith;
  few_entries = omega arith;
}

pub reads_within : (a b : World) (o e o' e' : ℕ) → Reads a b o e → o ≤ o' → e ≤ e' → Reads a b o' e'
reads_within a b o e o' e' f ops entries = record {
  same = f.same;
  later = f.later;
  granted = f.granted;
  spent_ops = f.spent_ops;
  spent_entries = f.spent_entries;
  rise_ops = f.rise_ops;
  rise_entries = f.rise_entries;
  few_ops = omega arith;
  few_entries = omega arith;
}

-- what is left after a first part
pub rest_left : (a b : World) (o e p q o' e' : ℕ) → Reads a b o e → Affords a.allowed o' e' → o + p ≤ o' → e + q ≤ e' → Affords b.allowed p q
rest_left a b o e p q o' e' r left ops entries = record { ops_left = omega arith; entries_left = omega arith }

-- ---- why a call gives up

-- what shows less shows more
pub explained_as : (P Q : Option Content → Damage → Type 0) → ((told : Option Content) (damage : Damage) → P told damage → Q told damage) → (a b : World) (error : Broke) → Explains P a b error → Explains Q a b error
explained_as P Q weaker a b Failed h = h
explained_as P Q weaker a b NoMem h = h
explained_as P Q weaker a b (Damaged damage) h = weaker a.told damage h

-- no damage is told where none can show
pub explained_undamaged : (P : Option Content → Damage → Type 0) (a b : World) (error : Broke) → ((damage : Damage) → P a.told damage → ⊥) → Explains P a b error → IsUndamaged error
explained_undamaged P a b Failed none h = tt
explained_undamaged P a b NoMem none h = tt
explained_undamaged P a b (Damaged damage) none h = none damage h

-- ---- a loop in which each item has its own share

one_more : {X : Type 0} (h : X → ℕ) (xs : List X) (i : ℕ) (x : X) → i < length xs → x ≡ get_or xs i x → sum_by h (take (i + 1) xs) ≡ sum_by h (take i xs) + h x
one_more h xs i x within at = sum_by_more h xs i x within ∙ ap (λ y. sum_by h (take i xs) + h y) (sym at)

module _ {S L : Type 0} (content : S → Option Content) (faults : S → ℕ) {X : Type 0} (f g : X → ℕ) (xs : List X) (i : ℕ) (x : X) (within : i < length xs) (at : x ≡ get_or xs i x) where
  pub share_next : (a b : Calls S L) → Uses content faults a b (sum_by f (take i xs)) (sum_by g (take i xs)) → Affords a.allowance.now (sum_by f xs) (sum_by g xs) → Affords b.allowance.now (f x) (g x)
  share_next a b r left =
      let p = one_more f xs i x within at in
      let q = one_more g xs i x within at in
      let p' = sum_by-take-le f xs (i + 1) in
      let q' = sum_by-take-le g xs (i + 1) in
      rest_left (seen_world content faults a) (seen_world content faults b) _ _ (f x) (g x) _ _ r.reads left (omega arith) (omega arith)

  pub uses_next : (a b c : Calls S L) → Uses content faults a b (sum_by f (take i xs)) (sum_by g (take i xs)) → Uses content faults b c (f x) (g x) → Uses content faults a c (sum_by f (take (i + 1) xs)) (sum_by g (take (i + 1) xs))
  uses_next a b c r s =
      let p = one_more f xs i x within at in
      let q = one_more g xs i x within at in
      record {
        same_store = s.same_store ∙ r.same_store;
        same_allowance = s.same_allowance ∙ r.same_allowance;
        same_meter = s.same_meter ∙ r.same_meter;
        reads = reads_then _ _ _ _ _ _ _ _ _ r.reads s.reads (omega arith) (omega arith);
      }

  pub uses_stop : (a b c : Calls S L) → Uses content faults a b (sum_by f (take i xs)) (sum_by g (take i xs)) → Uses content faults b c (f x) (g x) → Uses content faults a c (sum_by f xs) (sum_by g xs)
  uses_stop a b c r s =
      let p' = sum_by-take-le f xs (i + 1) in
      let q' = sum_by-take-le g xs (i + 1) in
      let next = uses_next a b c r s in
      record {
        same_store = next.same_store;
        same_allowance = next.same_allowance;
        same_meter = next.same_meter;
        reads = reads_within _ _ _ _ _ _ next.reads p' q';
      }
