-- Changes for which memory was wanting: none of them is made, or their intent stands.
use Rattle.std.proofs.Common.{◌≡◌, ℕ, zero, suc, ◌+◌, ◌≤◌, ◌==◌, Bool, true, false, cond, List, [], ◌∷◌, ◌++◌, length, map, take, Option, Some, None, refl, ap, ◌∙◌, subst, arith, inl, inr, ◌⊎◌}
use Rattle.std.proofs.lemmas.List.{length-map, take-append-le}
use Rattle.std.specs.Cmp.Lexicographic.{nat_list_cmp_total}
use Rattle.std.specs.FinMap.{get, insert, get-insert}
use Rattle.pq_row_code.specs.declared.changes.Change.{Change as Coded}
use Rattle.pq_row_code.specs.Changes.{changes_code}
use Rattle.pq_key_code.specs.KeyCode.{intent_key}
use Rattle.pq_content.specs.Pairs.{Change, changed_content}
use Rattle.pq_content.specs.Standing.{change_of, write_ops, AreIntended}
use Rattle.pq_content.proofs.Keys.{key_itself}
use Rattle.pq_content.proofs.Settling.{get-intent, no_intent_change}
use Rattle.pq_store.specs.Content.{Content}
use Rattle.pq_store.specs.Counts.{Counts}
use Rattle.pq_store.specs.declared.damage.Broke.{Broke}
use Rattle.pq_store.specs.declared.damage.Broke.TheVariants as broke
use Rattle.pq_intent.specs.Changing.{content_after, WantsMemory, intent_writes}
use Rattle.pq_intent.specs.Settling.{IsSettled, HasIntent}
use Rattle.pq_intent.proofs.Steps.{after_none}

intended_front : (n : ℕ) (changes : List Change) → AreIntended changes → AreIntended (take n changes)
intended_front zero changes all = tt
intended_front (suc n) [] all = tt
intended_front (suc n) (change ∷ changes) all = (all.0, intended_front n changes all.1)

-- behind its put, and some of the changes, the intent is there
intent_stands : (cs : List Coded) (n : ℕ) (code : List ℕ) (pairs : Content) → AreIntended (map change_of cs) → n ≤ length cs
    → get (changed_content (take n (map change_of cs ++ (intent_key, None) ∷ [])) (insert pairs intent_key code)) intent_key ≡ Some code
intent_stands cs n code pairs intended within =
    ap (λ (l : List Change). get (changed_content l (insert pairs intent_key code)) intent_key) (take-append-le n (map change_of cs) ((intent_key, None) ∷ []) (omega (arith, within, length-map cs change_of)))
    ∙ get-intent (take n (map change_of cs)) (insert pairs intent_key code) (no_intent_change (take n (map change_of cs)) (intended_front n (map change_of cs) intended))
    ∙ get-insert nat_list_cmp_total pairs intent_key code intent_key
    ∙ ap (λ b. cond b (Some code) (get pairs intent_key)) (key_itself intent_key)

-- a call before the last one is no more than the put and all changes
before_last : (many n : ℕ) → suc n + 1 ≤ write_ops many → n ≤ many
before_last many n within = by (many == 1) within
  where
    by : (one : Bool) → suc n + 1 ≤ cond one 1 (many + 2) → n ≤ many
    by true few = absurd (omega (arith, few))
    by false few = omega (arith, few)

pub unmade : (cs : List Coded) (before after : Counts) (pairs : Content) (old new : Option Content) → old ≡ Some pairs → AreIntended (map change_of cs)
    → after.ops ≤ before.ops + write_ops (length cs) → WantsMemory (intent_writes cs) before after old new → (new ≡ old) ⊎ HasIntent new
unmade cs before after pairs old new told intended few (inl nothing) = inl nothing.1
unmade cs before after pairs old new told intended few (inr p) = by p.made p.counted p.is
  where
    by : (made : ℕ) → after.ops ≡ before.ops + made + 1 → new ≡ content_after (take made (intent_writes cs)) old → (new ≡ old) ⊎ HasIntent new
    by zero counted is = inl (is ∙ after_none old)
    by (suc n) counted is = inr (record {
      pairs = changed_content (take n (map change_of cs ++ (intent_key, None) ∷ [])) (insert pairs intent_key (changes_code cs));
      told = is ∙ ap (content_after (take (suc n) (intent_writes cs))) told;
      value = changes_code cs;
      found = intent_stands cs n (changes_code cs) pairs intended (before_last (length cs) n (omega (arith, few, counted)));
    })

-- so what was made doesn't end for want of memory
pub wants_unmade : (cs : List Coded) (error : Broke) (old mid now : Option Content) (between after : Counts) → mid ≡ old → (pairs : Content) → IsSettled mid pairs
    → (error ≡ broke.NoMem → (pairs : Content) → IsSettled mid pairs → WantsMemory (intent_writes cs) between after mid now) → AreIntended (map change_of cs)
    → after.ops ≤ between.ops + write_ops (length cs) → error ≡ broke.NoMem → (now ≡ old) ⊎ HasIntent now
wants_unmade cs error old mid now between after same pairs s wants intended few lacks =
    subst (λ (o : Option Content). (now ≡ o) ⊎ HasIntent now) same (unmade cs between after pairs mid now s.told intended few (wants lacks pairs s))
