-- One more predicate at an end of a range.
use Rattle.std.proofs.Common.{◌≡◌, ℕ, zero, suc, drop, slice_get, Bool, true, false, cond, List, [], ◌∷◌, ◌++◌, map, filter, flat_map, Option, Some, None, refl, ap}
use Rattle.std.specs.Option.{option_to_list}
use Rattle.pq_base.specs.declared.value.Dir.{Dir}
use Rattle.pq_base.specs.declared.value.Value.{Value}
use Rattle.pq_schema.specs.declared.query.Pred.{Pred}
use Rattle.pq_serving.specs.Keys.{bound_key, higher, lesser_key, highest, lowest}
use Rattle.pq_serving.specs.Starts.{Bound, under}
use Rattle.pq_scan.specs.declared.keys.End.{End}
use Rattle.pq_scan.specs.declared.keys.End.TheVariants.{Low, High}
use Rattle.pq_scan.specs.Ends.{farther, farthest, with_key, direction_of}
use Rattle.pq_schema.specs.declared.table.KeyPart.{KeyPart}
use Rattle.pq_serving.specs.Scanning.{first_direction}

module _ (end : End) (ds : List Dir) (e : List Value) (k : List ℕ) where
  abbrev keys : List Bound → List (List ℕ)
  keys bs = map (λ b. bound_key ds (under e b)) bs

  abbrev from : List Bound → List ℕ
  from bs = farthest end ds k (map (under e) bs)

  one_key : (x : List ℕ) (b : Bound) (rest : List Bound) → x ≡ bound_key ds (under e b) → farther end x (from rest) ≡ from (b ∷ rest)
  one_key x b rest h = elim end as (λ end. farther end x (farthest end ds k (map (under e) rest)) ≡ farthest end ds k (map (under e) (b ∷ rest))) [
    | Low ↦ ap (λ y. higher y (highest ds k (map (under e) rest))) h
    | High ↦ ap (λ y. lesser_key y (lowest ds k (map (under e) rest))) h
  ]

  some_keys : (found : Option (List ℕ)) (bs rest : List Bound) → option_to_list found ≡ keys bs → with_key end found (from rest) ≡ from (bs ++ rest)
  some_keys None [] rest h = refl
  some_keys None (b ∷ bs) rest h = absurd cc
  some_keys (Some x) [] rest h = absurd cc
  some_keys (Some x) (b ∷ []) rest h = one_key x b rest cc
  some_keys (Some x) (b ∷ c ∷ bs) rest h = absurd cc

  pub one_more : (f : Pred → List Bound) (own : Pred → Bool) (pred : Pred) (preds : List Pred) (found : Option (List ℕ)) → option_to_list found ≡ keys (cond (own pred) (f pred) []) → with_key end found (from (flat_map f (filter own preds))) ≡ from (flat_map f (filter own (pred ∷ preds)))
  one_more f own pred preds found h =
      elim (own pred) as (λ b. option_to_list found ≡ keys (cond b (f pred) []) → with_key end found (from (flat_map f (filter own preds))) ≡ from (flat_map f (cond b (pred ∷ filter own preds) (filter own preds)))) [
        | true ↦ some_keys found (f pred) (flat_map f (filter own preds))
        | false ↦ some_keys found [] (flat_map f (filter own preds))
      ] h

-- the direction of the first part behind some
pub direction_at : (sequence : List KeyPart) (n : ℕ) → direction_of (slice_get sequence n) ≡ first_direction (drop n sequence)
direction_at [] zero = refl
direction_at [] (suc n) = refl
direction_at (part ∷ parts) zero = refl
direction_at (part ∷ parts) (suc n) = direction_at parts n
