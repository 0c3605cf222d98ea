-- The limit that bounds a relation.
use Rattle.std.proofs.Common.{◌≡◌, Some, None, ℕ, suc, ◌+◌, ◌<◌, Bool, true, false, cond, not, ◌&&◌, inl, inr, List, [], ◌∷◌, length, get_or, filter, position, is_some, option_and_then, refl, sym, ap, ◌∙◌, subst, arith}
use Rattle.std.specs.List.{position_or_len}
use Rattle.std.specs.Option.{option_map_or}
use Rattle.std.proofs.lemmas.Bool.{and_parts, and_from, eqb-true, eq-eqb, lt-ltb, false≢true}
use Rattle.std.proofs.lemmas.List.Quantifiers.{position-Some}
use Rattle.pq_base.specs.Columns.{is_column_within, set_of}
use Rattle.pq_schema.specs.declared.table.Table.{Table}
use Rattle.pq_schema.specs.declared.table.Limit.{Limit}
use Rattle.pq_schema.specs.Tables.{is_lookup, applies, least_limit, data_bound, is_least, is_primary, first_limit, limit_place}
use Rattle.pq_schema.specs.Candidates.{no_limit}
use Rattle.pq_base.specs.Members.{In}
use Rattle.pq_base.proofs.Members.{in_filter}
use Rattle.pq_plan.proofs.Bounds.{least_is}

-- a member that passes has a first place
passes_within : {X : Type 0} (p : X → Bool) (xs : List X) (x : X) → In x xs → p x ≡ true → position_or_len p xs < length xs
passes_within p [] x here h = absurd here
passes_within p (y ∷ ys) x (inl e) h = subst (λ b. cond (not b) (1 + position_or_len p ys) 0 < suc (length ys)) (sym (ap p e ∙ h)) (omega arith)
passes_within p (y ∷ ys) x (inr i) h =
    let rest = passes_within p ys x i h in
    elim (p y) as (λ b. cond (not b) (1 + position_or_len p ys) 0 < suc (length ys)) [ true ↦ omega arith | false ↦ omega arith ]

found_position : {X : Type 0} (p : X → Bool) (xs : List X) (d x : X) → In x xs → p x ≡ true → (k : ℕ) × (position p xs ≡ Some k) × (k < length xs) × (p (get_or xs k d) ≡ true)
found_position p xs d x here h =
    let is : position p xs ≡ Some (position_or_len p xs) = ap (λ b. cond b (Some (position_or_len p xs)) None) (lt-ltb _ _ (passes_within p xs x here h)) in
    let s = position-Some p xs (position_or_len p xs) d is in
    (position_or_len p xs, is, s.0, s.1)

-- what the limit taken has
pub record IsTaken (table : Table) (set place : ℕ) : Type 0 where
  pub taken : limit_place table set ≡ Some place
  pub within : place < length table.limits
  pub applied : is_column_within (set_of (get_or table.limits place no_limit).cols) set ≡ true
  pub size : data_bound table set ≡ Some (get_or table.limits place no_limit).n

-- a relation that is no lookup and has a data bound has a limit taken
pub limit_taken : (table : Table) (set : ℕ) → is_lookup table set ≡ false → is_some (data_bound table set) ≡ true → (place : ℕ) × IsTaken table set place
limit_taken table set no_lookup h =
    let bound : data_bound table set ≡ least_limit table set = ap (λ b. cond b (Some 1) (least_limit table set)) no_lookup in
    let limit : limit_place table set ≡ option_and_then (first_limit table set) (least_limit table set) = ap (λ b. cond b None (option_and_then (first_limit table set) (least_limit table set))) no_lookup in
    elim (least_limit table set) as (λ o. least_limit table set ≡ o → (place : ℕ) × IsTaken table set place) [
      | None ↦ λ none. absurd (false≢true (sym (ap is_some (bound ∙ none)) ∙ h))
      | Some n ↦ λ is.
          let l = least_is n (filter (applies set) table.limits) is in
          let f = in_filter (applies set) l.0 table.limits l.1 in
          let second = found_position (is_least n set) table.limits no_limit l.0 f.0 (and_from _ _ (eq-eqb _ _ l.2) f.1) in
          let first = λ (limit : Limit). is_least n set limit && is_primary table limit in
          let made : (place : ℕ) → first_limit table set n ≡ Some place → place < length table.limits → is_least n set (get_or table.limits place no_limit) ≡ true → IsTaken table set place =
          λ place at inside least. record {
            taken = limit ∙ ap (option_and_then (first_limit table set)) is ∙ at;
            within = inside;
            applied = (and_parts _ _ least).1;
            size = bound ∙ is ∙ ap (λ (m : ℕ). Some m) (sym (eqb-true _ _ (and_parts _ _ least).0));
          } in
          elim (position first table.limits) as (λ o. position first table.limits ≡ o → (place : ℕ) × IsTaken table set place) [
            | None ↦ λ none. (second.0, made second.0 (ap (λ o. option_map_or (λ place. Some place) o (position (is_least n set) table.limits)) none ∙ second.1) second.2 second.3)
            | Some k ↦ λ at.
                let s = position-Some first table.limits k no_limit at in
                (k, made k (ap (λ o. option_map_or (λ place. Some place) o (position (is_least n set) table.limits)) at) s.0 (and_parts _ _ s.1).0)
          ] refl
    ] refl
