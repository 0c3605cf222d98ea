-- What a query has where it has a candidate.
use Rattle.std.proofs.Common.{◌≡◌, Option, Some, None, ℕ, ◌≤◌, true, false, cond, inl, inr, List, [], ◌∷◌, length, map, flat_map, refl, sym, ap, subst, nat_cmp, arith}
use Rattle.std.specs.Option.{option_map_or}
use Rattle.std.specs.List.{range_with_len}
use Rattle.pq_base.specs.declared.number.Bound.{Bound}
use Rattle.pq_base.specs.declared.number.Choice.{Choice}
use Rattle.pq_base.specs.declared.number.Choice.TheVariants.{Whole, Stop}
use Rattle.pq_schema.specs.declared.table.Table.{Table}
use Rattle.pq_schema.specs.declared.query.Query.{Query}
use Rattle.pq_schema.specs.Candidates.{Candidate, are_bounded, reached_after, can_stop_at, stop_at, stop_cost, stop_size, whole_candidates, candidates}
use Rattle.pq_base.specs.Members.{In}
use Rattle.pq_plan.specs.Plans.{HasChoice}
use Rattle.pq_base.proofs.Members.{in_map, in_either, in_flat_map, in_range}
use Rattle.pq_plan.proofs.Orders.{in_from_contained}

-- k and the conditions of a stop candidate
pub record CanStop (tables : List Table) (query : Query) (p : ℕ) : Type 0 where
  pub size : ℕ
  pub stop : stop_size query.stop ≡ Some size
  pub from_one : 1 ≤ p
  pub within : p ≤ length query.relations
  pub can : can_stop_at tables query p ≡ true

abbrev pub Has : List Table → Query → Choice → Type 0
Has tables query Whole = are_bounded tables query (length query.relations) ≡ true
Has tables query (Stop p) = CanStop tables query p

-- and what the candidate costs
abbrev pub cost_of : List Table → Query → Choice → Bound
cost_of tables query Whole = (reached_after tables query (length query.relations)).cost
cost_of tables query (Stop p) = stop_cost tables query (option_map_or (λ k. k) (stop_size query.stop) 0) p

module _ (tables : List Table) (query : Query) where
  in_whole : (c : Candidate) → In c (whole_candidates tables query) → Has tables query c.choice × (c.bound ≡ cost_of tables query c.choice)
  in_whole c h =
      elim (are_bounded tables query (length query.relations)) as (λ b. are_bounded tables query (length query.relations) ≡ b → In c (cond b (record { choice = Whole; bound = (reached_after tables query (length query.relations)).cost } ∷ []) []) → Has tables query c.choice × (c.bound ≡ cost_of tables query c.choice)) [
        | true ↦ λ is i. elim i [
          | inl e ↦ subst (λ (d : Candidate). Has tables query d.choice × (d.bound ≡ cost_of tables query d.choice)) e (is, refl)
          | inr none ↦ absurd none
        ]
        | false ↦ λ _ i. absurd i
      ] refl h

  in_stop : (k p : ℕ) → stop_size query.stop ≡ Some k → 1 ≤ p → p ≤ length query.relations → (c : Candidate) → In c (stop_at tables query k p) → Has tables query c.choice × (c.bound ≡ cost_of tables query c.choice)
  in_stop k p size low high c h =
      elim (can_stop_at tables query p) as (λ b. can_stop_at tables query p ≡ b → In c (cond b (record { choice = Stop p; bound = stop_cost tables query k p } ∷ []) []) → Has tables query c.choice × (c.bound ≡ cost_of tables query c.choice)) [
        | true ↦ λ is i. elim i [
          | inl e ↦ subst (λ (d : Candidate). Has tables query d.choice × (d.bound ≡ cost_of tables query d.choice)) e
              (record { size = k; stop = size; from_one = low; within = high; can = is }, ap (λ (o : Option ℕ). stop_cost tables query (option_map_or (λ k. k) o 0) p) (sym size))
          | inr none ↦ absurd none
        ]
        | false ↦ λ _ i. absurd i
      ] refl h

  in_stops : (o : Option ℕ) → stop_size query.stop ≡ o → (c : Candidate) → In c (option_map_or (λ k. flat_map (stop_at tables query k) (range_with_len 1 (length query.relations))) o []) → Has tables query c.choice × (c.bound ≡ cost_of tables query c.choice)
  in_stops None size c h = absurd h
  in_stops (Some k) size c h =
      let m = in_flat_map (stop_at tables query k) c (range_with_len 1 (length query.relations)) h in
      let r = in_range m.0 1 (length query.relations) m.1 in
      in_stop k m.0 size r.0 (omega (arith, r.1)) c m.2

  -- a candidate has its conditions and its cost
  pub candidate_has : (c : Candidate) → In c (candidates tables query) → Has tables query c.choice × (c.bound ≡ cost_of tables query c.choice)
  candidate_has c h = elim (in_either c (whole_candidates tables query) _ h) [
    | inl first ↦ in_whole c first
    | inr later ↦ in_stops (stop_size query.stop) refl c later
  ]

  pub choice_has : (choice : Choice) → HasChoice tables query choice → Has tables query choice
  choice_has choice h =
      let m = in_map (λ (c : Candidate). c.choice) choice (candidates tables query) (in_from_contained (λ (a b : ℕ). nat_cmp a b) (λ (c : Choice). 0) (map (λ (c : Candidate). c.choice) (candidates tables query)) choice h.0 h.1 h.2) in
      subst (Has tables query) m.2 (candidate_has m.0 m.1).0
