-- Whether a query has a candidate, by its bounds and by where it can stop.
use Rattle.std.proofs.Common.{◌≡◌, ℕ, Bool, true, false, ◌||◌, cond, List, [], ◌∷◌, ◌++◌, flat_map, length, Option, Some, None, refl, ap, ◌∙◌}
use Rattle.std.specs.List.{list_any, range_with_len}
use Rattle.std.specs.Option.{option_map_or}
use Rattle.pq_base.specs.declared.number.Choice.TheVariants.{Whole, Stop}
use Rattle.pq_schema.specs.declared.table.Table.{Table}
use Rattle.pq_schema.specs.declared.query.Query.{Query}
use Rattle.pq_schema.specs.Candidates.{Candidate, whole_candidates, reached_after, are_bounded, can_stop_at, stop_at, stop_cost, stop_size}
use Rattle.pq_stop_push.specs.Having.{is_some_list, has_candidate}

some_append : (front back : List Candidate) → is_some_list (front ++ back) ≡ (is_some_list front || is_some_list back)
some_append [] back = refl
some_append (c ∷ cs) back = refl

some_if : (b : Bool) (c : Candidate) → is_some_list (cond b (c ∷ []) []) ≡ b
some_if true c = refl
some_if false c = refl

module _ (tables : List Table) (query : Query) where
  abbrev all : ℕ
  all = length query.relations

  some_stops : (k : ℕ) (rels : List ℕ) → is_some_list (flat_map (stop_at tables query k) rels) ≡ list_any (can_stop_at tables query) rels
  some_stops k [] = refl
  some_stops k (p ∷ rels) =
      some_append (stop_at tables query k p) (flat_map (stop_at tables query k) rels)
      ∙ (λ i. some_if (can_stop_at tables query p) (record { choice = Stop p; bound = stop_cost tables query k p }) i || some_stops k rels i)

  -- the stops of a size, or none
  abbrev stops_of : Option ℕ → List Candidate
  stops_of size = option_map_or (λ k. flat_map (stop_at tables query k) (range_with_len 1 all)) size []

  parts : has_candidate tables query ≡ (are_bounded tables query all || is_some_list (stops_of (stop_size query.stop)))
  parts =
      some_append (whole_candidates tables query) (stops_of (stop_size query.stop))
      ∙ ap (λ b. b || is_some_list (stops_of (stop_size query.stop)))
      (some_if (are_bounded tables query all) (record { choice = Whole; bound = (reached_after tables query all).cost }))

  pub has_whole : are_bounded tables query all ≡ true → has_candidate tables query ≡ true
  has_whole bounded = parts ∙ ap (λ b. b || is_some_list (stops_of (stop_size query.stop))) bounded

  pub has_none : are_bounded tables query all ≡ false → stop_size query.stop ≡ None → has_candidate tables query ≡ false
  has_none unbounded none = parts ∙ (λ i. unbounded i || is_some_list (stops_of (none i)))

  pub has_stop : (k : ℕ) → are_bounded tables query all ≡ false → stop_size query.stop ≡ Some k → has_candidate tables query ≡ list_any (can_stop_at tables query) (range_with_len 1 all)
  has_stop k unbounded some = parts ∙ (λ i. unbounded i || is_some_list (stops_of (some i))) ∙ some_stops k (range_with_len 1 all)
