-- The counters of one table, among all of a schema.
use Rattle.std.proofs.Common.{◌≡◌, ℕ, ◌+◌, List, [], ◌∷◌, map, Option, refl, sym, ap, ◌∙◌}
use Rattle.std.specs.Prelude.{All, option_map}
use Rattle.std.specs.List.{sum_by}
use Rattle.std.proofs.lemmas.List.Elements.{All-weaker}
use Rattle.std.proofs.lemmas.List.Sums.{sum_by-cons}
use Rattle.pq_base.specs.declared.value.Value.{Value}
use Rattle.pq_schema.proofs.Counters.{counter_numbers}
use Rattle.pq_schema.specs.Counters.{IsCounterNumber, IsNumberOf}
use Rattle.pq_schema.specs.Schema.{Schema, counters_of}
use Rattle.pq_content.specs.Tables.{Rows}
use Rattle.pq_index_keep.specs.declared.plan.Planned.{Planned}
use Rattle.pq_index_keep.specs.declared.plan.Planned.TheVariants.{Changes, Refused}
use Rattle.pq_tallies.specs.Defined.{NumberedCounter, counters_in, counter_numbered}
use Rattle.pq_tallies.specs.Moves.{moves_changes, first_full}
use Rattle.pq_tallies.specs.Writes.{counter_full}
use Rattle.pq_tallies.proofs.Defined.{counters_of_table}
use Rattle.pq_counters.specs.Steps.{moves_of, moves_at, PlansMoves}
use Rattle.pq_counters.proofs.Moving.{own_moves, own_changes, own_full}

-- each number is of a counter
pub own_numbers : (schema : Schema) (t : ℕ) → All (IsCounterNumber schema) (counters_of schema t)
own_numbers schema t = All-weaker (IsNumberOf schema t) (IsCounterNumber schema) (λ n is. is.number_is) (counters_of schema t) (counter_numbers schema t)

sum_map : {X Y : Type 0} (f : Y → ℕ) (g : X → Y) (xs : List X) → sum_by (λ x. f (g x)) xs ≡ sum_by f (map g xs)
sum_map f g [] = refl
sum_map {X} f g (x ∷ xs) = sum_by-cons (λ (y : X). f (g y)) x xs ∙ ap (λ (n : ℕ). f (g x) + n) (sum_map f g xs) ∙ sym (sum_by-cons f (g x) (map g xs))

module _ (schema : Schema) (t : ℕ) (old new : Option (List Value)) where
  -- those of other tables move nothing
  pub own_sum : sum_by (moves_at schema t old new) (counters_of schema t) ≡ sum_by (moves_of t old new) (counters_in schema)
  own_sum =
      sum_map (moves_of t old new) (counter_numbered schema) (counters_of schema t)
      ∙ ap (sum_by (moves_of t old new)) (counters_of_table schema t)
      ∙ own_moves t old new (counters_in schema)

  changes_own : (rows : Rows) → moves_changes (map (counter_numbered schema) (counters_of schema t)) rows t old new ≡ moves_changes (counters_in schema) rows t old new
  changes_own rows = ap (λ (l : List NumberedCounter). moves_changes l rows t old new) (counters_of_table schema t) ∙ own_changes rows t old new (counters_in schema)

  full_own : (rows : Rows) → first_full (map (counter_numbered schema) (counters_of schema t)) rows t old new ≡ first_full (counters_in schema) rows t old new
  full_own rows = ap (λ (l : List NumberedCounter). first_full l rows t old new) (counters_of_table schema t) ∙ own_full rows t old new (counters_in schema)

  -- what is planned for those of the table is planned for all
  pub plans_own : (rows : Rows) (planned : Planned) → PlansMoves (map (counter_numbered schema) (counters_of schema t)) rows t old new planned → PlansMoves (counters_in schema) rows t old new planned
  plans_own rows (Changes changes) h = (h.0 ∙ changes_own rows, sym (full_own rows) ∙ h.1)
  plans_own rows (Refused why) h = ap (option_map counter_full) (sym (full_own rows)) ∙ h
