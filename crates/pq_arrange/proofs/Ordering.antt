-- What rearranging asks of an order, and what it gives.
use Rattle.std.proofs.Common.{◌≡◌, ℕ, ◌+◌, ◌<◌, ◌≤◌, Bool, true, false, List, All, length, slice_index_or, refl, sym, ap, subst, ◌∙◌, arith}
use Rattle.std.specs.List.{range_with_len}
use Rattle.std.proofs.lemmas.Bool.{false≢true}
use Rattle.std.proofs.lemmas.List.Sorted.{length_permutation, All-permutation}
use Rattle.std.proofs.lemmas.List.FromFn.{length-range_with_len}
use Rattle.pq_schema.specs.declared.table.Table.{Table}
use Rattle.pq_schema.specs.declared.query.Query.{Query}
use Rattle.pq_schema.specs.Resolved.{IsResolved}
use Rattle.pq_schema.specs.Schema.{Schema}
use Rattle.pq_schema.specs.Sound.{IsQuery}
use Rattle.pq_schema.specs.Valid.{IsValid}
use Rattle.pq_schema.proofs.Soundness.{valid_query}
use Rattle.pq_arrange.specs.Moves.{reordered_query}
use Rattle.pq_arrange.specs.Classes.{closed_query}
use Rattle.pq_arrange.specs.Placing.{arranged_order}
use Rattle.pq_arrange.specs.Arrange.{rearranged_query}
use Rattle.pq_arrange.proofs.Placed.{places_each}
use Rattle.pq_arrange.proofs.Ranges.{range_within}
use Rattle.pq_arrange.proofs.Resolves.{resolved_in_any_order}

module _ (tables : List Table) (query : Query) (close : Bool) (order : List ℕ) (is : order ≡ arranged_order tables query close) where
  pub order_few : length query.relations ≤ 6 → length order ≤ 6
  order_few six =
      let same : length order ≡ length query.relations = ap length is ∙ length_permutation (range_with_len 1 (length query.relations)) (arranged_order tables query close) (places_each tables query close) ∙ length-range_with_len 1 (length query.relations) in
      omega (same, six, arith)

  pub order_there : (k d : ℕ) → k < length order → (1 ≤ slice_index_or order k d) × (slice_index_or order k d ≤ length query.relations)
  order_there =
      let m = length query.relations in
      let P : ℕ → Type 0 = λ rel. (1 ≤ rel) × (rel < 1 + m) in
      let all = All-permutation P (range_with_len 1 m) (arranged_order tables query close) (places_each tables query close) (range_within 1 m (range_with_len 1 m) refl) in
      λ k d lt. let here = subst (All P) (sym is) all k d lt in let low = here.0 in let high = here.1 in (low, omega (high, arith))

pub moved_taken : (schema : Schema) (query : Query) (close : Bool) (order : List ℕ) → IsValid schema → IsResolved schema.tables query → order ≡ arranged_order schema.tables query close → (moved : Query) → moved ≡ reordered_query order query → IsQuery schema.tables moved
moved_taken schema query close order valid resolved is moved moved_is =
    subst (IsQuery schema.tables) (ap (λ (o : List ℕ). reordered_query o query) (sym is) ∙ sym moved_is)
    (valid_query schema (reordered_query (arranged_order schema.tables query close) query) valid (resolved_in_any_order schema.tables query resolved (arranged_order schema.tables query close) (places_each schema.tables query close)))

pub rearranged_closed : (tables : List Table) (query : Query) (close : Bool) (order : List ℕ) (moved found : Query) → close ≡ true → order ≡ arranged_order tables query close → moved ≡ reordered_query order query → found ≡ closed_query tables moved → found ≡ rearranged_query tables query close
rearranged_closed tables query true order moved found e is moved_is found_is = found_is ∙ ap (closed_query tables) (moved_is ∙ ap (λ (o : List ℕ). reordered_query o query) is)
rearranged_closed tables query false order moved found e is moved_is found_is = absurd (false≢true e)

pub rearranged_plain : (tables : List Table) (query : Query) (close : Bool) (order : List ℕ) (moved : Query) → close ≡ false → order ≡ arranged_order tables query close → moved ≡ reordered_query order query → moved ≡ rearranged_query tables query close
rearranged_plain tables query false order moved e is moved_is = moved_is ∙ ap (λ (o : List ℕ). reordered_query o query) is
rearranged_plain tables query true order moved e is moved_is = absurd (false≢true (sym e))
