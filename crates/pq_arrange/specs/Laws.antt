-- What the definitions promise of the answers.
use Rattle.std.specs.Prelude.{◌≡◌, ◌≤◌, ◌-◌, ◌||◌, ◌↔◌, ℕ, Bool, true, false, List, map, length, slice_index_or, Option, IsPermutation}
use Rattle.std.specs.List.{range_with_len}
use Rattle.pq_base.specs.declared.value.Value.{Value}
use Rattle.pq_base.specs.Members.{In}
use Rattle.pq_schema.specs.declared.table.Table.{Table}
use Rattle.pq_schema.specs.declared.query.ColRef.{ColRef}
use Rattle.pq_base.specs.declared.op.Op.TheVariants as op
use Rattle.pq_schema.specs.declared.query.Operand.TheVariants as operand
use Rattle.pq_schema.specs.declared.query.Pred.{Pred}
use Rattle.pq_schema.specs.declared.query.Query.{Query}
use Rattle.pq_schema.specs.declared.query.Stop.TheVariants as stop
use Rattle.pq_schema.specs.Resolved.{IsResolved}
use Rattle.pq_plan.specs.Answer.{Question, combos, row_of, answer}
use Rattle.pq_arrange.specs.Moves.{reordered_query, permuted_combo, places}
use Rattle.pq_arrange.specs.Classes.{class_of, closed_query}
use Rattle.pq_arrange.specs.Placing.{arranged_order}
use Rattle.pq_stop_push.specs.Having.{has_candidate}
use Rattle.pq_arrange.specs.Arrange.{rearranged_query, arranged_query}

-- an order of the relations 1 to m
abbrev pub IsOrderOf : Query → List ℕ → Type 0
IsOrderOf query order = IsPermutation (range_with_len 1 (length query.relations)) order

abbrev pub asked_in : List ℕ → Question → Question
asked_in order q = record q { query = reordered_query order q.query }

-- in any order of its relations a query has the same combinations, each once, with their rows in that order
abbrev pub SameInAnyOrder : Type 0
SameInAnyOrder =
    (q : Question) → IsResolved q.tables q.query → (order : List ℕ) → IsOrderOf q.query order →
    IsPermutation (map (permuted_combo order) (combos q)) (combos (asked_in order q))

-- and it is again one that reading gives over the tables
abbrev pub ResolvedInAnyOrder : Type 0
ResolvedInAnyOrder = (tables : List Table) (query : Query) → IsResolved tables query → (order : List ℕ)
    → IsOrderOf query order → IsResolved tables (reordered_query order query)

-- relations are placed once each
abbrev pub PlacesEach : Type 0
PlacesEach = (tables : List Table) (query : Query) (close : Bool) → IsOrderOf query (arranged_order tables query close)

-- a chain of column equalities, each taken from either side
pub data Chain (preds : List Pred) : ColRef → ColRef → Type 0 where
  ends : (a : ColRef) → Chain preds a a
  rightward : (pred : Pred) (other end : ColRef) → In pred preds → pred.right ≡ operand.Col other
      → pred.op ≡ op.Eq → Chain preds other end → Chain preds pred.left end
  leftward : (pred : Pred) (other end : ColRef) → In pred preds → pred.right ≡ operand.Col other
      → pred.op ≡ op.Eq → Chain preds pred.left end → Chain preds other end

-- columns are of one class exactly where a chain of column equalities joins them
abbrev pub ClassesAreChains : Type 0
ClassesAreChains = (preds : List Pred) (a b : ColRef) → (class_of preds a ≡ class_of preds b) ↔ Chain preds a b

-- with its equalities closed a query has the same combinations
abbrev pub SameWhenClosed : Type 0
SameWhenClosed = (q : Question) → IsResolved q.tables q.query
    → combos (record q { query = closed_query q.tables q.query }) ≡ combos q

-- the rearranged query has the combinations of the query, each once, with their rows in the new order
abbrev pub SameRearranged : Type 0
SameRearranged =
    (q : Question) → IsResolved q.tables q.query → (close : Bool) →
    IsPermutation (map (permuted_combo (arranged_order q.tables q.query close)) (combos q))
    (combos (record q { query = rearranged_query q.tables q.query close }))

-- so has the arranged one, in some order
abbrev pub SameArranged : Type 0
SameArranged =
    (q : Question) → IsResolved q.tables q.query →
    (order : List ℕ) × IsOrderOf q.query order
    × IsPermutation (map (permuted_combo order) (combos q))
    (combos (record q { query = arranged_query q.tables q.query }))

-- a query with a candidate is its own arrangement
abbrev pub LeavesPlanned : Type 0
LeavesPlanned = (tables : List Table) (query : Query) → has_candidate tables query ≡ true
    → arranged_query tables query ≡ query

-- the arranged query has a candidate exactly where one of the three has
abbrev pub FindsCandidate : Type 0
FindsCandidate =
    (tables : List Table) (query : Query) →
    has_candidate tables (arranged_query tables query)
    ≡ (has_candidate tables query || has_candidate tables (rearranged_query tables query false)
    || has_candidate tables (rearranged_query tables query true))

-- and it is its own arrangement
abbrev pub ArrangedOnce : Type 0
ArrangedOnce = (tables : List Table) (query : Query)
    → arranged_query tables (arranged_query tables query) ≡ arranged_query tables query

-- closing gives again a query that reading gives over the tables
abbrev pub ResolvedWhenClosed : Type 0
ResolvedWhenClosed = (tables : List Table) (query : Query) → IsResolved tables query
    → IsResolved tables (closed_query tables query)

-- with no more predicates
abbrev pub NoMorePredicates : Type 0
NoMorePredicates = (tables : List Table) (query : Query) → length (closed_query tables query).preds ≤ length query.preds

-- the row of each relation stands at its new number
abbrev pub RowsByPlaces : Type 0
RowsByPlaces =
    (query : Query) (order : List ℕ) → IsOrderOf query order → (combo : List (List Value)) (rel : ℕ) → 1 ≤ rel
    → rel ≤ length query.relations →
    row_of (slice_index_or (places order) (rel - 1) 0) (permuted_combo order combo) ≡ row_of rel combo

-- the rearranged query and the arranged one are such queries too, with the name and the parameters of the old one
pub record IsSuccessor (tables : List Table) (old new : Query) : Type 0 where
  pub resolved : IsResolved tables new
  pub name : new.name ≡ old.name
  pub params : new.params ≡ old.params
  pub stop : new.stop ≡ old.stop
  pub fewer : length new.preds ≤ length old.preds

abbrev pub RearrangedResolved : Type 0
RearrangedResolved = (tables : List Table) (query : Query) → IsResolved tables query → (close : Bool)
    → IsSuccessor tables query (rearranged_query tables query close)

abbrev pub ArrangedResolved : Type 0
ArrangedResolved = (tables : List Table) (query : Query) → IsResolved tables query
    → IsSuccessor tables query (arranged_query tables query)

-- without LIMIT and PAGINATE the arranged query has the same rows for an answer, each as often, also over the tables
-- of later
abbrev pub SameAnswers : Type 0
SameAnswers =
    (tables : List Table) (query : Query) → IsResolved tables query → query.stop ≡ stop.All → (now : List Table)
    (rows : List (ℕ × List Value)) (params : List Value) (after : Option (List Value)) →
    IsPermutation (answer now query rows params after) (answer now (arranged_query tables query) rows params after)
