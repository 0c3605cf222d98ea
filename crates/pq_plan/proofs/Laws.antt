-- What is known of a query over tables that keep the schema, and of a total relation.
use Rattle.std.proofs.Common.{◌≡◌, ℕ, suc, ◌<◌, ◌≤◌, true, false, List, [], ◌∷◌, ◌++◌, length, filter, Option, Some}
use Rattle.std.specs.List.{AllByRecursion}
use Rattle.std.specs.Ordering.{eq_by_cmp}
use Rattle.pq_base.specs.declared.value.Value.{Value}
use Rattle.pq_base.specs.Values.{has_null}
use Rattle.pq_schema.specs.declared.query.Pred.{Pred}
use Rattle.pq_schema.specs.declared.query.OrderItem.{OrderItem}
use Rattle.pq_schema.specs.Relations.{belongs_to}
use Rattle.pq_base.specs.Members.{In, Apart}
use Rattle.pq_plan.specs.Answer.{Question, holds, row_of, rows_at}
use Rattle.pq_plan.specs.Kept.{row_cmp, cells}
use Rattle.pq_plan.specs.Meaning.{keeps, key_of, looks_up}

-- a predicate mentions relations of the query, and looks at no row after its latest
pub record IsOf (q : Question) (p : Pred) : Type 0 where
  pub from_one : 1 ≤ belongs_to p
  pub within : belongs_to p ≤ length q.query.relations
  pub looks : (c d : List (List Value)) → belongs_to p ≤ length c → holds q.params (c ++ d) p ≡ holds q.params c p

-- equalities that belong to relation i tie these columns to what the combination before it says
pub record Tied (q : Question) (i : ℕ) (columns : List ℕ) : Type 0 where
  pub values : List (List Value) → List Value
  pub are : (c : List (List Value)) (r : List Value) → suc (length c) ≡ i → keeps q i (c ++ r ∷ []) ≡ true → cells columns r ≡ values c
  pub plain : (c : List (List Value)) (r : List Value) → suc (length c) ≡ i → keeps q i (c ++ r ∷ []) ≡ true → has_null (values c) ≡ false

-- at most n rows of relation i agree on columns that are tied, where none is NULL
pub record Limited (q : Question) (i n : ℕ) : Type 0 where
  pub columns : List ℕ
  pub tied : Tied q i columns
  pub few : (v : List Value) → has_null v ≡ false → length (filter (λ r. eq_by_cmp row_cmp (cells columns r) v) (rows_at q i)) ≤ n

-- relation i is a lookup, and each row of an earlier relation names a row that passes
pub record Total (q : Question) (i : ℕ) : Type 0 where
  pub lookup : looks_up q i ≡ true
  pub earlier : ℕ
  pub from_one : 1 ≤ earlier
  pub before : earlier < i
  pub partner : (c : List (List Value)) → suc (length c) ≡ i → In (row_of earlier c) (rows_at q earlier) → (r : List Value) × In r (rows_at q i) × (keeps q i (c ++ r ∷ []) ≡ true)

-- what holds of a query over tables that keep the schema, with these data bounds
pub record Keeps (q : Question) (d : ℕ → Option ℕ) : Type 0 where
  pub predicates : AllByRecursion (IsOf q) q.query.preds
  pub keys : (i : ℕ) → Apart row_cmp (cells (key_of q i)) (rows_at q i)
  pub lookups : (i : ℕ) → looks_up q i ≡ true → Tied q i (key_of q i)
  pub bounds : (i n : ℕ) → d i ≡ Some n → Limited q i n

-- relation p has what a stop there asks of the order and of the relations after it
pub record Pushable (q : Question) (p : ℕ) : Type 0 where
  pub from_one : 1 ≤ p
  pub within : p ≤ length q.query.relations
  pub ordered : AllByRecursion (λ (item : OrderItem). item.col.rel ≤ p) q.query.order
  pub totals : (i : ℕ) → p < i → i ≤ length q.query.relations → Total q i
