-- What rows that keep the schema have, table by table.
use Rattle.std.proofs.Common.{◌≡◌, ℕ, ◌≤◌, Bool, true, false, cond, ◌==◌, ◌&&◌, inl, inr, List, [], ◌∷◌, length, filter, Option, Some, None, is_some, refl, sym, ap, ◌∙◌, subst}
use Rattle.std.specs.Ordering.{eq_by_cmp}
use Rattle.std.specs.Cmp.Lexicographic.{pointwise_decides}
use Rattle.std.specs.List.{AllByRecursion}
use Rattle.std.specs.List as lists
use Rattle.std.proofs.lemmas.Bool.{eqb-true, false≢true, false_from_ne_true}
use Rattle.std.proofs.lemmas.Option.{none-some, same_Some}
use Rattle.pq_base.specs.Members.{In, Apart}
use Rattle.pq_base.specs.Order.{value_cmp}
use Rattle.pq_base.specs.Values.{AllFit, has_null}
use Rattle.pq_base.specs.declared.value.Value.{Value}
use Rattle.pq_schema.specs.declared.table.Foreign.{Foreign}
use Rattle.pq_schema.specs.declared.table.Limit.{Limit}
use Rattle.pq_schema.specs.declared.table.Table.{Table}
use Rattle.pq_schema.specs.Rows.{Rows, rows_of, cells, types_of, key_of, same_value, same_values, agrees, has_key, row_at, group_of, IsTableNumber, AreApart, IsWithinLimit, HasParent, KeepsSchema}
use Rattle.pq_schema.specs.Tables.{table_at}
use Rattle.pq_plan.specs.Kept.{row_cmp}
use Rattle.pq_plan.proofs.Apart.{equal, same_test}
use Rattle.pq_base.proofs.Members.{each_in, each_by_in, filter_same}
use Rattle.pq_plan.proofs.ValueOrder.{value_cmp_total, value_cmp_only, row_total, row_only}

-- ---- the tests of equal values

value_decides : (x y : Value) → (same_value x y ≡ true → x ≡ y) × (x ≡ y → same_value x y ≡ true)
value_decides x y = (λ h. equal value_cmp value_cmp_total value_cmp_only x y h, λ e. same_test value_cmp value_cmp_total x y e)

values_decide : (xs ys : List Value) → (same_values xs ys ≡ true → xs ≡ ys) × (xs ≡ ys → same_values xs ys ≡ true)
values_decide = pointwise_decides value_decides

tests_alike : (xs ys : List Value) → eq_by_cmp row_cmp xs ys ≡ same_values xs ys
tests_alike xs ys =
    elim (same_values xs ys) as (λ b. same_values xs ys ≡ b → eq_by_cmp row_cmp xs ys ≡ b) [
      | true ↦ λ is. same_test row_cmp row_total xs ys ((values_decide xs ys).0 is)
      | false ↦ λ is. false_from_ne_true (eq_by_cmp row_cmp xs ys) (λ e. false≢true (sym is ∙ (values_decide xs ys).1 (equal row_cmp row_total row_only xs ys e)))
    ] refl

turned : (xs ys : List Value) → same_values ys xs ≡ false → eq_by_cmp row_cmp xs ys ≡ false
turned xs ys h = false_from_ne_true (eq_by_cmp row_cmp xs ys) (λ e. false≢true (sym h ∙ (values_decide ys xs).1 (sym (equal row_cmp row_total row_only xs ys e))))

-- ---- what holds of each row of a table

each_row : (P : ℕ → List Value → Type 0) (rows : Rows) → AllByRecursion (λ e. P e.0 e.1) rows → (t : ℕ) (row : List Value) → In row (rows_of t rows) → P t row
each_row P [] all t row here = absurd here
each_row P (e ∷ es) all t row here =
    elim (e.0 == t) as (λ b. (e.0 == t) ≡ b → In row (cond b (e.1 ∷ rows_of t es) (rows_of t es)) → P t row) [
      | true ↦ λ is here. elim here [
        | inl same ↦ subst (P t) same (subst (λ (n : ℕ). P n e.1) (eqb-true e.0 t is) all.0)
        | inr later ↦ each_row P es all.1 t row later
      ]
      | false ↦ λ _ here. each_row P es all.1 t row here
    ] refl here

find_passes : {X : Type 0} (p : X → Bool) (xs : List X) (x : X) → lists.find p xs ≡ Some x → In x xs × (p x ≡ true)
find_passes p [] x e = absurd (none-some x e)
find_passes p (y ∷ ys) x e =
    elim (p y) as (λ b. p y ≡ b → cond b (Some y) (lists.find p ys) ≡ Some x → In x (y ∷ ys) × (p x ≡ true)) [
      | true ↦ λ is e. let same = same_Some y x e in (inl same, ap p (sym same) ∙ is)
      | false ↦ λ _ e. let rest = find_passes p ys x e in (inr rest.0, rest.1)
    ] refl e

some_there : {A : Type 0} (o : Option A) → is_some o ≡ true → (a : A) × (o ≡ Some a)
some_there None h = absurd (false≢true h)
some_there (Some a) h = (a, refl)

others_apart : (tables : List Table) (t : ℕ) (row : List Value) (rows : Rows) → AllByRecursion (λ f. has_key tables t (key_of (table_at tables t) row) f ≡ false) rows → AllByRecursion (λ y. eq_by_cmp row_cmp (cells (table_at tables t).key row) (cells (table_at tables t).key y) ≡ false) (rows_of t rows)
others_apart tables t row [] h = tt
others_apart tables t row (e ∷ es) h =
    let key = (table_at tables t).key in
    let P : List Value → Type 0 = λ y. eq_by_cmp row_cmp (cells key row) (cells key y) ≡ false in
    let rest = others_apart tables t row es h.1 in
    elim (e.0 == t) as (λ b. (b && agrees key (cells key row) e.1) ≡ false → AllByRecursion P (cond b (e.1 ∷ rows_of t es) (rows_of t es))) [
      | true ↦ λ apart. (turned (cells key row) (cells key e.1) apart, rest)
      | false ↦ λ _. rest
    ] h.0

keys_apart : (tables : List Table) (rows : Rows) → AreApart tables rows → (t : ℕ) → Apart row_cmp (cells (table_at tables t).key) (rows_of t rows)
keys_apart tables [] h t = tt
keys_apart tables (e ∷ es) h t =
    let rest = keys_apart tables es h.1 t in
    elim (e.0 == t) as (λ b. (e.0 == t) ≡ b → Apart row_cmp (cells (table_at tables t).key) (cond b (e.1 ∷ rows_of t es) (rows_of t es))) [
      | true ↦ λ is. (others_apart tables t e.1 es (subst (λ (n : ℕ). AllByRecursion (λ f. has_key tables n (key_of (table_at tables n) e.1) f ≡ false) es) (eqb-true e.0 t is) h.0), rest)
      | false ↦ λ _. rest
    ] refl

module _ (tables : List Table) (rows : Rows) (kept : KeepsSchema tables rows) where
  -- each row is of a table of the schema
  pub row_numbers : (pair : ℕ × List Value) → In pair rows → IsTableNumber tables pair.0
  row_numbers pair here = each_in (λ (e : ℕ × List Value). IsTableNumber tables e.0) rows kept.known pair here

  -- and fits its columns
  pub row_fits : (t : ℕ) (row : List Value) → In row (rows_of t rows) → AllFit (types_of (table_at tables t)) row
  row_fits t row here = each_row (λ n r. AllFit (types_of (table_at tables n)) r) rows kept.fit t row here

  -- no two rows of a table have one key
  pub rows_apart : (t : ℕ) → Apart row_cmp (cells (table_at tables t).key) (rows_of t rows)
  rows_apart t = keys_apart tables rows kept.apart t

  -- at most n rows agree on the columns of a limit
  pub limit_kept : (t : ℕ) → IsTableNumber tables t → (limit : Limit) → In limit (table_at tables t).limits → (values : List Value) → has_null values ≡ false → length (filter (λ row. eq_by_cmp row_cmp (cells limit.cols row) values) (rows_of t rows)) ≤ limit.n
  limit_kept t number limit here values plain =
      let same : filter (λ row. eq_by_cmp row_cmp (cells limit.cols row) values) (rows_of t rows) ≡ group_of t limit.cols values rows =
      filter_same (λ row. eq_by_cmp row_cmp (cells limit.cols row) values) (agrees limit.cols values) (rows_of t rows) (each_by_in _ (rows_of t rows) (λ row _. tests_alike (cells limit.cols row) values)) in
      subst (λ (l : List (List Value)). length l ≤ limit.n) (sym same) (each_in (IsWithinLimit t rows) (table_at tables t).limits (kept.limits t number) limit here values plain)

  -- each foreign key of a row without NULL in its columns names the key of a row
  pub parent_kept : (t : ℕ) (foreign : Foreign) → In foreign (table_at tables t).foreign → (row : List Value) → In row (rows_of t rows) → has_null (cells foreign.cols row) ≡ false → (parent : List Value) × In parent (rows_of foreign.table rows) × (cells (table_at tables foreign.table).key parent ≡ cells foreign.cols row)
  parent_kept t foreign there row here plain =
      let all = each_row (λ n r. AllByRecursion (HasParent tables rows r) (table_at tables n).foreign) rows kept.foreign t row here in
      let has = each_in (HasParent tables rows row) (table_at tables t).foreign all foreign there plain in
      let found = some_there (row_at tables rows foreign.table (cells foreign.cols row)) has in
      let is = find_passes (agrees (table_at tables foreign.table).key (cells foreign.cols row)) (rows_of foreign.table rows) found.0 found.1 in
      (found.0, is.0, (values_decide (cells (table_at tables foreign.table).key found.0) (cells foreign.cols row)).0 is.1)
