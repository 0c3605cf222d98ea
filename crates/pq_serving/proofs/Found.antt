-- What a scan finds: few rows, that the predicates keep, whose positions stand in what the range answers.
use Rattle.std.proofs.Common.{◌≡◌, ℕ, suc, ◌<◌, ◌≤◌, Bool, inl, inr, true, false, cond, List, [], ◌∷◌, ◌++◌, length, get_or, map, filter, drop, take, count_ones, Option, Some, refl, sym, ap, ◌∙◌, arith, length-take}
use Rattle.std.specs.List.{AllByRecursion}
use Rattle.std.proofs.lemmas.Bool.{and_parts, and_from}
use Rattle.std.proofs.lemmas.List.{length-map, drop-map}
use Rattle.pq_base.specs.declared.value.ColType.{ColType}
use Rattle.pq_base.specs.declared.value.Value.{Value}
use Rattle.pq_base.specs.Order.{position_cmp}
use Rattle.pq_key_code.specs.KeyCode.{code_of}
use Rattle.pq_key_code.proofs.Order.{codes_cmp}
use Rattle.pq_schema.specs.Keys.{dirs_of}
use Rattle.pq_schema.specs.declared.table.KeyPart.{KeyPart}
use Rattle.pq_base.specs.Values.{AllFit}
use Rattle.pq_base.proofs.Sorts.{IsPermutation-sort_by}
use Rattle.pq_base.specs.Members.{In}
use Rattle.pq_base.specs.Sorting.{sort_by}
use Rattle.pq_base.proofs.TypeFits.{length_from_fits}
use Rattle.pq_schema.specs.declared.table.Column.{Column}
use Rattle.pq_schema.specs.declared.table.Table.{Table}
use Rattle.pq_schema.specs.declared.query.ColRef.{ColRef}
use Rattle.pq_schema.specs.Resolved.{ref_type}
use Rattle.pq_schema.specs.Tables.{type_at}
use Rattle.pq_content.specs.Tables.{types_of, IsOfKind}
use Rattle.pq_schema.proofs.TypeKinds.{kind_from_fit}
use Rattle.pq_serving.proofs.Typed.{fit_get}
use Rattle.pq_schema.specs.declared.query.OrderItem.{OrderItem}
use Rattle.pq_schema.specs.Sequences.{columns_of}
use Rattle.pq_schema.specs.Relations.{table_of, tied_set, position_columns}
use Rattle.pq_store.specs.Content.{key_cmp}
use Rattle.pq_plan.specs.Answer.{Question, row_of, rows_at, no_value, position, by_position, in_order}
use Rattle.pq_plan.specs.Kept.{cells}
use Rattle.pq_plan.specs.Meaning.{keeps}
use Rattle.pq_base.proofs.Members.{in_take, in_filter, get_at}
use Rattle.pq_plan.proofs.Orders.{in_permuted}
use Rattle.std.proofs.lemmas.List.Sorted.{IsPermutation-sym}
use Rattle.pq_serving.specs.Starts.{filled_values}
use Rattle.pq_serving.specs.Scanning.{position_directions, constants, passes, lies_within, rest, cells_of, found}
use Rattle.pq_serving.proofs.Keys.{Fits, fits_values, fits_kinds}
use Rattle.pq_serving.proofs.Served.{HasColumns, IsServed}
use Rattle.pq_serving.proofs.Constants.{position_is}
use Rattle.pq_serving.proofs.Rows.{row_after, is_after}
use Rattle.pq_serving.proofs.Scans.{sort_alike}

module _ (q : Question) (p : ℕ) (sequence : List KeyPart) (after : Option (List Value)) (k : ℕ) (c : List (List Value)) where
  -- no more than k
  pub found_few : length (found q p sequence k after c) ≤ k
  found_few = elim (passes q p c) as (λ b. length (cond b (take k (sort_by (position_cmp (dirs_of sequence)) (cells_of q p sequence) (filter (λ row. lies_within q p sequence c after (cells_of q p sequence row)) (rows_at q p)))) []) ≤ k) [
    | true ↦ few (sort_by (position_cmp (dirs_of sequence)) (cells_of q p sequence) (filter (λ row. lies_within q p sequence c after (cells_of q p sequence row)) (rows_at q p)))
    | false ↦ omega arith
  ]
    where
      few : (rows : List (List Value)) → length (take k rows) ≤ k
      few rows = let l = length-take k rows in omega arith

  -- each is a row of the relation, the input passes, and it lies within the range
  pub found_is : (r : List Value) → In r (found q p sequence k after c) → In r (rows_at q p) × (passes q p c ≡ true) × (lies_within q p sequence c after (cells_of q p sequence r) ≡ true)
  found_is r here = each (passes q p c) refl here
    where
      each : (b : Bool) → passes q p c ≡ b → In r (cond b (take k (sort_by (position_cmp (dirs_of sequence)) (cells_of q p sequence) (filter (λ row. lies_within q p sequence c after (cells_of q p sequence row)) (rows_at q p)))) []) → In r (rows_at q p) × (passes q p c ≡ true) × (lies_within q p sequence c after (cells_of q p sequence r) ≡ true)
      each true is here =
          let rows = filter (λ row. lies_within q p sequence c after (cells_of q p sequence row)) (rows_at q p) in
          let sorted = sort_by (position_cmp (dirs_of sequence)) (cells_of q p sequence) rows in
          let there = in_permuted (position_cmp (dirs_of sequence)) (cells_of q p sequence) r sorted rows (IsPermutation-sym rows sorted (IsPermutation-sort_by (position_cmp (dirs_of sequence)) (cells_of q p sequence) rows)) (in_take k r sorted here) in
          let f = in_filter (λ row. lies_within q p sequence c after (cells_of q p sequence row)) r (rows_at q p) there in
          (f.0, is, f.1)
      each false is here = absurd here

  module _ (s : IsServed q p sequence) (wide : (r : List Value) → In r (rows_at q p) → HasColumns sequence r) (fits : (at : List Value) → after ≡ Some at → length at ≡ length (position_columns q.tables q.query)) (long : suc (length c) ≡ p) where
    -- the predicates keep it, and it is strictly after the cursor
    pub found_kept : (r : List Value) → In r (found q p sequence k after c) → (keeps q p (c ++ r ∷ []) ≡ true) × (is_after q after (c ++ r ∷ []) ≡ true)
    found_kept r here =
        let f = found_is r here in
        and_parts (keeps q p (c ++ r ∷ [])) (is_after q after (c ++ r ∷ [])) (row_after q p sequence s c long r (wide r f.0) after fits ∙ and_from _ _ f.1 f.2)

    -- its position is made of the constants and of the values that stand behind the tied ones
    pub found_position : (r : List Value) → In r (found q p sequence k after c) → position q (c ++ r ∷ []) ≡ filled_values (constants q p c) (drop (count_ones (tied_set q.query p)) (cells_of q p sequence r))
    found_position r here =
        let many = count_ones (tied_set q.query p) in
        let column = λ (part : KeyPart). part.col in
        let value = λ (col : ℕ). get_or r col no_value in
        let behind : drop many (cells_of q p sequence r) ≡ cells (columns_of (rest q p sequence)) r = drop-map value many (columns_of sequence) ∙ ap (map value) (drop-map column many sequence) in
        sym (position_is q p sequence s c r long (found_kept r here).0) ∙ ap (filled_values (constants q p c)) (sym behind)

-- the values of a position are of the types of its columns
pub position_fits : (q : Question) (combo : List (List Value)) → ((item : OrderItem) → In item (position_columns q.tables q.query) → AllFit (types_of (table_of q.tables q.query item.col.rel)) (row_of item.col.rel combo) × (item.col.col < length (table_of q.tables q.query item.col.rel).columns)) → Fits (map (λ (item : OrderItem). ref_type q.tables q.query item.col) (position_columns q.tables q.query)) (position q combo)
position_fits q combo each = all (position_columns q.tables q.query) each
  where
    one : (table : Table) (row : List Value) (col : ℕ) → AllFit (types_of table) row → col < length table.columns → IsOfKind (type_at table.columns col) (get_or row col no_value)
    one table row col fit inside =
        let l = length_from_fits (types_of table) row fit in
        let m = length-map table.columns (λ (column : Column). column.ty) in
        kind_from_fit (type_at table.columns col) (get_or row col no_value) (fit_get (types_of table) row col (get_or row col no_value) fit (get_at row col no_value (omega (arith, l, m, inside))))

    all : (items : List OrderItem) → ((item : OrderItem) → In item items → AllFit (types_of (table_of q.tables q.query item.col.rel)) (row_of item.col.rel combo) × (item.col.col < length (table_of q.tables q.query item.col.rel).columns)) → Fits (map (λ (item : OrderItem). ref_type q.tables q.query item.col) items) (map (λ (col : ColRef). get_or (row_of col.rel combo) col.col no_value) (map (λ (item : OrderItem). item.col) items))
    all [] each = tt
    all (item ∷ items) each = (let f = each item (inl refl) in one (table_of q.tables q.query item.col.rel) (row_of item.col.rel combo) item.col.col f.0 f.1, all items (λ x here. each x (inr here)))

-- combinations whose positions are typed are in the order of their positions by the codes of these
pub by_code : (q : Question) (p : ℕ) (ts : List ColType) (combos : List (List (List Value))) → AllByRecursion (λ combo. Fits ts (position q combo)) combos → sort_by key_cmp (λ combo. code_of (position_directions q p) (position q combo)) combos ≡ in_order q combos
by_code q p ts combos typed =
    sort_alike key_cmp (λ combo. code_of (position_directions q p) (position q combo)) (by_position q) (position q) (λ combo. Fits ts (position q combo))
    (λ c d f g. codes_cmp (position_directions q p) (position q c) (position q d) (fits_values ts (position q c) f) (fits_values ts (position q d) g) (fits_kinds ts (position q c) (position q d) f g) (long c) (long d))
    combos typed
  where
    long : (c : List (List Value)) → length (position q c) ≤ length (position_directions q p)
    long c =
        let items = position_columns q.tables q.query in
        let cols = map (λ (item : OrderItem). item.col) items in
        let same : length (position q c) ≡ length (position_directions q p) = length-map cols (λ (col : ColRef). get_or (row_of col.rel c) col.col no_value) ∙ length-map items (λ (item : OrderItem). item.col) ∙ sym (length-map items (λ (item : OrderItem). item.dir)) in
        omega arith
