-- The position of a row that passes behind an input: constants, and between them the sequence's rest.
use Rattle.std.proofs.Common.{◌≡◌, ℕ, suc, Bool, true, false, cond, not, ◌&&◌, ◌==◌, inl, inr, List, [], ◌∷◌, ◌++◌, length, get_or, map, filter, take, count_ones, Option, unwrap_or, refl, sym, ap, ◌∙◌, arith, take-append-drop}
use Rattle.std.specs.Ordering.{is_lt}
use Rattle.std.proofs.lemmas.Bool.{and_parts, eqb-true, eq-eqb, ne_eqb, false≢true, cases_eq}
use Rattle.std.proofs.lemmas.Option.{get_or_from_slice_get}
use Rattle.std.proofs.lemmas.List.{length-map, take-map}
use Rattle.pq_base.specs.Columns.{has_col}
use Rattle.pq_base.specs.declared.value.Value.{Value}
use Rattle.pq_base.specs.declared.value.Dir.{Dir}
use Rattle.pq_base.specs.Order.{position_cmp}
use Rattle.pq_base.specs.Members.{In}
use Rattle.pq_schema.specs.Keys.{dirs_of}
use Rattle.pq_schema.specs.declared.table.KeyPart.{KeyPart}
use Rattle.pq_schema.specs.declared.query.ColRef.{ColRef}
use Rattle.pq_schema.specs.declared.query.OrderItem.{OrderItem}
use Rattle.pq_schema.specs.Sequences.{columns_of}
use Rattle.pq_schema.specs.Relations.{tied_set, is_rest, part_of, position_columns}
use Rattle.pq_plan.specs.Answer.{Question, row_of, no_value, position, by_position}
use Rattle.pq_plan.specs.Kept.{cells}
use Rattle.pq_plan.specs.Meaning.{keeps}
use Rattle.pq_plan.specs.Running.{tied_value}
use Rattle.pq_base.proofs.Sets.{set_members}
use Rattle.pq_plan.proofs.Fixed.{last, earlier_row, tied_one}
use Rattle.pq_serving.specs.Starts.{filled_values, reaches, start_of}
use Rattle.pq_serving.specs.Scanning.{constant_value, constant, constants, position_directions, front, rest, cells_of}
use Rattle.pq_serving.proofs.Columns.{map_twice, map-append}
use Rattle.pq_serving.proofs.Places.{fill, own_is, count_is, order_law, start_law, front_law, own_count, own}
use Rattle.pq_serving.proofs.Served.{IsServed, kept_front}

-- the values of a row at the rest's columns
cells_thrice : (r : List Value) (items : List OrderItem) → cells (columns_of (map part_of items)) r ≡ map (λ (item : OrderItem). get_or r item.col.col no_value) items
cells_thrice r [] = refl
cells_thrice r (item ∷ items) = ap (λ (l : List Value). get_or r item.col.col no_value ∷ l) (cells_thrice r items)

dirs_twice : (items : List OrderItem) → dirs_of (map part_of items) ≡ map (λ (item : OrderItem). item.dir) items
dirs_twice [] = refl
dirs_twice (item ∷ items) = ap (λ (l : List Dir). item.dir ∷ l) (dirs_twice items)

module _ (q : Question) (p : ℕ) (sequence : List KeyPart) (s : IsServed q p sequence) where
  abbrev items : List OrderItem
  items = position_columns q.tables q.query

  abbrev open_items : List OrderItem
  open_items = filter (is_rest p (tied_set q.query p)) items

  abbrev rest_cells : List Value → List Value
  rest_cells r = cells (columns_of (rest q p sequence)) r

  rest_cells_are : (r : List Value) → rest_cells r ≡ map (λ (item : OrderItem). get_or r item.col.col no_value) open_items
  rest_cells_are r = ap (λ parts. cells (columns_of parts) r) (sym s.rest_is) ∙ cells_thrice r open_items

  -- the places that are not constant have the dirs_of of the rest
  pub own_directions : (c : List (List Value)) → own (position_directions q p) (constants q p c) ≡ dirs_of (rest q p sequence)
  own_directions c = own_is (is_rest p (tied_set q.query p)) (constant_value q p c) (constant_value q p c) (constant_value q p c) (λ (item : OrderItem). item.dir) items ∙ sym (dirs_twice open_items) ∙ ap dirs_of s.rest_is

  -- and are as many
  pub own_many : (c : List (List Value)) → own_count (constants q p c) ≡ length (rest q p sequence)
  own_many c = count_is (is_rest p (tied_set q.query p)) (constant_value q p c) (constant_value q p c) (constant_value q p c) items ∙ sym (length-map open_items part_of) ∙ ap (λ (parts : List KeyPart). length parts) s.rest_is

  pub rest_long : (c : List (List Value)) (r : List Value) → length (rest_cells r) ≡ own_count (constants q p c)
  rest_long c r = length-map (columns_of (rest q p sequence)) (λ (col : ℕ). get_or r col no_value) ∙ length-map (rest q p sequence) (λ (part : KeyPart). part.col) ∙ sym (own_many c)

  pub constants_long : (c : List (List Value)) → length (position_directions q p) ≡ length (constants q p c)
  constants_long c = length-map items (λ (item : OrderItem). item.dir) ∙ sym (length-map items (constant q p c))

  -- a position column that is no part of the rest has its constant
  constant_is : (c : List (List Value)) (r : List Value) → suc (length c) ≡ p → keeps q p (c ++ r ∷ []) ≡ true → (item : OrderItem) → In item items → is_rest p (tied_set q.query p) item ≡ false → constant_value q p c item ≡ get_or (row_of item.col.rel (c ++ r ∷ [])) item.col.col no_value
  constant_is c r long keep item here closed =
      let bounds = s.items item here in
      elim (cases_eq item.col.rel p) [
        | inl same ↦
            let k = item.col.col in
            let tied : has_col (tied_set q.query p) k ≡ true = closed_is (item.col.rel == p) (has_col (tied_set q.query p) k) (eq-eqb _ _ same) closed in
            let e = tied_one q s.named p k (set_members _ k tied) c r long keep in
            ap (λ b. cond b (unwrap_or (tied_value q p c k) no_value) (get_or (row_of item.col.rel c) k no_value)) (eq-eqb _ _ same)
            ∙ ap (λ (o : Option Value). unwrap_or o no_value) e.2
            ∙ sym (get_or_from_slice_get r k e.0 no_value e.1)
            ∙ ap (λ (row : List Value). get_or row k no_value) (sym (ap (λ (n : ℕ). row_of n (c ++ r ∷ [])) same ∙ last c r p long))
        | inr other ↦
            let low = bounds.0 in
            let high = bounds.1 in
            ap (λ b. cond b (unwrap_or (tied_value q p c item.col.col) no_value) (get_or (row_of item.col.rel c) item.col.col no_value)) (ne_eqb item.col.rel p other)
            ∙ ap (λ (row : List Value). get_or row item.col.col no_value) (sym (earlier_row c (r ∷ []) item.col.rel low (omega arith)))
      ]
    where
      closed_is : (a b : Bool) → a ≡ true → (a && not b) ≡ false → b ≡ true
      closed_is true true e h = refl
      closed_is true false e h = absurd (false≢true (sym h))
      closed_is false b e h = absurd (false≢true e)

  own_cell : (c : List (List Value)) (r : List Value) → suc (length c) ≡ p → (item : OrderItem) → is_rest p (tied_set q.query p) item ≡ true → get_or r item.col.col no_value ≡ get_or (row_of item.col.rel (c ++ r ∷ [])) item.col.col no_value
  own_cell c r long item h =
      let same : item.col.rel ≡ p = eqb-true _ _ (and_parts _ _ h).0 in
      ap (λ (row : List Value). get_or row item.col.col no_value) (sym (ap (λ (n : ℕ). row_of n (c ++ r ∷ [])) same ∙ last c r p long))

  -- with the rest's values in the places that are not constant it is the position
  pub position_is : (c : List (List Value)) (r : List Value) → suc (length c) ≡ p → keeps q p (c ++ r ∷ []) ≡ true → filled_values (constants q p c) (rest_cells r) ≡ position q (c ++ r ∷ [])
  position_is c r long keep =
      let at = λ (item : OrderItem). get_or (row_of item.col.rel (c ++ r ∷ [])) item.col.col no_value in
      ap (filled_values (constants q p c)) (rest_cells_are r)
      ∙ fill (is_rest p (tied_set q.query p)) (constant_value q p c) at (λ (item : OrderItem). get_or r item.col.col no_value) items
      (λ item here h. own_cell c r long item h)
      (λ item here h. constant_is c r long keep item here h)
      ∙ sym (map_twice (λ (col : ColRef). get_or (row_of col.rel (c ++ r ∷ [])) col.col no_value) (λ (item : OrderItem). item.col) items)

  -- ---- the sequence, as its front and its rest
  abbrev many : ℕ
  many = count_ones (tied_set q.query p)

  pub dirs_are : dirs_of sequence ≡ dirs_of (take many sequence) ++ dirs_of (rest q p sequence)
  dirs_are = ap dirs_of (sym (take-append-drop many sequence)) ∙ map-append (λ (part : KeyPart). part.dir) (take many sequence) (rest q p sequence)

  pub cells_are : (r : List Value) → cells_of q p sequence r ≡ cells (front q p sequence) r ++ rest_cells r
  cells_are r =
      let value = λ (col : ℕ). get_or r col no_value in
      let column = λ (part : KeyPart). part.col in
      ap (λ parts. cells (columns_of parts) r) (sym (take-append-drop many sequence))
      ∙ ap (map value) (map-append column (take many sequence) (rest q p sequence))
      ∙ map-append value (columns_of (take many sequence)) (columns_of (rest q p sequence))
      ∙ ap (λ (cols : List ℕ). cells cols r ++ rest_cells r) (sym (take-map column many sequence))

  pub front_long : (r : List Value) → length (dirs_of (take many sequence)) ≡ length (cells (front q p sequence) r)
  front_long r =
      length-map (take many sequence) (λ (part : KeyPart). part.dir)
      ∙ sym (length-map (columns_of (take many sequence)) (λ (col : ℕ). get_or r col no_value) ∙ length-map (take many sequence) (λ (part : KeyPart). part.col))
      ∙ ap (λ (cols : List ℕ). length (cells cols r)) (sym (take-map (λ (part : KeyPart). part.col) many sequence))

  -- ---- the order of an input's rows that pass
  -- by the rest alone,
  pub order_rest_is : (c : List (List Value)) (r w : List Value) → suc (length c) ≡ p → keeps q p (c ++ r ∷ []) ≡ true → keeps q p (c ++ w ∷ []) ≡ true → by_position q (position q (c ++ r ∷ [])) (position q (c ++ w ∷ [])) ≡ position_cmp (dirs_of (rest q p sequence)) (rest_cells r) (rest_cells w)
  order_rest_is c r w long keep kept =
      (λ i. by_position q (sym (position_is c r long keep) i) (sym (position_is c w long kept) i))
      ∙ order_law (position_directions q p) (constants q p c) (rest_cells r) (rest_cells w) (constants_long c) (rest_long c r) (rest_long c w)
      ∙ ap (λ ds. position_cmp ds (rest_cells r) (rest_cells w)) (own_directions c)

  -- and by the whole sequence
  pub order_is : (c : List (List Value)) (r w : List Value) → suc (length c) ≡ p → keeps q p (c ++ r ∷ []) ≡ true → keeps q p (c ++ w ∷ []) ≡ true → by_position q (position q (c ++ r ∷ [])) (position q (c ++ w ∷ [])) ≡ position_cmp (dirs_of sequence) (cells_of q p sequence r) (cells_of q p sequence w)
  order_is c r w long keep kept =
      let front_r = kept_front q p sequence s c r long keep in
      let front_w = kept_front q p sequence s c w long kept in
      order_rest_is c r w long keep kept
      ∙ sym (front_law (dirs_of (take many sequence)) (dirs_of (rest q p sequence)) (cells (front q p sequence) r) (rest_cells r) (rest_cells w) (front_long r))
      ∙ ap (λ front_w. position_cmp (dirs_of (take many sequence) ++ dirs_of (rest q p sequence)) (cells (front q p sequence) r ++ rest_cells r) (front_w ++ rest_cells w)) (front_r ∙ sym front_w)
      ∙ (λ i. position_cmp (sym dirs_are i) (sym (cells_are r) i) (sym (cells_are w) i))

  -- ---- the cursor
  pub start_is : (c : List (List Value)) (r at : List Value) → suc (length c) ≡ p → keeps q p (c ++ r ∷ []) ≡ true → length at ≡ length items → is_lt (by_position q at (position q (c ++ r ∷ []))) ≡ reaches (dirs_of (rest q p sequence)) (start_of (position_directions q p) (constants q p c) at) (rest_cells r)
  start_is c r at long keep same =
      ap (λ l. is_lt (by_position q at l)) (sym (position_is c r long keep))
      ∙ start_law (position_directions q p) (constants q p c) at (rest_cells r) (constants_long c) (same ∙ sym (length-map items (constant q p c))) (rest_long c r)
      ∙ ap (λ ds. reaches ds (start_of (position_directions q p) (constants q p c) at) (rest_cells r)) (own_directions c)
