-- What a stop scan asks of a sequence for one input, and what it answers.
use Rattle.std.specs.Prelude.{ℕ, Bool, false, cond, not, ◌&&◌, ◌==◌, List, [], ◌∷◌, ◌++◌, map, filter, flat_map, take, drop, count_ones, unwrap_or, slice_index_or, Option, Some, None}
use Rattle.std.specs.Ordering.{is_eq}
use Rattle.std.specs.List.{list_all}
use Rattle.pq_base.specs.declared.value.Dir.{Dir}
use Rattle.pq_base.specs.declared.value.Dir.TheVariants.{Asc}
use Rattle.pq_base.specs.declared.value.Value.{Value}
use Rattle.pq_base.specs.Values.{is_null}
use Rattle.pq_base.specs.Columns.{has_col}
use Rattle.pq_base.specs.Order.{position_cmp}
use Rattle.pq_base.specs.Sorting.{sort_by}
use Rattle.pq_key_code.specs.KeyOrder.{common_cmp}
use Rattle.pq_schema.specs.declared.table.KeyPart.{KeyPart}
use Rattle.pq_schema.specs.declared.query.Pred.{Pred}
use Rattle.pq_schema.specs.declared.query.OrderItem.{OrderItem}
use Rattle.pq_schema.specs.Sequences.{columns_of}
use Rattle.pq_schema.specs.Keys.{dirs_of}
use Rattle.pq_schema.specs.Relations.{belongs_to, tied_set, is_rest, position_columns}
use Rattle.pq_base.specs.Comparing.{compares}
use Rattle.pq_plan.specs.Answer.{Question, row_of, rows_at, side, no_value}
use Rattle.pq_plan.specs.Kept.{cells}
use Rattle.pq_plan.specs.Running.{tied_value}
use Rattle.pq_nodes.specs.Tied.{tied_cells}
use Rattle.pq_serving.specs.Starts.{Bound, reaches, start_of, under, lower, upper}

-- the direction of the first part
abbrev pub first_direction : List KeyPart → Dir
first_direction [] = Asc
first_direction (part ∷ parts) = part.dir

-- whether there is something that a value can be compared with, and it isn't NULL
abbrev pub is_operand : Option Value → Bool
is_operand None = false
is_operand (Some operand) = not (is_null operand)

module _ (q : Question) (p : ℕ) where
  -- the value of a position column that is the same for each row of relation p that passes
  abbrev pub constant_value : List (List Value) → OrderItem → Value
  constant_value combo item =
      cond (item.col.rel == p) (unwrap_or (tied_value q p combo item.col.col) no_value)
      (slice_index_or (row_of item.col.rel combo) item.col.col no_value)

  -- none for a column of relation p that is not fixed
  abbrev pub constant : List (List Value) → OrderItem → Option Value
  constant combo item = cond (is_rest p (tied_set q.query p) item) None (Some (constant_value combo item))

  abbrev pub constants : List (List Value) → List (Option Value)
  constants combo = map (constant combo) (position_columns q.tables q.query)

  abbrev pub position_directions : List Dir
  position_directions = map (λ item. item.dir) (position_columns q.tables q.query)

  -- the predicates that belong to relation p
  abbrev pub own_preds : List Pred
  own_preds = filter (λ pred. belongs_to pred == p) q.query.preds

  -- of a column that equalities tie
  abbrev pub is_tied : Pred → Bool
  is_tied pred = has_col (tied_set q.query p) pred.left.col

  -- what a predicate says of the input by itself: of a tied column all, of another one that there is an operand
  abbrev pub passes_one : List (List Value) → Pred → Bool
  passes_one combo pred =
      cond (is_tied pred) (compares pred.op (tied_value q p combo pred.left.col) (side q.params combo pred.right))
      (is_operand (side q.params combo pred.right))

  abbrev pub passes : List (List Value) → Bool
  passes combo = list_all (passes_one combo) own_preds

  -- the bounds that a predicate makes with its operand
  abbrev pub bounds_with : (Value → List Bound) → Option Value → List Bound
  bounds_with make None = []
  bounds_with make (Some operand) = make operand

  abbrev pub lowers : Dir → List (List Value) → Pred → List Bound
  lowers d combo pred = cond (is_tied pred) [] (bounds_with (lower d pred.op) (side q.params combo pred.right))

  abbrev pub uppers : Dir → List (List Value) → Pred → List Bound
  uppers d combo pred = cond (is_tied pred) [] (bounds_with (upper d pred.op) (side q.params combo pred.right))

  abbrev pub starts : List (List Value) → Option (List Value) → List Bound
  starts combo None = []
  starts combo (Some at) = start_of position_directions (constants combo) at ∷ []

  module _ (sequence : List KeyPart) where
    -- the columns that are tied, and the parts behind them
    abbrev pub front : List ℕ
    front = take (count_ones (tied_set q.query p)) (columns_of sequence)

    abbrev pub rest : List KeyPart
    rest = drop (count_ones (tied_set q.query p)) sequence

    abbrev pub ties : List (List Value) → List Value
    ties combo = tied_cells q p front combo

    -- the bounds of the rest
    abbrev pub lows : List (List Value) → Option (List Value) → List Bound
    lows combo after = starts combo after ++ flat_map (lowers (first_direction rest) combo) own_preds

    abbrev pub highs : List (List Value) → List Bound
    highs combo = flat_map (uppers (first_direction rest) combo) own_preds

    -- the values begin with the ties and lie within the bounds behind them
    abbrev pub lies_within : List (List Value) → Option (List Value) → List Value → Bool
    lies_within combo after xs =
        is_eq (common_cmp (dirs_of sequence) (ties combo) xs)
        && (list_all (λ b. reaches (dirs_of sequence) b xs) (map (under (ties combo)) (lows combo after))
        && list_all (λ b. not (reaches (dirs_of sequence) b xs)) (map (under (ties combo)) (highs combo)))

    abbrev pub cells_of : List Value → List Value
    cells_of row = cells (columns_of sequence) row

    -- the rows of the range, in the sequence's order
    abbrev pub lying : Option (List Value) → List (List Value) → List (List Value)
    lying after combo =
        sort_by (position_cmp (dirs_of sequence)) cells_of
        (filter (λ row. lies_within combo after (cells_of row)) (rows_at q p))

    -- the first k of them; none where the input does not pass
    abbrev pub found : ℕ → Option (List Value) → List (List Value) → List (List Value)
    found k after combo = cond (passes combo) (take k (lying after combo)) []

    -- each behind its input
    abbrev pub scan : ℕ → Option (List Value) → List (List Value) → List (List (List Value))
    scan k after combo = map (λ row. combo ++ row ∷ []) (found k after combo)
