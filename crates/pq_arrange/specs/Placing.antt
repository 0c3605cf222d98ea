-- The order in which the relations of a query are placed.
use Rattle.std.specs.Prelude.{ℕ, zero, suc, Bool, true, false, ◌==◌, ◌&&◌, ◌||◌, if◌then◌else◌, List, [], ◌∷◌, ◌++◌, filter, flat_map, find, length, unwrap_or, Option, Some, None}
use Rattle.std.specs.Option.{option_and_then, option_map_or}
use Rattle.std.specs.List.{list_any, range_with_len}
use Rattle.pq_base.specs.Columns.{set_of}
use Rattle.pq_schema.specs.declared.table.Table.{Table}
use Rattle.pq_schema.specs.declared.query.ColRef.{ColRef}
use Rattle.pq_schema.specs.declared.query.Operand.{Operand}
use Rattle.pq_schema.specs.declared.query.Operand.TheVariants as operand
use Rattle.pq_schema.specs.declared.query.Pred.{Pred}
use Rattle.pq_schema.specs.declared.query.Query.{Query}
use Rattle.pq_schema.specs.Tables.{data_bound, least_of}
use Rattle.pq_schema.specs.Relations.{table_of, is_equality}
use Rattle.pq_schema.specs.Resolved.{same_ref}
use Rattle.pq_arrange.specs.Classes.{is_in, class_of, is_given}

abbrev pub is_placed : List ℕ → ℕ → Bool
is_placed placed rel = list_any (λ other. other == rel) placed

-- an equality of this column with a constant, a parameter or a column of a placed relation
abbrev pub ties_with : List ℕ → ColRef → ColRef → Operand → Bool
ties_with placed ref left (operand.Const value) = same_ref left ref
ties_with placed ref left (operand.Param number) = same_ref left ref
ties_with placed ref left (operand.Col other) =
    same_ref left ref && is_placed placed other.rel || same_ref other ref && is_placed placed left.rel

abbrev pub ties_column : List ℕ → ColRef → Pred → Bool
ties_column placed ref pred = is_equality pred.op && ties_with placed ref pred.left pred.right

-- the column of a predicate on the right is of the class and of a placed relation
abbrev pub is_placed_in : List Pred → ColRef → List ℕ → Operand → Bool
is_placed_in preds class placed (operand.Const value) = false
is_placed_in preds class placed (operand.Param number) = false
is_placed_in preds class placed (operand.Col other) = is_in preds class other && is_placed placed other.rel

-- an equality of the class with a constant, a parameter, or a member in a placed relation
abbrev pub ties_class : List Pred → List ℕ → ColRef → Pred → Bool
ties_class preds placed class pred =
    is_equality pred.op
    && (is_in preds class pred.left && (is_given pred || is_placed placed pred.left.rel)
    || is_placed_in preds class placed pred.right)

-- whether equalities are closed
abbrev pub is_tied_ref : Bool → List Pred → List ℕ → ColRef → Bool
is_tied_ref false preds placed ref = list_any (ties_column placed ref) preds
is_tied_ref true preds placed ref = list_any (ties_class preds placed (class_of preds ref)) preds

-- the column of this number of a relation is tied
abbrev pub is_tied_at : Bool → List Pred → List ℕ → ℕ → ℕ → Bool
is_tied_at close preds placed rel col = is_tied_ref close preds placed (record { rel = rel; col = col })

abbrev pub bound_list : Option ℕ → List ℕ
bound_list None = []
bound_list (Some n) = n ∷ []

abbrev pub first_of_rest : List ℕ → ℕ
first_of_rest [] = 0
first_of_rest (rel ∷ rest) = rel

abbrev pub without : ℕ → List ℕ → List ℕ
without rel [] = []
without rel (other ∷ others) = if other == rel then others else other ∷ without rel others

module _ (tables : List Table) (query : Query) (close : Bool) where
  abbrev pub tied_columns : List ℕ → ℕ → ℕ
  tied_columns placed rel =
      set_of (filter (is_tied_at close query.preds placed rel)
      (range_with_len 0 (length (table_of tables query rel).columns)))

  -- the data bound of a relation that would come next
  abbrev pub bound_next : List ℕ → ℕ → Option ℕ
  bound_next placed rel = data_bound (table_of tables query rel) (tied_columns placed rel)

  -- the first of the unplaced relations with the least data bound
  abbrev pub least_bound : List ℕ → List ℕ → Option ℕ
  least_bound placed rest =
      option_and_then (λ n. find (λ rel. option_map_or (λ m. m == n) (bound_next placed rel) false) rest)
      (least_of (flat_map (λ rel. bound_list (bound_next placed rel)) rest))

  -- the first with a column in ORDER BY
  abbrev pub first_ordered : List ℕ → Option ℕ
  first_ordered rest = find (λ rel. list_any (λ item. item.col.rel == rel) query.order) rest

  abbrev pub next : List ℕ → List ℕ → ℕ
  next placed rest = unwrap_or (least_bound placed rest) (unwrap_or (first_ordered rest) (first_of_rest rest))

  -- as many more of the unplaced relations, one after the other
  abbrev pub placed_after : ℕ → List ℕ → List ℕ → List ℕ
  placed_after zero placed rest = placed
  placed_after (suc n) placed rest = placed_after n (placed ++ next placed rest ∷ []) (without (next placed rest) rest)

  -- the old numbers of the relations, in their new order
  abbrev pub arranged_order : List ℕ
  arranged_order = placed_after (length query.relations) [] (range_with_len 1 (length query.relations))
