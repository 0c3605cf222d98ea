-- What a logical tree means: a list of combinations.
use Rattle.std.specs.Prelude.{◌≡◌, ℕ, ◌-◌, Bool, ◌&&◌, ◌==◌, nat_lt, List, [], ◌∷◌, ◌++◌, take, map, filter, flat_map, count_by, Option}
use Rattle.std.specs.List.{list_all}
use Rattle.std.specs.declared.cmp.Ordering.{Ordering}
use Rattle.std.specs.Ordering.{is_lt, eq_by_cmp}
use Rattle.std.specs.Cmp.Lexicographic.{slice_cmp}
use Rattle.pq_base.specs.declared.value.Value.{Value}
use Rattle.pq_schema.specs.Tables.{is_lookup}
use Rattle.pq_schema.specs.Relations.{belongs_to, tied_set, table_of}
use Rattle.pq_plan.specs.declared.logical.Logical.{Logical}
use Rattle.pq_plan.specs.declared.logical.Logical.TheVariants as node
use Rattle.pq_schema.specs.declared.table.Table.{Table}
use Rattle.pq_schema.specs.declared.query.Query.{Query}
use Rattle.pq_plan.specs.Answer.{Question, holds, row_of, rows_at, in_order, first_past, selected_values, answer}
use Rattle.pq_plan.specs.Kept.{row_cmp, cells, KeepsSchema}

-- combinations by their rows
abbrev pub combo_cmp : List (List Value) → List (List Value) → Ordering
combo_cmp = slice_cmp row_cmp

-- a logical tree, without its boxes
pub data Tree : Type 0 where
  Unit : Tree
  Read : Tree → ℕ → Tree
  DataStop : Tree → ℕ → ℕ → Tree
  StopRead : Tree → ℕ → ℕ → Tree
  Order : Tree → Tree
  Cut : Tree → ℕ → Tree
  Project : Tree → Tree

abbrev pub tree_of : Logical → Tree
tree_of node.Unit = Unit
tree_of (node.Read' p input rel) = Read (tree_of input) rel
tree_of (node.DataStop' p input rel n) = DataStop (tree_of input) rel n
tree_of (node.StopRead' p input rel k) = StopRead (tree_of input) rel k
tree_of (node.Order' p input) = Order (tree_of input)
tree_of (node.Cut' p input k) = Cut (tree_of input) k
tree_of (node.Project' p input) = Project (tree_of input)

module _ (q : Question) where
  abbrev pub key_of : ℕ → List ℕ
  key_of rel = (table_of q.tables q.query rel).key

  abbrev pub looks_up : ℕ → Bool
  looks_up rel = is_lookup (table_of q.tables q.query rel) (tied_set q.query rel)

  -- the predicates that belong to the relation hold
  abbrev pub keeps : ℕ → List (List Value) → Bool
  keeps rel combo = list_all (holds q.params combo) (filter (λ pred. belongs_to pred == rel) q.query.preds)

  -- the rows of the relation that pass behind a combination
  abbrev pub partners : ℕ → List (List Value) → List (List Value)
  partners rel combo = filter (λ row. keeps rel (combo ++ row ∷ [])) (rows_at q rel)

  abbrev pub followed : ℕ → List (List Value) → List (List (List Value))
  followed rel combo = map (λ row. combo ++ row ∷ []) (partners rel combo)

  -- each input, followed by each row that passes
  abbrev pub read : ℕ → List (List (List Value)) → List (List (List Value))
  read rel inputs = flat_map (followed rel) inputs

  -- the same rows before the relation
  abbrev pub is_same_front : ℕ → List (List Value) → List (List Value) → Bool
  is_same_front rel a b = eq_by_cmp combo_cmp (take (rel - 1) a) (take (rel - 1) b)

  abbrev pub key_at : ℕ → List (List Value) → List Value
  key_at rel combo = cells (key_of rel) (row_of rel combo)

  -- of the combinations with one front, the n least by the key of the relation
  abbrev pub data_stop : ℕ → ℕ → List (List (List Value)) → List (List (List Value))
  data_stop rel n combos =
      filter (λ a. nat_lt (count_by (λ b. is_same_front rel a b
      && is_lt (row_cmp (key_at rel b) (key_at rel a))) combos) n) combos

  -- after the cursor's position
  abbrev pub mean : Option (List Value) → Tree → List (List (List Value))
  mean after Unit = [] ∷ []
  mean after (Read input rel) = read rel (mean after input)
  mean after (DataStop input rel n) = data_stop rel n (mean after input)
  mean after (StopRead input rel k) = first_past q after k (in_order q (read rel (mean after input)))
  mean after (Order input) = in_order q (mean after input)
  mean after (Cut input k) = first_past q after k (mean after input)
  mean after (Project input) = mean after input

-- over all tables that keep the schema, with all parameters and at all cursors, the tree means the answer
unfoldable pub MeansAnswer : List Table → Query → Tree → Type 0
MeansAnswer tables query tree =
    (rows : List (ℕ × List Value)) → KeepsSchema tables rows → (params : List Value) (after : Option (List Value)) →
    map (selected_values query) (mean (record { tables = tables; query = query; rows = rows; params = params }) after
    tree) ≡ answer tables query rows params after
