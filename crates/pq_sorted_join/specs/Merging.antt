-- Lists of combinations that rise by position.
use Rattle.std.specs.Prelude.{◌≡◌, true, List, [], ◌∷◌, IsSomeAnd}
use Rattle.std.specs.List.{AllByRecursion}
use Rattle.std.specs.Ordering.{is_lt}
use Rattle.pq_base.specs.Values.{FitsType}
use Rattle.pq_base.specs.declared.value.Dir.{Dir}
use Rattle.pq_base.specs.declared.value.Value.{Value}
use Rattle.pq_key_code.specs.KeyCode.{code_of}
use Rattle.pq_plan.specs.Answer.{cell, position, by_position, question, values_at}
use Rattle.pq_scan.specs.declared.merge.Placed.{Placed}
use Rattle.pq_schema.specs.declared.query.ColRef.{ColRef}
use Rattle.pq_schema.specs.declared.query.OrderItem.{OrderItem}
use Rattle.pq_schema.specs.declared.query.Query.{Query}
use Rattle.pq_schema.specs.declared.table.Table.{Table}
use Rattle.pq_schema.specs.Relations.{position_columns}
use Rattle.pq_schema.specs.Resolved.{ref_type}

-- the column is there, and its value fits it
abbrev pub HasFitting : List Table → Query → List (List Value) → OrderItem → Type 0
HasFitting tables query combo item = IsSomeAnd (cell combo item.col) (FitsType (ref_type tables query item.col))

-- the position columns are there, with values that fit them
abbrev pub HasPosition : List Table → Query → List (List Value) → Type 0
HasPosition tables query combo = AllByRecursion (HasFitting tables query combo) (position_columns tables query)

-- the position of one is strictly before that of the other; neither rows nor parameters play a part in it
abbrev pub IsBefore : List Table → Query → List (List Value) → List (List Value) → Type 0
IsBefore tables query combo other =
    let q = question tables query [] [] in is_lt (by_position q (position q combo) (position q other)) ≡ true

-- each comes strictly before those behind it
abbrev pub RisesByPosition : List Table → Query → List (List (List Value)) → Type 0
RisesByPosition tables query [] = Unit {0}
RisesByPosition tables query (combo ∷ combos) =
    AllByRecursion (IsBefore tables query combo) combos × RisesByPosition tables query combos

-- a combination with the code of its values at some columns
abbrev pub placed_combo : List ColRef → List Dir → List (List Value) → Placed (List (List Value))
placed_combo cols dirs combo = record { place = code_of dirs (values_at combo cols); item = combo }
