-- The lines of nodes as text (docs/FORMATS.md, "Plans").
use Rattle.std.specs.Prelude.{ℕ, ◌-◌, List, [], ◌∷◌, ◌++◌, flat_map, map, codes, decimal, slice_get, Option, Some, None}
use Rattle.std.specs.Option.{option_map_or}
use Rattle.pq_base.specs.declared.number.Bound.{Bound}
use Rattle.pq_base.specs.declared.value.Dir.{Dir}
use Rattle.pq_base.specs.declared.value.Dir.TheVariants.{Asc, Desc}
use Rattle.pq_schema.specs.Sequences.{ascending_part}
use Rattle.pq_schema.specs.Relations.{relation_at, table_of}
use Rattle.pq_schema.specs.declared.table.Access.{Access}
use Rattle.pq_schema.specs.declared.table.Access.TheVariants.{Primary, Secondary}
use Rattle.pq_schema.specs.declared.table.Column.{Column}
use Rattle.pq_schema.specs.declared.table.Index.{Index}
use Rattle.pq_schema.specs.declared.table.KeyPart.{KeyPart}
use Rattle.pq_schema.specs.declared.table.NewIndex.{NewIndex}
use Rattle.pq_schema.specs.declared.table.Table.{Table}
use Rattle.pq_schema.specs.declared.query.Query.{Query}
use Rattle.pq_plan_lines.specs.declared.node_line.NodeLine.{NodeLine}
use Rattle.pq_plan_lines.specs.declared.node_line.PlanNode.{PlanNode}
use Rattle.pq_plan_lines.specs.declared.node_line.PlanNode.TheVariants as shown

-- the columns of an index that a query wants
abbrev pub wanted_parts : Option NewIndex → List KeyPart
wanted_parts None = []
wanted_parts (Some new) = new.index.cols

abbrev pub found_parts : Option Index → Option NewIndex → List KeyPart
found_parts (Some index) wanted = index.cols
found_parts None wanted = wanted_parts wanted

-- those of an index by its number from 1: one that is there, or the one that the query wants
abbrev pub index_parts : List Index → Option NewIndex → ℕ → List KeyPart
index_parts indexes wanted number = found_parts (slice_get indexes (number - 1)) wanted

-- the name of the column of this place, from 0
abbrev pub column_name : List Column → ℕ → List ℕ
column_name columns col = option_map_or (λ column. column.name) (slice_get columns col) []

-- a descending column says so
abbrev pub dir_text : Dir → List ℕ
dir_text Asc = []
dir_text Desc = codes " DESC"

abbrev pub part_text : List Column → KeyPart → List ℕ
part_text columns part = column_name columns part.col ++ dir_text part.dir

abbrev pub later_text : List Column → List KeyPart → List ℕ
later_text columns parts = flat_map (λ part. codes ", " ++ part_text columns part) parts

abbrev pub parts_text : List Column → List KeyPart → List ℕ
parts_text columns [] = []
parts_text columns (part ∷ rest) = part_text columns part ++ later_text columns rest

-- the primary sequence by the columns of the key, that of an index by its own
unfoldable pub sequence_text : Table → Option NewIndex → Access → List ℕ
sequence_text table wanted Primary =
    codes " key (" ++ parts_text table.columns (map ascending_part table.key) ++ codes ")"
sequence_text table wanted (Secondary number) =
    codes " index " ++ decimal number ++ codes " ("
    ++ parts_text table.columns (index_parts table.indexes wanted number) ++ codes ")"

-- the alias and the table of a relation
abbrev pub relation_text : List Table → Query → ℕ → List ℕ
relation_text tables query rel =
    codes " " ++ (relation_at query rel).alias ++ codes " " ++ (table_of tables query rel).name

module _ (tables : List Table) (query : Query) (wanted : Option NewIndex) where
  abbrev pub read_text : ℕ → Access → List ℕ
  read_text rel access = relation_text tables query rel ++ sequence_text (table_of tables query rel) wanted access

  unfoldable pub node_text : PlanNode → List ℕ
  node_text (shown.Lookup rel) = codes "lookup" ++ read_text rel Primary
  node_text (shown.LimitRange rel limit n access) =
      codes "range" ++ read_text rel access ++ codes " limit " ++ decimal n
  node_text (shown.StopScan rel k access) = codes "stop" ++ read_text rel access ++ codes " first " ++ decimal k
  node_text (shown.Filter rel) = codes "filter" ++ relation_text tables query rel
  node_text shown.Sort = codes "sort"
  node_text (shown.Cut k) = codes "cut " ++ decimal k
  node_text shown.Project = codes "project"

-- what a node costs and gives
abbrev pub cost_text : Bound → ℕ → List ℕ
cost_text cost size =
    codes " bound " ++ decimal cost.ops ++ codes " " ++ decimal cost.entries ++ codes " size " ++ decimal size
    ++ codes "\n"

-- the line of a node of a query over the tables, which wants the index
abbrev pub line_text : List Table → Query → Option NewIndex → NodeLine → List ℕ
line_text tables query wanted line =
    codes "node " ++ node_text tables query wanted line.node ++ cost_text line.cost line.size

-- the line of a plan's rounds
abbrev pub rounds_text : ℕ → List ℕ
rounds_text rounds = codes "rounds " ++ decimal rounds ++ codes "\n"
