-- What the definitions give at known tables and queries, by computation.
use Rattle.std.proofs.Common.{◌≡◌, ℕ, true, List, [], ◌∷◌, map, Option, Some, None, refl, pos, length}
use lib.Count.{ones}
use Rattle.pq_base.specs.declared.value.Value.TheVariants as value
use Rattle.pq_base.specs.declared.value.ColType.TheVariants as ty
use Rattle.pq_base.specs.declared.value.Dir.TheVariants.{Asc, Desc}
use Rattle.pq_base.specs.declared.number.Choice.TheVariants.{Whole, Stop}
use Rattle.pq_schema.specs.Definitions.{no_fillers}
use Rattle.pq_schema.specs.declared.table.Column.{Column}
use Rattle.pq_schema.specs.declared.table.Limit.{Limit}
use Rattle.pq_schema.specs.declared.table.Foreign.{Foreign}
use Rattle.pq_schema.specs.declared.table.Table.{Table}
use Rattle.pq_schema.specs.declared.table.Access.TheVariants.{Primary, Secondary}
use Rattle.pq_schema.specs.declared.query.ColRef.{ColRef}
use Rattle.pq_base.specs.declared.op.Op.{Op}
use Rattle.pq_base.specs.declared.op.Op.TheVariants as op
use Rattle.pq_schema.specs.declared.query.Operand.{Operand}
use Rattle.pq_schema.specs.declared.query.Operand.TheVariants as operand
use Rattle.pq_schema.specs.declared.query.Pred.{Pred}
use Rattle.pq_schema.specs.declared.query.OrderItem.{OrderItem}
use Rattle.pq_schema.specs.declared.query.Relation.{Relation}
use Rattle.pq_schema.specs.declared.query.Query.{Query}
use Rattle.pq_schema.specs.declared.query.Stop.{Stop as StopWord}
use Rattle.pq_schema.specs.declared.query.Stop.TheVariants as stop
use Rattle.pq_schema.specs.Sequences.{ascending_part, with_groups, serving_access, new_index, index_sequence}
use Rattle.pq_schema.specs.Tables.{limit_place}
use Rattle.pq_schema.specs.Relations.{tied_set, order_rest, position_columns, is_total}
use Rattle.pq_schema.specs.Costs.{bound}
use Rattle.pq_schema.specs.Candidates.{Candidate, candidates, least}

-- a column of a kind that plays no part here
abbrev pub any_column : Column
any_column = record { name = []; ty = ty.Int }

-- a table as CREATE TABLE makes it
abbrev pub made : List Column → List ℕ → List Limit → List Foreign → Table
made columns key limits foreign =
    with_groups (record { name = []; columns = columns; fillers = no_fillers columns; key = key; limits = limits; foreign = foreign; indexes = [] })

abbrev pub limit : ℕ → List ℕ → Limit
limit n cols = record { n = n; cols = cols }

abbrev pub foreign : List ℕ → ℕ → Foreign
foreign cols table = record { cols = cols; table = table }

abbrev pub col : ℕ → ℕ → ColRef
col rel c = record { rel = rel; col = c }

abbrev pub pred : ColRef → Op → Operand → Pred
pred left op right = record { left = left; op = op; right = right }

abbrev pub from : ℕ → Relation
from table = record { table = table; alias = [] }

abbrev pub by : ColRef → OrderItem
by c = record { col = c; dir = Asc }

abbrev pub down : ColRef → OrderItem
down c = record { col = c; dir = Desc }

abbrev pub query : List ℕ → List Pred → List OrderItem → StopWord → Query
query tables preds order stop =
    record { name = []; relations = map from tables; select = []; preds = preds; order = order; stop = stop; params = [] }

abbrev pub stops : ℕ → ℕ → ℕ → Option Candidate
stops p ops entries = Some (record { choice = Stop p; bound = bound ops entries })

abbrev pub wholly : ℕ → ℕ → Option Candidate
wholly ops entries = Some (record { choice = Whole; bound = bound ops entries })

abbrev pub chosen : List Table → Query → Option Candidate
chosen tables query = least (candidates tables query)

-- users (name, city), subs (owner, target, approved), thoughts (owner, ts, body)
abbrev pub users : Table
users = made (any_column ∷ any_column ∷ []) (0 ∷ []) [] []

abbrev pub subs : Table
subs = made (any_column ∷ any_column ∷ any_column ∷ []) (0 ∷ 1 ∷ []) (limit 100 (0 ∷ []) ∷ []) (foreign (0 ∷ []) 1 ∷ foreign (1 ∷ []) 1 ∷ [])

abbrev pub thoughts : Table
thoughts = made (any_column ∷ any_column ∷ any_column ∷ []) (0 ∷ 1 ∷ []) [] (foreign (0 ∷ []) 1 ∷ [])

abbrev pub tables : List Table
tables = users ∷ subs ∷ thoughts ∷ []

-- the index (target) of subs
made_subs : subs.indexes ≡ record { cols = ascending_part 1 ∷ [] } ∷ []
unfolding ones
made_subs = refl

made_thoughts : thoughts.indexes ≡ []
unfolding ones
made_thoughts = refl

-- FROM subs s, thoughts t WHERE s.owner = [1] AND s.approved = true AND t.owner = s.target ORDER BY t.ts DESC LIMIT 10
abbrev pub home : Query
home = query (2 ∷ 3 ∷ [])
    (pred (col 1 0) op.Eq (operand.Param 1) ∷ pred (col 1 2) op.Eq (operand.Const (value.Bool true)) ∷ pred (col 2 0) op.Eq (operand.Col (col 1 1)) ∷ [])
    (down (col 2 1) ∷ []) (stop.Limit 10)

home_least : chosen tables home ≡ stops 2 111 1110
unfolding ones
home_least = refl

home_all : length (candidates tables home) ≡ 1
unfolding ones
home_all = refl

home_access : serving_access thoughts (tied_set home 2) (order_rest home 2) ≡ None
unfolding ones
home_access = refl

home_index : new_index thoughts (tied_set home 2) (order_rest home 2) ≡ record { cols = ascending_part 0 ∷ record { col = 1; dir = Desc } ∷ [] }
unfolding ones
home_index = refl

home_position : position_columns tables home ≡ down (col 2 1) ∷ by (col 1 0) ∷ by (col 1 1) ∷ by (col 2 0) ∷ []
unfolding ones
home_position = refl

-- users u WHERE u.city = [1]
abbrev pub in_city : StopWord → Query
in_city = query (1 ∷ []) (pred (col 1 1) op.Eq (operand.Param 1) ∷ []) []

city_none : candidates tables (in_city stop.All) ≡ []
unfolding ones
city_none = refl

city_least : chosen tables (in_city (stop.Limit 10)) ≡ stops 1 11 20
unfolding ones
city_least = refl

city_index : new_index users (tied_set (in_city (stop.Limit 10)) 1) (order_rest (in_city (stop.Limit 10)) 1) ≡ record { cols = ascending_part 1 ∷ [] }
unfolding ones
city_index = refl

-- users u WHERE u.city <> 'x' LIMIT 10
not_city_none : candidates tables (query (1 ∷ []) (pred (col 1 1) op.Ne (operand.Const (value.Text [])) ∷ []) [] (stop.Limit 10)) ≡ []
unfolding ones
not_city_none = refl

-- subs s, users u WHERE s.owner = [1] AND u.name = s.target LIMIT 10
abbrev pub friends : List Pred → Query
friends more = query (2 ∷ 1 ∷ []) (pred (col 1 0) op.Eq (operand.Param 1) ∷ pred (col 2 0) op.Eq (operand.Col (col 1 1)) ∷ more) [] (stop.Limit 10)

friends_all : candidates tables (friends []) ≡ record { choice = Whole; bound = bound 101 200 } ∷ record { choice = Stop 1; bound = bound 11 20 } ∷ []
unfolding ones
friends_all = refl

friends_least : chosen tables (friends []) ≡ stops 1 11 20
unfolding ones
friends_least = refl

friends_access : serving_access subs (tied_set (friends []) 1) (order_rest (friends []) 1) ≡ Some Primary
unfolding ones
friends_access = refl

friends_total : is_total tables (friends []) 2 ≡ true
unfolding ones
friends_total = refl

roman_all : candidates tables (friends (pred (col 2 1) op.Eq (operand.Const (value.Text [])) ∷ [])) ≡ record { choice = Whole; bound = bound 101 200 } ∷ []
unfolding ones
roman_all = refl

-- m (id, v), SELECT id FROM m ORDER BY v PAGINATE 2, and with LIMIT 2
abbrev pub m : Table
m = made (any_column ∷ any_column ∷ []) (0 ∷ []) [] []

abbrev pub pages : StopWord → Query
pages = query (1 ∷ []) [] (by (col 1 1) ∷ [])

pages_least : chosen (m ∷ []) (pages (stop.Paginate 2)) ≡ stops 1 3 4
unfolding ones
pages_least = refl

pages_index : new_index m (tied_set (pages (stop.Limit 2)) 1) (order_rest (pages (stop.Limit 2)) 1) ≡ record { cols = ascending_part 1 ∷ [] }
unfolding ones
pages_index = refl

pages_position : position_columns (m ∷ []) (pages (stop.Paginate 2)) ≡ by (col 1 1) ∷ by (col 1 0) ∷ []
unfolding ones
pages_position = refl

-- SELECT m.v FROM m WHERE m.id = [1]
one_least : chosen (m ∷ []) (query (1 ∷ []) (pred (col 1 0) op.Eq (operand.Param 1) ∷ []) [] stop.All) ≡ wholly 1 1
unfolding ones
one_least = refl

-- g (a, b), at most n rows of an a
abbrev pub g : ℕ → Table
g n = made (any_column ∷ any_column ∷ []) (0 ∷ 1 ∷ []) (limit n (0 ∷ []) ∷ []) []

abbrev pub chain : List ℕ → Query
chain tables = query tables
    (pred (col 1 0) op.Eq (operand.Const (value.Int (pos 1))) ∷ pred (col 2 0) op.Eq (operand.Col (col 1 1)) ∷ pred (col 3 0) op.Eq (operand.Col (col 2 1)) ∷ [])
    [] stop.All

chain_three : chosen (g 100 ∷ []) (chain (1 ∷ 1 ∷ 1 ∷ [])) ≡ wholly 10101 1010100
unfolding ones
chain_three = refl

abbrev pub chain_two : Query
chain_two = query (1 ∷ 2 ∷ []) (pred (col 1 0) op.Eq (operand.Const (value.Int (pos 1))) ∷ pred (col 2 0) op.Eq (operand.Col (col 1 1)) ∷ []) [] stop.All

chain_within : chosen (g 200 ∷ g 249 ∷ []) chain_two ≡ wholly 201 50000
unfolding ones
chain_within = refl

chain_past : chosen (g 200 ∷ g 250 ∷ []) chain_two ≡ wholly 201 50200
unfolding ones
chain_past = refl

-- subs s, users u WHERE s.owner = [1] AND s.target = [2] AND u.name = s.target
pair_least : chosen tables (query (2 ∷ 1 ∷ []) (pred (col 1 0) op.Eq (operand.Param 1) ∷ pred (col 1 1) op.Eq (operand.Param 2) ∷ pred (col 2 0) op.Eq (operand.Col (col 1 1)) ∷ []) [] stop.All) ≡ wholly 2 2
unfolding ones
pair_least = refl

-- k (a, b, x), CARDINALITY LIMIT 5 (x, b)
abbrev pub k : Table
k = made (any_column ∷ any_column ∷ any_column ∷ []) (0 ∷ 1 ∷ []) (limit 5 (2 ∷ 1 ∷ []) ∷ []) []

k_index : k.indexes ≡ record { cols = ascending_part 2 ∷ ascending_part 1 ∷ [] } ∷ []
unfolding ones
k_index = refl

k_sequence : index_sequence k (record { cols = ascending_part 2 ∷ ascending_part 1 ∷ [] }) ≡ ascending_part 2 ∷ ascending_part 1 ∷ ascending_part 0 ∷ []
unfolding ones
k_sequence = refl

-- SELECT a, b FROM k WHERE x = [1] LIMIT 3
abbrev pub kx : Query
kx = query (1 ∷ []) (pred (col 1 2) op.Eq (operand.Param 1) ∷ []) [] (stop.Limit 3)

kx_least : chosen (k ∷ []) kx ≡ stops 1 4 6
unfolding ones
kx_least = refl

kx_access : serving_access k (tied_set kx 1) (order_rest kx 1) ≡ None
unfolding ones
kx_access = refl

kx_new : new_index k (tied_set kx 1) (order_rest kx 1) ≡ record { cols = ascending_part 2 ∷ [] }
unfolding ones
kx_new = refl

-- WHERE x = [1] ORDER BY b: the index serves
kb : serving_access k 4 (ascending_part 1 ∷ []) ≡ Some (Secondary 1)
unfolding ones
kb = refl

-- two limits with one least n: the one that the primary sequence begins with, else the first
taken_primary : limit_place (made (any_column ∷ any_column ∷ any_column ∷ []) (0 ∷ 1 ∷ []) (limit 5 (2 ∷ []) ∷ limit 5 (0 ∷ []) ∷ limit 7 (0 ∷ []) ∷ []) []) 5 ≡ Some 1
unfolding ones
taken_primary = refl

taken_first : limit_place (made (any_column ∷ any_column ∷ any_column ∷ []) (0 ∷ 1 ∷ []) (limit 7 (2 ∷ []) ∷ limit 5 (2 ∷ []) ∷ limit 5 (1 ∷ []) ∷ []) []) 6 ≡ Some 1
unfolding ones
taken_first = refl
