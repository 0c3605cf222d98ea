-- The candidates of a query, their costs, and the least.
use Rattle.std.specs.Prelude.{ℕ, ◌+◌, ◌-◌, ◌*◌, Bool, not, nat_le, ◌&&◌, if◌then◌else◌, List, [], ◌∷◌, ◌++◌, flat_map, fold, length, is_some, unwrap_or, slice_index_or, Option, Some, None}
use Rattle.std.specs.List.{list_all, range_with_len}
use Rattle.std.specs.Option.{option_map_or}
use Rattle.pq_base.specs.declared.number.Bound.{Bound}
use Rattle.pq_base.specs.declared.number.Choice.{Choice}
use Rattle.pq_base.specs.declared.number.Choice.TheVariants.{Whole, Stop}
use Rattle.pq_schema.specs.declared.table.Table.{Table}
use Rattle.pq_schema.specs.declared.table.Limit.{Limit}
use Rattle.pq_schema.specs.declared.query.Query.{Query}
use Rattle.pq_schema.specs.declared.query.Stop.{Stop as StopWord}
use Rattle.pq_schema.specs.declared.query.Stop.TheVariants as stop
use Rattle.pq_schema.specs.Costs.{ReachedCost, start, bound, plus, limit_cost, read_each, read_stop, is_less}
use Rattle.pq_schema.specs.Sequences.{primary_sequence, serves}
use Rattle.pq_schema.specs.Tables.{is_lookup, data_bound, limit_place, is_primary}
use Rattle.pq_schema.specs.Relations.{table_of, tied_set, is_total, order_rest, range_on}

abbrev pub no_limit : Limit
no_limit = record { n = 0; cols = [] }

-- the cost of reading a relation, for each input
abbrev pub read_cost : Table → ℕ → Bound
read_cost table set =
    if is_lookup table set then bound 1 1
    else option_map_or (λ place. let limit = slice_index_or table.limits place no_limit in limit_cost
    (is_primary table limit) limit.n) (limit_place table set) (bound 0 0)

abbrev pub bound_at : List Table → Query → ℕ → Option ℕ
bound_at tables query rel = data_bound (table_of tables query rel) (tied_set query rel)

-- reading one more relation costs N(i) times its cost, and multiplies the inputs by d(i)
abbrev pub read_next : List Table → Query → ReachedCost → ℕ → ReachedCost
read_next tables query reached rel =
    read_each (unwrap_or (bound_at tables query rel) 0)
    (read_cost (table_of tables query rel) (tied_set query rel)) reached

-- after the first relations, as many as are said
abbrev pub reached_after : List Table → Query → ℕ → ReachedCost
reached_after tables query count = fold (read_next tables query) start (range_with_len 1 count)

-- each of the first relations has a data bound
abbrev pub are_bounded : List Table → Query → ℕ → Bool
are_bounded tables query count = list_all (λ rel. is_some (bound_at tables query rel)) (range_with_len 1 count)

pub record Candidate : Type 0 where
  pub choice : Choice
  pub bound : Bound

abbrev pub whole_candidates : List Table → Query → List Candidate
whole_candidates tables query =
    let m = length query.relations in
    if are_bounded tables query m then record { choice = Whole; bound = (reached_after tables query m).cost }
    ∷ [] else []

-- k of LIMIT k or PAGINATE k
abbrev pub stop_size : StopWord → Option ℕ
stop_size stop.All = None
stop_size (stop.Limit k) = Some k
stop_size (stop.Paginate k) = Some k

-- the conditions of the stop candidate at a relation, but for the first
abbrev pub can_stop_at : List Table → Query → ℕ → Bool
can_stop_at tables query p =
    are_bounded tables query (p - 1)
    && not (is_lookup (table_of tables query p) (tied_set query p))
    && list_all (λ item. nat_le item.col.rel p) query.order
    && range_on query p
    && list_all (is_total tables query) (range_with_len (p + 1) (length query.relations - p))

-- the primary sequence serves the relation
abbrev pub is_served : List Table → Query → ℕ → Bool
is_served tables query p =
    serves (table_of tables query p) (tied_set query p) (order_rest query p)
    (primary_sequence (table_of tables query p))

abbrev pub stop_cost : List Table → Query → ℕ → ℕ → Bound
stop_cost tables query k p =
    let rest = k * (length query.relations - p) in
    plus (read_stop k (is_served tables query p) (reached_after tables query (p - 1))).cost (bound rest rest)

abbrev pub stop_at : List Table → Query → ℕ → ℕ → List Candidate
stop_at tables query k p =
    if can_stop_at tables query p then record { choice = Stop p; bound = stop_cost tables query k p } ∷ [] else []

-- whole, stop at 1, up to stop at m
abbrev pub candidates : List Table → Query → List Candidate
candidates tables query =
    whole_candidates tables query ++ option_map_or
    (λ k. flat_map (stop_at tables query k) (range_with_len 1 (length query.relations)))
    (stop_size query.stop) []

abbrev pub lesser : Candidate → Candidate → Candidate
lesser best next = if is_less next.bound best.bound then next else best

-- the first of the least
abbrev pub least : List Candidate → Option Candidate
least [] = None
least (c ∷ cs) = Some (fold lesser c cs)
