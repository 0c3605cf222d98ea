-- The candidates of a query look at its tables' keys, limits, foreign keys and these keys' columns alone, and so stay
-- where tables grow.
use Rattle.std.proofs.Common.{◌≡◌, ℕ, ◌+◌, ◌-◌, ◌*◌, ◌<◌, Bool, not, nat_le, ◌&&◌, ◌||◌, ◌==◌, if◌then◌else◌, List, [], ◌∷◌, ◌++◌, flat_map, fold, length, zip, is_some, Option, refl, ap, ◌∙◌}
use Rattle.std.specs.Prelude.{All, unwrap_or}
use Rattle.std.specs.List.{AllByRecursion, list_all, list_any, range_with_len}
use Rattle.std.specs.Option.{option_map_or}
use Rattle.std.proofs.lemmas.List.Elements.{recursion_from_All}
use Rattle.pq_base.specs.declared.number.Bound.{Bound}
use Rattle.pq_base.specs.declared.number.Choice.TheVariants.{Whole, Stop}
use Rattle.pq_base.specs.Values.{is_nullable}
use Rattle.pq_schema.specs.declared.query.Query.{Query}
use Rattle.pq_schema.specs.declared.table.Column.{Column}
use Rattle.pq_schema.specs.declared.table.Foreign.{Foreign}
use Rattle.pq_schema.specs.declared.table.Table.{Table}
use Rattle.pq_schema.specs.Candidates.{Candidate, candidates, can_stop_at, stop_size, read_cost}
use Rattle.pq_schema.specs.Costs.{ReachedCost, start, bound, plus, read_each, read_stop}
use Rattle.pq_schema.specs.Relations.{relation_at, table_of, tied_set, order_rest, range_on, is_whole, is_tied}
use Rattle.pq_schema.specs.Resolved.{IsResolved}
use Rattle.pq_schema.specs.Sequences.{primary_sequence, serves}
use Rattle.pq_schema.specs.Tables.{have_no_null, is_lookup, data_bound}
use Rattle.pq_runnable.specs.Grown.{HasGrown, HaveGrown}
use Rattle.pq_runnable.proofs.Growing.{relation_grown, type_before}

-- the candidates where each relation has this table and is tied by these before it
module _ (table : ℕ → Table) (tied : ℕ → ℕ → Bool) (query : Query) where
  abbrev bound_on : ℕ → Option ℕ
  bound_on rel = data_bound (table rel) (tied_set query rel)

  abbrev next_on : ReachedCost → ℕ → ReachedCost
  next_on reached rel = read_each (unwrap_or (bound_on rel) 0) (read_cost (table rel) (tied_set query rel)) reached

  abbrev reached_on : ℕ → ReachedCost
  reached_on count = fold next_on start (range_with_len 1 count)

  abbrev bounded_on : ℕ → Bool
  bounded_on count = list_all (λ rel. is_some (bound_on rel)) (range_with_len 1 count)

  abbrev whole_on : List Candidate
  whole_on = if bounded_on (length query.relations) then record { choice = Whole; bound = (reached_on (length query.relations)).cost } ∷ [] else []

  abbrev total_on : ℕ → Bool
  total_on rel = list_any (tied rel) (range_with_len 1 (rel - 1))

  abbrev can_stop_on : ℕ → Bool
  can_stop_on p =
      bounded_on (p - 1)
      && not (is_lookup (table p) (tied_set query p))
      && list_all (λ item. nat_le item.col.rel p) query.order
      && range_on query p
      && list_all total_on (range_with_len (p + 1) (length query.relations - p))

  abbrev served_on : ℕ → Bool
  served_on p = serves (table p) (tied_set query p) (order_rest query p) (primary_sequence (table p))

  abbrev cost_on : ℕ → ℕ → Bound
  cost_on k p =
      let rest = k * (length query.relations - p) in
      plus (read_stop k (served_on p) (reached_on (p - 1))).cost (bound rest rest)

  abbrev stop_on : ℕ → ℕ → List Candidate
  stop_on k p = if can_stop_on p then record { choice = Stop p; bound = cost_on k p } ∷ [] else []

  abbrev candidates_on : List Candidate
  candidates_on = whole_on ++ option_map_or (λ k. flat_map (stop_on k) (range_with_len 1 (length query.relations))) (stop_size query.stop) []

-- ---- foreign keys of a table that has more columns

no_null_stays : (columns more : List Column) (cols : List ℕ) → AllByRecursion (λ col. col < length columns) cols → have_no_null (columns ++ more) cols ≡ have_no_null columns cols
no_null_stays columns more [] inside = refl
no_null_stays columns more (col ∷ cols) inside =
    let same = type_before columns more col inside.0 in
    let rest = no_null_stays columns more cols inside.1 in
    λ i. not (is_nullable (same i)) && rest i

-- the foreign key of a table with these columns ties the relation to its key
abbrev ties_key : Query → ℕ → ℕ → List ℕ → List Column → Foreign → Bool
ties_key query rel earlier key columns foreign = foreign.table == (relation_at query rel).table && have_no_null columns foreign.cols && is_whole query rel earlier (zip foreign.cols key)

any_ties : (query : Query) (rel earlier : ℕ) (key : List ℕ) (columns more : List Column) (foreigns : List Foreign) → AllByRecursion (λ (f : Foreign). All (λ col. col < length columns) f.cols) foreigns
    → list_any (ties_key query rel earlier key (columns ++ more)) foreigns ≡ list_any (ties_key query rel earlier key columns) foreigns
any_ties query rel earlier key columns more [] own = refl
any_ties query rel earlier key columns more (foreign ∷ foreigns) own =
    let same = no_null_stays columns more foreign.cols (recursion_from_All (λ col. col < length columns) foreign.cols own.0) in
    let rest = any_ties query rel earlier key columns more foreigns own.1 in
    λ i. (foreign.table == (relation_at query rel).table && same i && is_whole query rel earlier (zip foreign.cols key)) || rest i

-- ---- tables that have grown

-- a table without what may be added
abbrev bare : Table → Table
bare table = record table { columns = []; fillers = []; indexes = [] }

module _ (before now : List Table) (query : Query) (grown : HaveGrown before now) (resolved : IsResolved before query) where
  abbrev grows : (rel : ℕ) → HasGrown (table_of before query rel) (table_of now query rel)
  grows rel = relation_grown before now query grown resolved rel

  same_bare : (rel : ℕ) → bare (table_of now query rel) ≡ bare (table_of before query rel)
  same_bare rel = ap bare (grows rel).is

  same_tied : (rel earlier : ℕ) → is_tied now query rel earlier ≡ is_tied before query rel earlier
  same_tied rel earlier =
      let table = table_of before query earlier in
      let key = (grows rel).is in
      let has = (grows earlier).is in
      (λ i. list_any (ties_key query rel earlier (key i).key (has i).columns) (has i).foreign)
      ∙ any_ties query rel earlier (table_of before query rel).key table.columns (grows earlier).columns table.foreign
      (recursion_from_All (λ (f : Foreign). All (λ col. col < length table.columns) f.cols) table.foreign (grows earlier).own)

  same_on : candidates_on (λ rel. bare (table_of now query rel)) (is_tied now query) query ≡ candidates_on (λ rel. bare (table_of before query rel)) (is_tied before query) query
  same_on = λ i. candidates_on (λ rel. same_bare rel i) (λ rel earlier. same_tied rel earlier i) query

  pub same_candidates : candidates now query ≡ candidates before query
  same_candidates = same_on

  -- and where one may stop
  pub same_can_stop : (p : ℕ) → can_stop_at now query p ≡ can_stop_at before query p
  same_can_stop p = λ i. can_stop_on (λ rel. same_bare rel i) (λ rel earlier. same_tied rel earlier i) query p
