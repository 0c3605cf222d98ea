-- The least candidate of a query and the index that it wants, or why there is none.
use Rattle.std.specs.Prelude.{◌≡◌, ℕ, ◌+◌, Bool, not, nat_lt, nat_le, ◌||◌, if◌then◌else◌, List, length, find, is_some, unwrap_or, Option, Some, None, Result, Ok, Err}
use Rattle.std.specs.List.{range_with_len}
use Rattle.pq_base.specs.declared.number.Bound.{Bound}
use Rattle.pq_base.specs.declared.number.Choice.{Choice}
use Rattle.pq_base.specs.declared.number.Choice.TheVariants.{Whole, Stop}
use Rattle.pq_base.specs.declared.count_word.TheConstants as count_word
use Rattle.pq_base.specs.declared.refusal.Refusal.{Refusal}
use Rattle.pq_base.specs.declared.refusal.Refusal.TheVariants as refusal
use Rattle.pq_schema.specs.declared.table.Table.{Table}
use Rattle.pq_schema.specs.declared.table.NewIndex.{NewIndex}
use Rattle.pq_schema.specs.declared.query.Query.{Query}
use Rattle.pq_schema.specs.Sequences.{serving_access, new_index}
use Rattle.pq_schema.specs.Relations.{relation_at, table_of, tied_set, order_rest}
use Rattle.pq_schema.specs.Candidates.{Candidate, candidates, least, bound_at}

-- the first relation without a data bound
abbrev pub first_unbounded : List Table → Query → Option ℕ
first_unbounded tables query = find
    (λ rel. not (is_some (bound_at tables query rel))) (range_with_len 1 (length query.relations))

-- the query has no bound: the refusal names that relation
abbrev pub no_bound : List Table → Query → Refusal
no_bound tables query = refusal.NoBound (relation_at query (unwrap_or (first_unbounded tables query) 0)).alias

-- a number of the bound is over 50,000
abbrev pub is_large : Bound → Bool
is_large bound = nat_lt 50000 bound.ops || nat_lt 50000 bound.entries

-- the table would have a seventeenth index
abbrev pub too_many_indexes : Refusal
too_many_indexes = refusal.Count count_word.INDEXES

-- the index that a stop at the relation wants: none where a sequence serves
abbrev pub index_at : List Table → Query → ℕ → Result (Option NewIndex) Refusal
index_at tables query p =
    let table = table_of tables query p in
    if is_some (serving_access table (tied_set query p) (order_rest query p)) then Ok None
    else if nat_le 16 (length table.indexes) then Err too_many_indexes
    else Ok (Some (record {
      table = (relation_at query p).table;
      number = length table.indexes + 1;
      index = new_index table (tied_set query p) (order_rest query p);
    }))

abbrev pub index_of : List Table → Query → Choice → Result (Option NewIndex) Refusal
index_of tables query Whole = Ok None
index_of tables query (Stop p) = index_at tables query p

-- a candidate and the index that it wants
pub record ChosenCandidate : Type 0 where
  pub best : Candidate
  pub wanted : Option NewIndex

abbrev pub with_index : Candidate → Result (Option NewIndex) Refusal → Result ChosenCandidate Refusal
with_index best (Ok wanted) = Ok (record { best = best; wanted = wanted })
with_index best (Err why) = Err why

abbrev pub chosen_of : List Table → Query → Option Candidate → Result ChosenCandidate Refusal
chosen_of tables query None = Err (no_bound tables query)
chosen_of tables query (Some best) =
    if is_large best.bound then Err (refusal.BoundLarge best.bound.ops best.bound.entries)
    else with_index best (index_of tables query best.choice)

-- the least candidate with its index, or the first refusal
abbrev pub chosen_candidate : List Table → Query → Result ChosenCandidate Refusal
chosen_candidate tables query = chosen_of tables query (least (candidates tables query))

-- the index is the one that the least candidate wants, and both numbers are at most 50,000
pub record IsWanted (tables : List Table) (query : Query) (wanted : Option NewIndex) : Type 0 where
  pub best : Candidate
  pub chosen : chosen_candidate tables query ≡ Ok (record { best = best; wanted = wanted })
