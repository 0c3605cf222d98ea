-- The data bound and the limit taken, of a sound table.
use Rattle.std.proofs.Common.{ℕ, ◌≤◌, true, false, cond, min, List, [], ◌∷◌, map, Some, None, arith, lit≤}
use Rattle.std.specs.Prelude.{All, filter, unwrap_or}
use Rattle.std.specs.Option.{option_map_or}
use Rattle.std.proofs.lemmas.List.Elements.{All-head, All-map, All-filter}
use Rattle.pq_schema.specs.declared.table.Table.{Table}
use Rattle.pq_schema.specs.declared.table.Limit.{Limit}
use Rattle.pq_schema.specs.Sound.{IsTable}
use Rattle.pq_schema.specs.Tables.{is_lookup, applies, least_of, least_limit, data_bound}

least_small : (b : ℕ) (ns : List ℕ) → All (λ n. n ≤ b) ns → unwrap_or (least_of ns) 0 ≤ b
least_small b [] h = omega arith
least_small b (n ∷ ns) h =
    let here : n ≤ b = All-head (λ m. m ≤ b) n ns h in
    elim (least_of ns) as (λ o. option_map_or (λ m. min n m) o n ≤ b) [ None ↦ here | Some m ↦ omega arith ]

pub bound_small : (table : Table) (set : ℕ) → IsTable table → unwrap_or (data_bound table set) 0 ≤ 10000
bound_small table set sound = elim (is_lookup table set) as (λ b. unwrap_or (cond b (Some 1) (least_limit table set)) 0 ≤ 10000) [
  | true ↦ lit≤ tt
  | false ↦ least_small 10000 (map (λ limit. limit.n) (filter (applies set) table.limits))
      (All-map (λ n. n ≤ 10000) (λ (limit : Limit). limit.n) (filter (applies set) table.limits) (All-filter (applies set) (λ limit. limit.n ≤ 10000) table.limits sound.sizes))
]
