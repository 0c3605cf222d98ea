-- The trees of a query, and where it can stop.
use Rattle.std.proofs.Common.{◌≡◌, ℕ, zero, suc, ◌≤◌, true, false, cond, List, [], length, Option, Some, None, option_and_then, refl, arith}
use Rattle.pq_schema.specs.declared.table.Table.{Table}
use Rattle.pq_schema.specs.declared.query.Query.{Query}
use Rattle.pq_schema.specs.Candidates.{can_stop_at, stop_size}
use Rattle.pq_plan.specs.Meaning.{Tree}
use Rattle.pq_plan.specs.Rewrites.{reads_tree, top_of}
use Rattle.pq_stop_push.specs.Pushes.{IsOver, built_tree, stop_there}

over_reads : (m i : ℕ) → i ≤ m → IsOver m (reads_tree i)
over_reads m zero h = tt
over_reads m (suc i) h = ((omega arith, h), over_reads m i (omega arith))

over_top : (m : ℕ) (stop : Option ℕ) (tree : Tree) → IsOver m tree → IsOver m (top_of stop tree)
over_top m None tree h = h
over_top m (Some k) tree h = h

pub over_built : (query : Query) → IsOver (length query.relations) (built_tree query)
over_built query = over_top (length query.relations) (stop_size query.stop) (reads_tree (length query.relations)) (over_reads (length query.relations) (length query.relations) (omega arith))

-- what there is of a stop candidate
pub there : (tables : List Table) (query : Query) (p k : ℕ) → stop_there tables query p ≡ Some k → (stop_size query.stop ≡ Some k) × (can_stop_at tables query p ≡ true)
there tables query p k h =
    elim (stop_size query.stop) as (λ o. option_and_then (λ k. cond (can_stop_at tables query p) (Some k) None) o ≡ Some k → (o ≡ Some k) × (can_stop_at tables query p ≡ true)) [
      | None ↦ λ e. let no : None ≡ Some k = e in cc
      | Some j ↦ λ e. elim (can_stop_at tables query p) as (λ b. cond b (Some j) None ≡ Some k → (Some j ≡ Some k) × (b ≡ true)) [
        | true ↦ λ e. (e, refl)
        | false ↦ λ e. let no : None ≡ Some k = e in cc
      ] e
    ] h
