use Rattle.std.proofs.Common.{◌≡◌, ◌-◌, ◌+◌, length, not, find, is_some}
use Rattle.std.specs.List.{range_with_len}
use Rattle.pq_schema.specs.Candidates.{bound_at}
use Rattle.pq_schema.specs.Wanted.{first_unbounded}
use Rattle.pq_compile.proofs.compiler.first_unbounded.Given as goal

abbrev pub invariant-loop-rel : goal.invariant-loop-rel
invariant-loop-rel l =
    first_unbounded l.catalog.tables l.query
    ≡ find (λ rel. not (is_some (bound_at l.catalog.tables l.query rel))) (range_with_len l.rel (length l.query.relations + 1 - l.rel))
