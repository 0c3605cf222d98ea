use Rattle.std.proofs.Common.{◌≡◌, true, false}
use Rattle.std.proofs.lemmas.Result.{err_from_is_err_and}
use Rattle.pq_grammar.specs.Reader.{begins}
use Rattle.pq_grammar.proofs.Loops.{loop_starts, loop_goes, loop_ends, loop_stops}
use Rattle.pq_shape.specs.Front.{is_name_shape}
use Rattle.pq_def_read.specs.Definitions.{columns_at, ended_column_at}
use Rattle.pq_def_read.proofs.Ends.{ended_column_shrinks}
use Rattle.pq_def_read.proofs.definition.columns.Goals as goal

pub more-init : goal.more-init
unfolding columns_at
more-init c = rw (c.in_ok-push.ensures.ok, c.new-columns.ensures) (loop_starts is_name_shape ended_column_at ended_column_at _ _ _ c.in_ok-first.ensures)

pub more-preserved : goal.more-preserved
more-preserved c =
    let is : begins is_name_shape c.more.c ≡ true = cc in
    rw c.in_ok-push-2.ensures.ok (loop_goes is_name_shape ended_column_at ended_column_shrinks c.more.columns c.more.c _ _ _ c.more.invariant is c.in_ok-next.ensures)

pub returns-in_err-next : goal.returns-in_err-next
returns-in_err-next c =
    let is : begins is_name_shape c.more.c ≡ true = cc in
    let p = err_from_is_err_and c.from_residual-in_err-next.result c.from_residual-in_err-next.ensures.1 in
    rw (p.1, p.2) (loop_ends is_name_shape ended_column_at _ c.more.columns c.more.c _ c.more.invariant is c.in_err-next.ensures)

pub returns : goal.returns
returns c =
    let is : begins is_name_shape c.more.c ≡ false = cc in
    loop_stops is_name_shape ended_column_at c.more.columns c.more.c _ c.more.invariant is

pub more-smaller : goal.more-smaller
more-smaller c = ended_column_shrinks c.more.c _ _ c.in_ok-next.ensures
