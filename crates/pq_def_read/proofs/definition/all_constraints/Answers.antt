use Rattle.std.proofs.Common.{◌≡◌, true, false}
use Rattle.std.proofs.lemmas.Result.{err_from_is_err_and}
use Rattle.pq_grammar.specs.Reader.{begins}
use Rattle.pq_shape.specs.Front.{is_mark_shape}
use Rattle.pq_shape.specs.declared.mark.TheConstants.{COMMA}
use Rattle.pq_def_read.specs.Definitions.{constraints_at, next_constraint_at}
use Rattle.pq_def_read.proofs.Ends.{next_constraint_shrinks}
use Rattle.pq_def_read.proofs.Parted.{parted_goes, parted_ends, parted_stops, parted_starts}
use Rattle.pq_def_read.proofs.definition.all_constraints.Goals as goal

pub more-init : goal.more-init
unfolding constraints_at
more-init c = rw (c.new.ensures, c.new-2.ensures) (parted_starts (is_mark_shape COMMA) next_constraint_at _)

pub more-preserved : goal.more-preserved
more-preserved c =
    let is : begins (is_mark_shape COMMA) c.more.c ≡ true = cc in
    rw c.in_ok-put.ensures (parted_goes (is_mark_shape COMMA) next_constraint_at next_constraint_shrinks c.more.held c.more.c _ _ _ c.more.invariant is c.in_ok-next.ensures)

pub returns-in_err-next : goal.returns-in_err-next
returns-in_err-next c =
    let is : begins (is_mark_shape COMMA) c.more.c ≡ true = cc in
    let p = err_from_is_err_and c.from_residual.result c.from_residual.ensures.1 in
    rw (p.1, p.2) (parted_ends (is_mark_shape COMMA) next_constraint_at _ c.more.held c.more.c _ c.more.invariant is c.in_err-next.ensures)

pub returns : goal.returns
returns c =
    let is : begins (is_mark_shape COMMA) c.more.c ≡ false = cc in
    parted_stops (is_mark_shape COMMA) next_constraint_at c.more.held c.more.c _ c.more.invariant is

pub more-smaller : goal.more-smaller
more-smaller c = next_constraint_shrinks c.more.c _ _ c.in_ok-next.ensures
