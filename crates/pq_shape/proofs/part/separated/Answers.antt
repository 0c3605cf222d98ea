use Rattle.std.proofs.Common.{◌≡◌, true, false}
use Rattle.std.proofs.lemmas.Result.{err_from_is_err_and}
use Rattle.pq_grammar.specs.Reader.{begins, skip_at, test_of}
use Rattle.pq_grammar.specs.Shrinking.{skip_shrinks, shrinks_keeps, token_shrinks}
use Rattle.pq_grammar.proofs.Loops.{loop_goes, loop_ends, loop_stops}
use Rattle.pq_shape.specs.Front.{is_between, between_at}
use Rattle.pq_shape.proofs.part.separated.Goals as goal

pub more-preserved : goal.more-preserved
more-preserved g c =
    let is : begins (is_between c.args.between) c.more.c ≡ true = cc in
    rw c.in_ok-push-2.ensures.ok (loop_goes (is_between c.args.between) (skip_at (between_at c.args.between) g.P.Part.reads)
    (skip_shrinks (between_at c.args.between) g.P.Part.reads (token_shrinks (test_of (is_between c.args.between))) (shrinks_keeps g.P.Part.reads g.met.P.Part.shrinks))
    c.more.items c.more.c _ _ _ c.more.invariant is c.in_ok-next.ensures)

pub returns-in_err-next : goal.returns-in_err-next
returns-in_err-next g c =
    let is : begins (is_between c.args.between) c.more.c ≡ true = cc in
    let p = err_from_is_err_and c.from_residual-in_err-next.result c.from_residual-in_err-next.ensures.1 in
    rw (p.1, p.2) (loop_ends (is_between c.args.between) (skip_at (between_at c.args.between) g.P.Part.reads) _ c.more.items c.more.c _ c.more.invariant is c.in_err-next.ensures)

pub returns : goal.returns
returns g c =
    let is : begins (is_between c.args.between) c.more.c ≡ false = cc in
    loop_stops (is_between c.args.between) (skip_at (between_at c.args.between) g.P.Part.reads) c.more.items c.more.c _ c.more.invariant is
