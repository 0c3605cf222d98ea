use Rattle.std.proofs.Common.{sym, subst, inl, inr}
use Rattle.pq_shell.specs.Forms.{HasOpening}
use Rattle.pq_shell.proofs.Making.{over_result, made_checked, lost_checked}
use Rattle.pq_shell.proofs.serving.make.Goals as goal

pub returns-in-Ok-clause-ok : goal.returns-in-Ok-clause-ok
returns-in-Ok-clause-ok g c =
    rw c.in-Check.is (made_checked c.args.number c.args.piece.now c.args.session _ _ c.in-Ok.made.0 c.in-Ok.made.1 c.in-Ok.ensures.report c.in-Ok.ensures.next c.in-Ok.ensures.arranged)

pub returns-in-Err-clause-err : goal.returns-in-Err-clause-err
returns-in-Err-clause-err g c = rw c.in-Check.is (lost_checked c.args.number c.args.piece.now c.args.session _ _)

pub returns-in-Run : goal.returns-in-Run
returns-in-Run g c =
    let some : HasOpening c.args.form = elim c.in-Run.is [
      | inl is ↦ subst HasOpening (sym is) tt
      | inr is ↦ subst HasOpening (sym is.1) tt
    ] in
    let e = c.statement.ensures in
    let both = over_result c.args.number c.args.piece.now c.args.session _ _ _ _ g.S.Store.answers c.args.form some c.statement.result e.number e.bound e.few_ops e.few_entries e.next e.matches e.made e.ops e.entries
    e.unread e.can e.refused e.reads e.arranged e.tells e.kind e.bare e.stopped e.damage e.building e.lasting e.within_own e.kept e.left e.within_rows e.answered in
    record {
      ok = both.0;
      err = both.1;
      unmoved = λ check. absurd (subst HasOpening check some);
      cause = e.cause;
    }
