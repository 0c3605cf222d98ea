use Rattle.std.proofs.Common.{◌+◌, ◌≤◌, ◌++◌, rules, arith, length, take, drop, length-take, sym, ap, subst, ◌∙◌}
use Rattle.std.proofs.lemmas.List.{length-take-le}
use Rattle.std.proofs.lemmas.Result.{err_from_is_err_and}
use Rattle.std.specs.Io.KnownBytes.{prepend_known}
use Rattle.pq_console.specs.Reading.{script_limit}
use Rattle.pq_console.proofs.Known.{room_front, room_long}
use Rattle.pq_fill.specs.declared.words.Form.{Form}
use Rattle.pq_shell.specs.Making.{moment}
use Rattle.pq_shell.specs.Serving.{ProgressedRun}
use Rattle.pq_shell.proofs.SoFar.{SoFar-start, SoFar-more, SoFar-taken, SoFar-faulted, SoFar-whole, SoFar-past, SoFar-stopped}
use Rattle.pq_shell.proofs.run.run_source.Goals as goal

pub loop-taken-init : goal.loop-taken-init
loop-taken-init g c = record { within = search rules; store_later = search rules; sink_later = search rules; source_later = search rules; counted = search rules; form = search rules; unmoved = search rules; so_far = SoFar-start _ _ _ _ _ }

pub returns-in-Err-clause-ok : goal.returns-in-Err-clause-ok
returns-in-Err-clause-ok g c = (_, SoFar-faulted c.loop-taken.invariant.so_far c.in-Err.ensures.kept (search rules))

pub returns-then-n-eq0-clause-ok : goal.returns-then-n-eq0-clause-ok
returns-then-n-eq0-clause-ok g c = (_, SoFar-whole c.in-Ok.n c.read.new.room c.loop-taken.invariant.so_far c.in-Ok.ensures.taken (search rules) (search rules) (search rules))

pub returns-in_err-session-clause-err : goal.returns-in_err-session-clause-err
returns-in_err-session-clause-err g c =
    let p = err_from_is_err_and c.from_residual.result c.from_residual.ensures.1 in
    let n = c.in-Ok.n in
    let behind = drop c.min-want.result c.loop-taken.room in
    let within : n ≤ length c.read.new.room = omega (arith, c.read.auto.room, c.in-Ok.ensures.within) in
    let short : c.loop-taken.taken + n ≤ script_limit = omega (arith, c.in-Ok.ensures.within, length-take c.min-want.result c.loop-taken.room, c.min-want.ensures) in
    let small : n ≤ 4096 = omega (arith, c.in-Ok.ensures.within, length-take c.min-want.result c.loop-taken.room, c.min-want.ensures) in
    let next = c.in-Ok.ensures.taken ∙ ap (λ b. prepend_known b (g.I.Source.left c.read.new.self)) (sym (room_front n c.read.new.room behind within)) in
    rw (p.1, p.2) (SoFar-stopped n (take n (c.read.new.room ++ behind)) c.loop-taken.invariant.so_far next (room_long n c.read.new.room behind within) small short (rw c.loop-taken.invariant.form at c.in_err-session.ensures.err))

pub returns-in_err-session-clause-takes : goal.returns-in_err-session-clause-takes
returns-in_err-session-clause-takes g c =
    let n = c.in-Ok.n in
    let within : n ≤ length c.read.new.room = omega (arith, c.read.auto.room, c.in-Ok.ensures.within) in
    let short : c.loop-taken.taken + length (take n c.read.new.room) ≤ script_limit + 1 = omega (arith, c.in-Ok.ensures.within, length-take c.min-want.result c.loop-taken.room, c.min-want.ensures, length-take-le n c.read.new.room within) in
    record {
      taken = SoFar-taken _ (take n c.read.new.room) (script_limit + 1) c.loop-taken.invariant.so_far c.in-Ok.ensures.taken short;
      counted = search rules;
      stopped = search rules;
      later = search rules;
      read_fault = search rules;
    }

pub loop-taken-preserved : goal.loop-taken-preserved
loop-taken-preserved g c =
    let n = c.in-Ok.n in
    let behind = drop c.min-want.result c.loop-taken.room in
    let within : n ≤ length c.read.new.room = omega (arith, c.read.auto.room, c.in-Ok.ensures.within) in
    let next = c.in-Ok.ensures.taken ∙ ap (λ b. prepend_known b (g.I.Source.left c.read.new.self)) (sym (room_front n c.read.new.room behind within)) in
    record {
      within = omega (arith, c.in-Ok.ensures.within, length-take c.min-want.result c.loop-taken.room, c.min-want.ensures);
      store_later = search rules;
      sink_later = search rules;
      source_later = search rules;
      counted = omega (arith, c.loop-taken.invariant.counted, c.in-Ok.ensures.counted);
      form = search rules;
      unmoved = search rules;
      so_far = SoFar-more n (take n (c.read.new.room ++ behind)) c.loop-taken.invariant.so_far next (room_long n c.read.new.room behind within) (subst (λ (form : Form). ProgressedRun form c.loop-taken.session c.in_ok-session.session
          (moment (g.S.Store.content c.loop-taken.store) (g.O.Sink.held c.loop-taken.sink) c.loop-taken.meter)
          (moment (g.S.Store.content c.run_part.new.store) (g.O.Sink.held c.run_part.new.sink) c.run_part.new.meter)
          (take n (c.read.new.room ++ behind)) c.loop-taken.progress c.run_part.new.progress) c.loop-taken.invariant.form c.in_ok-session.ensures.ok);
    }

pub returns-clause-ok : goal.returns-clause-ok
returns-clause-ok g c = (_, SoFar-past c.read_past_limit.result c.loop-taken.invariant.so_far (search rules) c.read_past_limit.ensures.took)

pub returns-clause-takes : goal.returns-clause-takes
returns-clause-takes g c =
    let last = c.read_past_limit.ensures.taken in
    record {
      taken = SoFar-taken _ last.0 (script_limit + 1) c.loop-taken.invariant.so_far last.1 (omega (arith, last.2, c.loop-taken.invariant.within));
      counted = search rules;
      stopped = search rules;
      later = search rules;
      read_fault = search rules;
    }
