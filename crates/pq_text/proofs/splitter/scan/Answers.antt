use Rattle.std.proofs.Common.{◌≡◌, ℕ, ◌≤◌, ◌||◌, true, false, List, length, take, drop, get_or, refl, ap, subst, ◌∙◌, arith, length-drop}
use Rattle.std.specs.List.{take_while, list_any}
use Rattle.pq_text.specs.Cutting.{state_behind, is_solid, cuts, shows, is_quiet}
use Rattle.pq_text.proofs.Quiet.{quiet_run, quiet_shows, quiet_later}
use Rattle.pq_text.proofs.CutSteps.{run_step, solid_step, cut_start, cut_found, cut_later, cut_none}
use Rattle.pq_text.proofs.splitter.scan.Goals as goal

pub bytes-init : goal.bytes-init
unfolding state_behind is_solid
bytes-init c = record { within = omega arith; cut = cut_start c.args.start c.args.bytes.now; state = refl; solid = refl }

pub bytes-preserved-then-quiet-gt0 : goal.bytes-preserved-then-quiet-gt0
bytes-preserved-then-quiet-gt0 c =
    let i = c.bytes.invariant in
    let rest = c.behind-rest.ensures in
    let quiet : c.quiet_count-quiet.result ≡ length (take_while (is_quiet c.bytes.state) (drop c.bytes.len c.args.bytes.now)) = c.quiet_count-quiet.ensures.count ∙ ap (λ (v : List ℕ). length (take_while (is_quiet c.bytes.state) v)) rest in
    let within : c.quiet_count-quiet.result ≤ length (drop c.bytes.len c.args.bytes.now) = subst (λ (v : List ℕ). c.quiet_count-quiet.result ≤ length v) rest c.quiet_count-quiet.ensures.within in
    record {
      within = omega (arith, within, length-drop c.bytes.len c.args.bytes.now);
      cut = quiet_later c.args.start c.bytes.state c.args.bytes.now c.bytes.len c.quiet_count-quiet.result quiet within i.cut;
      state = quiet_run c.args.start c.bytes.state c.args.bytes.now c.bytes.len c.quiet_count-quiet.result quiet i.state;
      solid = c.still_solid-solid.ensures ∙ ap (λ (v : List ℕ). c.bytes.solid || list_any (shows c.bytes.state) v) (c.front.ensures ∙ ap (take c.quiet_count-quiet.result) rest) ∙ quiet_shows c.args.start c.bytes.state c.args.bytes.now c.bytes.len c.quiet_count-quiet.result c.bytes.solid quiet i.state i.solid;
    }

pub bytes-preserved : goal.bytes-preserved
bytes-preserved c =
    let i = c.bytes.invariant in
    let stays : cuts c.bytes.state (get_or c.args.bytes.now c.bytes.len 0) ≡ false = cc in
    record {
      within = omega arith;
      cut = rw c.next-state.ensures (cut_later c.args.start c.bytes.state c.args.bytes.now c.bytes.len c.bytes-test.true i.cut stays);
      state = c.next-state.ensures ∙ run_step c.args.start c.bytes.state c.args.bytes.now c.bytes.len c.bytes-test.true i.state;
      solid = c.either-solid.ensures ∙ rw c.shows.ensures (solid_step c.args.start c.bytes.state c.args.bytes.now c.bytes.len c.bytes.solid c.bytes-test.true i.state i.solid);
    }

pub returns-then-cut-clause-cut : goal.returns-then-cut-clause-cut
returns-then-cut-clause-cut c = λ h.
    let found : cuts c.bytes.state (get_or c.args.bytes.now c.bytes.len 0) ≡ true = cc in
    cut_found c.args.start c.bytes.state c.args.bytes.now c.bytes.len c.bytes-test.true c.bytes.invariant.cut found

pub returns-then-cut-clause-state : goal.returns-then-cut-clause-state
returns-then-cut-clause-state c = c.next-state.ensures ∙ run_step c.args.start c.bytes.state c.args.bytes.now c.bytes.len c.bytes-test.true c.bytes.invariant.state

pub returns-then-cut-clause-solid : goal.returns-then-cut-clause-solid
returns-then-cut-clause-solid c = c.either-solid.ensures ∙ rw c.shows.ensures (solid_step c.args.start c.bytes.state c.args.bytes.now c.bytes.len c.bytes.solid c.bytes-test.true c.bytes.invariant.state c.bytes.invariant.solid)

pub returns-clause-uncut : goal.returns-clause-uncut
returns-clause-uncut c = λ h. (cut_none c.args.start c.bytes.state c.args.bytes.now c.bytes.len c.bytes-test.false c.bytes.invariant.cut, omega arith)
