use Rattle.std.proofs.Common.{◌≢◌, ◌+◌, ◌<◌, length, get_or, drop, ap, sym, ◌∙◌, arith}
use Rattle.std.specs.Option.{option_map}
use Rattle.pq_text.specs.Forms.{text_end}
use Rattle.pq_text.proofs.Steps.{text_other, text_double, text_closes, text_open, moved}
use Rattle.pq_text.proofs.scan.text_count.Goals as goal
use Rattle.pq_text.proofs.scan.text_count.Goals.{else-passed-bytes-via-then-passed-bytes+else-bytes-passed-eq39, else-passed-bytes-via-else-passed-bytes}

pub bytes-preserved-then-bytes-passed-ne39 : goal.bytes-preserved-then-bytes-passed-ne39
bytes-preserved-then-bytes-passed-ne39 c =
    (omega arith, c.bytes.invariant.1 ∙ ap (option_map (λ n. c.bytes.passed + n)) (text_other c.args.bytes.now c.bytes.passed c.bytes-test.true c.if-bytes-passed-ne39.true) ∙ moved c.bytes.passed 1 (text_end (drop (c.bytes.passed + 1) c.args.bytes.now)))

pub returns-clause-ends : goal.returns-clause-ends
returns-clause-ends c = sym (c.bytes.invariant.1 ∙ ap (option_map (λ n. c.bytes.passed + n)) (text_open c.args.bytes.now c.bytes.passed c.bytes-test.false))

pub bytes-preserved : goal.bytes-preserved
bytes-preserved c =
    (omega arith, c.bytes.invariant.1 ∙ ap (option_map (λ n. c.bytes.passed + n)) (text_double c.args.bytes.now c.bytes.passed (omega arith) (omega arith) (omega arith)) ∙ moved c.bytes.passed 2 (text_end (drop (c.bytes.passed + 2) c.args.bytes.now)))

pub returns-else-passed-bytes-clause-ends : goal.returns-else-passed-bytes-clause-ends
returns-else-passed-bytes-clause-ends c =
    let h : c.bytes.passed + 1 < length c.args.bytes.now → get_or c.args.bytes.now (c.bytes.passed + 1) 0 ≢ 39 =
    elim c.else-passed-bytes.branch [ else-passed-bytes-via-then-passed-bytes+else-bytes-passed-eq39 w ↦ λ lt. w.if-bytes-passed-eq39.false | else-passed-bytes-via-else-passed-bytes w ↦ λ lt. absurd (omega arith) ] in
    sym (c.bytes.invariant.1 ∙ ap (option_map (λ n. c.bytes.passed + n)) (text_closes c.args.bytes.now c.bytes.passed c.bytes-test.true c.if-bytes-passed-ne39.false h))
