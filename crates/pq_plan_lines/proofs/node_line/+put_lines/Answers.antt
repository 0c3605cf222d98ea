use Rattle.std.proofs.Common.{◌≤◌, ◌++◌, length, ap, ◌∙◌, arith}
use Rattle.pq_plan.specs.Cost.{reach, relations_read}
use Rattle.pq_plan.specs.Nodes.{lookup, limit_range, stop_scan, keep, sort, cut, project, nodes}
use Rattle.pq_plan_lines.specs.Lines.{plan_lines}
use Rattle.pq_plan_lines.proofs.Sums.{few_inputs, on_ok, pushed}
use Rattle.pq_plan_lines.proofs.node_line.+put_lines.Goals as goal

pub put_line-requires : goal.put_line-requires
put_line-requires t c =
    let small = rw c.in-Lookup.is at c.requires.small in
    let few = rw c.in-Lookup.is at c.requires.few in
    let six : length (relations_read c.in-Lookup.input.value) ≤ 6 = omega (arith, few) in
    few_inputs c.in-Lookup.input.value c.in_ok-inputs-in-Lookup.inputs (c.in_ok-inputs-in-Lookup.ensures.size ∙ ap (λ t. (reach t).inputs) c.deref.ensures) small six

pub returns-in_ok-inputs-in-Lookup-clause-lines : goal.returns-in_ok-inputs-in-Lookup-clause-lines
returns-in_ok-inputs-in-Lookup-clause-lines t c =
    let before = c.in_ok-inputs-in-Lookup.ensures.lines ∙ ap (λ t. c.args.lines.now ++ plan_lines (nodes t)) c.deref.ensures in
    let size = c.in_ok-inputs-in-Lookup.ensures.size ∙ ap (λ t. (reach t).inputs) c.deref.ensures in
    rw c.in-Lookup.is (on_ok c.put_line.result _ _
    (pushed c.args.lines.now c.put_lines.new.lines c.put_line.new.lines c.in-Lookup.input.value c.in_ok-inputs-in-Lookup.inputs (lookup c.in-Lookup.rel) before size)
    c.put_line.ensures.line)

pub put_line-requires-in-LimitRange : goal.put_line-requires-in-LimitRange
put_line-requires-in-LimitRange t c =
    let small = rw c.in-LimitRange.is at c.requires.small in
    let few = rw c.in-LimitRange.is at c.requires.few in
    let six : length (relations_read c.in-LimitRange.input.value) ≤ 6 = omega (arith, few) in
    (small.0, few_inputs c.in-LimitRange.input.value c.in_ok-inputs-in-LimitRange.inputs (c.in_ok-inputs-in-LimitRange.ensures.size ∙ ap (λ t. (reach t).inputs) c.deref-in-LimitRange.ensures) small.1 six)

pub returns-in_ok-inputs-in-LimitRange-clause-lines : goal.returns-in_ok-inputs-in-LimitRange-clause-lines
returns-in_ok-inputs-in-LimitRange-clause-lines t c =
    let before = c.in_ok-inputs-in-LimitRange.ensures.lines ∙ ap (λ t. c.args.lines.now ++ plan_lines (nodes t)) c.deref-in-LimitRange.ensures in
    let size = c.in_ok-inputs-in-LimitRange.ensures.size ∙ ap (λ t. (reach t).inputs) c.deref-in-LimitRange.ensures in
    rw c.in-LimitRange.is (on_ok c.put_line-in-LimitRange.result _ _
    (pushed c.args.lines.now c.put_lines-in-LimitRange.new.lines c.put_line-in-LimitRange.new.lines c.in-LimitRange.input.value c.in_ok-inputs-in-LimitRange.inputs (limit_range c.in-LimitRange.rel c.in-LimitRange.limit c.in-LimitRange.n c.in-LimitRange.access) before size)
    c.put_line-in-LimitRange.ensures.line)

pub put_line-requires-in-StopScan : goal.put_line-requires-in-StopScan
put_line-requires-in-StopScan t c =
    let small = rw c.in-StopScan.is at c.requires.small in
    let few = rw c.in-StopScan.is at c.requires.few in
    let six : length (relations_read c.in-StopScan.input.value) ≤ 6 = omega (arith, few) in
    (small.0, few_inputs c.in-StopScan.input.value c.in_ok-inputs-in-StopScan.inputs (c.in_ok-inputs-in-StopScan.ensures.size ∙ ap (λ t. (reach t).inputs) c.deref-in-StopScan.ensures) small.1 six)

pub returns-in_ok-inputs-in-StopScan-clause-lines : goal.returns-in_ok-inputs-in-StopScan-clause-lines
returns-in_ok-inputs-in-StopScan-clause-lines t c =
    let before = c.in_ok-inputs-in-StopScan.ensures.lines ∙ ap (λ t. c.args.lines.now ++ plan_lines (nodes t)) c.deref-in-StopScan.ensures in
    let size = c.in_ok-inputs-in-StopScan.ensures.size ∙ ap (λ t. (reach t).inputs) c.deref-in-StopScan.ensures in
    rw c.in-StopScan.is (on_ok c.put_line-in-StopScan.result _ _
    (pushed c.args.lines.now c.put_lines-in-StopScan.new.lines c.put_line-in-StopScan.new.lines c.in-StopScan.input.value c.in_ok-inputs-in-StopScan.inputs (stop_scan c.in-StopScan.rel c.in-StopScan.k c.in-StopScan.access) before size)
    c.put_line-in-StopScan.ensures.line)

pub returns-in_ok-inputs-in-Filter-clause-lines : goal.returns-in_ok-inputs-in-Filter-clause-lines
returns-in_ok-inputs-in-Filter-clause-lines t c =
    let before = c.in_ok-inputs-in-Filter.ensures.lines ∙ ap (λ t. c.args.lines.now ++ plan_lines (nodes t)) c.deref-in-Filter.ensures in
    let size = c.in_ok-inputs-in-Filter.ensures.size ∙ ap (λ t. (reach t).inputs) c.deref-in-Filter.ensures in
    rw c.in-Filter.is (on_ok c.put_line-in-Filter.result _ _
    (pushed c.args.lines.now c.put_lines-in-Filter.new.lines c.put_line-in-Filter.new.lines c.in-Filter.input.value c.in_ok-inputs-in-Filter.inputs (keep c.in-Filter.rel) before size)
    c.put_line-in-Filter.ensures.line)

pub returns-in_ok-inputs-in-Sort-clause-lines : goal.returns-in_ok-inputs-in-Sort-clause-lines
returns-in_ok-inputs-in-Sort-clause-lines t c =
    let before = c.in_ok-inputs-in-Sort.ensures.lines ∙ ap (λ t. c.args.lines.now ++ plan_lines (nodes t)) c.deref-in-Sort.ensures in
    let size = c.in_ok-inputs-in-Sort.ensures.size ∙ ap (λ t. (reach t).inputs) c.deref-in-Sort.ensures in
    rw c.in-Sort.is (on_ok c.put_line-in-Sort.result _ _
    (pushed c.args.lines.now c.put_lines-in-Sort.new.lines c.put_line-in-Sort.new.lines c.in-Sort.input.value c.in_ok-inputs-in-Sort.inputs (sort) before size)
    c.put_line-in-Sort.ensures.line)

pub returns-in_ok-inputs-in-Cut-clause-lines : goal.returns-in_ok-inputs-in-Cut-clause-lines
returns-in_ok-inputs-in-Cut-clause-lines t c =
    let before = c.in_ok-inputs-in-Cut.ensures.lines ∙ ap (λ t. c.args.lines.now ++ plan_lines (nodes t)) c.deref-in-Cut.ensures in
    let size = c.in_ok-inputs-in-Cut.ensures.size ∙ ap (λ t. (reach t).inputs) c.deref-in-Cut.ensures in
    rw c.in-Cut.is (on_ok c.put_line-in-Cut.result _ _
    (pushed c.args.lines.now c.put_lines-in-Cut.new.lines c.put_line-in-Cut.new.lines c.in-Cut.input.value c.in_ok-inputs-in-Cut.inputs (cut c.in-Cut.k) before size)
    c.put_line-in-Cut.ensures.line)

pub returns-in_ok-inputs-in-Project-clause-lines : goal.returns-in_ok-inputs-in-Project-clause-lines
returns-in_ok-inputs-in-Project-clause-lines t c =
    let before = c.in_ok-inputs-in-Project.ensures.lines ∙ ap (λ t. c.args.lines.now ++ plan_lines (nodes t)) c.deref-in-Project.ensures in
    let size = c.in_ok-inputs-in-Project.ensures.size ∙ ap (λ t. (reach t).inputs) c.deref-in-Project.ensures in
    rw c.in-Project.is (on_ok c.put_line-in-Project.result _ _
    (pushed c.args.lines.now c.put_lines-in-Project.new.lines c.put_line-in-Project.new.lines c.in-Project.input.value c.in_ok-inputs-in-Project.inputs (project) before size)
    c.put_line-in-Project.ensures.line)
