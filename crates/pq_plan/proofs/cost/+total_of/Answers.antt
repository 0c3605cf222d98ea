use Rattle.std.proofs.Common.{arith, ◌≤◌, length, ap, ◌∙◌}
use Rattle.pq_plan.specs.Cost.{reach, relations_read}
use Rattle.pq_plan.proofs.Small.{within}
use Rattle.pq_plan.proofs.cost.+total_of.Goals as goal

pub read_each-requires-clause-low : goal.read_each-requires-clause-low
read_each-requires-clause-low t c =
    let small = rw c.in-Lookup.is at c.requires.small in
    let few = rw c.in-Lookup.is at c.requires.few in
    let six : length (relations_read c.in-Lookup.input.value) ≤ 6 = omega (arith, few) in
    within c.in-Lookup.input.value c.total_of.result (c.total_of.ensures ∙ ap reach c.deref.ensures) small six

pub read_each-requires-in-LimitRange-clause-low : goal.read_each-requires-in-LimitRange-clause-low
read_each-requires-in-LimitRange-clause-low t c =
    let small = rw c.in-LimitRange.is at c.requires.small in
    let few = rw c.in-LimitRange.is at c.requires.few in
    let six : length (relations_read c.in-LimitRange.input.value) ≤ 6 = omega (arith, few) in
    within c.in-LimitRange.input.value c.total_of-in-LimitRange.result (c.total_of-in-LimitRange.ensures ∙ ap reach c.deref-in-LimitRange.ensures) small.1 six

pub read_stop-requires-clause-low : goal.read_stop-requires-clause-low
read_stop-requires-clause-low t c =
    let small = rw c.in-StopScan.is at c.requires.small in
    let few = rw c.in-StopScan.is at c.requires.few in
    let six : length (relations_read c.in-StopScan.input.value) ≤ 6 = omega (arith, few) in
    within c.in-StopScan.input.value c.total_of-in-StopScan.result (c.total_of-in-StopScan.ensures ∙ ap reach c.deref-in-StopScan.ensures) small.1 six
