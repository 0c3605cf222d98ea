use Rattle.std.proofs.Common.{refl, option_copied}
use Rattle.pq_plan.specs.Nodes.{keep, sort, cut}
use Rattle.pq_local_ops.specs.Lists.{AreKept, AreOrdered}
use Rattle.pq_scan.proofs.Stopping.{stops_undamaged}
use Rattle.pq_exec.specs.Execution.{IsCutOf}
use Rattle.pq_exec.proofs.Parts.{part_given, in_any}
use Rattle.pq_exec.proofs.node.run_node.Goals as goal

pub returns-in_ok-keep_matching-in-Filter-clause-given : goal.returns-in_ok-keep_matching-in-Filter-clause-given
returns-in_ok-keep_matching-in-Filter-clause-given g c =
    let inputs = rw c.in-Filter.is at c.requires.inputs in
    rw c.in-Filter.is (part_given c.args.request.now.catalog.now.tables c.args.request.now.query.now (keep c.in-Filter.rel) c.args.inputs c.in_ok-keep_matching-in-Filter.field-0 refl refl inputs c.in_ok-keep_matching-in-Filter.ensures.part)

pub returns-in_ok-sort_combos-in-Sort-clause-given : goal.returns-in_ok-sort_combos-in-Sort-clause-given
returns-in_ok-sort_combos-in-Sort-clause-given g c =
    let inputs = rw c.in-Sort.is at c.requires.inputs in
    rw c.in-Sort.is (part_given c.args.request.now.catalog.now.tables c.args.request.now.query.now sort c.args.inputs c.in_ok-sort_combos-in-Sort.field-0 refl refl inputs c.in_ok-sort_combos-in-Sort.ensures.part)

pub returns-in_ok-cut_page-in-Cut-clause-given : goal.returns-in_ok-cut_page-in-Cut-clause-given
returns-in_ok-cut_page-in-Cut-clause-given g c =
    let inputs = rw c.in-Cut.is at c.requires.inputs in
    rw c.in-Cut.is (part_given c.args.request.now.catalog.now.tables c.args.request.now.query.now (cut c.in-Cut.k) c.args.inputs c.in_ok-cut_page-in-Cut.field-0 refl refl inputs c.in_ok-cut_page-in-Cut.ensures.part)

pub returns-in_ok-sort_combos-in-Sort-clause-answer : goal.returns-in_ok-sort_combos-in-Sort-clause-answer
returns-in_ok-sort_combos-in-Sort-clause-answer g c =
    rw c.in-Sort.is (λ rows others holds. c.in_ok-sort_combos-in-Sort.ensures.ordered rows c.args.request.now.params.now)

pub returns-in-LimitRange-clause-answer : goal.returns-in-LimitRange-clause-answer
returns-in-LimitRange-clause-answer g c = rw c.in-LimitRange.is c.limit_range.ensures.answer

pub scan_inputs-requires-clause-request : goal.scan_inputs-requires-clause-request
scan_inputs-requires-clause-request g c = record { asked = c.requires.asked; cursor = c.requires.cursor }

pub scan_inputs-requires-clause-ready : goal.scan_inputs-requires-clause-ready
scan_inputs-requires-clause-ready g c = rw c.in-StopScan.is at c.requires.ready

pub returns-in-LimitRange-clause-codes : goal.returns-in-LimitRange-clause-codes
returns-in-LimitRange-clause-codes g c = rw c.in-LimitRange.is c.limit_range.ensures.codes

pub returns-in_ok-keep_matching-in-Filter-clause-codes : goal.returns-in_ok-keep_matching-in-Filter-clause-codes
returns-in_ok-keep_matching-in-Filter-clause-codes g c =
    let request = c.args.request.now in
    rw c.in-Filter.is (in_any (g.S.Store.content c.args.store.now) (AreKept request.query.now request.params.now c.in-Filter.rel c.args.inputs c.in_ok-keep_matching-in-Filter.field-0) c.in_ok-keep_matching-in-Filter.ensures.kept)

pub returns-in_ok-sort_combos-in-Sort-clause-codes : goal.returns-in_ok-sort_combos-in-Sort-clause-codes
returns-in_ok-sort_combos-in-Sort-clause-codes g c =
    let request = c.args.request.now in
    rw c.in-Sort.is (in_any (g.S.Store.content c.args.store.now) (AreOrdered request.catalog.now.tables request.query.now c.args.inputs c.in_ok-sort_combos-in-Sort.field-0) c.in_ok-sort_combos-in-Sort.ensures.ordered)

pub returns-in_ok-cut_page-in-Cut-clause-codes : goal.returns-in_ok-cut_page-in-Cut-clause-codes
returns-in_ok-cut_page-in-Cut-clause-codes g c =
    let request = c.args.request.now in
    rw c.in-Cut.is (in_any (g.S.Store.content c.args.store.now) (IsCutOf request.catalog.now.tables request.query.now (option_copied request.after) c.in-Cut.k c.args.inputs c.in_ok-cut_page-in-Cut.field-0) c.in_ok-cut_page-in-Cut.ensures.cut)

pub returns-in-StopScan-clause-undamaged : goal.returns-in-StopScan-clause-undamaged
returns-in-StopScan-clause-undamaged g c = stops_undamaged g.S.Store c.args.request.now.catalog.now.tables _ _ c.scan_inputs.result c.scan_inputs.ensures.stops
