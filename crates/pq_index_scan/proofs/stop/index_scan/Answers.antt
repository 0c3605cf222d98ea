use Rattle.std.proofs.Common.{rules, List, subst, sym, ◌∙◌}
use Rattle.std.proofs.lemmas.Result.{IfErr-weaker}
use Rattle.pq_base.specs.declared.value.Value.{Value}
use Rattle.pq_nodes.specs.Operators.{AreInputs}
use Rattle.pq_scan.proofs.Stopping.{stops_undamaged}
use Rattle.pq_index_scan.proofs.Stopping.{no_relations}
use Rattle.pq_index_scan.proofs.stop.index_scan.Goals as goal

pub scan_inputs-requires-clause-request : goal.scan_inputs-requires-clause-request
scan_inputs-requires-clause-request g c = record { asked = c.requires.asked; cursor = c.requires.cursor }

pub scan_inputs-requires-clause-inputs : goal.scan_inputs-requires-clause-inputs
scan_inputs-requires-clause-inputs g c =
    subst (λ (inputs : List (List (List Value))). AreInputs c.args.catalog.now.tables c.args.query.now c.args.rel inputs) (sym (c.items-inputs.ensures ∙ c.in_ok-inputs.ensures))
    (no_relations c.args.catalog.now.tables c.args.query.now c.args.rel c.requires.first)

pub returns-clause-cause : goal.returns-clause-cause
returns-clause-cause g c =
    let cause = IfErr-weaker c.scan_inputs.result _ _ (λ error why. why.cause) c.scan_inputs.ensures.stops in
    search (rules, cause)

pub returns-clause-answered : goal.returns-clause-answered
returns-clause-answered g c = IfErr-weaker c.scan_inputs.result _ _ (λ error why. why.answered) c.scan_inputs.ensures.stops

pub returns-clause-undamaged : goal.returns-clause-undamaged
returns-clause-undamaged g c = stops_undamaged g.S.Store c.args.catalog.now.tables _ _ c.scan_inputs.result c.scan_inputs.ensures.stops
