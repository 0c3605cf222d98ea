use Rattle.std.proofs.Common.{◌≡◌, true, length, sym, subst}
use Rattle.std.specs.Prelude.{IfOk, IfErr}
use Rattle.std.specs.Option.{option_copied}
use Rattle.std.proofs.lemmas.Result.{IfOk-weaker}
use Rattle.pq_schema.specs.Candidates.{can_stop_at}
use Rattle.pq_schema.specs.Relations.{table_of, tied_set, order_rest}
use Rattle.pq_schema.specs.Sequences.{IsAccess, sequence_of, serves}
use Rattle.pq_schema.proofs.Soundness.{resolved_is_query}
use Rattle.pq_plan.specs.Nodes.{stop_scan}
use Rattle.pq_nodes.specs.Inverse.{IsRelationOf}
use Rattle.pq_nodes.specs.Operators.{IsAsked, AreInputs, IsCursor, AffordsNode, AreFound, AnswersNode}
use Rattle.pq_scan.specs.Prepared.{Subject}
use Rattle.pq_scan.specs.Request.{SpendsNode, StopsRead}
use Rattle.pq_scan.proofs.Gathered.{first_scanned}
use Rattle.pq_scan.proofs.scanning.scan_inputs.Goals as goal

pub prepare-requires-clause-query : goal.prepare-requires-clause-query
prepare-requires-clause-query g c = resolved_is_query c.args.request.now.catalog.now.tables c.args.request.now.query.now c.requires.request.asked.made c.requires.request.asked.resolved

pub run-requires-clause-ready : goal.run-requires-clause-ready
run-requires-clause-ready g c =
    let to = sym c.in_ok-scan.ensures.subject in
    let is = c.requires.ready.is in
    record {
      sound = c.in_ok-scan.ensures.sound;
      asked = subst (λ (s : Subject). IsAsked s.tables s.query s.params) to c.requires.request.asked;
      relation = subst (λ (s : Subject). IsRelationOf s.query s.rel) to is.relation;
      can = subst (λ (s : Subject). can_stop_at s.tables s.query s.rel ≡ true) to is.can;
      serves = subst (λ (s : Subject). IsAccess (table_of s.tables s.query s.rel) s.access × (serves (table_of s.tables s.query s.rel) (tied_set s.query s.rel) (order_rest s.query s.rel) (sequence_of (table_of s.tables s.query s.rel) s.access) ≡ true)) to c.requires.ready.indexed;
    }

pub run-requires-clause-inputs : goal.run-requires-clause-inputs
run-requires-clause-inputs g c = subst (λ (s : Subject). AreInputs s.tables s.query s.rel c.args.inputs.now) (sym c.in_ok-scan.ensures.subject) c.requires.inputs

pub run-requires-clause-cursor : goal.run-requires-clause-cursor
run-requires-clause-cursor g c = subst (λ (s : Subject). IsCursor s.tables s.query (option_copied c.args.request.now.after)) (sym c.in_ok-scan.ensures.subject) c.requires.request.cursor

pub run-requires-clause-limit : goal.run-requires-clause-limit
run-requires-clause-limit g c = let is = c.requires.ready.is in is.from_one

pub run-requires-clause-share : goal.run-requires-clause-share
run-requires-clause-share g c = subst (λ (s : Subject). AffordsNode c.args.calls.now.allowance.now (length c.args.inputs.now) (stop_scan s.rel c.args.k s.access)) (sym c.in_ok-scan.ensures.subject) c.requires.share

pub returns-clause-spends : goal.returns-clause-spends
returns-clause-spends g c = subst (λ (s : Subject). SpendsNode g.S.Store c.args.calls.now c.run.new.calls (length c.args.inputs.now) (stop_scan s.rel c.args.k s.access)) c.in_ok-scan.ensures.subject c.run.ensures.spends

pub returns-clause-stops : goal.returns-clause-stops
returns-clause-stops g c = subst (λ (s : Subject). IfErr c.run.result (StopsRead g.S.Store s.tables c.args.calls.now c.run.new.calls)) c.in_ok-scan.ensures.subject c.run.ensures.stops

pub returns-clause-found : goal.returns-clause-found
returns-clause-found g c = subst (λ (s : Subject). IfOk c.run.result (AreFound s.tables s.query s.rel (length c.args.inputs.now) (stop_scan s.rel c.args.k s.access))) c.in_ok-scan.ensures.subject c.run.ensures.found

pub returns-clause-answer : goal.returns-clause-answer
returns-clause-answer g c = subst (λ (s : Subject). IfOk c.run.result (AnswersNode (g.S.Store.content c.args.calls.now.store.now) s.tables s.query s.params (option_copied c.args.request.now.after) c.args.inputs.now (stop_scan s.rel c.args.k s.access))) c.in_ok-scan.ensures.subject c.run.ensures.answer

pub returns-clause-codes : goal.returns-clause-codes
returns-clause-codes g c =
    IfOk-weaker c.run.result _ _ (λ found h.
    first_scanned c.args.request.now.catalog.now.tables c.args.request.now.query.now c.args.request.now.params.now c.args.rel c.args.access c.in_ok-scan.scan c.in_ok-scan.ensures.sound c.in_ok-scan.ensures.subject (option_copied c.args.request.now.after) c.args.k
    (g.S.Store.content c.args.calls.now.store.now) c.args.inputs.now found h) c.run.ensures.codes
