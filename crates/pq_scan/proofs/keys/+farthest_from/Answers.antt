use Rattle.std.proofs.Common.{◌==◌, List, [], ap, sym, ◌∙◌, map}
use Rattle.pq_schema.specs.Relations.{belongs_to}
use Rattle.pq_schema.specs.declared.query.Pred.{Pred}
use Rattle.pq_serving.specs.Starts.{under}
use Rattle.pq_scan.specs.Ends.{farthest, own_bounds, pred_bounds, with_key}
use Rattle.pq_scan.specs.Prepared.{asked_over}
use Rattle.pq_scan.proofs.Ends.{one_more}
use Rattle.pq_scan.proofs.keys.+farthest_from.Goals as goal

pub returns : goal.returns
returns t c =
    let scan = c.args.scan.now in
    let q = asked_over scan [] in
    c.with_key.ensures
    ∙ ap (with_key c.args.end c.in_ok-found.found) c.in_ok-key.ensures
    ∙ one_more c.args.end scan.dirs c.args.input.now.ties.now c.args.base (pred_bounds q scan.rel c.args.end c.args.dir c.args.input.now.combo.now) (λ pred. belongs_to pred == scan.rel) c.in-Some.pred.now c.in-Some.rest.now c.in_ok-found.found c.in_ok-found.ensures
    ∙ ap (λ (preds : List Pred). farthest c.args.end scan.dirs c.args.base (map (under c.args.input.now.ties.now) (own_bounds q scan.rel c.args.end c.args.dir c.args.input.now.combo.now preds))) (sym c.in-Some.ensures.cases.0)
