use Rattle.std.proofs.Common.{◌==◌, sym, ap, ◌∙◌}
use Rattle.std.specs.List.{list_all}
use Rattle.pq_scan.specs.Ends.{passes_own}
use Rattle.pq_schema.specs.declared.query.Pred.{Pred}
use Rattle.pq_schema.specs.Relations.{belongs_to}
use Rattle.pq_serving.specs.Scanning.{passes_one}
use Rattle.pq_scan.specs.Prepared.{asked_over}
use Rattle.std.specs.Prelude.{[]}
use Rattle.pq_scan.proofs.Filtered.{all_filtered}
use Rattle.pq_scan.proofs.passing.passes.Goals as goal

pub returns : goal.returns
returns c =
    c.passes_each.ensures ∙ ap (λ preds. list_all (passes_own (asked_over c.args.scan.now []) c.args.scan.now.rel c.args.combo.now) preds) c.items.ensures
    ∙ sym (all_filtered (λ (pred : Pred). belongs_to pred == c.args.scan.now.rel) (passes_one (asked_over c.args.scan.now []) c.args.scan.now.rel c.args.combo.now) c.args.scan.now.query.now.preds)
