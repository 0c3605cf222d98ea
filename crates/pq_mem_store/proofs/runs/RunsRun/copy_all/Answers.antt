use Rattle.std.proofs.Common.{◌<◌, ◌++◌, ◌∙◌, ap, sym, map, length, append_assoc, arith}
use Rattle.std.specs.List.{flat_map}
use Rattle.std.proofs.lemmas.List.{append-nil, take_all}
use Rattle.pq_store.specs.Content.{entry}
use Rattle.pq_mem_store.proofs.Seats.{flat_more}
use Rattle.pq_mem_store.proofs.runs.RunsRun.copy_all.Goals as goal

pub loop-run-init : goal.loop-run-init
loop-run-init g c = sym (append-nil (map entry c.args.copies.now))

pub loop-run-preserved : goal.loop-run-preserved
loop-run-preserved g c =
    let within : c.loop-run.run-index < length c.deref-run-items.result.now = omega arith in
    c.in_ok-copy_all.ensures ∙ ap (λ ps. ps ++ g.R.Begins.pairs c.run-item.result) c.loop-run.invariant
    ∙ append_assoc (map entry c.args.copies.now) _ (g.R.Begins.pairs c.run-item.result)
    ∙ ap (λ ps. map entry c.args.copies.now ++ ps) (sym (flat_more g.R.Begins.pairs c.deref-run-items.result.now c.loop-run.run-index c.run-item.result within c.run-item.is))

pub returns : goal.returns
returns g c = c.loop-run.invariant
    ∙ ap (λ rs. map entry c.args.copies.now ++ flat_map g.R.Begins.pairs rs) (take_all c.loop-run.run-index c.deref-run-items.result.now c.loop-run-test.false ∙ c.deref-run-items.ensures.value)
    ∙ ap (λ ps. map entry c.args.copies.now ++ ps) c.self.view_is
