use Rattle.std.proofs.Common.{◌∙◌, ◌++◌, ◌∷◌, [], ap, List, ℕ, Some}
use Rattle.pq_row_code.specs.declared.changes.Change.{Change as Coded}
use Rattle.pq_index_keep.proofs.Changing.{put_step}
use Rattle.pq_index_keep.proofs.changes.put_entries.Goals as goal

pub loop-i-preserved : goal.loop-i-preserved
loop-i-preserved c =
    let change : List ℕ → Coded = λ (v : List ℕ). record { key = c.in_ok-key.key; new = Some v } in
    put_step c.args.number c.args.table.now c.args.row.now c.args.indexes.now c.loop-i.i c.index-indexes-i.result c.in_ok-key.key _ c.loop-i.changes _ c.loop-i-test.true c.index-indexes-i.is c.in_ok-key.ensures c.loop-i.invariant
    (c.in_ok-push.ensures.ok ∙ ap (λ (v : List ℕ). c.loop-i.changes ++ change v ∷ []) c.new.ensures)
