use Rattle.std.proofs.Common.{ℕ, ◌+◌, List, map, refl}
use Rattle.pq_schema.specs.declared.table.Index.{Index}
use Rattle.pq_content.specs.Pairs.{entries_from}
use Rattle.pq_clients.proofs.Lists.{loop_more, loop_done, put_one}
use Rattle.pq_clients.proofs.entries.put_keys.Goals as goal

pub loop-i-preserved : goal.loop-i-preserved
loop-i-preserved c =
    loop_more (λ (j : ℕ) (xs : List Index). map (λ (pair : List ℕ × List ℕ). pair.0) (entries_from c.args.number (j + 1) c.args.table.now xs c.args.row.now))
    c.args.indexes.now c.loop-i.i c.index-indexes-i.result c.loop-i.keys _ _ c.loop-i-test.true c.index-indexes-i.is
    (λ (rest : List Index). put_one _ _ _ _ _ c.in_ok-push.ensures.ok c.in_ok-key.ensures) c.loop-i.invariant

pub returns : goal.returns
returns c =
    loop_done (λ (j : ℕ) (xs : List Index). map (λ (pair : List ℕ × List ℕ). pair.0) (entries_from c.args.number (j + 1) c.args.table.now xs c.args.row.now))
    c.args.indexes.now c.loop-i.i c.loop-i.keys _ c.loop-i-test.false refl c.loop-i.invariant
