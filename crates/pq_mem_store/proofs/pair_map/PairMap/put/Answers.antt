use Rattle.std.proofs.Common.{◌∙◌, ap}
use Rattle.std.specs.FinMap.{insert}
use Rattle.pq_store.proofs.Views.{seen}
use Rattle.pq_mem_store.proofs.PairMaps.{bytes_of, pairs_bytes, seen_inserted, up_inserted}
use Rattle.pq_mem_store.proofs.pair_map.PairMap.put.Goals as goal

pub invariant_of-self-2 : goal.invariant_of-self-2
invariant_of-self-2 c = up_inserted bytes_of bytes_of c.self.inside.values.entries c.self.invariant c.in_ok-vec_of.field-0 c.in_ok-value.value c.insert.new.self.entries c.in_ok-insert.ensures.entries

pub returns-clause-ok : goal.returns-clause-ok
returns-clause-ok c =
    seen_inserted bytes_of bytes_of c.self.inside.values.entries c.self.invariant c.in_ok-vec_of.field-0 c.in_ok-value.value c.insert.new.self.entries c.in_ok-insert.ensures.entries
    ∙ ap (λ key. insert (seen (pairs_bytes bytes_of bytes_of c.self.inside.values.entries)) key (bytes_of c.in_ok-value.value)) c.in_ok-vec_of.ensures
    ∙ ap (insert (seen (pairs_bytes bytes_of bytes_of c.self.inside.values.entries)) c.args.key.now) c.in_ok-value.ensures
    ∙ ap (λ content. insert content c.args.key.now c.args.value.now) (c.self.view_is ∙ c.overwrite.ensures.kept c.if-overwrite.false)
