use Rattle.std.proofs.Common.{◌∙◌, ap}
use Rattle.std.specs.FinMap.{insert}
use Rattle.pq_mem_store.proofs.PairMaps.{bytes_of}
use Rattle.pq_mem_store.proofs.Hashed.{hashed, hashed_inserted}
use Rattle.pq_mem_store.proofs.hashed_pairs.HashedPairs.put_any.Goals as goal

pub returns-clause-ok : goal.returns-clause-ok
returns-clause-ok c = rw (← c.self.view_is)
    (hashed_inserted bytes_of bytes_of c.self.inside.values.entries c.insert.new.self.entries (bytes_of c.in_ok-own.own) c.in_ok-value.value c.in_ok-insert.ensures.updates.1 c.in_ok-insert.ensures.updates.3
    ∙ ap (λ key. insert (hashed bytes_of bytes_of c.self.inside.values.entries) key (bytes_of c.in_ok-value.value)) c.in_ok-own.ensures
    ∙ ap (insert (hashed bytes_of bytes_of c.self.inside.values.entries) c.args.key.now) c.in_ok-value.ensures)
