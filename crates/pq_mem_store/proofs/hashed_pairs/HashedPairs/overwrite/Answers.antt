use Rattle.std.proofs.Common.{◌∙◌, ap, sym, subst, refl}
use Rattle.std.specs.Prelude.{IsSome}
use Rattle.std.specs.FinMap.{insert}
use Rattle.pq_mem_store.proofs.PairMaps.{bytes_of, set_same}
use Rattle.pq_mem_store.proofs.Hashed.{hashed, is_key, hashed_inserted}
use Rattle.pq_mem_store.proofs.hashed_pairs.HashedPairs.overwrite.Goals as goal

pub returns-then-len-value-clause-kept : goal.returns-then-len-value-clause-kept
returns-then-len-value-clause-kept c _ = ap (hashed bytes_of bytes_of)
    ((c.get_mut.follows.holds c.in-Some.place.now).0 ∙ set_same bytes_of bytes_of (is_key bytes_of bytes_of c.args.key.now) c.in-Some.place.now c.self.inside.values.entries (sym c.in-Some.ensures.value))
    ∙ c.self.view_is

pub returns-clause-done : goal.returns-clause-done
returns-clause-done c _ =
    let updates = (c.get_mut.follows.holds c.copy_from_slice.new.self).3 (subst IsSome c.in-Some.ensures.value refl) in
    rw (← c.self.view_is)
    (hashed_inserted bytes_of bytes_of c.self.inside.values.entries (c.get_mut.follows.lender c.copy_from_slice.new.self).entries c.args.key.now c.copy_from_slice.new.self updates.1 updates.3
    ∙ ap (insert (hashed bytes_of bytes_of c.self.inside.values.entries) c.args.key.now) c.copy_from_slice.ensures.items)
