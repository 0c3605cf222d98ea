use Rattle.std.proofs.Common.{◌∙◌, ap, sym, subst, IsTrue}
use Rattle.std.specs.Prelude.{is_some}
use Rattle.std.specs.BTreeMap.{is_at}
use Rattle.std.specs.FinMap.{insert}
use Rattle.pq_store.specs.Content.{is_rising}
use Rattle.pq_store.proofs.Views.{seen}
use Rattle.pq_mem_store.proofs.PairMaps.{bytes_of, pairs_bytes, sought, set_same, seen_set, up_set}
use Rattle.pq_mem_store.proofs.pair_map.PairMap.overwrite.Goals as goal

pub invariant_of-self-then-len-value : goal.invariant_of-self-then-len-value
invariant_of-self-then-len-value c = subst (λ pairs. IsTrue (is_rising (pairs_bytes bytes_of bytes_of pairs)))
    (sym ((c.get_mut.follows.holds c.in-Some.place.now).0 ∙ set_same bytes_of bytes_of (is_at (sought bytes_of bytes_of c.args.key.now)) c.in-Some.place.now c.self.inside.values.entries (sym c.in-Some.ensures.value)))
    c.self.invariant

pub returns-then-len-value-clause-kept : goal.returns-then-len-value-clause-kept
returns-then-len-value-clause-kept c _ =
    ap (λ pairs. seen (pairs_bytes bytes_of bytes_of pairs))
    ((c.get_mut.follows.holds c.in-Some.place.now).0 ∙ set_same bytes_of bytes_of (is_at (sought bytes_of bytes_of c.args.key.now)) c.in-Some.place.now c.self.inside.values.entries (sym c.in-Some.ensures.value))
    ∙ c.self.view_is

pub invariant_of-self-2 : goal.invariant_of-self-2
invariant_of-self-2 c = up_set bytes_of bytes_of c.self.inside.values.entries c.self.invariant c.args.key.now c.copy_from_slice.new.self
    (c.get_mut.follows.lender c.copy_from_slice.new.self).entries (ap is_some (sym c.in-Some.ensures.value)) (c.get_mut.follows.holds c.copy_from_slice.new.self).0

pub returns-clause-done : goal.returns-clause-done
returns-clause-done c _ = rw (← c.self.view_is)
    (seen_set bytes_of bytes_of c.self.inside.values.entries c.self.invariant c.args.key.now c.copy_from_slice.new.self
    (c.get_mut.follows.lender c.copy_from_slice.new.self).entries (ap is_some (sym c.in-Some.ensures.value)) (c.get_mut.follows.holds c.copy_from_slice.new.self).0
    ∙ ap (insert (seen (pairs_bytes bytes_of bytes_of c.self.inside.values.entries)) c.args.key.now) c.copy_from_slice.ensures.items)
