use Rattle.std.proofs.Common.{◌∙◌, ap, Some}
use Rattle.std.specs.Option.{option_map}
use Rattle.pq_mem_store.proofs.PairMaps.{bytes_of}
use Rattle.pq_mem_store.proofs.Hashed.{found_hashed}
use Rattle.pq_mem_store.proofs.hashed_pairs.HashedPairs.find.Goals as goal

pub returns-in-Some : goal.returns-in-Some
returns-in-Some c = rw (← c.self.view_is)
    (ap Some c.as_slice.ensures.value ∙ ap (option_map bytes_of) c.in-Some.ensures.value ∙ found_hashed bytes_of bytes_of c.args.key.now c.self.inside.values.entries)

pub returns-in-None : goal.returns-in-None
returns-in-None c = rw (← c.self.view_is) (ap (option_map bytes_of) c.in-None.ensures.value ∙ found_hashed bytes_of bytes_of c.args.key.now c.self.inside.values.entries)
