use Rattle.std.proofs.Common.{◌∙◌, ap, Some}
use Rattle.std.specs.Option.{option_map}
use Rattle.pq_mem_store.proofs.PairMaps.{bytes_of, found_mapped}
use Rattle.pq_mem_store.proofs.pair_map.PairMap.find.Goals as goal

pub returns-in-Some : goal.returns-in-Some
returns-in-Some c = rw (← c.self.view_is)
    (ap Some c.as_slice.ensures.value ∙ ap (option_map bytes_of) c.in-Some.ensures.value
    ∙ found_mapped bytes_of bytes_of c.self.inside.values.entries c.self.invariant c.args.key.now)

pub returns-in-None : goal.returns-in-None
returns-in-None c = rw (← c.self.view_is)
    (ap (option_map bytes_of) c.in-None.ensures.value ∙ found_mapped bytes_of bytes_of c.self.inside.values.entries c.self.invariant c.args.key.now)
