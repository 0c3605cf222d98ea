-- When pairs are given back.
use Rattle.std.specs.Prelude.{◌≡◌, List, map, ⊤, false}
use Rattle.pq_store.specs.declared.store.Pair.{Pair}
use Rattle.pq_mem_store.specs.declared.mem.NotPairs.{NotPairs}
use Rattle.pq_mem_store.specs.declared.mem.NotPairs.TheVariants.{Unordered, NoMem}
use Rattle.pq_store.specs.Content.{entry, is_rising}

-- the pairs given don't rise, and are given back
abbrev pub GivesBack : NotPairs → List Pair → Type 0
GivesBack (Unordered back) pairs = (back ≡ pairs) × (is_rising (map entry pairs) ≡ false)
GivesBack NoMem pairs = ⊤
