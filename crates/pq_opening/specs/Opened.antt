-- What an opening answers of the pairs of a catalog.
use Rattle.std.specs.Prelude.{◌≡◌, ℕ, List, Some, Result, Ok, Err}
use Rattle.pq_store.specs.declared.damage.Damage.{Damage}
use Rattle.pq_content.specs.Pairs.{Pair}
use Rattle.pq_opening.specs.Opening.{SchemaAndMark}

-- the definitions with the mark of the last one, or a pair as damage
abbrev pub TellsOpened : Result SchemaAndMark Damage → Result SchemaAndMark Pair → Type 0
TellsOpened (Ok added) told = told ≡ Ok added
TellsOpened (Err damage) told = (value : List ℕ) × (damage.value ≡ Some value) × (told ≡ Err (damage.key, value))
