-- What a stop asks of a sequence.
use Rattle.std.specs.Prelude.{◌≤◌, length}
use Rattle.pq_schema.specs.Sound.{AreParts}
use Rattle.pq_index_pick.specs.declared.pick.Need.{Need}

-- at most four order parts, which name columns
pub record IsNeed (need : Need) : Type 0 where
  pub parts : AreParts need.order.items
  pub few : length need.order.items ≤ 4
