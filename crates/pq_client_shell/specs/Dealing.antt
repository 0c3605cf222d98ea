-- Writes that are dealt to clients in turn, and the order of the clients' steps.
use Rattle.std.specs.Prelude.{ℕ, ◌+◌, ◌==◌, List, [], ◌∷◌, ◌++◌, map, if◌then◌else◌}
use Rattle.std.specs.List.{range_with_len}
use Rattle.pq_index_keep.specs.declared.write.Write.{Write}
use Rattle.pq_clients.specs.Clients.{View, new_view}

-- the place behind this one of k places, and the first behind the last
abbrev pub following : ℕ → ℕ → ℕ
following k place = if place + 1 == k then 0 else place + 1

-- of writes that are dealt to k places in turn, from the place `next` on, those of one place
abbrev pub picked : ℕ → ℕ → ℕ → List Write → List Write
picked k next place [] = []
picked k next place (w ∷ ws) = (if next == place then w ∷ [] else []) ++ picked k (following k next) place ws

-- the writes of each of k clients: every kth, the first of the first client
abbrev pub hands : ℕ → List Write → List (List Write)
hands k writes = map (λ place. picked k 0 place writes) (range_with_len 0 k)

-- clients with these writes that have taken no step, numbered from here on
abbrev pub seated : ℕ → List (List Write) → List View
seated number [] = []
seated number (hand ∷ rest) = new_view number hand ∷ seated (number + 1) rest

-- the clients 1 to k, to whom the writes are dealt in turn
unfoldable pub dealt : ℕ → List Write → List View
dealt k writes = seated 1 (hands k writes)
