-- Pairs that are the code of nothing, one after the other.
use Rattle.std.proofs.Common.{◌≡◌, ℕ, ◌<◌, List, length, get_or, map, sym, subst}
use Rattle.pq_base.specs.Members.{In}
use Rattle.pq_base.proofs.Members.{at_in, map_in}
use Rattle.pq_store.specs.Content.{entry}
use Rattle.pq_store.specs.declared.store.Pair.{Pair as Found}
use Rattle.pq_store.specs.declared.damage.Broke.{Broke}
use Rattle.pq_store.specs.declared.damage.Broke.TheVariants.{Failed, NoMem, Damaged}
use Rattle.pq_store.specs.declared.damage.Damage.{Damage}
use Rattle.pq_content.specs.Pairs.{Pair}
use Rattle.pq_entries.specs.Entries.{IsUnread, OneShows}

-- what the pair at a place shows, one of the pairs shows
pub one_shows : (shows : Pair → Damage → Type 0) (pairs : List Found) (i : ℕ) (pair : Found) → i < length pairs → pair ≡ get_or pairs i pair → (error : Broke) → IsUnread (shows (entry pair)) error → IsUnread (OneShows shows (map entry pairs)) error
one_shows shows pairs i pair low at Failed h = h
one_shows shows pairs i pair low at NoMem h = h
one_shows shows pairs i pair low at (Damaged damage) h =
    (entry pair, map_in entry pair pairs (subst (λ (p : Found). In p pairs) (sym at) (at_in pairs i pair low)), h)
