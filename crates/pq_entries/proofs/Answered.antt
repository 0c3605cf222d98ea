-- Damage that is told of pairs was answered, where the pairs were.
use Rattle.std.proofs.Common.{ℕ, List, Option, Some, sym, subst}
use Rattle.std.specs.Prelude.{Result, Ok, Err, IfErr}
use Rattle.std.specs.List.{AllByRecursion}
use Rattle.pq_base.proofs.Members.{each_in}
use Rattle.pq_store.specs.Breaks.{IsAnswered}
use Rattle.pq_store.specs.declared.damage.Broke.{Broke}
use Rattle.pq_store.specs.declared.damage.Broke.TheVariants.{Failed, NoMem, Damaged}
use Rattle.pq_store.specs.declared.damage.Damage.{Damage}
use Rattle.pq_content.specs.Pairs.{Pair}
use Rattle.pq_entries.specs.Entries.{IsUnread, OneShows, TellsPair}

module _ (answers : List ℕ → Option (List ℕ) → Type 0) (pairs : List Pair) (each : AllByRecursion (λ pair. answers pair.0 (Some pair.1)) pairs)
    (shows : Pair → Damage → Type 0) (tells : (pair : Pair) (damage : Damage) → shows pair damage → TellsPair pair damage) where
  one_answered : (broke : Broke) → IsUnread (OneShows shows pairs) broke → IsAnswered answers broke
  one_answered Failed unread = absurd unread
  one_answered NoMem unread = tt
  one_answered (Damaged damage) unread =
      let told = tells unread.0 damage unread.2 in
      subst (λ (key : List ℕ). answers key damage.value) (sym told.at)
      (subst (answers unread.0.0) (sym told.has) (each_in (λ (pair : Pair). answers pair.0 (Some pair.1)) pairs each unread.0 unread.1))

  pub read_answered : {A : Type 0} (result : Result A Broke) → IfErr result (IsUnread (OneShows shows pairs)) → IfErr result (IsAnswered answers)
  read_answered (Ok found) unread = tt
  read_answered (Err broke) unread = one_answered broke unread

-- what shows that a pair is the code of nothing tells the pair
pub unread_tells : (shows : Pair → Damage → Type 0) → ((pair : Pair) (damage : Damage) → shows pair damage → TellsPair pair damage) → (pairs : List Pair) (broke : Broke) → IsUnread (OneShows shows pairs) broke → IsUnread (OneShows TellsPair pairs) broke
unread_tells shows tells pairs Failed unread = absurd unread
unread_tells shows tells pairs NoMem unread = tt
unread_tells shows tells pairs (Damaged damage) unread = (unread.0, unread.1, tells unread.0 damage unread.2)
