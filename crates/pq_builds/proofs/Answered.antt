-- Damage that is told of pairs was answered, where the pairs were.
use Rattle.std.proofs.Common.{ℕ, List, Option, Some, inl, sym, subst}
use Rattle.std.specs.List.{AllByRecursion}
use Rattle.pq_base.proofs.Members.{each_in, in_from_contains}
use Rattle.pq_base.specs.Shapes.{RowShape}
use Rattle.pq_store.specs.Breaks.{IfDamaged, IsAnsweredBut}
use Rattle.pq_store.specs.declared.damage.Broke.{Broke}
use Rattle.pq_store.specs.declared.damage.Broke.TheVariants.{Failed, NoMem, Damaged}
use Rattle.pq_content.specs.Pairs.{Pair}
use Rattle.pq_builds.specs.Filling.{IsNoRowAmong}

pub among_answered : (answers : List ℕ → Option (List ℕ) → Type 0) (key : List ℕ) (shape : RowShape) (pairs : List Pair) → AllByRecursion (λ pair. answers pair.0 (Some pair.1)) pairs → (broke : Broke) → IfDamaged (IsNoRowAmong shape pairs) broke → IsAnsweredBut answers key broke
among_answered answers key shape pairs each Failed shown = tt
among_answered answers key shape pairs each NoMem shown = tt
among_answered answers key shape pairs each (Damaged damage) shown =
    inl (subst (λ (k : List ℕ). answers k damage.value) (sym shown.no_row.at)
    (subst (answers shown.pair.0) (sym shown.no_row.has) (each_in (λ (pair : Pair). answers pair.0 (Some pair.1)) pairs each shown.pair (in_from_contains pairs shown.pair shown.there))))
