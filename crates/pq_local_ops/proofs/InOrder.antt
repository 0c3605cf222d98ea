-- What stands in order is left as it stands by a sort.
use Rattle.std.proofs.Common.{◌≡◌, Bool, true, false, cond, ◌&&◌, List, [], ◌∷◌, refl, sym, ap, subst, ◌∙◌}
use Rattle.std.specs.declared.cmp.Ordering.{Ordering}
use Rattle.std.specs.declared.cmp.Ordering.TheVariants.{Less, Equal, Greater}
use Rattle.std.specs.Ordering.{is_gt, is_le}
use Rattle.std.proofs.lemmas.Bool.{false≢true}
use Rattle.pq_base.specs.Order.{position_cmp}
use Rattle.pq_base.specs.Sorting.{placed, sort_by}
use Rattle.pq_base.specs.declared.value.Dir.{Dir}
use Rattle.pq_base.specs.declared.value.Value.{Value}
use Rattle.pq_schema.specs.declared.query.ColRef.{ColRef}
use Rattle.pq_schema.specs.declared.query.Query.{Query}
use Rattle.pq_schema.specs.declared.table.Table.{Table}
use Rattle.pq_plan.specs.Answer.{values_at}
use Rattle.pq_local_ops.specs.Lists.{AreOrdered}
use Rattle.pq_local_ops.specs.Ordered.{are_ordered}
use Rattle.pq_local_ops.proofs.Codes.{cols_of, dirs_of}

both : (a b : Bool) → (a && b) ≡ true → (a ≡ true) × (b ≡ true)
both true b h = (refl, h)
both false b h = absurd (false≢true h)

not_above : (r : Ordering) → is_le r ≡ true → is_gt r ≡ false
not_above Less h = refl
not_above Equal h = refl
not_above Greater h = absurd (false≢true h)

module _ (cols : List ColRef) (dirs : List Dir) where
  abbrev at : List (List Value) → List Value
  at combo = values_at combo cols

  stays_first : (first second : List (List Value)) (rest : List (List (List Value))) → is_gt (position_cmp dirs (at first) (at second)) ≡ false → placed (position_cmp dirs) at first (second ∷ rest) ≡ first ∷ second ∷ rest
  stays_first first second rest is =
      ap (λ (b : Bool). cond b (second ∷ placed (position_cmp dirs) at first rest) (first ∷ second ∷ rest)) is

  pub sort_of_ordered : (combos : List (List (List Value))) → are_ordered cols dirs combos ≡ true → sort_by (position_cmp dirs) at combos ≡ combos
  sort_of_ordered [] h = refl
  sort_of_ordered (first ∷ []) h = refl
  sort_of_ordered (first ∷ second ∷ rest) h =
      let parts = both _ _ h in
      ap (placed (position_cmp dirs) at first) (sort_of_ordered (second ∷ rest) parts.1)
      ∙ stays_first first second rest (not_above _ parts.0)

pub left_in_order : (tables : List Table) (query : Query) (cols : List ColRef) (dirs : List Dir) → cols ≡ cols_of tables query → dirs ≡ dirs_of tables query → (combos : List (List (List Value))) → are_ordered cols dirs combos ≡ true → AreOrdered tables query combos combos
left_in_order tables query cols dirs cols_are dirs_are combos is rows params =
    let there = subst (λ (cs : List ColRef). are_ordered cs (dirs_of tables query) combos ≡ true) cols_are (subst (λ (ds : List Dir). are_ordered cols ds combos ≡ true) dirs_are is) in
    sym (sort_of_ordered (cols_of tables query) (dirs_of tables query) combos there)
