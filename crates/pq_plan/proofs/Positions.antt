-- The order of positions is total, and ties only equal lists.
use Rattle.std.proofs.Common.{◌≡◌, List, [], ◌∷◌, refl, sym, ap, ◌∙◌}
use Rattle.std.specs.declared.cmp.Ordering.{Ordering}
use Rattle.std.specs.declared.cmp.Ordering.TheVariants.{Less, Equal, Greater}
use Rattle.std.specs.Ordering.{ordering_then, ordering_reverse}
use Rattle.std.specs.Cmp.{IsTotalOrder, alike_right}
use Rattle.std.specs.FinMap.{IsAntisymmetric}
use Rattle.pq_base.specs.declared.value.Value.{Value}
use Rattle.pq_base.specs.declared.value.Dir.{Dir}
use Rattle.pq_base.specs.declared.value.Dir.TheVariants.{Asc, Desc}
use Rattle.pq_base.specs.Order.{value_cmp, directed_order, position_cmp}
use Rattle.pq_plan.proofs.ValueOrder.{value_cmp_total, value_cmp_only}

reversed_then : (a b : Ordering) → ordering_reverse (ordering_then a b) ≡ ordering_then (ordering_reverse a) (ordering_reverse b)
reversed_then Less b = refl
reversed_then Equal b = refl
reversed_then Greater b = refl

then_less : (a b : Ordering) → ordering_then a b ≡ Less → a ≡ Greater → ⊥
then_less a b h e = let f : ordering_then Greater b ≡ Less = ap (λ r. ordering_then r b) (sym e) ∙ h in cc

tied_first : (a b : Ordering) → ordering_then a b ≡ Equal → a ≡ Equal
tied_first Less b h = cc
tied_first Equal b h = refl
tied_first Greater b h = cc

tied_second : (a b : Ordering) → ordering_then a b ≡ Equal → b ≡ Equal
tied_second Less b h = cc
tied_second Equal b h = h
tied_second Greater b h = cc

module _ {V : Type 0} (C : V → V → Ordering) (o : IsTotalOrder C) where
  turned_total : (d : Dir) → IsTotalOrder (λ x y. directed_order d (C x y))
  turned_total Asc = o
  turned_total Desc = record {
    antisymm = λ x y. ap ordering_reverse (o.antisymm x y);
    trans = λ x y z p r. sym (o.antisymm z x) ∙ o.trans z y x (o.antisymm z y ∙ r) (o.antisymm y x ∙ p);
    congr = λ x y z p. ap ordering_reverse (o.congr x y z (unturned (C x y) p));
  }
    where
      unturned : (r : Ordering) → ordering_reverse r ≡ Equal → r ≡ Equal
      unturned Less h = cc
      unturned Equal h = refl
      unturned Greater h = cc

  step_antisymm : (d : Dir) (x y : V) (a b : Ordering) → a ≡ ordering_reverse b → ordering_then (directed_order d (C x y)) a ≡ ordering_reverse (ordering_then (directed_order d (C y x)) b)
  step_antisymm d x y a b h = (λ i. ordering_then ((turned_total d).antisymm x y i) (h i)) ∙ sym (reversed_then (directed_order d (C y x)) b)

  step_trans : (d : Dir) (x y z : V) (a b c : Ordering) → (a ≡ Less → b ≡ Less → c ≡ Less) → ordering_then (directed_order d (C x y)) a ≡ Less → ordering_then (directed_order d (C y z)) b ≡ Less → ordering_then (directed_order d (C x z)) c ≡ Less
  step_trans d x y z a b c f p r =
      let t = turned_total d in
      elim (directed_order d (C x y)) as (λ u. directed_order d (C x y) ≡ u → ordering_then u a ≡ Less → ordering_then (directed_order d (C x z)) c ≡ Less) [
        | Less ↦ λ e _. elim (directed_order d (C y z)) as (λ u. directed_order d (C y z) ≡ u → ordering_then u b ≡ Less → ordering_then (directed_order d (C x z)) c ≡ Less) [
          | Less ↦ λ g _. ap (λ u. ordering_then u c) (t.trans x y z e g)
          | Equal ↦ λ g _. ap (λ u. ordering_then u c) (sym (alike_right t y z x g) ∙ e)
          | Greater ↦ λ g h. absurd (then_less Greater b h refl)
        ] refl r
        | Equal ↦ λ e h. elim (directed_order d (C y z)) as (λ u. directed_order d (C y z) ≡ u → ordering_then u b ≡ Less → ordering_then (directed_order d (C x z)) c ≡ Less) [
          | Less ↦ λ g _. ap (λ u. ordering_then u c) (t.congr x y z e ∙ g)
          | Equal ↦ λ g k. ap (λ u. ordering_then u c) (t.congr x y z e ∙ g) ∙ f h k
          | Greater ↦ λ g k. absurd (then_less Greater b k refl)
        ] refl r
        | Greater ↦ λ e h. absurd (then_less Greater a h refl)
      ] refl p

  step_congr : (d : Dir) (x y z : V) (a b c : Ordering) → (a ≡ Equal → b ≡ c) → ordering_then (directed_order d (C x y)) a ≡ Equal → ordering_then (directed_order d (C x z)) b ≡ ordering_then (directed_order d (C y z)) c
  step_congr d x y z a b c f p = λ i. ordering_then ((turned_total d).congr x y z (tied_first _ _ p) i) (f (tied_second _ _ p) i)

antisymm : (ds : List Dir) (xs ys : List Value) → position_cmp ds xs ys ≡ ordering_reverse (position_cmp ds ys xs)
antisymm [] [] [] = refl
antisymm [] [] (y ∷ ys) = refl
antisymm [] (x ∷ xs) [] = refl
antisymm [] (x ∷ xs) (y ∷ ys) = step_antisymm value_cmp value_cmp_total Asc x y _ _ (antisymm [] xs ys)
antisymm (d ∷ ds) [] [] = refl
antisymm (d ∷ ds) [] (y ∷ ys) = refl
antisymm (d ∷ ds) (x ∷ xs) [] = refl
antisymm (d ∷ ds) (x ∷ xs) (y ∷ ys) = step_antisymm value_cmp value_cmp_total d x y _ _ (antisymm ds xs ys)

trans : (ds : List Dir) (xs ys zs : List Value) → position_cmp ds xs ys ≡ Less → position_cmp ds ys zs ≡ Less → position_cmp ds xs zs ≡ Less
trans [] [] [] zs p r = r
trans [] [] (y ∷ ys) [] p r = cc
trans [] [] (y ∷ ys) (z ∷ zs) p r = refl
trans [] (x ∷ xs) [] zs p r = cc
trans [] (x ∷ xs) (y ∷ ys) [] p r = cc
trans [] (x ∷ xs) (y ∷ ys) (z ∷ zs) p r = step_trans value_cmp value_cmp_total Asc x y z _ _ _ (trans [] xs ys zs) p r
trans (d ∷ ds) [] [] zs p r = r
trans (d ∷ ds) [] (y ∷ ys) [] p r = cc
trans (d ∷ ds) [] (y ∷ ys) (z ∷ zs) p r = refl
trans (d ∷ ds) (x ∷ xs) [] zs p r = cc
trans (d ∷ ds) (x ∷ xs) (y ∷ ys) [] p r = cc
trans (d ∷ ds) (x ∷ xs) (y ∷ ys) (z ∷ zs) p r = step_trans value_cmp value_cmp_total d x y z _ _ _ (trans ds xs ys zs) p r

congr : (ds : List Dir) (xs ys zs : List Value) → position_cmp ds xs ys ≡ Equal → position_cmp ds xs zs ≡ position_cmp ds ys zs
congr [] [] [] zs p = refl
congr [] [] (y ∷ ys) zs p = cc
congr [] (x ∷ xs) [] zs p = cc
congr [] (x ∷ xs) (y ∷ ys) [] p = refl
congr [] (x ∷ xs) (y ∷ ys) (z ∷ zs) p = step_congr value_cmp value_cmp_total Asc x y z _ _ _ (congr [] xs ys zs) p
congr (d ∷ ds) [] [] zs p = refl
congr (d ∷ ds) [] (y ∷ ys) zs p = cc
congr (d ∷ ds) (x ∷ xs) [] zs p = cc
congr (d ∷ ds) (x ∷ xs) (y ∷ ys) [] p = refl
congr (d ∷ ds) (x ∷ xs) (y ∷ ys) (z ∷ zs) p = step_congr value_cmp value_cmp_total d x y z _ _ _ (congr ds xs ys zs) p

pub position_cmp_total : (ds : List Dir) → IsTotalOrder (position_cmp ds)
position_cmp_total ds = record { antisymm = antisymm ds; trans = trans ds; congr = congr ds }

pub position_cmp_only : (ds : List Dir) → IsAntisymmetric (position_cmp ds)
position_cmp_only [] [] [] p = refl
position_cmp_only [] [] (y ∷ ys) p = cc
position_cmp_only [] (x ∷ xs) [] p = cc
position_cmp_only [] (x ∷ xs) (y ∷ ys) p = λ i. value_cmp_only x y (tied_first _ _ p) i ∷ position_cmp_only [] xs ys (tied_second _ _ p) i
position_cmp_only (d ∷ ds) [] [] p = refl
position_cmp_only (d ∷ ds) [] (y ∷ ys) p = cc
position_cmp_only (d ∷ ds) (x ∷ xs) [] p = cc
position_cmp_only (d ∷ ds) (x ∷ xs) (y ∷ ys) p = λ i. value_cmp_only x y (unturned d (value_cmp x y) (tied_first _ _ p)) i ∷ position_cmp_only ds xs ys (tied_second _ _ p) i
  where
    unturned : (d : Dir) (r : Ordering) → directed_order d r ≡ Equal → r ≡ Equal
    unturned Asc r h = h
    unturned Desc Less h = cc
    unturned Desc Equal h = refl
    unturned Desc Greater h = cc
