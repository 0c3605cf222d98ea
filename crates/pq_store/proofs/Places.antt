-- Lists of pairs whose keys rise.
use Rattle.std.proofs.Common.{◌≡◌, ℕ, Bool, true, false, not, List, [], ◌∷◌, IsTrue, refl, arith, filter, ◌&&◌}
use Rattle.std.specs.Ordering.{is_lt, eq_by_cmp, ordering_reverse}
use Rattle.std.proofs.lemmas.Cmp.{nat_list_cmp_total, tied_itself}
use Rattle.std.specs.FinMap.{slice_cmp-IsAntisymmetric, nat_cmp-IsAntisymmetric}
use Rattle.std.specs.declared.cmp.Ordering.TheVariants.{Less, Equal}
use Rattle.pq_store.specs.Content.{key_cmp, is_rising}

abbrev pub Pairs : Type 0
Pairs = List (List ℕ × List ℕ)

-- two keys in the order and turned round
pub turned : (a b : List ℕ) → key_cmp a b ≡ ordering_reverse (key_cmp b a)
turned = nat_list_cmp_total.antisymm

pub same_key : (a b : List ℕ) → key_cmp a b ≡ Equal → a ≡ b
same_key = slice_cmp-IsAntisymmetric nat_cmp-IsAntisymmetric

pub itself : (a : List ℕ) → key_cmp a a ≡ Equal
itself = tied_itself nat_list_cmp_total

-- the key is smaller than that of each pair
abbrev pub is_below_all : List ℕ → Pairs → Bool
is_below_all key [] = true
is_below_all key (pair ∷ pairs) = is_lt (key_cmp key pair.0) && is_below_all key pairs

pub below_below : (a b c : List ℕ) → key_cmp a b ≡ Less → key_cmp b c ≡ Less → key_cmp a c ≡ Less
below_below = nat_list_cmp_total.trans

-- the first pair's key is smaller than those of the others
pub first_below : (pair : List ℕ × List ℕ) (pairs : Pairs) → IsTrue (is_rising (pair ∷ pairs)) → IsTrue (is_below_all pair.0 pairs)
first_below pair pairs up = grind (arith, up)

pub rest_rises : (pair : List ℕ × List ℕ) (pairs : Pairs) → IsTrue (is_rising (pair ∷ pairs)) → IsTrue (is_rising pairs)
rest_rises pair pairs up = grind (arith, up)

-- and back
pub rising_first : (pair : List ℕ × List ℕ) (pairs : Pairs) → IsTrue (is_below_all pair.0 pairs) → IsTrue (is_rising pairs) → IsTrue (is_rising (pair ∷ pairs))
rising_first pair pairs below up = grind (arith, below, up)

-- a key that is smaller than the first is smaller than all
pub below_all : (low key : List ℕ) (pairs : Pairs) → key_cmp low key ≡ Less → IsTrue (is_below_all key pairs) → IsTrue (is_below_all low pairs)
below_all low key [] less below = refl
below_all low key (pair ∷ pairs) less below = grind (arith, below, below_all low key pairs less, below_below low key pair.0 less)

-- ---- what is left without a key
abbrev pub is_other : List ℕ → List ℕ × List ℕ → Bool
is_other key pair = not (eq_by_cmp key_cmp key pair.0)

pub others_below_all : (key : List ℕ) (pairs : Pairs) → IsTrue (is_below_all key pairs) → filter (is_other key) pairs ≡ pairs
others_below_all key [] below = refl
others_below_all key (pair ∷ pairs) below = grind (arith, below, others_below_all key pairs)

-- a first pair below the second: the keys rise where they do from the second on
pub rising_more : (pair next : List ℕ × List ℕ) (pairs : Pairs) → key_cmp pair.0 next.0 ≡ Less → is_rising (pair ∷ next ∷ pairs) ≡ is_rising (next ∷ pairs)
rising_more pair next pairs less = elim (is_below_all next.0 pairs) as (λ b. is_below_all next.0 pairs ≡ b → is_rising (pair ∷ next ∷ pairs) ≡ is_rising (next ∷ pairs)) [
  | true ↦ λ e. grind (arith, less, e, below_all pair.0 next.0 pairs less e)
  | false ↦ λ e. grind (arith, less, e)
] refl
