-- A row's code lies between the keys of an input exactly where its values lie within the bounds.
use Rattle.std.proofs.Common.{◌≡◌, ℕ, ◌≤◌, Bool, true, false, cond, not, ◌&&◌, List, [], ◌∷◌, ◌++◌, length, map, Option, refl, sym, ap, ◌∙◌, arith, append-nil}
use Rattle.std.specs.declared.cmp.Ordering.{Ordering}
use Rattle.std.specs.declared.cmp.Ordering.TheVariants.{Less, Equal, Greater}
use Rattle.std.specs.Ordering.{nat_cmp, is_lt, is_le, is_gt, is_eq, ordering_then, ordering_reverse}
use Rattle.std.specs.Cmp.{upto}
use Rattle.std.specs.Cmp.Lexicographic.{nat_list_cmp_total}
use Rattle.std.specs.List.{list_all, AllByRecursion}
use Rattle.std.proofs.lemmas.Bool.{false≢true}
use Rattle.std.proofs.lemmas.Bool.Decides.{nat_tests}
use Rattle.pq_base.specs.declared.value.Dir.{Dir}
use Rattle.pq_base.specs.declared.value.Value.{Value}
use Rattle.pq_base.specs.declared.value.ColType.{ColType}
use Rattle.pq_base.specs.Values.{AreValues, SameKinds}
use Rattle.pq_schema.proofs.TypeKinds.{kinds_alike, value_from_kind}
use Rattle.pq_schema.specs.Keys.{dirs_of}
use Rattle.pq_schema.specs.declared.table.KeyPart.{KeyPart}
use Rattle.pq_key_code.specs.KeyCode.{code_of}
use Rattle.pq_key_code.specs.KeyOrder.{common_cmp}
use Rattle.pq_key_code.proofs.Order.{past_cmp, prefix_cmp}
use Rattle.pq_store.specs.Content.{key_cmp}
use Rattle.pq_content.specs.Tables.{IsOfKind}
use Rattle.pq_content.proofs.Ranges.{in_range}
use Rattle.pq_plan.specs.Answer.{Question}
use Rattle.pq_serving.specs.Starts.{Bound, reaches, under}
use Rattle.pq_serving.specs.Scanning.{ties, lows, highs, lies_within}
use Rattle.pq_serving.specs.Keys.{bound_key, higher, lesser_key, highest, lowest, range_low, range_high}

-- values of these types' kinds, place by place, as far as they go
abbrev pub Fits : List ColType → List Value → Type 0
Fits [] [] = Unit {0}
Fits (t ∷ ts) [] = Unit {0}
Fits [] (x ∷ xs) = ⊥
Fits (t ∷ ts) (x ∷ xs) = IsOfKind t x × Fits ts xs

abbrev pub AreFit : List ColType → List Bound → Type 0
AreFit ts bs = AllByRecursion (λ b. Fits ts b.values) bs

-- ---- kinds

pub fits_values : (ts : List ColType) (xs : List Value) → Fits ts xs → AreValues xs
fits_values [] [] h = tt
fits_values (t ∷ ts) [] h = tt
fits_values [] (x ∷ xs) h = absurd h
fits_values (t ∷ ts) (x ∷ xs) h = (value_from_kind t x h.0, fits_values ts xs h.1)

pub fits_kinds : (ts : List ColType) (ps xs : List Value) → Fits ts ps → Fits ts xs → SameKinds ps xs
fits_kinds ts [] xs g h = tt
fits_kinds ts (p ∷ ps) [] g h = tt
fits_kinds [] (p ∷ ps) (x ∷ xs) g h = absurd g
fits_kinds (t ∷ ts) (p ∷ ps) (x ∷ xs) g h = (kinds_alike t p x g.0 h.0, fits_kinds ts ps xs g.1 h.1)

fits_long : (ts : List ColType) (xs : List Value) → Fits ts xs → length xs ≤ length ts
fits_long [] [] h = omega arith
fits_long (t ∷ ts) [] h = omega arith
fits_long [] (x ∷ xs) h = absurd h
fits_long (t ∷ ts) (x ∷ xs) h = let rest = fits_long ts xs h.1 in omega arith

-- ---- one bound
at_most : (m n : ℕ) → m ≤ n → is_le (nat_cmp m n) ≡ true
at_most m n le = grind (arith, nat_tests)

past_is : (o : Ordering) → is_le (ordering_then o Greater) ≡ is_lt o
past_is Less = refl
past_is Equal = refl
past_is Greater = refl

from_is : (o n : Ordering) → is_le n ≡ true → is_le (ordering_then o n) ≡ is_le o
from_is Less n h = refl
from_is Equal n h = h
from_is Greater n h = refl

module _ (ts : List ColType) (ds : List Dir) (xs : List Value) (long : length xs ≡ length ds) (wide : length ts ≡ length ds) (typed : Fits ts xs) where
  -- a bound's key is up to a list's code exactly where the list reaches the bound
  key_law : (b : Bound) → Fits ts b.values → is_le (key_cmp (bound_key ds b) (code_of ds xs)) ≡ reaches ds b xs
  key_law b f =
      let short = fits_long ts b.values f in
      let vs = b.values in
      let a = fits_values ts vs f in
      let v = fits_values ts xs typed in
      let k = fits_kinds ts vs xs f typed in
      elim b.past as (λ p. is_le (key_cmp (code_of ds vs ++ cond p (32 ∷ []) []) (code_of ds xs)) ≡ cond p (is_lt (common_cmp ds vs xs)) (is_le (common_cmp ds vs xs))) [
        | true ↦ ap is_le (past_cmp ds vs xs a v k) ∙ past_is (common_cmp ds vs xs)
        | false ↦
            ap (λ l. is_le (key_cmp l (code_of ds xs))) (append-nil (code_of ds vs))
            ∙ ap is_le (prefix_cmp ds vs xs a v k (omega arith) (omega arith))
            ∙ from_is (common_cmp ds vs xs) (nat_cmp (length vs) (length xs)) (at_most (length vs) (length xs) (omega arith))
      ]

-- ---- the highest and the lowest of some keys
flip_lt : (r : Ordering) → is_lt (ordering_reverse r) ≡ not (is_le r)
flip_lt Less = refl
flip_lt Equal = refl
flip_lt Greater = refl

lt_is : (a b : List ℕ) → is_lt (key_cmp a b) ≡ not (is_le (key_cmp b a))
lt_is a b = ap is_lt (nat_list_cmp_total.antisymm a b) ∙ flip_lt (key_cmp b a)

le_not_gt : (r : Ordering) → is_le r ≡ not (is_gt r)
le_not_gt Less = refl
le_not_gt Equal = refl
le_not_gt Greater = refl

from_le : (a b : List ℕ) → is_le (key_cmp a b) ≡ true → is_gt (key_cmp a b) ≡ false
from_le a b h = each (key_cmp a b) h
  where
    each : (r : Ordering) → is_le r ≡ true → is_gt r ≡ false
    each Less h = refl
    each Equal h = refl
    each Greater h = absurd (false≢true h)

both_le : (a b k : List ℕ) → is_le (key_cmp a b) ≡ true → is_le (key_cmp b k) ≡ true → is_le (key_cmp a k) ≡ true
both_le a b k g h = le_not_gt (key_cmp a k) ∙ ap not (upto nat_list_cmp_total a b k (from_le a b g) (from_le b k h))

-- where one follows from the other
implied_left : (x y : Bool) → (y ≡ true → x ≡ true) → y ≡ (x && y)
implied_left true y h = refl
implied_left false true h = sym (h refl)
implied_left false false h = refl

implied_right : (x y : Bool) → (x ≡ true → y ≡ true) → x ≡ (x && y)
implied_right true y h = sym (h refl)
implied_right false y h = refl

less_le : (r : Ordering) → is_lt r ≡ true → is_le r ≡ true
less_le Less h = refl
less_le Equal h = absurd (false≢true h)
less_le Greater h = absurd (false≢true h)

not_less_le : (a b : List ℕ) → is_lt (key_cmp a b) ≡ false → is_le (key_cmp b a) ≡ true
not_less_le a b h = twice (is_le (key_cmp b a)) ∙ ap not (sym (lt_is a b) ∙ h)
  where
    twice : (b : Bool) → b ≡ not (not b)
    twice true = refl
    twice false = refl

above_higher : (a b k : List ℕ) → is_le (key_cmp (higher a b) k) ≡ (is_le (key_cmp a k) && is_le (key_cmp b k))
above_higher a b k =
    elim (is_lt (key_cmp a b)) as (λ t. is_lt (key_cmp a b) ≡ t → is_le (key_cmp (cond t b a) k) ≡ (is_le (key_cmp a k) && is_le (key_cmp b k))) [
      | true ↦ λ e. implied_left (is_le (key_cmp a k)) (is_le (key_cmp b k)) (both_le a b k (less_le (key_cmp a b) e))
      | false ↦ λ e. implied_right (is_le (key_cmp a k)) (is_le (key_cmp b k)) (both_le b a k (not_less_le a b e))
    ] refl

below_lesser : (a b k : List ℕ) → is_lt (key_cmp k (lesser_key a b)) ≡ (not (is_le (key_cmp a k)) && not (is_le (key_cmp b k)))
below_lesser a b k =
    elim (is_lt (key_cmp a b)) as (λ t. is_lt (key_cmp a b) ≡ t → is_lt (key_cmp k (cond t a b)) ≡ (not (is_le (key_cmp a k)) && not (is_le (key_cmp b k)))) [
      | true ↦ λ e. lt_is k a ∙ turned_right (is_le (key_cmp a k)) (is_le (key_cmp b k)) (both_le a b k (less_le (key_cmp a b) e))
      | false ↦ λ e. lt_is k b ∙ turned_left (is_le (key_cmp a k)) (is_le (key_cmp b k)) (both_le b a k (not_less_le a b e))
    ] refl
  where
    -- where b is up to k so is a
    turned_right : (x y : Bool) → (y ≡ true → x ≡ true) → not x ≡ (not x && not y)
    turned_right true y h = refl
    turned_right false true h = absurd (false≢true (h refl))
    turned_right false false h = refl

    turned_left : (x y : Bool) → (x ≡ true → y ≡ true) → not y ≡ (not x && not y)
    turned_left true true h = refl
    turned_left true false h = absurd (false≢true (h refl))
    turned_left false y h = refl

and_assoc : (a b c : Bool) → (a && (b && c)) ≡ ((a && b) && c)
and_assoc true b c = refl
and_assoc false b c = refl

between : (r : Ordering) (l h : Bool) → ((l && is_le r) && (h && not (is_lt r))) ≡ (is_eq r && (l && h))
between Less true true = refl
between Less true false = refl
between Less false h = refl
between Equal true true = refl
between Equal true false = refl
between Equal false h = refl
between Greater true h = refl
between Greater false h = refl

module _ (ts : List ColType) (ds : List Dir) (xs : List Value) (long : length xs ≡ length ds) (wide : length ts ≡ length ds) (typed : Fits ts xs) where
  low_law : (k : List ℕ) (bs : List Bound) → AreFit ts bs → is_le (key_cmp (highest ds k bs) (code_of ds xs)) ≡ (list_all (λ b. reaches ds b xs) bs && is_le (key_cmp k (code_of ds xs)))
  low_law k [] h = refl
  low_law k (b ∷ bs) h =
      above_higher (bound_key ds b) (highest ds k bs) (code_of ds xs)
      ∙ (λ i. key_law ts ds xs long wide typed b h.0 i && low_law k bs h.1 i)
      ∙ and_assoc (reaches ds b xs) (list_all (λ b. reaches ds b xs) bs) (is_le (key_cmp k (code_of ds xs)))

  high_law : (k : List ℕ) (bs : List Bound) → AreFit ts bs → is_lt (key_cmp (code_of ds xs) (lowest ds k bs)) ≡ (list_all (λ b. not (reaches ds b xs)) bs && is_lt (key_cmp (code_of ds xs) k))
  high_law k [] h = refl
  high_law k (b ∷ bs) h =
      below_lesser (bound_key ds b) (lowest ds k bs) (code_of ds xs)
      ∙ (λ i. not (key_law ts ds xs long wide typed b h.0 i) && (sym (lt_is (code_of ds xs) (lowest ds k bs)) ∙ high_law k bs h.1) i)
      ∙ and_assoc (not (reaches ds b xs)) (list_all (λ b. not (reaches ds b xs)) bs) (is_lt (key_cmp (code_of ds xs) k))

  -- from the highest lower key up to the lowest upper one lie the codes of the lists that begin with e within the bounds
  pub within_law : (e : List Value) (lower upper : List Bound) → Fits ts e → AreFit ts lower → AreFit ts upper →
      in_range (highest ds (bound_key ds (record { past = false; values = e })) lower) (lowest ds (bound_key ds (record { past = true; values = e })) upper) (code_of ds xs)
      ≡ (is_eq (common_cmp ds e xs) && (list_all (λ b. reaches ds b xs) lower && list_all (λ b. not (reaches ds b xs)) upper))
  within_law e lower upper f g h =
      let from : Bound = record { past = false; values = e } in
      let to : Bound = record { past = true; values = e } in
      (λ i. low_law (bound_key ds from) lower g i && high_law (bound_key ds to) upper h i)
      ∙ (λ i. (list_all (λ b. reaches ds b xs) lower && key_law ts ds xs long wide typed from f i) && (list_all (λ b. not (reaches ds b xs)) upper && (lt_is (code_of ds xs) (bound_key ds to) ∙ ap not (key_law ts ds xs long wide typed to f)) i))
      ∙ between (common_cmp ds e xs) (list_all (λ b. reaches ds b xs) lower) (list_all (λ b. not (reaches ds b xs)) upper)

-- a row's code lies in the range of an input exactly where the row lies within it
pub key_range : (q : Question) (p : ℕ) (sequence : List KeyPart) (c : List (List Value)) (after : Option (List Value)) (ts : List ColType) (xs : List Value) → length ts ≡ length (dirs_of sequence) → length xs ≡ length (dirs_of sequence) → Fits ts xs → Fits ts (ties q p sequence c) → AreFit ts (map (under (ties q p sequence c)) (lows q p sequence c after)) → AreFit ts (map (under (ties q p sequence c)) (highs q p sequence c)) →
    in_range (range_low q p sequence c after) (range_high q p sequence c) (code_of (dirs_of sequence) xs) ≡ lies_within q p sequence c after xs
key_range q p sequence c after ts xs wide long typed e l h = within_law ts (dirs_of sequence) xs long wide typed (ties q p sequence c) (map (under (ties q p sequence c)) (lows q p sequence c after)) (map (under (ties q p sequence c)) (highs q p sequence c)) e l h
