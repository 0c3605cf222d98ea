-- What was found, cut into lists that rise, and those merged.
use Rattle.std.proofs.Common.{◌≡◌, ℕ, ◌+◌, ◌<◌, ◌≤◌, ◌==◌, true, false, cond, List, [], ◌∷◌, ◌++◌, length, map, IsPermutation, refl, sym, ap, ◌∙◌, subst, arith, true≢false, append_assoc, append-nil, take, zero, suc}
use Rattle.std.specs.declared.cmp.Ordering.{Ordering}
use Rattle.std.specs.declared.cmp.Ordering.TheVariants.{Less, Equal, Greater}
use Rattle.std.specs.BinaryHeap.{KeepsHeap, PopsGreatest, IsHeap}
use Rattle.std.specs.Cmp.{upto}
use Rattle.std.specs.FinMap.{IsAntisymmetric, nat_cmp-IsAntisymmetric, slice_cmp-IsAntisymmetric}
use Rattle.std.specs.List.{AllByRecursion}
use Rattle.std.specs.Ordering.{nat_cmp, is_eq, is_lt, is_gt, ordering_then, ordering_reverse, eq_by_cmp}
use Rattle.std.proofs.lemmas.List.Sorted.{IsPermutation-refl, IsPermutation-sym, IsPermutation-trans, IsPermutation-cons, IsPermutation-to_front, IsPermutation-append_left, IsPermutation-append_right, Contains-permutation}
use Rattle.std.proofs.Math.Seq.{take-append_seam}
use Rattle.std.proofs.lemmas.Bool.{ltb-false}
use lib.Dec.{ltb}
use Rattle.pq_base.specs.Members.{Apart}
use Rattle.pq_base.specs.Sorting.{placed, sort_by}
use Rattle.pq_base.proofs.Members.{each_in, each_by_in, each_append, each_weaker, each_flat_map, in_from_contains, contained}
use Rattle.pq_base.proofs.Sorts.{each-sort_by}
use Rattle.pq_plan.proofs.Orders.{placed_first, apart_permuted, sort_by-IsPermutation}
use Rattle.pq_store.specs.Content.{key_cmp}
use Rattle.pq_scan.specs.declared.merge.Numbered.{Numbered}
use Rattle.pq_scan.specs.declared.merge.Placed.{Placed}
use Rattle.pq_scan.specs.declared.merge.Rising.{Rising}
use Rattle.pq_scan.specs.Merging.{turn_cmp, turn_total, turn_of, place_of, placed_of, numbered_from, head_cmp, numbered_items, waiting_heads, IsUpToNumbered, Falls, IsRisingList, IsMerge, merged_lists, PutsBack}
use Rattle.pq_scan.proofs.Permuted.{IsPermutation-flat_map}

-- ---- turns
both_tied : (a b : Ordering) → ordering_then a b ≡ Equal → (a ≡ Equal) × (b ≡ Equal)
both_tied Less b e = absurd (true≢false (ap is_lt e))
both_tied Equal b e = (refl, e)
both_tied Greater b e = absurd (true≢false (ap is_gt e))

exact_turn : IsAntisymmetric turn_cmp
exact_turn x y e =
    let b = both_tied (key_cmp x.0 y.0) (nat_cmp x.1 y.1) e in
    let p : x.0 ≡ y.0 = slice_cmp-IsAntisymmetric nat_cmp-IsAntisymmetric x.0 y.0 b.0 in
    let q : x.1 ≡ y.1 = nat_cmp-IsAntisymmetric x.1 y.1 b.1 in
    ap (λ (a : List ℕ). (a, x.1)) p ∙ ap (λ (n : ℕ). (y.0, n)) q

earlier : (n m : ℕ) → n < m → nat_cmp n m ≡ Less
earlier n m l = elim (ltb n m) as (λ b. ltb n m ≡ b → cond b Less (cond (n == m) Equal Greater) ≡ Less) [
  | true ↦ λ _. refl
  | false ↦ λ e. absurd (omega (arith, ltb-false n m e, l))
] refl

gt_then_less : (r : Ordering) → is_gt (ordering_then r Less) ≡ is_gt r
gt_then_less Less = refl
gt_then_less Equal = refl
gt_then_less Greater = refl

apart_by_less : (r : Ordering) → is_eq (ordering_then r Less) ≡ false
apart_by_less Less = refl
apart_by_less Equal = refl
apart_by_less Greater = refl

-- ---- numbers
abbrev NotBefore : {T : Type 0} → ℕ → Numbered T → Type 0
NotBefore n item = n ≤ item.number

numbers_from : {T : Type 0} (low n : ℕ) (xs : List (Placed T)) → low ≤ n → AllByRecursion (NotBefore low) (numbered_from n xs)
numbers_from low n [] h = tt
numbers_from low n (c ∷ cs) h = (h, numbers_from low (n + 1) cs (omega (arith, h)))

pub numbered_apart : {T : Type 0} (n : ℕ) (xs : List (Placed T)) → Apart turn_cmp turn_of (numbered_from n xs)
numbered_apart n [] = tt
numbered_apart n (c ∷ cs) = (
  each_weaker (NotBefore (n + 1)) (λ m. eq_by_cmp turn_cmp (c.place, n) (turn_of m) ≡ false)
      (λ m l. ap (λ r. is_eq (ordering_then (key_cmp c.place m.placed.place) r)) (earlier n m.number (omega (arith, l))) ∙ apart_by_less (key_cmp c.place m.placed.place))
      (numbered_from (n + 1) cs) (numbers_from (n + 1) (n + 1) cs (omega arith)),
  numbered_apart (n + 1) cs,
)

placed_alike : {T : Type 0} (c : Placed T) (n : ℕ) (ms : List (Numbered T)) → AllByRecursion (NotBefore (n + 1)) ms → map placed_of (placed turn_cmp turn_of (record { placed = c; number = n }) ms) ≡ placed key_cmp place_of c (map placed_of ms)
placed_alike c n [] h = refl
placed_alike {T} c n (m ∷ ms) h =
    let x : Numbered T = record { placed = c; number = n } in
    let r = key_cmp c.place m.placed.place in
    let behind = placed turn_cmp turn_of x ms in
    let same : is_gt (turn_cmp (turn_of x) (turn_of m)) ≡ is_gt r = ap (λ s. is_gt (ordering_then r s)) (earlier n m.number (omega (arith, h.0))) ∙ gt_then_less r in
    ap (λ b. map placed_of (cond b (m ∷ behind) (x ∷ m ∷ ms))) same
    ∙ elim (is_gt r) as (λ b. map placed_of (cond b (m ∷ behind) (x ∷ m ∷ ms)) ≡ cond b (m.placed ∷ placed key_cmp place_of c (map placed_of ms)) (c ∷ m.placed ∷ map placed_of ms)) [
      | true ↦ ap (λ l. m.placed ∷ l) (placed_alike c n ms h.1)
      | false ↦ refl
    ]

-- in the order of their turns, they are in that of their positions, and those of one position stay
pub numbered_sorted : {T : Type 0} (n : ℕ) (xs : List (Placed T)) → map placed_of (sort_by turn_cmp turn_of (numbered_from n xs)) ≡ sort_by key_cmp place_of xs
numbered_sorted n [] = refl
numbered_sorted n (c ∷ cs) =
    placed_alike c n (sort_by turn_cmp turn_of (numbered_from (n + 1) cs)) (each-sort_by turn_cmp turn_of (NotBefore (n + 1)) (numbered_from (n + 1) cs) (numbers_from (n + 1) (n + 1) cs (omega arith)))
    ∙ ap (placed key_cmp place_of c) (numbered_sorted (n + 1) cs)

pub numbered_behind : {T : Type 0} (n : ℕ) (xs : List (Placed T)) (c : Placed T) → numbered_from n (xs ++ c ∷ []) ≡ numbered_from n xs ++ record { placed = c; number = n + length xs } ∷ []
numbered_behind n [] c = let e : n ≡ n + 0 = omega arith in ap (λ (m : ℕ). (record { placed = c; number = m }) ∷ []) e
numbered_behind n (x ∷ xs) c =
    let e : n + 1 + length xs ≡ n + length (x ∷ xs) = omega arith in
    ap (λ l. (record { placed = x; number = n }) ∷ l) (numbered_behind (n + 1) xs c ∙ ap (λ (m : ℕ). numbered_from (n + 1) xs ++ (record { placed = c; number = m }) ∷ []) e)

-- ---- lists
permuted_each : {X : Type 0} (P : X → Type 0) (xs ys : List X) → IsPermutation xs ys → AllByRecursion P xs → AllByRecursion P ys
permuted_each P xs ys p h = each_by_in P ys (λ v i. each_in P xs h v (in_from_contains xs v (Contains-permutation ys xs v (IsPermutation-sym xs ys p) (contained v ys i))))

each_split : {X : Type 0} (P : X → Type 0) (xs : List X) (x : X) → AllByRecursion P (xs ++ x ∷ []) → AllByRecursion P xs × P x
each_split P [] x h = (tt, h.0)
each_split P (y ∷ ys) x h = let r = each_split P ys x h.1 in ((h.0, r.0), r.1)

falls_behind : {T : Type 0} (xs : List (Numbered T)) (x : Numbered T) → Falls xs → AllByRecursion (IsUpToNumbered x) xs → Falls (xs ++ x ∷ [])
falls_behind [] x h u = (tt, tt)
falls_behind (y ∷ ys) x h u = (each_append (λ z. IsUpToNumbered z y) ys (x ∷ []) h.0 (u.0, tt), falls_behind ys x h.1 u.1)

falls_front : {T : Type 0} (xs : List (Numbered T)) (x : Numbered T) → Falls (xs ++ x ∷ []) → Falls xs × AllByRecursion (IsUpToNumbered x) xs
falls_front [] x h = (tt, tt)
falls_front (y ∷ ys) x h =
    let front = each_split (λ z. IsUpToNumbered z y) ys x h.0 in
    let rest = falls_front ys x h.1 in
    ((front.0, rest.0), (front.1, rest.1))

up_through : {T : Type 0} (x y : Numbered T) (zs : List (Numbered T)) → IsUpToNumbered x y → AllByRecursion (IsUpToNumbered y) zs → AllByRecursion (IsUpToNumbered x) zs
up_through x y zs h all = each_weaker (IsUpToNumbered y) (IsUpToNumbered x) (λ z k. upto turn_total (turn_of x) (turn_of y) (turn_of z) h k) zs all

-- one more before a list
pub rises_before : {T : Type 0} (item : Numbered T) (list made : Rising T) → IsRisingList list → IsUpToNumbered item list.head → made.head ≡ item → made.behind.items ≡ list.behind.items ++ list.head ∷ [] → IsRisingList made
rises_before {T} item list made h up first rest = record {
  head = subst (λ (x : Numbered T). AllByRecursion (IsUpToNumbered x) made.behind.items) (sym first) (subst (λ l. AllByRecursion (IsUpToNumbered item) l) (sym rest) (each_append (IsUpToNumbered item) list.behind.items (list.head ∷ []) (up_through item list.head list.behind.items up h.head) (up, tt)));
  behind = subst Falls (sym rest) (falls_behind list.behind.items list.head h.behind h.head);
}

-- a list set aside, and another begun
pub set_aside : {T : Type 0} (item : Numbered T) (list : Rising T) (lists : List (Rising T)) → IsPermutation (item ∷ (numbered_items list ++ waiting_heads lists)) (item ∷ waiting_heads (lists ++ list ∷ []))
set_aside item list lists =
    IsPermutation-cons item (numbered_items list ++ waiting_heads lists) (waiting_heads (lists ++ list ∷ [])) (IsPermutation-flat_map numbered_items (list ∷ lists) (lists ++ list ∷ []) (IsPermutation-sym (lists ++ list ∷ []) (list ∷ lists) (IsPermutation-to_front lists list)))

pub moved_before : {T : Type 0} (item : Numbered T) (list : Rising T) (behind more : List (Numbered T)) → behind ≡ list.behind.items ++ list.head ∷ [] → IsPermutation (item ∷ (numbered_items list ++ more)) (item ∷ (behind ++ more))
moved_before item list behind more e =
    IsPermutation-cons item (numbered_items list ++ more) (behind ++ more) (IsPermutation-append_left more (numbered_items list) behind
    (subst (λ l. IsPermutation (numbered_items list) l) (sym e) (IsPermutation-sym (list.behind.items ++ list.head ∷ []) (numbered_items list) (IsPermutation-to_front list.behind.items list.head))))

-- the last that was found goes before the lists
pub one_more : {T : Type 0} (all : List (Numbered T)) (found front : List (Placed T)) (c : Placed T) (n : ℕ) (before now : List (Numbered T)) → found ≡ front ++ c ∷ [] → n ≡ length front → IsPermutation all (numbered_from 0 found ++ before) → IsPermutation ((record { placed = c; number = n }) ∷ before) now → IsPermutation all (numbered_from 0 front ++ now)
one_more {T} all found front c n before now e long p q =
    let kept = numbered_from 0 front in
    let x : Numbered T = record { placed = c; number = n } in
    let l : 0 + length front ≡ n = omega (arith, long) in
    let parts : numbered_from 0 found ≡ kept ++ x ∷ [] = ap (numbered_from 0) e ∙ numbered_behind 0 front c ∙ ap (λ (m : ℕ). kept ++ (record { placed = c; number = m }) ∷ []) l in
    let moved : numbered_from 0 found ++ before ≡ kept ++ x ∷ before = ap (λ k. k ++ before) parts ∙ append_assoc kept (x ∷ []) before in
    IsPermutation-trans all (kept ++ x ∷ before) (kept ++ now) (subst (λ k. IsPermutation all k) moved p) (IsPermutation-append_right kept (x ∷ before) now q)

pub alone : {T : Type 0} (list : Rising T) → list.behind.items ≡ [] → IsRisingList list
alone list e = record { head = subst (AllByRecursion (IsUpToNumbered list.head)) (sym e) tt; behind = subst Falls (sym e) tt }

-- the last that was found begins a list
pub first_one : {T : Type 0} (found front : List (Placed T)) (c : Placed T) (n : ℕ) (behind : List (Numbered T)) (lists : List (Rising T)) → found ≡ front ++ c ∷ [] → n ≡ length front → behind ≡ [] → lists ≡ [] → IsPermutation (numbered_from 0 found) (numbered_from 0 front ++ (record { placed = c; number = n }) ∷ (behind ++ waiting_heads lists))
first_one {T} found front c n behind lists e long none empty =
    let x : Numbered T = record { placed = c; number = n } in
    let all = numbered_from 0 found in
    subst (λ (l : List (Numbered T)). IsPermutation all (numbered_from 0 front ++ x ∷ (l ++ waiting_heads lists))) (sym none)
    (subst (λ (l : List (Rising T)). IsPermutation all (numbered_from 0 front ++ x ∷ waiting_heads l)) (sym empty)
    (one_more all found front c n [] (x ∷ []) e long (subst (λ l. IsPermutation all l) (sym (append-nil all)) (IsPermutation-refl all)) (IsPermutation-refl (x ∷ []))))

-- none is left, and the last list joins the others
pub all_listed : {T : Type 0} (all : List (Numbered T)) (found : List (Placed T)) (list : Rising T) (lists now : List (Rising T)) → found ≡ [] → now ≡ lists ++ list ∷ [] → IsPermutation all (numbered_from 0 found ++ (numbered_items list ++ waiting_heads lists)) → IsPermutation all (waiting_heads now)
all_listed {T} all found list lists now none e p =
    IsPermutation-trans all (numbered_items list ++ waiting_heads lists) (waiting_heads now) (subst (λ (l : List (Placed T)). IsPermutation all (numbered_from 0 l ++ (numbered_items list ++ waiting_heads lists))) none p)
    (IsPermutation-flat_map numbered_items (list ∷ lists) now (subst (λ (l : List (Rising T)). IsPermutation (list ∷ lists) l) (sym e) (IsPermutation-sym (lists ++ list ∷ []) (list ∷ lists) (IsPermutation-to_front lists list))))

-- ---- the merge
pub put_back_made : {T : Type 0} (list : List (Numbered T)) (made : Rising T) (before now : List (Rising T)) → list ≡ made.behind.items ++ made.head ∷ [] → KeepsHeap head_cmp before now → IsPermutation (made ∷ before) now → PutsBack list before now
put_back_made list made before now e keeps p = record {
  heap = keeps;
  rise = λ f all. permuted_each IsRisingList (made ∷ before) now p (let s = falls_front made.behind.items made.head (subst Falls e f) in record { head = s.1; behind = s.0 }, all);
  same = IsPermutation-trans (list ++ waiting_heads before) (numbered_items made ++ waiting_heads before) (waiting_heads now)
      (IsPermutation-append_left (waiting_heads before) list (numbered_items made) (subst (λ l. IsPermutation l (numbered_items made)) (sym e) (IsPermutation-to_front made.behind.items made.head)))
      (IsPermutation-flat_map numbered_items (made ∷ before) now p);
}

pub next_made : {T : Type 0} (old popped now : List (Rising T)) (r : Rising T) → IsMerge old → IsPermutation old (r ∷ popped) → PopsGreatest head_cmp old r popped → PutsBack r.behind.items popped now → IsMerge now × (merged_lists old ≡ r.head.placed ∷ merged_lists now)
next_made old popped now r is p pops back =
    let greatest = pops is.heap in
    let parts : AllByRecursion IsRisingList (r ∷ popped) = permuted_each IsRisingList old (r ∷ popped) p is.rise in
    let highest = permuted_each (λ s. is_lt (head_cmp r s) ≡ false) old (r ∷ popped) p greatest.1 in
    let whole : IsPermutation (waiting_heads old) (r.head ∷ waiting_heads now) =
    IsPermutation-trans (waiting_heads old) (waiting_heads (r ∷ popped)) (r.head ∷ waiting_heads now) (IsPermutation-flat_map numbered_items old (r ∷ popped) p)
    (IsPermutation-cons r.head (r.behind.items ++ waiting_heads popped) (waiting_heads now) back.same) in
    let apart : Apart turn_cmp turn_of (r.head ∷ waiting_heads now) = apart_permuted turn_cmp turn_of turn_total exact_turn (waiting_heads old) (r.head ∷ waiting_heads now) whole is.apart in
    let others : AllByRecursion (IsUpToNumbered r.head) (waiting_heads popped) = each_flat_map (IsUpToNumbered r.head) numbered_items popped (λ s i.
    let low : IsUpToNumbered r.head s.head = ap is_gt (turn_total.antisymm (turn_of r.head) (turn_of s.head)) ∙ not_gt (turn_cmp (turn_of s.head) (turn_of r.head)) (each_in (λ t. is_lt (head_cmp r t) ≡ false) popped highest.1 s i) in
    (low, up_through r.head s.head s.behind.items low (each_in IsRisingList popped parts.1 s i).head)) in
    let all : AllByRecursion (IsUpToNumbered r.head) (waiting_heads now) = permuted_each (IsUpToNumbered r.head) (r.behind.items ++ waiting_heads popped) (waiting_heads now) back.same (each_append (IsUpToNumbered r.head) r.behind.items (waiting_heads popped) parts.0.head others) in (
      record { heap = back.heap greatest.0; rise = back.rise parts.0.behind parts.1; apart = apart.1 },
      ap (map placed_of) (sort_by-IsPermutation turn_cmp turn_of turn_total exact_turn (waiting_heads old) (r.head ∷ waiting_heads now) whole is.apart
          ∙ placed_first turn_cmp turn_of r.head (sort_by turn_cmp turn_of (waiting_heads now)) (each-sort_by turn_cmp turn_of (IsUpToNumbered r.head) (waiting_heads now) all)),
    )
  where
    not_gt : (s : Ordering) → is_lt s ≡ false → is_gt (ordering_reverse s) ≡ false
    not_gt Less h = absurd cc
    not_gt Equal h = refl
    not_gt Greater h = refl

pub merge_made : {T : Type 0} (found : List (Placed T)) (lists heap : List (Rising T)) → AllByRecursion IsRisingList lists → IsPermutation (numbered_from 0 found) (waiting_heads lists) → IsPermutation lists heap → IsHeap head_cmp heap → IsMerge heap × (merged_lists heap ≡ sort_by key_cmp place_of found)
merge_made found lists heap rise same p is =
    let all = numbered_from 0 found in
    let whole : IsPermutation all (waiting_heads heap) = IsPermutation-trans all (waiting_heads lists) (waiting_heads heap) same (IsPermutation-flat_map numbered_items lists heap p) in (
      record { heap = is; rise = permuted_each IsRisingList lists heap p rise; apart = apart_permuted turn_cmp turn_of turn_total exact_turn all (waiting_heads heap) whole (numbered_apart 0 found) },
      ap (map placed_of) (sym (sort_by-IsPermutation turn_cmp turn_of turn_total exact_turn all (waiting_heads heap) whole (numbered_apart 0 found))) ∙ numbered_sorted 0 found,
    )

-- ---- the first few
pub one_taken : {X : Type 0} (whole first now : List X) (x : X) (rest left : List X) → whole ≡ first ++ rest → rest ≡ x ∷ left → now ≡ first ++ x ∷ [] → whole ≡ now ++ left
one_taken whole first now x rest left e r n = e ∙ ap (λ l. first ++ l) r ∙ sym (append_assoc first (x ∷ []) left) ∙ ap (λ l. l ++ left) (sym n)

few_taken : {X : Type 0} (k : ℕ) (xs : List X) → length xs ≤ k → take k xs ≡ xs
few_taken zero [] h = refl
few_taken zero (x ∷ xs) h = absurd (omega (arith, h))
few_taken (suc k) [] h = refl
few_taken (suc k) (x ∷ xs) h = ap (λ l. x ∷ l) (few_taken k xs (omega (arith, h)))

pub fewer_taken : {X : Type 0} (k : ℕ) (whole first rest : List X) → whole ≡ first ++ rest → rest ≡ [] → length first ≤ k → first ≡ take k whole
fewer_taken k whole first rest e none few =
    let is : whole ≡ first = e ∙ ap (λ l. first ++ l) none ∙ append-nil first in
    sym (ap (take k) is ∙ few_taken k first few)

pub just_taken : {X : Type 0} (k : ℕ) (whole first rest : List X) → whole ≡ first ++ rest → length first ≡ k → first ≡ take k whole
just_taken k whole first rest e long = sym (ap (take k) e ∙ ap (λ n. take n (first ++ rest)) (sym long) ∙ take-append_seam first rest)
