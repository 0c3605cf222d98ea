-- Relations and columns by their numbers.
use Rattle.std.proofs.Common.{◌≡◌, ℕ, zero, suc, ◌+◌, ◌-◌, ◌<◌, ◌≤◌, Bool, true, false, cond, ◌==◌, List, [], ◌∷◌, ◌++◌, All, length, slice_index_or, refl, ap, ◌∙◌, subst, sym, append_assoc, arith}
use Rattle.std.specs.Prelude.{filter, fold}
use Rattle.std.specs.List.{range_with_len}
use Rattle.pq_base.specs.Columns.{with_col}
use Rattle.std.proofs.lemmas.List.{append-nil}
use Rattle.std.proofs.lemmas.List.Elements.{All-cons, All-head, All-tail}
use Rattle.std.proofs.lemmas.List.FromFn.{length-range_with_len, get_or-range_with_len}
use Rattle.pq_schema.specs.declared.table.Table.{Table}
use Rattle.pq_schema.specs.declared.query.Query.{Query}
use Rattle.pq_arrange.specs.Placing.{next, placed_after, without}

-- numbers of relations are left where one is taken out
pub without_all : (P : ℕ → Type 0) (rel : ℕ) (rest : List ℕ) → All P rest → All P (without rel rest)
without_all P rel [] all = all
without_all P rel (other ∷ others) all =
    elim (other == rel) as (λ b. All P (cond b others (other ∷ without rel others))) [
      | true ↦ All-tail P other others all
      | false ↦ All-cons P other (without rel others) (All-head P other others all) (without_all P rel others (All-tail P other others all))
    ]

-- one more number of a range, the last one, and where each of them lies
pub range_step : (found all : List ℕ) (n end : ℕ) → n < end → found ++ range_with_len n (end - n) ≡ all → (found ++ n ∷ []) ++ range_with_len (n + 1) (end - (n + 1)) ≡ all
range_step found all n end lt e =
    let more : end - n ≡ suc (end - (n + 1)) = omega (lt, arith) in
    append_assoc found (n ∷ []) (range_with_len (n + 1) (end - (n + 1))) ∙ sym (ap (λ k. found ++ range_with_len n k) more) ∙ e

pub range_end : (found all : List ℕ) (n end : ℕ) → end ≤ n → found ++ range_with_len n (end - n) ≡ all → found ≡ all
range_end found all n end le e =
    let none : end - n ≡ 0 = omega (le, arith) in
    sym (append-nil found) ∙ sym (ap (λ k. found ++ range_with_len n k) none) ∙ e

pub range_within : (from count : ℕ) (found : List ℕ) → found ≡ range_with_len from count → All (λ n. (from ≤ n) × (n < from + count)) found
range_within from count found e = subst (All (λ n. (from ≤ n) × (n < from + count))) (sym e) (λ k d lt.
    let inside : k < count = subst (λ (l : ℕ). k < l) (length-range_with_len from count) lt in
    let is : slice_index_or (range_with_len from count) k d ≡ from + k = get_or-range_with_len from count k d inside in
    (omega (is, arith), omega (is, inside, arith)))

pub range_all : (from count : ℕ) (found : List ℕ) (n : ℕ) → from + count ≤ n → found ++ range_with_len n (from + count - n) ≡ range_with_len from count → (k d : ℕ) → k < length found → (from ≤ slice_index_or found k d) × (slice_index_or found k d < from + count)
range_all from count found n le e = range_within from count found (range_end found (range_with_len from count) n (from + count) le e)

pub without_numbers : (m rel : ℕ) (rest left : List ℕ) → left ≡ without rel rest → All (λ other. (1 ≤ other) × (other ≤ m)) rest → (k d : ℕ) → k < length left → (1 ≤ slice_index_or left k d) × (slice_index_or left k d ≤ m)
without_numbers m rel rest left is all = subst (All (λ other. (1 ≤ other) × (other ≤ m))) (sym is) (without_all (λ other. (1 ≤ other) × (other ≤ m)) rel rest all)

-- one more column of a range, and none
pub fold_after : (p : ℕ → Bool) (set a b : ℕ) → a < b → fold with_col set (filter p (range_with_len a (b - a))) ≡ fold with_col (cond (p a) (with_col set a) set) (filter p (range_with_len (a + 1) (b - (a + 1))))
fold_after p set a b lt =
    let rest = filter p (range_with_len (a + 1) (b - (a + 1))) in
    let more : b - a ≡ suc (b - (a + 1)) = omega (lt, arith) in
    ap (λ n. fold with_col set (filter p (range_with_len a n))) more
    ∙ elim (p a) as (λ t. fold with_col set (cond t (a ∷ rest) rest) ≡ fold with_col (cond t (with_col set a) set) rest) [
      | true ↦ refl
      | false ↦ refl
    ]

pub fold_none : (p : ℕ → Bool) (set a b : ℕ) → b ≤ a → fold with_col set (filter p (range_with_len a (b - a))) ≡ set
fold_none p set a b le =
    let none : b - a ≡ 0 = omega (le, arith) in
    ap (λ n. fold with_col set (filter p (range_with_len a n))) none

-- one more relation is placed
pub placed_more : (tables : List Table) (query : Query) (close : Bool) (count : ℕ) (placed rest : List ℕ) → 1 ≤ count → placed_after tables query close count placed rest ≡ placed_after tables query close (count - 1) (placed ++ next tables query close placed rest ∷ []) (without (next tables query close placed rest) rest)
placed_more tables query close zero placed rest le = absurd (omega (le, arith))
placed_more tables query close (suc count) placed rest le = let e : suc count - 1 ≡ count = omega arith in rw e
