-- Keys and values of counters' changes are short, and these remove no pair of a table's sequences.
use Rattle.std.proofs.Common.{◌≡◌, ℕ, zero, suc, ◌+◌, Bool, true, false, cond, ◌&&◌, ◌==◌, List, [], ◌∷◌, ◌++◌, map, refl, sym, ap, ◌∙◌, subst, arith}
use Rattle.std.specs.Prelude.{All, is_none}
use Rattle.std.specs.List.{AllByRecursion, count_by}
use Rattle.std.proofs.lemmas.Bool.{eqb-true, false≢true}
use Rattle.std.proofs.lemmas.List.{map-append}
use Rattle.pq_base.proofs.Members.{each_append}
use Rattle.pq_base.specs.declared.value.Value.{Value}
use Rattle.pq_row_code.specs.RowCode.{IsShort}
use Rattle.pq_row_code.specs.declared.changes.Change.{Change as Coded}
use Rattle.pq_schema.specs.declared.table.Access.{Access}
use Rattle.pq_schema.specs.declared.table.Access.TheVariants.{Primary, Secondary}
use Rattle.pq_content.specs.Pairs.{is_of_counters}
use Rattle.pq_content.specs.Standing.{change_of, is_entry_of}
use Rattle.pq_content.specs.Tables.{value_of, cells}
use Rattle.pq_content.proofs.Lengths.{IsWithinLength}
use Rattle.pq_pending.specs.Pending.{is_row_of, is_of_sequence, is_removal_of, RemovesAtMost}
use Rattle.pq_pending.proofs.Lists.{count-cons}
use Rattle.pq_index_keep.specs.Promises.{IsShortChange}
use Rattle.pq_index_keep.proofs.Coding.{within_short}
use Rattle.pq_index_keep.proofs.Inserting.{each_by, each_is}
use Rattle.pq_counters.specs.Promises.{IsCounterChange}

-- ---- lengths

value_within : (row : List Value) (col : ℕ) → AllByRecursion IsShort row → IsWithinLength 1000 (value_of row col)
value_within [] col h = tt
value_within (x ∷ row) zero h = within_short x h.0
value_within (x ∷ row) (suc col) h = value_within row col h.1

-- the values of a row whose texts are short are short
pub cells_within : (row : List Value) (cols : List ℕ) → AllByRecursion IsShort row → AllByRecursion (IsWithinLength 1000) (cells cols row)
cells_within row [] h = tt
cells_within row (col ∷ cols) h = (value_within row col h, cells_within row cols h)

counters_short : (changes : List Coded) → AllByRecursion IsCounterChange changes → AllByRecursion IsShortChange (map change_of changes)
counters_short [] h = tt
counters_short (c ∷ cs) h = (h.0.short, counters_short cs h.1)

pub all_short : (changes more all : List Coded) → All IsShortChange (map change_of changes) → All IsCounterChange more → all ≡ changes ++ more → All IsShortChange (map change_of all)
all_short changes more all short each is =
    subst (All IsShortChange) (sym (ap (map change_of) is ∙ map-append change_of changes more))
    (each_is IsShortChange (map change_of changes ++ map change_of more)
    (each_append IsShortChange (map change_of changes) (map change_of more) (each_by IsShortChange (map change_of changes) short) (counters_short more (each_by IsCounterChange more each))))

-- ---- removals

not_of_row : (t : ℕ) (key : List ℕ) → is_of_counters key ≡ true → is_row_of t key ≡ false
not_of_row t [] is = refl
not_of_row t (space ∷ []) is = refl
not_of_row t (space ∷ table ∷ code) is = ap (λ s. (s == 2) && (table == t)) (eqb-true space 5 is)

not_of_entry : (t i : ℕ) (key : List ℕ) → is_of_counters key ≡ true → is_entry_of t i key ≡ false
not_of_entry t i [] is = refl
not_of_entry t i (space ∷ rest) is = ap (λ s. is_entry_of t i (s ∷ rest)) (eqb-true space 5 is)

-- the key of a group is of no sequence of a table
not_of_sequence : (t : ℕ) (access : Access) (key : List ℕ) → is_of_counters key ≡ true → is_of_sequence t access key ≡ false
not_of_sequence t Primary key is = not_of_row t key is
not_of_sequence t (Secondary i) key is = not_of_entry t i key is

passed_over : (b : Bool) (all rest : ℕ) → b ≡ false → all ≡ cond b 1 0 + rest → rest ≡ 0 → all ≡ 0
passed_over true all rest other is none = absurd (false≢true (sym other))
passed_over false all rest other is none = omega (arith, is, none)

removes_none : (t : ℕ) (access : Access) (changes : List Coded) → AllByRecursion IsCounterChange changes → count_by (is_removal_of t access) (map change_of changes) ≡ 0
removes_none t access [] h = refl
removes_none t access (c ∷ cs) h =
    passed_over (is_removal_of t access (change_of c)) (count_by (is_removal_of t access) (map change_of (c ∷ cs))) (count_by (is_removal_of t access) (map change_of cs))
    (ap (λ b. is_none c.new && b) (not_of_sequence t access c.key h.0.of_counters) ∙ neither (is_none c.new))
    (count-cons (is_removal_of t access) (change_of c) (map change_of cs))
    (removes_none t access cs h.1)
  where
    neither : (b : Bool) → (b && false) ≡ false
    neither true = refl
    neither false = refl

count_append : {X : Type 0} (test : X → Bool) (xs ys : List X) → count_by test (xs ++ ys) ≡ count_by test xs + count_by test ys
count_append {X} test [] ys =
    let none : count_by {X = X} test [] ≡ 0 = refl in
    omega (arith, none)
count_append test (x ∷ xs) ys =
    let all = count-cons test x (xs ++ ys) in
    let front = count-cons test x xs in
    let rest = count_append test xs ys in
    omega (arith, all, front, rest)

pub removes_same : (n : ℕ) (changes more all : List Coded) → RemovesAtMost n (map change_of changes) → All IsCounterChange more → all ≡ changes ++ more → RemovesAtMost n (map change_of all)
removes_same n changes more all thin each is t access =
    let test = is_removal_of t access in
    let few = thin t access in
    let parts : count_by test (map change_of all) ≡ count_by test (map change_of changes) + count_by test (map change_of more) =
    ap (count_by test) (ap (map change_of) is ∙ map-append change_of changes more) ∙ count_append test (map change_of changes) (map change_of more) in
    let none = removes_none t access more (each_by IsCounterChange more each) in
    omega (arith, few, parts, none)
