-- Ranges of pairs that follow one another, and writes outside a range.
use Rattle.std.proofs.Common.{◌≡◌, ℕ, zero, suc, Bool, true, false, cond, ◌&&◌, ◌||◌, ◌==◌, List, [], ◌∷◌, ◌++◌, take, drop, refl, sym, ap, ◌∙◌, subst, append_assoc, arith}
use Rattle.std.specs.Prelude.{filter, T}
use Rattle.std.specs.List.{AllByRecursion}
use Rattle.std.specs.Ordering.{nat_cmp, is_le, is_lt, ordering_then, ordering_reverse}
use Rattle.std.specs.Cmp.{nat_cmp_is}
use Rattle.std.specs.Cmp.Lexicographic.{slice_cmp}
use Rattle.std.specs.declared.cmp.Ordering.{Ordering}
use Rattle.std.specs.declared.cmp.Ordering.TheVariants.{Less, Equal, Greater}
use Rattle.std.specs.FinMap.{entries, entries_sorted, is_sorted, insert}
use Rattle.std.specs.FinMap.Entries.{below_all, is_sorted-where_key}
use Rattle.std.proofs.lemmas.Bool.{false≢true, eqb-true, and_parts}
use Rattle.std.proofs.lemmas.List.{take-append-drop}
use Rattle.std.proofs.lemmas.List.Elements.{filter_agree}
use Rattle.pq_store.proofs.Places.{turned, same_key, itself, below_below}
use Rattle.pq_store.proofs.Uses.{within_insert_outside}
use Rattle.pq_store.specs.Content.{key_cmp, Content, is_within, pairs_within}
use Rattle.pq_content.specs.Pairs.{Pair, is_in_space, is_of_rows}
use Rattle.pq_content.proofs.Ranges.{in_range, range-cons}

-- ---- the first key past another

zero_first : (y : ℕ) (ys : List ℕ) → is_le (key_cmp (0 ∷ []) (y ∷ ys)) ≡ true
zero_first zero [] = refl
zero_first zero (z ∷ zs) = refl
zero_first (suc y) ys = ap (λ r. is_le (ordering_then r (slice_cmp nat_cmp [] ys))) (sym (nat_cmp_is 0 (suc y) Less (omega arith)))

-- a key is at least the first one past another exactly where it is greater than that one
pub past_is : (k q : List ℕ) → is_le (key_cmp (k ++ 0 ∷ []) q) ≡ is_lt (key_cmp k q)
past_is [] [] = refl
past_is [] (y ∷ ys) = zero_first y ys
past_is (x ∷ xs) [] = refl
past_is (x ∷ xs) (y ∷ ys) = elim (nat_cmp x y) as (λ r. is_le (ordering_then r (key_cmp (xs ++ 0 ∷ []) ys)) ≡ is_lt (ordering_then r (key_cmp xs ys))) [
  | Less ↦ refl
  | Equal ↦ past_is xs ys
  | Greater ↦ refl
]

-- ---- what is behind a pair of a rising list

-- whether a pair's key is greater
abbrev is_past : List ℕ → Pair → Bool
is_past k pair = is_lt (key_cmp k pair.0)

all_past : (k : List ℕ) (es : List Pair) → below_all key_cmp k es ≡ true → filter (is_past k) es ≡ es
all_past k [] below = refl
all_past k (e ∷ es) below =
    let parts = and_parts (is_lt (key_cmp k e.0)) (below_all key_cmp k es) below in
    ap (λ b. cond b (e ∷ filter (is_past k) es) (filter (is_past k) es)) parts.0 ∙ ap (λ (l : List Pair). e ∷ l) (all_past k es parts.1)

below_at : (k : List ℕ) (front : List Pair) (last : Pair) (rest : List Pair) → below_all key_cmp k (front ++ last ∷ rest) ≡ true → is_lt (key_cmp k last.0) ≡ true
below_at k [] last rest below = (and_parts (is_lt (key_cmp k last.0)) (below_all key_cmp k rest) below).0
below_at k (f ∷ front) last rest below = below_at k front last rest (and_parts (is_lt (key_cmp k f.0)) (below_all key_cmp k (front ++ last ∷ rest)) below).1

not_back : (a b : List ℕ) → is_lt (key_cmp a b) ≡ true → is_lt (key_cmp b a) ≡ false
not_back a b less =
    ap is_lt (turned b a)
    ∙ elim (key_cmp a b) as (λ r. is_lt r ≡ true → is_lt (ordering_reverse r) ≡ false) [
      | Less ↦ λ _. refl
      | Equal ↦ λ _. refl
      | Greater ↦ λ h. absurd (false≢true h)
    ] less

behind : (front : List Pair) (last : Pair) (rest : List Pair) → is_sorted key_cmp (front ++ last ∷ rest) ≡ true → filter (is_past last.0) (front ++ last ∷ rest) ≡ rest
behind [] last rest up =
    ap (λ b. cond b (last ∷ filter (is_past last.0) rest) (filter (is_past last.0) rest)) (ap is_lt (itself last.0))
    ∙ all_past last.0 rest (and_parts (below_all key_cmp last.0 rest) (is_sorted key_cmp rest) up).0
behind (f ∷ front) last rest up =
    let parts = and_parts (below_all key_cmp f.0 (front ++ last ∷ rest)) (is_sorted key_cmp (front ++ last ∷ rest)) up in
    let keep = filter (is_past last.0) (front ++ last ∷ rest) in
    ap (λ b. cond b (f ∷ keep) keep) (not_back f.0 last.0 (below_at f.0 front last rest parts.0))
    ∙ behind front last rest parts.1

-- ---- a range that begins later

-- a range that begins later is a filter of the one that begins earlier
narrow : (low next high : List ℕ) → ((q : List ℕ) → is_le (key_cmp next q) ≡ true → is_le (key_cmp low q) ≡ true) → (es : List Pair) → filter (is_within next high) es ≡ filter (λ (p : Pair). is_le (key_cmp next p.0)) (filter (is_within low high) es)
narrow low next high later [] = refl
narrow low next high later (e ∷ es) =
    let F = filter (is_within low high) es in
    let keep = λ (p : Pair). is_le (key_cmp next p.0) in
    let rest = narrow low next high later es in
    elim (is_le (key_cmp next e.0)) as (λ n. is_le (key_cmp next e.0) ≡ n → cond (n && is_lt (key_cmp e.0 high)) (e ∷ filter (is_within next high) es) (filter (is_within next high) es) ≡ filter keep (cond (is_le (key_cmp low e.0) && is_lt (key_cmp e.0 high)) (e ∷ F) F)) [
      | true ↦ λ is.
          ap (λ (l : List Pair). cond (is_lt (key_cmp e.0 high)) (e ∷ l) l) rest
          ∙ elim (is_lt (key_cmp e.0 high)) as (λ b. cond b (e ∷ filter keep F) (filter keep F) ≡ filter keep (cond b (e ∷ F) F)) [
            | true ↦ ap (λ b. cond b (e ∷ filter keep F) (filter keep F)) (sym is)
            | false ↦ refl
          ]
          ∙ ap (λ b. filter keep (cond (b && is_lt (key_cmp e.0 high)) (e ∷ F) F)) (sym (later e.0 is))
      | false ↦ λ is.
          rest
          ∙ elim (is_le (key_cmp low e.0) && is_lt (key_cmp e.0 high)) as (λ b. filter keep F ≡ filter keep (cond b (e ∷ F) F)) [
            | true ↦ ap (λ b. cond b (e ∷ filter keep F) (filter keep F)) (sym is)
            | false ↦ refl
          ]
    ] refl

each_passes : (p : Pair → Bool) (es : List Pair) → AllByRecursion (λ e. p e ≡ true) (filter p es)
each_passes p [] = tt
each_passes p (e ∷ es) = elim (p e) as (λ b. p e ≡ b → AllByRecursion (λ e. p e ≡ true) (cond b (e ∷ filter p es) (filter p es))) [
  | true ↦ λ is. (is, each_passes p es)
  | false ↦ λ _. each_passes p es
] refl

passes_at : (P : Pair → Type 0) (front : List Pair) (last : Pair) (rest : List Pair) → AllByRecursion P (front ++ last ∷ rest) → P last
passes_at P [] last rest h = h.0
passes_at P (f ∷ front) last rest h = passes_at P front last rest h.1

-- from at most to less is at most
le_lt : (a b c : List ℕ) → is_le (key_cmp a b) ≡ true → is_lt (key_cmp b c) ≡ true → is_le (key_cmp a c) ≡ true
le_lt a b c le lt =
    elim (key_cmp a b) as (λ r. key_cmp a b ≡ r → is_le r ≡ true → is_le (key_cmp a c) ≡ true) [
      | Less ↦ λ is _. ap is_le (below_below a b c is (less_is (key_cmp b c) lt))
      | Equal ↦ λ is _. ap (λ (k : List ℕ). is_le (key_cmp k c)) (same_key a b is) ∙ ap is_le (less_is (key_cmp b c) lt)
      | Greater ↦ λ _ h. absurd (false≢true h)
    ] refl le
  where
    less_is : (r : Ordering) → is_lt r ≡ true → r ≡ Less
    less_is Less h = refl
    less_is Equal h = absurd (false≢true h)
    less_is Greater h = absurd (false≢true h)

sorted_within : (c : Content) (low high : List ℕ) → is_sorted key_cmp (pairs_within c low high) ≡ true
sorted_within c low high = true_of _ (is_sorted-where_key key_cmp (in_range low high) (entries c) (entries_sorted c))
  where
    true_of : (b : Bool) → T b → b ≡ true
    true_of true h = refl
    true_of false h = absurd h

-- behind the first n pairs of a range come those from the first key past the last of them on
pub after_some : (c : Content) (low high : List ℕ) (n : ℕ) (front : List Pair) (last : Pair) → take n (pairs_within c low high) ≡ front ++ last ∷ [] → pairs_within c (last.0 ++ 0 ∷ []) high ≡ drop n (pairs_within c low high)
after_some c low high n front last taken =
    let L = pairs_within c low high in
    let next = last.0 ++ 0 ∷ [] in
    let split : L ≡ front ++ last ∷ drop n L = sym (take-append-drop n L) ∙ ap (λ (l : List Pair). l ++ drop n L) taken ∙ append_assoc front (last ∷ []) (drop n L) in
    let own : is_within low high last ≡ true = passes_at (λ e. is_within low high e ≡ true) front last (drop n L) (subst (AllByRecursion (λ (e : Pair). is_within low high e ≡ true)) split (each_passes (is_within low high) (entries c))) in
    let from_low : is_le (key_cmp low last.0) ≡ true = (and_parts (is_le (key_cmp low last.0)) (is_lt (key_cmp last.0 high)) own).0 in
    narrow low next high (λ q le. le_lt low last.0 q from_low (sym (past_is last.0 q) ∙ le)) (entries c)
    ∙ filter_agree (λ (p : Pair). is_le (key_cmp next p.0)) (is_past last.0) (λ p. past_is last.0 p.0) L
    ∙ ap (filter (is_past last.0)) split
    ∙ behind front last (drop n L) (ap (is_sorted key_cmp) (sym split) ∙ sorted_within c low high)

-- ---- ranges of one space

-- keys between two of one space are of it
pub range_space : (space : ℕ) (low high q : List ℕ) → is_in_space space low ≡ true → is_in_space space high ≡ true → in_range low high q ≡ true → is_in_space space q ≡ true
range_space space [] high q low_in high_in within = absurd (false≢true low_in)
range_space space (a ∷ low) [] q low_in high_in within = absurd (false≢true high_in)
range_space space (a ∷ low) (b ∷ high) [] low_in high_in within = absurd (false≢true within)
range_space space (a ∷ low) (b ∷ high) (x ∷ q) low_in high_in within =
    let same : b ≡ a = eqb-true b space high_in ∙ sym (eqb-true a space low_in) in
    let at : ((x == a) && in_range low high q) ≡ true = sym (range-cons a x low high q) ∙ ap (λ (n : ℕ). in_range (a ∷ low) (n ∷ high) (x ∷ q)) (sym same) ∙ within in
    ap (λ (n : ℕ). x == n) (sym (eqb-true a space low_in)) ∙ (and_parts (x == a) (in_range low high q) at).0

-- a write in another space leaves a range of this one
pub range_insert : (space : ℕ) (c : Content) (low high k v : List ℕ) → is_in_space space low ≡ true → is_in_space space high ≡ true → is_in_space space k ≡ false → pairs_within (insert c k v) low high ≡ pairs_within c low high
range_insert space c low high k v low_in high_in other =
    within_insert_outside c low high k v
    (elim (in_range low high k) as (λ b. in_range low high k ≡ b → b ≡ false) [
      | true ↦ λ is. absurd (false≢true (sym other ∙ range_space space low high k low_in high_in is))
      | false ↦ λ _. refl
    ] refl)

-- a key of neither rows nor entries is no row's
pub no_row_key : (k : List ℕ) → is_of_rows k ≡ false → is_in_space 2 k ≡ false
no_row_key k beside =
    elim (is_in_space 2 k) as (λ b. (b || is_in_space 3 k) ≡ false → b ≡ false) [
      | true ↦ λ h. absurd (false≢true (sym h))
      | false ↦ λ _. refl
    ] beside
