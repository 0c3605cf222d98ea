-- The counters' pairs over rows of which the counters' tables have the same.
use Rattle.std.proofs.Common.{◌≡◌, ◌⊎◌, ℕ, suc, ◌+◌, ◌≤◌, ◌==◌, Bool, true, false, cond, not, ◌&&◌, List, [], ◌∷◌, ◌++◌, map, length, filter, Option, Some, None, IsPermutation, inl, inr, refl, sym, ap, ◌∙◌, subst, arith}
use Rattle.std.specs.Cmp.Lexicographic.{nat_list_cmp_total}
use Rattle.std.specs.FinMap.{find, get, get-from_entries}
use Rattle.std.specs.List.{AllByRecursion, sum_by}
use Rattle.std.specs.Ordering.{eq_by_cmp}
use Rattle.std.proofs.lemmas.Bool.{eqb-true, eq-eqb, ltb-false, ne_eqb}
use Rattle.std.proofs.lemmas.List.Sorted.{IsPermutation-sym, sum_by-IsPermutation}
use Rattle.std.proofs.lemmas.List.Sums.{sum_by-cons}
use Rattle.std.proofs.lemmas.Option.{none-some, same_Some}
use Rattle.pq_base.specs.Members.{In}
use Rattle.pq_base.specs.Values.{AllFit, has_null}
use Rattle.pq_base.specs.declared.value.Value.{Value}
use Rattle.pq_base.proofs.Members.{each_by_in, each_in, filter_in, flat_map_in, in_filter, in_flat_map, in_map, map_in}
use Rattle.pq_schema.specs.Schema.{Schema, counters_from, counters_of}
use Rattle.pq_schema.specs.Tables.{table_at}
use Rattle.pq_schema.specs.declared.made.Definition.{Definition}
use Rattle.pq_schema.specs.declared.made.Definition.TheVariants.{OfTable, OfQuery, OfColumn, OfCounter}
use Rattle.pq_schema.specs.declared.table.Table.{Table}
use Rattle.pq_schema.proofs.TypeKinds.{kinds_from_fit}
use Rattle.pq_store.specs.Content.{key_cmp}
use Rattle.pq_content.specs.Pairs.{Pair, content_pairs, row_pairs}
use Rattle.pq_content.specs.Tables.{Rows, AllOfKinds, agrees, cells, rows_of, types_of}
use Rattle.pq_content.proofs.Changes.{same_content}
use Rattle.pq_content.proofs.Find.{find-or_else, or_else}
use Rattle.pq_content.proofs.Gets.{EachFits}
use Rattle.pq_content.proofs.Keys.{key_itself, same_key}
use Rattle.pq_content.proofs.Permuted.{in_permuted}
use Rattle.pq_content.proofs.Values.{fit_at, same_values_itself}
use Rattle.pq_index_keep.specs.declared.write.Write.{Write}
use Rattle.pq_tallies.specs.Counters.{AreFewRows, all_pairs, count_code, counted_rows, counter_key, counter_pair, counter_pairs, group_pairs, most_count, stored_count, tally}
use Rattle.pq_tallies.specs.Defined.{NumberedCounter, counters_in, group_types, numbered_from}
use Rattle.pq_tallies.specs.Writes.{written_table}
use Rattle.pq_client_shell.specs.Writes.{IsUncounted}
use Rattle.pq_client_shell.proofs.Elsewhere.{IsElsewhere, in_whole}

-- ---- a table that has a counter is none on which clients make writes

numbered_some : (n : ℕ) (ds : List Definition) (counter : NumberedCounter) → In counter (numbered_from n ds) → 1 ≤ length (counters_from counter.table n ds)
numbered_some n [] counter i = absurd i
numbered_some n (OfTable table columns made ∷ ds) counter i = numbered_some (n + 1) ds counter i
numbered_some n (OfQuery query made ∷ ds) counter i = numbered_some (n + 1) ds counter i
numbered_some n (OfColumn table col ∷ ds) counter i = numbered_some (n + 1) ds counter i
numbered_some n (OfCounter own ∷ ds) counter (inl same) =
    let at : own.table ≡ counter.table = ap (λ (c : NumberedCounter). c.table) same in
    let rest = counters_from counter.table (n + 1) ds in
    let more : 1 ≤ suc (length rest) = omega arith in
    subst (λ (b : Bool). 1 ≤ length (cond b (n ∷ rest) rest)) (sym (eq-eqb own.table counter.table at)) more
numbered_some n (OfCounter own ∷ ds) counter (inr i) =
    let rest = counters_from counter.table (n + 1) ds in
    let some : 1 ≤ length rest = numbered_some (n + 1) ds counter i in
    elim (own.table == counter.table) as (λ b. 1 ≤ length (cond b (n ∷ rest) rest)) [ true ↦ omega (arith, some) | false ↦ some ]

pub uncounted_elsewhere : (s : Schema) (counter : NumberedCounter) → In counter (counters_in s) → (w : Write) → IsUncounted s w → IsElsewhere counter.table w
uncounted_elsewhere s counter i w none =
    elim (written_table w == counter.table) as (λ b. (written_table w == counter.table) ≡ b → b ≡ false) [
      | true ↦ λ is.
          let same : written_table w ≡ counter.table = eqb-true (written_table w) counter.table is in
          let few = ltb-false 0 (length (counters_of s (written_table w))) none in
          let some = numbered_some 1 s.definitions counter i in
          absurd (omega (arith, few, some, ap (λ (t : ℕ). length (counters_of s t)) same))
      | false ↦ λ _. refl
    ] refl

pub all_elsewhere : (s : Schema) (counter : NumberedCounter) → In counter (counters_in s) → (ws : List Write) → AllByRecursion (IsUncounted s) ws → AllByRecursion (IsElsewhere counter.table) ws
all_elsewhere s counter i [] all = tt
all_elsewhere s counter i (w ∷ ws) all = (uncounted_elsewhere s counter i w all.0, all_elsewhere s counter i ws all.1)

-- ---- tallies

filtered_twice : (p q : List Value → Bool) (xs : List (List Value)) → length (filter p (filter q xs)) ≡ sum_by (λ x. cond {A = ℕ} (q x && p x) 1 0) xs
filtered_twice p q [] = refl
filtered_twice p q (x ∷ xs) =
    let rest = filtered_twice p q xs in
    let kept = filter q xs in
    let sum = sum_by (λ (y : List Value). cond {A = ℕ} (q y && p y) 1 0) xs in
    let both : length (filter p (cond (q x) (x ∷ kept) kept)) ≡ cond {A = ℕ} (q x && p x) 1 0 + sum =
    elim (q x) as (λ b. length (filter p (cond b (x ∷ kept) kept)) ≡ cond {A = ℕ} (b && p x) 1 0 + sum) [
      | true ↦ elim (p x) as (λ b. length (cond b (x ∷ filter p kept) (filter p kept)) ≡ cond {A = ℕ} b 1 0 + sum) [ true ↦ omega (arith, rest) | false ↦ omega (arith, rest) ]
      | false ↦ omega (arith, rest)
    ] in
    both ∙ sym (sum_by-cons (λ (y : List Value). cond {A = ℕ} (q y && p y) 1 0) x xs)

-- the rows of the counter's table are the same, their order apart
abbrev pub HasSameRows : Rows → Rows → NumberedCounter → Type 0
HasSameRows rows now counter = IsPermutation (rows_of counter.table rows) (rows_of counter.table now)

pub tally_same : (rows now : Rows) (counter : NumberedCounter) → HasSameRows rows now counter → (values : List Value) → tally now counter values ≡ tally rows counter values
tally_same rows now counter same values =
    let p = agrees counter.cols values in
    let q = λ (row : List Value). not (has_null (cells counter.cols row)) in
    filtered_twice p q (rows_of counter.table now)
    ∙ sum_by-IsPermutation (λ (x : List Value). cond {A = ℕ} (q x && p x) 1 0) (rows_of counter.table rows) (rows_of counter.table now) same
    ∙ sym (filtered_twice p q (rows_of counter.table rows))

few_same : (rows now : Rows) (counters : List NumberedCounter) → AllByRecursion (HasSameRows rows now) counters → AreFewRows counters rows → AreFewRows counters now
few_same rows now [] same few = tt
few_same rows now (counter ∷ counters) same few = (
  λ values. subst (λ n. n ≤ most_count) (sym (tally_same rows now counter same.0 values)) (few.0 values),
  few_same rows now counters same.1 few.1,
)

-- ---- pairs

abbrev Within : {X : Type 0} → List X → List X → Type 0
Within {X} xs ys = (v : X) → In v xs → In v ys

filter_within : {X : Type 0} (p : X → Bool) (xs ys : List X) → Within xs ys → Within (filter p xs) (filter p ys)
filter_within p xs ys h v i = let own = in_filter p v xs i in filter_in p v ys (h v own.0) own.1

map_within : {X Y : Type 0} (f : X → Y) (xs ys : List X) → Within xs ys → Within (map f xs) (map f ys)
map_within {X} {Y} f xs ys h v i = let own = in_map f v xs i in subst (λ (y : Y). In y (map f ys)) own.2 (map_in f own.0 ys (h own.0 own.1))

-- the pairs of a counter's groups, by the numbers of their rows
abbrev pairs_by : NumberedCounter → (List Value → ℕ) → List (List Value) → List Pair
pairs_by counter f rows = map (λ row. (counter_key counter.number (cells counter.cols row), count_code (f (cells counter.cols row)))) rows

groups_within : (rows now : Rows) (counter : NumberedCounter) → ((values : List Value) → tally now counter values ≡ tally rows counter values)
    → Within (rows_of counter.table rows) (rows_of counter.table now) → Within (group_pairs rows counter) (group_pairs now counter)
groups_within rows now counter same h =
    let q = λ (row : List Value). not (has_null (cells counter.cols row)) in
    let all : ◌≡◌ {A = List Value → ℕ} (λ values. tally now counter values) (λ values. tally rows counter values) = λ i values. same values i in
    subst (λ (f : List Value → ℕ). Within (pairs_by counter f (counted_rows counter rows)) (group_pairs now counter)) all
    (map_within (λ (row : List Value). counter_pair now counter (cells counter.cols row)) (counted_rows counter rows) (counted_rows counter now)
    (filter_within q (rows_of counter.table rows) (rows_of counter.table now) h))

pairs_within : (rows now : Rows) (counters : List NumberedCounter) → ((counter : NumberedCounter) → In counter counters → Within (group_pairs rows counter) (group_pairs now counter)) → Within (counter_pairs counters rows) (counter_pairs counters now)
pairs_within rows now counters h v i =
    let own = in_flat_map (group_pairs rows) v counters i in
    flat_map_in (group_pairs now) v own.0 counters own.1 (h own.0 own.1 v own.2)

-- ---- look-ups in lists of pairs with the same members

found_pair : (q v : List ℕ) (ps : List Pair) → find key_cmp q ps ≡ Some v → In (q, v) ps
found_pair q v [] is = absurd (none-some v is)
found_pair q v (p ∷ ps) is =
    elim (eq_by_cmp key_cmp q p.0) as (λ b. eq_by_cmp key_cmp q p.0 ≡ b → cond b (Some p.1) (find key_cmp q ps) ≡ Some v → (p ≡ (q, v)) ⊎ In (q, v) ps) [
      | true ↦ λ same is.
          let key : q ≡ p.0 = same_key q p.0 same in
          let value : p.1 ≡ v = same_Some p.1 v is in
          inl (λ i. (sym key i, value i))
      | false ↦ λ _ is. inr (found_pair q v ps is)
    ] refl is

pair_found : (q v : List ℕ) (ps : List Pair) → In (q, v) ps → find key_cmp q ps ≡ None → ⊥
pair_found q v [] i none = i
pair_found q v (p ∷ ps) (inl same) none =
    let key : eq_by_cmp key_cmp q p.0 ≡ true = ap (λ (e : Pair). eq_by_cmp key_cmp q e.0) same ∙ key_itself q in
    none-some p.1 (sym none ∙ ap (λ b. cond b (Some p.1) (find key_cmp q ps)) key)
pair_found q v (p ∷ ps) (inr i) none =
    elim (eq_by_cmp key_cmp q p.0) as (λ b. cond b (Some p.1) (find key_cmp q ps) ≡ None → ⊥) [
      | true ↦ λ none. none-some p.1 (sym none)
      | false ↦ λ none. pair_found q v ps i none
    ] none

-- a key has one value only
abbrev AreOne : List Pair → Type 0
AreOne ps = (q v w : List ℕ) → In (q, v) ps → In (q, w) ps → v ≡ w

find_same : (ps rs : List Pair) → Within ps rs → Within rs ps → AreOne ps → (q : List ℕ) → find key_cmp q ps ≡ find key_cmp q rs
find_same ps rs there back one q = by (find key_cmp q ps) (find key_cmp q rs) refl refl
  where
    by : (a b : Option (List ℕ)) → find key_cmp q ps ≡ a → find key_cmp q rs ≡ b → a ≡ b
    by None None none gone = refl
    by None (Some w) none is = absurd (pair_found q w ps (back (q, w) (found_pair q w rs is)) none)
    by (Some v) None is none = absurd (pair_found q v rs (there (q, v) (found_pair q v ps is)) none)
    by (Some v) (Some w) is found = ap (λ (x : List ℕ). Some x) (one q v w (found_pair q v ps is) (back (q, w) (found_pair q w rs found)))

-- ---- a group's key has one number only

stored_some : (n : ℕ) → 1 ≤ n → stored_count n ≡ Some (count_code n)
stored_some n some =
    let other : (n == 0) ≡ false = ne_eqb n 0 (λ e. omega (arith, some, e)) in
    ap (λ b. cond b None (Some (count_code n))) other

some_in : {X : Type 0} (x : X) (xs : List X) → In x xs → 1 ≤ length xs
some_in x [] i = absurd i
some_in x (y ∷ ys) i = omega arith

module _ (tables : List Table) (counters : List NumberedCounter) (rows : Rows) (others : List Pair) (fit : EachFits tables rows)
    (law : (counter : NumberedCounter) (values : List Value) → In counter counters → AllOfKinds (group_types tables counter) values → get (all_pairs tables counters rows others) (counter_key counter.number values) ≡ stored_count (tally rows counter values)) where
  own_value : (counter : NumberedCounter) → In counter counters → (row : List Value) → In row (counted_rows counter rows)
      → get (all_pairs tables counters rows others) (counter_key counter.number (cells counter.cols row)) ≡ Some (count_code (tally rows counter (cells counter.cols row)))
  own_value counter i row j =
      let q = λ (r : List Value). not (has_null (cells counter.cols r)) in
      let values = cells counter.cols row in
      let there = (in_filter q row (rows_of counter.table rows) j).0 in
      let fits = each_in (λ (e : ℕ × List Value). AllFit (types_of (table_at tables e.0)) e.1) rows fit (counter.table, row) (in_whole counter.table rows row there) in
      let kinds : AllOfKinds (group_types tables counter) values = kinds_from_fit (group_types tables counter) values (fit_at (table_at tables counter.table) counter.cols row fits) in
      law counter values i kinds
      ∙ stored_some (tally rows counter values) (some_in row (filter (agrees counter.cols values) (counted_rows counter rows)) (filter_in (agrees counter.cols values) row (counted_rows counter rows) j (same_values_itself values)))

  found_value : (q v : List ℕ) → In (q, v) (counter_pairs counters rows) → get (all_pairs tables counters rows others) q ≡ Some v
  found_value q v i =
      let group = in_flat_map (group_pairs rows) (q, v) counters i in
      let own = in_map (λ (row : List Value). counter_pair rows group.0 (cells group.0.cols row)) (q, v) (counted_rows group.0 rows) group.2 in
      subst (λ (p : Pair). get (all_pairs tables counters rows others) p.0 ≡ Some p.1) own.2 (own_value group.0 group.1 own.0 own.1)

  pairs_one : AreOne (counter_pairs counters rows)
  pairs_one q v w i j = same_Some v w (sym (found_value q v i) ∙ found_value q w j)

  module _ (now : Rows) (same : (counter : NumberedCounter) → In counter counters → HasSameRows rows now counter) where
    there : (counter : NumberedCounter) → In counter counters → Within (group_pairs rows counter) (group_pairs now counter)
    there counter i = groups_within rows now counter (tally_same rows now counter (same counter i)) (λ row j. in_permuted row (rows_of counter.table rows) (rows_of counter.table now) (same counter i) j)

    back : (counter : NumberedCounter) → In counter counters → Within (group_pairs now counter) (group_pairs rows counter)
    back counter i =
        let again : HasSameRows now rows counter = IsPermutation-sym (rows_of counter.table rows) (rows_of counter.table now) (same counter i) in
        groups_within now rows counter (tally_same now rows counter again) (λ row j. in_permuted row (rows_of counter.table now) (rows_of counter.table rows) again j)

    found_same : (q : List ℕ) → find key_cmp q (counter_pairs counters rows) ≡ find key_cmp q (counter_pairs counters now)
    found_same = find_same (counter_pairs counters rows) (counter_pairs counters now) (pairs_within rows now counters there) (pairs_within now rows counters back) pairs_one

    -- beside any rows the pairs of the counters are as before
    pub counted_same : (es : Rows) (catalog : List Pair) → content_pairs tables es (counter_pairs counters rows ++ catalog) ≡ content_pairs tables es (counter_pairs counters now ++ catalog)
    unfolding content_pairs
    counted_same es catalog =
        let front = row_pairs tables es in
        let old = counter_pairs counters rows in
        let new = counter_pairs counters now in
        same_content _ _ (λ q.
        get-from_entries nat_list_cmp_total (front ++ (old ++ catalog)) q
        ∙ find-or_else key_cmp q front (old ++ catalog)
        ∙ ap (λ (o : Option (List ℕ)). or_else (find key_cmp q front) o) (find-or_else key_cmp q old catalog ∙ ap (λ (o : Option (List ℕ)). or_else o (find key_cmp q catalog)) (found_same q) ∙ sym (find-or_else key_cmp q new catalog))
        ∙ sym (find-or_else key_cmp q front (new ++ catalog))
        ∙ sym (get-from_entries nat_list_cmp_total (front ++ (new ++ catalog)) q))

    pub counted_few : AreFewRows counters rows → AreFewRows counters now
    counted_few few = few_same rows now counters (each_by_in (HasSameRows rows now) counters same) few
