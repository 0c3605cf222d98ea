-- How many tests and entries a write has.
use Rattle.std.proofs.Common.{◌≡◌, ℕ, suc, ◌+◌, ◌*◌, ◌≤◌, ◌==◌, Bool, true, false, cond, not, ◌&&◌, List, [], ◌∷◌, map, length, Option, Some, None, refl, sym, ap, ◌∙◌, subst, arith, length-append}
use Rattle.std.specs.List.{count_by}
use Rattle.std.proofs.lemmas.Bool.{false≢true}
use Rattle.std.proofs.lemmas.List.Sums.{sum_by-cons, count_by-le-length, length-filter}
use Rattle.pq_base.specs.Values.{has_null}
use Rattle.pq_base.specs.declared.value.Value.{Value}
use Rattle.pq_key_code.specs.KeyCode.{entry_key, row_key}
use Rattle.pq_schema.specs.declared.table.Foreign.{Foreign}
use Rattle.pq_schema.specs.declared.table.Index.{Index}
use Rattle.pq_schema.specs.declared.table.Limit.{Limit}
use Rattle.pq_schema.specs.declared.table.Table.{Table}
use Rattle.pq_schema.specs.Sequences.{index_sequence}
use Rattle.pq_schema.specs.Tables.{table_at}
use Rattle.pq_content.specs.Pairs.{entries_from}
use Rattle.pq_content.specs.Tables.{cells, dirs_of, values_of}
use Rattle.pq_content.proofs.Keys.{key_itself}
use Rattle.pq_index_keep.specs.Bounds.{refers, referring_count}
use Rattle.pq_index_keep.specs.Effects.{stays}
use Rattle.pq_row_keys.specs.Groups.{group_key}
use Rattle.pq_index_keep.specs.Tested.{touches, touches_index, scope_of, with_sets}
use Rattle.pq_index_keep.specs.declared.write.SetCol.{SetCol}
use Rattle.pq_index_keep.specs.declared.write.Write.{Write}
use Rattle.pq_index_keep.specs.declared.write.Write.TheVariants as write
use Rattle.pq_index_keep.proofs.Updating.{kept_sequence}
use Rattle.pq_clients.specs.Flights.{Flight, Check, Parent, Child, table_number, table_of, row_made, gives, old_row, new_row, entry_keys, keys_of_row, old_entries, new_entries, has_entry, left_out, fresh_entries, stale_entries, parent_checks, child_checks_of, child_checks, checks_of, flight_checks, limit_tests, tests_of, flight_tests}
use Rattle.pq_clients.specs.Promises.{calls_of_write}
use Rattle.pq_clients.proofs.Basics.{or_first, or_second}
use Rattle.pq_index_keep.specs.declared.write.Cond.{Cond}

-- ---- lists

counts : {X : Type 0} (p : X → Bool) (x : X) (xs : List X) → count_by p (x ∷ xs) ≡ cond (p x) 1 0 + count_by p xs
counts p x xs = sum_by-cons (λ x. cond (p x) 1 0) x xs

count_all : {X : Type 0} (xs : List X) → count_by (λ x. true) xs ≡ length xs
count_all [] = refl
count_all (x ∷ xs) = counts (λ x. true) x xs ∙ omega (arith, count_all xs)

one_more : (b : Bool) (n m : ℕ) → n ≤ m → cond b (suc n) n ≤ cond b 1 0 + m
one_more true n m h = omega arith
one_more false n m h = omega arith

one_fewer : (a b : Bool) (n m : ℕ) → n ≤ m → cond (a && b) (suc n) n ≤ cond a 1 0 + m
one_fewer true true n m h = omega arith
one_fewer true false n m h = omega arith
one_fewer false b n m h = omega arith

two_fewer : (a b c : Bool) (n m : ℕ) → n ≤ m → cond ((a && b) && c) (suc n) n ≤ cond a 1 0 + m
two_fewer true b c n m h = one_fewer true (b && c) n m h
two_fewer false b c n m h = omega arith

more_or_same : {X : Type 0} (b : Bool) (x : X) (xs : List X) → length (cond b (x ∷ xs) xs) ≡ cond b (suc (length xs)) (length xs)
more_or_same true x xs = refl
more_or_same false x xs = refl

out_few : (xs ys : List (List ℕ)) → length (left_out xs ys) ≤ length xs
out_few xs ys = omega (arith, length-filter (λ q. not (has_entry q ys)) xs, count_by-le-length (λ q. not (has_entry q ys)) xs)

-- ---- parents and children

parents_few : (w : Write) (row : List Value) (place : ℕ) (foreign : List Foreign) → length (parent_checks w row place foreign) ≤ count_by (λ f. gives w f.cols) foreign
parents_few w row place [] = omega arith
parents_few w row place (f ∷ rest) =
    let plain = not (has_null (cells f.cols row)) in
    subst (λ n. length (parent_checks w row place (f ∷ rest)) ≤ n) (sym (counts (λ f. gives w f.cols) f rest))
    (subst (λ n. n ≤ cond (gives w f.cols) 1 0 + count_by (λ f. gives w f.cols) rest)
    (sym (more_or_same (gives w f.cols && plain) (Parent place f.table (row_key f.table (cells f.cols row))) (parent_checks w row (place + 1) rest)))
    (one_fewer (gives w f.cols) plain (length (parent_checks w row (place + 1) rest)) (count_by (λ f. gives w f.cols) rest) (parents_few w row (place + 1) rest)))

children_of : (t : ℕ) (key : List Value) (u : ℕ) (table : Table) (place : ℕ) (foreign : List Foreign) → length (child_checks_of t key u table place foreign) ≤ count_by (λ f. f.table == t) foreign
children_of t key u table place [] = omega arith
children_of t key u table place (f ∷ rest) =
    subst (λ n. length (child_checks_of t key u table place (f ∷ rest)) ≤ n) (sym (counts (λ (f : Foreign). f.table == t) f rest))
    (subst (λ n. n ≤ cond (f.table == t) 1 0 + count_by (λ (f : Foreign). f.table == t) rest)
    (sym (more_or_same (f.table == t) (Child u place (group_key u table f.cols key)) (child_checks_of t key u table (place + 1) rest)))
    (one_more (f.table == t) (length (child_checks_of t key u table (place + 1) rest)) (count_by (λ (f : Foreign). f.table == t) rest) (children_of t key u table (place + 1) rest)))

children_few : (t : ℕ) (key : List Value) (u : ℕ) (tables : List Table) → length (child_checks t key u tables) ≤ referring_count tables t
children_few t key u [] = omega arith
children_few t key u (table ∷ rest) =
    let here = children_of t key u table 0 table.foreign in
    let others = children_few t key (u + 1) rest in
    let sum : referring_count (table ∷ rest) t ≡ refers t table + referring_count rest t = sum_by-cons (refers t) table rest in
    let long : length (child_checks t key u (table ∷ rest)) ≡ length (child_checks_of t key u table 0 table.foreign) + length (child_checks t key (u + 1) rest) = length-append (child_checks_of t key u table 0 table.foreign) (child_checks t key (u + 1) rest) in
    omega arith

-- ---- limits

limits_few : (w : Write) (old : Option (List Value)) (row : List Value) (place : ℕ) (limits : List Limit) → length (limit_tests w old row place limits) ≤ count_by (λ limit. gives w limit.cols) limits
limits_few w old row place [] = omega arith
limits_few w old row place (limit ∷ rest) =
    let plain = not (has_null (cells limit.cols row)) in
    let changes = not (stays old row limit.cols) in
    subst (λ n. length (limit_tests w old row place (limit ∷ rest)) ≤ n) (sym (counts (λ limit. gives w limit.cols) limit rest))
    (subst (λ n. n ≤ cond (gives w limit.cols) 1 0 + count_by (λ limit. gives w limit.cols) rest)
    (sym (more_or_same ((gives w limit.cols && plain) && changes) place (limit_tests w old row (place + 1) rest)))
    (two_fewer (gives w limit.cols) plain changes (length (limit_tests w old row (place + 1) rest)) (count_by (λ limit. gives w limit.cols) rest) (limits_few w old row (place + 1) rest)))

-- ---- entries

abbrev keys_from : ℕ → ℕ → Table → List Index → List Value → List (List ℕ)
keys_from t i table indexes row = map (λ pair. pair.0) (entries_from t i table indexes row)

keys_many : (t i : ℕ) (table : Table) (indexes : List Index) (row : List Value) → length (keys_from t i table indexes row) ≡ length indexes
keys_many t i table [] row = refl
keys_many t i table (index ∷ indexes) row = ap suc (keys_many t (i + 1) table indexes row)

entries_many : (t : ℕ) (table : Table) (row : List Value) → length (entry_keys t table row) ≡ length table.indexes
unfolding entry_keys
entries_many t table row = keys_many t 1 table table.indexes row

row_entries : (t : ℕ) (table : Table) (row : Option (List Value)) → length (keys_of_row t table row) ≤ length table.indexes
row_entries t table None = omega arith
row_entries t table (Some row) = omega (arith, entries_many t table row)

-- entries of which one row has more than another are of indexes at whose columns the two differ
module _ (t : ℕ) (table : Table) (changes : Index → Bool) (a b : List Value) (same : (index : Index) → changes index ≡ false → values_of (index_sequence table index) a ≡ values_of (index_sequence table index) b) where
  abbrev All_there : List (List ℕ) → List (List ℕ) → Type 0
  All_there xs all = (e : List ℕ) → has_entry e xs ≡ true → has_entry e all ≡ true

  differing_from : (i : ℕ) (indexes : List Index) (all : List (List ℕ)) → All_there (keys_from t i table indexes b) all → length (left_out (keys_from t i table indexes a) all) ≤ count_by changes indexes
  differing_from i [] all there = omega arith
  differing_from i (index ∷ indexes) all there =
      let sequence = index_sequence table index in
      let key = entry_key t i (dirs_of sequence) (values_of sequence a) in
      let own = entry_key t i (dirs_of sequence) (values_of sequence b) in
      let rest = differing_from (i + 1) indexes all (λ e h. there e (or_second _ (has_entry e (keys_from t (i + 1) table indexes b)) h)) in
      let kept : changes index ≡ false → has_entry key all ≡ true = λ no. ap (λ (values : List Value). has_entry (entry_key t i (dirs_of sequence) values) all) (same index no) ∙ there own (or_first _ (has_entry own (keys_from t (i + 1) table indexes b)) (key_itself own)) in
      subst (λ n. length (left_out (key ∷ keys_from t (i + 1) table indexes a) all) ≤ n) (sym (counts changes index indexes))
      (subst (λ n. n ≤ cond (changes index) 1 0 + count_by changes indexes)
      (sym (more_or_same (not (has_entry key all)) key (left_out (keys_from t (i + 1) table indexes a) all)))
      (by (changes index) (has_entry key all) (length (left_out (keys_from t (i + 1) table indexes a) all)) (count_by changes indexes) kept rest))
    where
      by : (c there : Bool) (n m : ℕ) → (c ≡ false → there ≡ true) → n ≤ m → cond (not there) (suc n) n ≤ cond c 1 0 + m
      by c true n m h le = omega (arith, bit c)
        where
          bit : (c : Bool) → m ≤ cond c 1 0 + m
          bit true = omega arith
          bit false = omega arith
      by true false n m h le = omega arith
      by false false n m h le = absurd (false≢true (h refl))

  pub differing : length (left_out (entry_keys t table a) (entry_keys t table b)) ≤ count_by changes table.indexes
  unfolding entry_keys
  differing = differing_from 1 table.indexes (keys_from t 1 table table.indexes b) (λ e h. h)

-- ---- all that a write tests, adds and clears

module _ (tables : List Table) where
  -- what a flight makes at most: a read and a take, the tests, the entries that it adds, and then a put, those that it clears
  -- and a free, or the removal of what it added and a free
  abbrev pub calls_of_flight : Flight → ℕ
  calls_of_flight f =
      4 + (length (flight_checks tables f) + length (flight_tests tables f)) + 2 * length (fresh_entries tables f) + length (stale_entries tables f)

  module _ (w : Write) (read : Option (List ℕ)) where
    abbrev at_hand : Flight
    at_hand = record { write = w; read = read }

    new_is : (o n : Option (List Value)) → old_row tables at_hand ≡ o → row_made w o ≡ n → new_row tables at_hand ≡ n
    unfolding new_row
    new_is o n old made = ap (row_made w) old ∙ made

    checks_are : (n : Option (List Value)) → new_row tables at_hand ≡ n → flight_checks tables at_hand ≡ checks_of tables w n
    unfolding flight_checks
    checks_are n is = ap (checks_of tables w) is

    tests_are : (n : Option (List Value)) → new_row tables at_hand ≡ n → flight_tests tables at_hand ≡ tests_of tables at_hand n
    unfolding flight_tests
    tests_are n is = ap (tests_of tables at_hand) is

    news_are : (n : Option (List Value)) → new_row tables at_hand ≡ n → new_entries tables at_hand ≡ keys_of_row (table_number w) (table_of tables w) n
    unfolding new_entries
    news_are n is = ap (keys_of_row (table_number w) (table_of tables w)) is

    olds_are : (o : Option (List Value)) → old_row tables at_hand ≡ o → old_entries tables at_hand ≡ keys_of_row (table_number w) (table_of tables w) o
    unfolding old_entries
    olds_are o is = ap (keys_of_row (table_number w) (table_of tables w)) is

    -- the counts by the rows
    pub record HasCounts (o n : Option (List Value)) : Type 0 where
      pub checks : length (flight_checks tables at_hand) ≡ length (checks_of tables w n)
      pub tests : length (flight_tests tables at_hand) ≡ length (tests_of tables at_hand n)
      pub fresh : length (fresh_entries tables at_hand) ≡ length (left_out (keys_of_row (table_number w) (table_of tables w) n) (keys_of_row (table_number w) (table_of tables w) o))
      pub stale : length (stale_entries tables at_hand) ≡ length (left_out (keys_of_row (table_number w) (table_of tables w) o) (keys_of_row (table_number w) (table_of tables w) n))

    counted_by : (o n : Option (List Value)) → old_row tables at_hand ≡ o → row_made w o ≡ n → HasCounts o n
    counted_by o n old made =
        let new = new_is o n old made in
        record {
          checks = ap (λ (xs : List Check). length xs) (checks_are n new);
          tests = ap (λ (xs : List ℕ). length xs) (tests_are n new);
          fresh = ap (λ (xs : List (List ℕ)). length (left_out xs (old_entries tables at_hand))) (news_are n new) ∙ ap (λ (xs : List (List ℕ)). length (left_out (keys_of_row (table_number w) (table_of tables w) n) xs)) (olds_are o old);
          stale = ap (λ (xs : List (List ℕ)). length (left_out xs (new_entries tables at_hand))) (olds_are o old) ∙ ap (λ (xs : List (List ℕ)). length (left_out (keys_of_row (table_number w) (table_of tables w) o) xs)) (news_are n new);
        }

  pub insert_few : (t : ℕ) (row : List Value) (read : Option (List ℕ)) → old_row tables (record { write = write.Insert t row; read = read }) ≡ None
      → calls_of_flight (record { write = write.Insert t row; read = read }) ≤ calls_of_write tables (write.Insert t row)
  insert_few t row read old =
      let w = write.Insert t row in
      let f : Flight = record { write = w; read = read } in
      let table = table_at tables t in
      let counts : HasCounts w read None (Some row) = counted_by w read None (Some row) old refl in
      let checks : length (parent_checks w row 0 table.foreign) ≤ length table.foreign = omega (arith, parents_few w row 0 table.foreign, count_by-le-length (λ (f : Foreign). true) table.foreign) in
      let tests : length (limit_tests w (old_row tables f) row 0 table.limits) ≤ length table.limits = omega (arith, limits_few w (old_row tables f) row 0 table.limits, count_by-le-length (λ (limit : Limit). true) table.limits) in
      let fresh : length (left_out (entry_keys t table row) []) ≤ length table.indexes = omega (arith, out_few (entry_keys t table row) [], entries_many t table row) in
      few (length (flight_checks tables f)) (length (flight_tests tables f)) (length (fresh_entries tables f)) (length (stale_entries tables f)) (length table.foreign) (length table.limits) (length table.indexes)
      (subst (λ n. n ≤ length table.foreign) (sym counts.checks) checks) (subst (λ n. n ≤ length table.limits) (sym counts.tests) tests) (subst (λ n. n ≤ length table.indexes) (sym counts.fresh) fresh) counts.stale
    where
      few : (c t f s foreign limits indexes : ℕ) → c ≤ foreign → t ≤ limits → f ≤ indexes → s ≡ 0 → 4 + (c + t) + 2 * f + s ≤ 4 + (foreign + limits) + 2 * indexes
      few c t f s foreign limits indexes a b d e = omega arith

  pub update_few : (t : ℕ) (key : List Value) (sets : List SetCol) (conds : List Cond) (read : Option (List ℕ)) (row : List Value) → old_row tables (record { write = write.Update t key sets conds; read = read }) ≡ Some row
      → calls_of_flight (record { write = write.Update t key sets conds; read = read }) ≤ calls_of_write tables (write.Update t key sets conds)
  update_few t key sets conds read row old =
      let w = write.Update t key sets conds in
      let f : Flight = record { write = w; read = read } in
      let table = table_at tables t in
      let new = with_sets sets row in
      let of = scope_of sets in
      let touched = touches_index of table in
      let counts : HasCounts w read (Some row) (Some new) = counted_by w read (Some row) (Some new) old refl in
      let fresh : length (left_out (entry_keys t table new) (entry_keys t table row)) ≤ count_by touched table.indexes = differing t table touched new row (λ index no. sym (kept_sequence table sets row index no)) in
      let stale : length (left_out (entry_keys t table row) (entry_keys t table new)) ≤ count_by touched table.indexes = differing t table touched row new (λ index no. kept_sequence table sets row index no) in
      few (length (flight_checks tables f)) (length (flight_tests tables f)) (length (fresh_entries tables f)) (length (stale_entries tables f)) (count_by (λ f. touches of f.cols) table.foreign) (count_by (λ limit. touches of limit.cols) table.limits) (count_by touched table.indexes)
      (subst (λ n. n ≤ count_by (λ f. touches of f.cols) table.foreign) (sym counts.checks) (parents_few w new 0 table.foreign))
      (subst (λ n. n ≤ count_by (λ limit. touches of limit.cols) table.limits) (sym counts.tests) (limits_few w (old_row tables f) new 0 table.limits))
      (subst (λ n. n ≤ count_by touched table.indexes) (sym counts.fresh) fresh)
      (subst (λ n. n ≤ count_by touched table.indexes) (sym counts.stale) stale)
    where
      few : (c t f s foreign limits indexes : ℕ) → c ≤ foreign → t ≤ limits → f ≤ indexes → s ≤ indexes → 4 + (c + t) + 2 * f + s ≤ 4 + (foreign + limits) + 3 * indexes
      few c t f s foreign limits indexes a b d e = omega arith

  pub delete_few : (t : ℕ) (key : List Value) (conds : List Cond) (read : Option (List ℕ)) → calls_of_flight (record { write = write.Delete t key conds; read = read }) ≤ calls_of_write tables (write.Delete t key conds)
  delete_few t key conds read =
      let w = write.Delete t key conds in
      let f : Flight = record { write = w; read = read } in
      let table = table_at tables t in
      let old = old_row tables f in
      let counts : HasCounts w read old None = counted_by w read old None refl refl in
      let stale : length (left_out (keys_of_row t table old) []) ≤ length table.indexes = omega (arith, out_few (keys_of_row t table old) [], row_entries t table old) in
      few (length (flight_checks tables f)) (length (flight_tests tables f)) (length (fresh_entries tables f)) (length (stale_entries tables f)) (referring_count tables t) (length table.indexes)
      (subst (λ n. n ≤ referring_count tables t) (sym counts.checks) (children_few t key 1 tables)) counts.tests counts.fresh
      (subst (λ n. n ≤ length table.indexes) (sym counts.stale) stale)
    where
      few : (c t f s referring indexes : ℕ) → c ≤ referring → t ≡ 0 → f ≡ 0 → s ≤ indexes → 4 + (c + t) + 2 * f + s ≤ 4 + referring + indexes
      few c t f s referring indexes a b d e = omega arith

  pub some_calls : (w : Write) → 4 ≤ calls_of_write tables w
  some_calls (write.Insert t row) = omega arith
  some_calls (write.Update t key sets conds) = omega arith
  some_calls (write.Delete t key conds) = omega arith
