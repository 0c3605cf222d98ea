-- What the tests of the foreign keys that refer to a table, and the place of the first that holds, tell of a DELETE.
use Rattle.std.proofs.Common.{◌≡◌, ◌≤◌, ◌<◌, ◌+◌, ◌-◌, ◌==◌, ℕ, suc, Bool, true, false, cond, not, ◌&&◌, eqb, min, List, [], ◌∷◌, ◌++◌, filter, length, map, drop, get_or, position, Option, Some, None, refl, sym, ap, subst, ◌∙◌, append_assoc, arith}
use Rattle.std.specs.Prelude.{All, IfSome, IsSome, option_map, nat_lt, slice_index_or}
use Rattle.std.specs.List.{AllByRecursion, count_by, sum_by}
use Rattle.std.proofs.lemmas.Bool.{lt-ltb, le-ltb, eqb-true}
use Rattle.std.proofs.lemmas.List.{length-append}
use Rattle.std.proofs.lemmas.List.Sums.{sum_by-cons, sum_by-append}
use Rattle.std.proofs.lemmas.List.Elements.{All-head, All-tail}
use Rattle.pq_base.specs.Answers.{or_else}
use Rattle.pq_base.specs.Columns.{set_of}
use Rattle.pq_base.specs.declared.refusal.Refusal.{Refusal}
use Rattle.pq_base.specs.declared.value.Value.{Value}
use Rattle.pq_schema.specs.Sequences.{group_access}
use Rattle.pq_schema.specs.Tables.{table_at, no_table}
use Rattle.pq_schema.specs.declared.table.Foreign.{Foreign}
use Rattle.pq_schema.specs.declared.table.Table.{Table}
use Rattle.pq_content.specs.Pairs.{Change, Pair, content_pairs}
use Rattle.pq_content.specs.Tables.{Rows}
use Rattle.pq_store.specs.Content.{Content}
use Rattle.pq_store.specs.Rounds.{is_held}
use Rattle.pq_store.specs.declared.store.Test.{Test}
use Rattle.pq_pending.specs.Pending.{RemovesAtMost}
use Rattle.pq_pending.specs.Tests.{seen_entries, AreCountable, held_rounds, place_among}
use Rattle.pq_pending.proofs.Firsts.{or_behind, position_append, IsDecided}
use Rattle.pq_index_keep.specs.Asking.{refers_to, child_test, naming_tests, child_tests, child_refusal_at}
use Rattle.pq_index_keep.specs.Bounds.{children_behind, refers, referring_count, names_behind, refers_behind, referring_behind}
use Rattle.pq_index_keep.specs.Effects.{names_key, referenced_refusal, child_refusal}
use Rattle.pq_index_keep.specs.Promises.{HoldsRows}
use Rattle.pq_index_keep.specs.Refusals.{IsDeleteRefusal}
use Rattle.pq_index_keep.specs.Rounds.{test_rounds}
use Rattle.pq_index_keep.specs.Sound.{AreWritable, IsWritable, MayName}
use Rattle.pq_store.specs.declared.store.Store.{Ghosts}
use Rattle.pq_pending.specs.Calls.{Uses}
use Rattle.pq_pending.specs.declared.calls.PendingCalls.{PendingCalls}
use Rattle.pq_pending.proofs.Steps.{uses_within}
use Rattle.pq_index_keep.specs.Spending.{Spends}
use Rattle.pq_index_keep.proofs.Asked.{AreCheap, asked_first, asked_inside, crowded_few, group_entries, group_countable, rounds_within}
use Rattle.pq_index_keep.proofs.Deleting.{drop_here}
use Rattle.pq_index_keep.proofs.Inserting.{position_inside}
use Rattle.pq_index_keep.proofs.Tests.{told_named}

-- ---- the loop over tables

pub next_table : (t : ℕ) (key : List Value) (tables : List Table) (i : ℕ) (table : Table) (before tests asked : List Test) → i < length tables → table ≡ get_or tables i table
    → asked ≡ tests ++ naming_tests t key (i + 1) table → before ≡ tests ++ child_tests t key (i + 1) (drop i tables) → before ≡ asked ++ child_tests t key (i + 1 + 1) (drop (i + 1) tables)
next_table t key tables i table before tests asked less at pushed is =
    is
    ∙ ap (λ ts. tests ++ child_tests t key (i + 1) ts) (drop_here tables i table less at)
    ∙ sym (append_assoc tests (naming_tests t key (i + 1) table) (child_tests t key (i + 1 + 1) (drop (i + 1) tables)))
    ∙ ap (λ ts. ts ++ child_tests t key (i + 1 + 1) (drop (i + 1) tables)) (sym pushed)

-- ---- how many there are

naming_length : (t : ℕ) (key : List Value) (u : ℕ) (table : Table) (foreign : List Foreign) → length (map (child_test u table key) (filter (refers_to t) foreign)) ≡ count_by (refers_to t) foreign
naming_length t key u table [] = refl
naming_length t key u table (f ∷ foreign) =
    let rest = naming_length t key u table foreign in
    elim (refers_to t f) as (λ b. count_by (refers_to t) (f ∷ foreign) ≡ cond b 1 0 + count_by (refers_to t) foreign → length (map (child_test u table key) (cond b (f ∷ filter (refers_to t) foreign) (filter (refers_to t) foreign))) ≡ count_by (refers_to t) (f ∷ foreign)) [
      | true ↦ λ sum. omega (arith, rest, sum)
      | false ↦ λ sum. omega (arith, rest, sum)
    ] (sum_by-cons (λ (f : Foreign). cond (refers_to t f) 1 0) f foreign)

pub child_length : (t : ℕ) (key : List Value) (u : ℕ) (tables : List Table) → length (child_tests t key u tables) ≡ referring_count tables t
child_length t key u [] = refl
child_length t key u (table ∷ tables) =
    length-append (naming_tests t key u table) (child_tests t key (u + 1) tables)
    ∙ ap (λ n. n + length (child_tests t key (u + 1) tables)) (naming_length t key u table table.foreign)
    ∙ ap (λ n. refers t table + n) (child_length t key (u + 1) tables)
    ∙ sym (sum_by-cons (refers t) table tables)

-- ---- the first that holds

asked_alone : (a m : Bool) → (a ≡ true → (a && m) ≡ m) × (a ≡ false → (a && m) ≡ false)
asked_alone true m = (λ e. refl, λ e. absurd (cc))
asked_alone false m = (λ e. absurd (cc), λ e. refl)

one_held : (k : ℕ) → eqb (min 1 k) 1 ≡ not (eqb (min 1 k) 0)
one_held k = grind arith

split : (n : ℕ) (f h : ℕ → Refusal) (a b : Option ℕ) → IfSome a (λ i. i < n) → option_map (λ at. cond (nat_lt at n) (f at) (h (at - n))) (or_behind n a b) ≡ or_else (option_map f a) (option_map h b)
split n f h (Some i) b less = ap Some (ap (λ t. cond t (f i) (h (i - n))) (lt-ltb i n less))
split n f h None None less = refl
split n f h None (Some k) less =
    let back : n + k - n ≡ k = omega arith in
    ap Some (ap (λ t. cond t (f (n + k)) (h (n + k - n))) (le-ltb (n + k) n (omega arith)) ∙ ap h back)

abbrev HasGroups : Table → Type 0
HasGroups table = All (λ f. IsSome (group_access table (set_of f.cols))) table.foreign

module _ (all : List Table) (rows : Rows) (others : List Pair) (content : Content) (holds : HoldsRows (Some content) all rows others) (t : ℕ) (key : List Value) where
  module _ (u : ℕ) (table : Table) (is : table ≡ table_at all u) where
    naming_decided : (foreign : List Foreign) → All (λ f. IsSome (group_access table (set_of f.cols))) foreign → All (MayName table t key) foreign
        → AllByRecursion (IsDecided (names_key rows t key u) (λ f. is_held content (child_test u table key f)) (refers_to t)) foreign
    naming_decided [] access may = tt
    naming_decided (f ∷ foreign) access may =
        let A : Foreign → Type 0 = λ f. IsSome (group_access table (set_of f.cols)) in
        let parts = asked_alone (refers_to t f) (names_key rows t key u f) in
        ((λ asked. sym (one_held _ ∙ told_named all rows others (Some content) t key u table f _ holds is (All-head A f foreign access) (eqb-true f.table t asked) (All-head (MayName table t key) f foreign may) refl), λ fails. fails_so (f.table == t) _ fails), naming_decided foreign (All-tail A f foreign access) (All-tail (MayName table t key) f foreign may))
      where
        fails_so : (a m : Bool) → a ≡ false → (a && m) ≡ false
        fails_so true m e = absurd (cc)
        fails_so false m e = refl

    naming_found : HasGroups table → All (MayName table t key) table.foreign → position (names_key rows t key u) table.foreign ≡ option_map (place_among (refers_to t) table.foreign) (position (is_held content) (naming_tests t key u table))
    naming_found access may = asked_first (names_key rows t key u) (refers_to t) (child_test u table key) content table.foreign (naming_decided table.foreign access may)

  inside : (tests : List Test) → IfSome (position (is_held content) tests) (λ i. i < length tests)
  inside tests = by (position (is_held content) tests) refl
    where
      by : (o : Option ℕ) → position (is_held content) tests ≡ o → IfSome o (λ i. i < length tests)
      by None e = tt
      by (Some i) e = position_inside (is_held content) tests i e

  mapped_twice : {A B C : Type 0} (f : B → C) (g : A → B) (o : Option A) → option_map f (option_map g o) ≡ option_map (λ a. f (g a)) o
  mapped_twice f g None = refl
  mapped_twice f g (Some a) = refl

  -- tables that are numbered from u
  child_found : (u : ℕ) (tables : List Table) → ((i : ℕ) → i < length tables → slice_index_or tables i no_table ≡ table_at all (u + i)) → AllByRecursion HasGroups tables → AllByRecursion (λ table. All (MayName table t key) table.foreign) tables
      → option_map (child_refusal_at t tables) (position (is_held content) (child_tests t key u tables)) ≡ child_refusal rows t key u tables
  child_found u [] numbered groups may = refl
  child_found u (table ∷ tables) numbered groups may =
      let here : table ≡ table_at all u = numbered 0 (omega arith) ∙ ap (table_at all) (plus_zero u) in
      let next : (i : ℕ) → i < length tables → slice_index_or tables i no_table ≡ table_at all (u + 1 + i) = λ i less. numbered (suc i) (omega arith) ∙ ap (table_at all) (plus_one u i) in
      let own = naming_tests t key u table in
      let rest = child_tests t key (u + 1) tables in
      let named : ℕ → Refusal = λ n. referenced_refusal table (place_among (refers_to t) table.foreign n) in
      ap (option_map (child_refusal_at t (table ∷ tables))) (position_append (is_held content) own rest)
      ∙ ap (λ n. option_map (λ at. cond (nat_lt at (refers t table)) (named at) (child_refusal_at t tables (at - refers t table))) (or_behind n (position (is_held content) own) (position (is_held content) rest))) (naming_length t key u table table.foreign)
      ∙ split (refers t table) named (child_refusal_at t tables) (position (is_held content) own) (position (is_held content) rest) (subst (λ n. IfSome (position (is_held content) own) (λ i. i < n)) (naming_length t key u table table.foreign) (inside own))
      ∙ ap (λ r. or_else r (option_map (child_refusal_at t tables) (position (is_held content) rest)))
      (sym (mapped_twice (referenced_refusal table) (place_among (refers_to t) table.foreign) (position (is_held content) own)) ∙ ap (option_map (referenced_refusal table)) (sym (naming_found u table here groups.0 may.0)))
      ∙ ap (or_else (option_map (referenced_refusal table) (position (names_key rows t key u) table.foreign))) (child_found (u + 1) tables next groups.1 may.1)
    where
      plus_zero : (u : ℕ) → u + 0 ≡ u
      plus_zero u = omega arith

      plus_one : (u i : ℕ) → u + suc i ≡ u + 1 + i
      plus_one u i = omega arith

groups_of : (all tables : List Table) → All (IsWritable all) tables → AllByRecursion HasGroups tables
groups_of all [] sound = tt
groups_of all (table ∷ tables) sound = ((All-head (IsWritable all) table tables sound).made.foreign_groups, groups_of all tables (All-tail (IsWritable all) table tables sound))

may_each : (t : ℕ) (key : List Value) (tables : List Table) → All (λ table. All (MayName table t key) table.foreign) tables → AllByRecursion (λ table. All (MayName table t key) table.foreign) tables
may_each t key [] may = tt
may_each t key (table ∷ tables) may =
    let M : Table → Type 0 = λ table. All (MayName table t key) table.foreign in
    (All-head M table tables may, may_each t key tables (All-tail M table tables may))

pub child_told : (tables : List Table) (rows : Rows) (others : List Pair) (told : Option Content) → HoldsRows told tables rows others → (t : ℕ) (key : List Value) (tests : List Test) (at : Option ℕ) (refusal : Option Refusal)
    → AreWritable tables → All (λ table. All (MayName table t key) table.foreign) tables → tests ≡ child_tests t key 1 tables → IfSome told (λ c. at ≡ position (is_held c) tests) → refusal ≡ option_map (child_refusal_at t tables) at
    → refusal ≡ child_refusal rows t key 1 tables
child_told tables rows others told holds t key tests at refusal sound may are found made =
    let content = content_pairs tables rows others in
    let here : HoldsRows (Some content) tables rows others = subst (λ (o : Option Content). HoldsRows o tables rows others) holds.is holds in
    let at_is : at ≡ position (is_held content) tests = subst (λ (o : Option Content). IfSome o (λ c. at ≡ position (is_held c) tests)) holds.is found in
    made
    ∙ ap (option_map (child_refusal_at t tables)) (at_is ∙ ap (position (is_held content)) are)
    ∙ child_found tables rows others content here t key 1 tables (λ i less. ap (λ k. slice_index_or tables k no_table) (back i)) (groups_of tables tables sound) (may_each t key tables may)
  where
    back : (i : ℕ) → i ≡ 1 + i - 1
    back i = omega arith

-- ---- the refusal is one that the row can have

pub child_can : (t : ℕ) (tables : List Table) (at : ℕ) → at < referring_count tables t → IsDeleteRefusal tables (child_refusal_at t tables at)
child_can t [] at less = absurd (omega arith)
child_can t (table ∷ tables) at less =
    let sum = sum_by-cons (refers t) table tables in
    by (nat_lt at (refers t table)) refl (λ past. child_can t tables (at - refers t table) (omega (arith, less, sum, past)))
  where
    by : (b : Bool) → nat_lt at (refers t table) ≡ b → (refers t table ≤ at → IsDeleteRefusal tables (child_refusal_at t tables (at - refers t table)))
        → IsDeleteRefusal (table ∷ tables) (cond b (referenced_refusal table (place_among (refers_to t) table.foreign at)) (child_refusal_at t tables (at - refers t table)))
    by true e rest = (0, omega arith, place_among (refers_to t) table.foreign at, asked_inside (refers_to t) (child_test 0 table []) table.foreign at (subst (λ n. at < n) (sym (naming_length t [] 0 table table.foreign)) (grind (arith, e))), refl)
    by false e rest = later (rest (grind (arith, e)))
      where
        later : IsDeleteRefusal tables (child_refusal_at t tables (at - refers t table)) → IsDeleteRefusal (table ∷ tables) (child_refusal_at t tables (at - refers t table))
        later (child, inside, place, there, is) = (suc child, omega arith, place, there, is)

-- ---- one table after another

pub child_rest : (t : ℕ) (table : Table) (rest tables : List Table) (own at : ℕ) → tables ≡ table ∷ rest → own ≡ refers t table → own ≤ at → at < referring_count tables t → at - own < referring_count rest t
child_rest t table rest tables own at is counted past within =
    let sum = ap (λ ts. referring_count ts t) is ∙ sum_by-cons (refers t) table rest in
    omega (arith, sum, counted, past, within)

pub child_place : (t : ℕ) (table : Table) (own at : ℕ) (foreign : List Foreign) (place : ℕ) → foreign ≡ table.foreign → own ≡ refers t table → at < own → place ≡ place_among (refers_to t) foreign at → length table.foreign ≤ 4 → place < 4
child_place t table own at foreign place are counted less is few =
    let inside = asked_inside (refers_to t) (child_test 0 table []) table.foreign at (omega (arith, naming_length t [] 0 table table.foreign, counted, less)) in
    let same : place ≡ place_among (refers_to t) table.foreign at = is ∙ ap (λ fs. place_among (refers_to t) fs at) are in
    omega (arith, same, inside, few)

pub child_within : (t : ℕ) (key : List Value) (tables : List Table) (tests : List Test) (found : Option ℕ) (at : ℕ) → tests ≡ child_tests t key 1 tables → found ≡ Some at → IfSome found (λ i. i < length tests) → at < referring_count tables t
child_within t key tables tests found at are is inside =
    let here : at < length tests = subst (λ (o : Option ℕ). IfSome o (λ i. i < length tests)) is inside in
    omega (arith, here, ap length are, child_length t key 1 tables)

-- ---- what they cost

module _ (changes : List Change) (removers : ℕ) (thin : RemovesAtMost removers changes) where
  naming_entries : (t : ℕ) (key : List Value) (u : ℕ) (table : Table) (foreign : List Foreign) → sum_by (seen_entries changes) (map (child_test u table key) (filter (refers_to t) foreign)) ≤ sum_by (names_behind removers t) foreign
  naming_entries t key u table [] = omega arith
  naming_entries t key u table (f ∷ foreign) =
      let rest = naming_entries t key u table foreign in
      let most = group_entries changes removers thin u table f.cols key 1 in
      let first = sum_by-cons (seen_entries changes) (child_test u table key f) (map (child_test u table key) (filter (refers_to t) foreign)) in
      elim (refers_to t f) as (λ b. sum_by (names_behind removers t) (f ∷ foreign) ≡ cond b (1 + removers) 0 + sum_by (names_behind removers t) foreign → sum_by (seen_entries changes) (map (child_test u table key) (cond b (f ∷ filter (refers_to t) foreign) (filter (refers_to t) foreign))) ≤ sum_by (names_behind removers t) (f ∷ foreign)) [
        | true ↦ λ sum. omega (arith, rest, sum, most, first)
        | false ↦ λ sum. omega (arith, rest, sum)
      ] (sum_by-cons (names_behind removers t) f foreign)

  child_entries : (t : ℕ) (key : List Value) (u : ℕ) (tables : List Table) → sum_by (seen_entries changes) (child_tests t key u tables) ≤ referring_behind removers tables t
  child_entries t key u [] = omega arith
  child_entries t key u (table ∷ tables) =
      let here = naming_entries t key u table table.foreign in
      let rest = child_entries t key (u + 1) tables in
      omega (arith, here, rest, sum_by-append (seen_entries changes) (naming_tests t key u table) (child_tests t key (u + 1) tables), sum_by-cons (refers_behind removers t) table tables)

  pub children_cheap : (t : ℕ) (key : List Value) (tables : List Table) (tests : List Test) → tests ≡ child_tests t key 1 tables → AreCheap changes tests (referring_count tables t) (referring_behind removers tables t)
  children_cheap t key tables tests are =
      let long = child_length t key 1 tables in
      subst (λ ts. AreCheap changes ts (referring_count tables t) (referring_behind removers tables t)) (sym are) record { few = omega (arith, long); short = child_entries t key 1 tables }

  naming_countable : removers ≤ 256 → (t : ℕ) (key : List Value) (u : ℕ) (table : Table) (foreign : List Foreign) → AreCountable changes (map (child_test u table key) (filter (refers_to t) foreign))
  naming_countable few t key u table [] = tt
  naming_countable few t key u table (f ∷ foreign) =
      let rest = naming_countable few t key u table foreign in
      let here = group_countable changes removers thin u table f.cols key 1 few (omega arith) (omega arith) in
      elim (refers_to t f) as (λ b. AreCountable changes (map (child_test u table key) (cond b (f ∷ filter (refers_to t) foreign) (filter (refers_to t) foreign)))) [
        | true ↦ (here, rest)
        | false ↦ rest
      ]

  countable_append : (xs ys : List Test) → AreCountable changes xs → AreCountable changes ys → AreCountable changes (xs ++ ys)
  countable_append [] ys first second = second
  countable_append (x ∷ xs) ys first second = (first.0, countable_append xs ys first.1 second)

  child_countable : removers ≤ 256 → (t : ℕ) (key : List Value) (u : ℕ) (tables : List Table) → AreCountable changes (child_tests t key u tables)
  child_countable few t key u [] = tt
  child_countable few t key u (table ∷ tables) = countable_append (naming_tests t key u table) (child_tests t key (u + 1) tables) (naming_countable few t key u table table.foreign) (child_countable few t key (u + 1) tables)

  pub children_countable : removers ≤ 256 → (t : ℕ) (key : List Value) (tables : List Table) (tests : List Test) → tests ≡ child_tests t key 1 tables → AreCountable changes tests
  children_countable few t key tables tests are = subst (λ ts. AreCountable changes ts) (sym are) (child_countable few t key 1 tables)

  pub children_rounds : (t : ℕ) (key : List Value) (tables : List Table) (tests : List Test) → tests ≡ child_tests t key 1 tables → held_rounds changes tests ≤ test_rounds changes (referring_count tables t)
  children_rounds t key tables tests are =
      let long = ap length are ∙ child_length t key 1 tables in
      rounds_within changes tests (referring_count tables t) (omega (arith, long, crowded_few changes tests))

-- all that the tests take, asked for at once
pub children_spend : {S L : Type 0} (s : Ghosts S L) (before after : PendingCalls S L) (t : ℕ) (key : List Value) (tables : List Table) (tests : List Test) → tests ≡ child_tests t key 1 tables → RemovesAtMost before.pending.now.removers before.pending.now.changes
    → Uses s.content s.faults before after (length tests) (sum_by (seen_entries before.pending.now.changes) tests) → s.rounds after.store.now ≤ s.rounds before.store.now + held_rounds before.pending.now.changes tests
    → Spends s before after (children_behind before.pending.now.removers tables t) (test_rounds before.pending.now.changes (referring_count tables t))
children_spend s before after t key tables tests are thin uses rounds =
    let cheap = children_cheap before.pending.now.changes before.pending.now.removers thin t key tables tests are in
    let few = children_rounds before.pending.now.changes before.pending.now.removers thin t key tables tests are in
    record { uses = uses_within s.content s.faults before after _ _ _ _ uses cheap.few cheap.short; rounds = omega (arith, rounds, few) }
