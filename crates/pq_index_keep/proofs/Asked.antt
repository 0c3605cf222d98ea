-- What the tests of a row, and the place of the first that holds, tell of its refusals.
use Rattle.std.proofs.Common.{◌≡◌, ◌≤◌, ◌<◌, ◌+◌, ◌-◌, ℕ, suc, Bool, true, false, cond, not, ◌&&◌, List, [], ◌∷◌, ◌++◌, filter, length, map, take, get_or, position, Option, Some, None, inl, inr, refl, sym, ap, subst, ◌∙◌, append_assoc, arith}
use Rattle.std.specs.Prelude.{All, IfSome, IfNone, IsSome, is_none, is_some, option_map, nat_lt, if◌then◌else◌}
use Rattle.std.specs.FinMap.{get}
use Rattle.std.specs.List.{AllByRecursion, count_by, sum_by}
use Rattle.std.proofs.lemmas.Bool.{lt-ltb, le-ltb}
use Rattle.std.proofs.lemmas.List.{append-nil, length-append, length-map, map-append, take_more}
use Rattle.std.proofs.lemmas.List.Sums.{sum_by-cons, sum_by-append}
use Rattle.std.proofs.lemmas.List.Elements.{All-head, All-tail, filter-append}
use Rattle.pq_base.specs.Answers.{or_else}
use Rattle.pq_base.specs.Columns.{set_of}
use Rattle.pq_base.specs.Values.{AllFit, has_null}
use Rattle.pq_base.specs.declared.refusal.Refusal.{Refusal}
use Rattle.pq_base.specs.declared.refusal.Refusal.TheVariants.{DuplicateKey}
use Rattle.pq_base.specs.declared.value.Value.{Value}
use Rattle.pq_key_code.specs.KeyCode.{row_key, past_code}
use Rattle.pq_schema.specs.Definitions.{refused_if}
use Rattle.pq_schema.specs.Sequences.{group_access}
use Rattle.pq_schema.specs.Tables.{table_at}
use Rattle.pq_schema.specs.declared.table.Foreign.{Foreign}
use Rattle.pq_schema.specs.declared.table.Limit.{Limit}
use Rattle.pq_schema.specs.declared.table.Table.{Table}
use Rattle.pq_content.specs.Pairs.{Change, Pair, content_pairs}
use Rattle.pq_content.specs.Tables.{Rows, AllOfKinds, types_of, key_types, cells, key_of, row_at}
use Rattle.pq_store.specs.Content.{Content}
use Rattle.pq_store.specs.Rounds.{is_held}
use Rattle.pq_row_keys.specs.Groups.{group_key}
use Rattle.pq_store.specs.declared.store.Test.{Test}
use Rattle.pq_store.specs.declared.store.Test.TheVariants.{Has, Lacks, Full}
use Rattle.pq_store.specs.declared.store.Store.{Ghosts}
use Rattle.pq_pending.specs.Calls.{Uses}
use Rattle.pq_pending.specs.declared.calls.PendingCalls.{PendingCalls}
use Rattle.pq_pending.proofs.Steps.{uses_within}
use Rattle.pq_pending.specs.Pending.{RemovesAtMost}
use Rattle.pq_pending.specs.Tests.{is_crowded, seen_entries, IsCountable, AreCountable, held_rounds, place_among}
use Rattle.pq_pending.proofs.Firsts.{or_behind, position_append, place, place_is, IsDecided, position_asked, among_within}
use Rattle.pq_index_keep.specs.Asking.{IsOwn, own_refusal, asks_parent, parent_test, parent_tests, asks_room, room_test, room_tests, row_tests, test_refusal}
use Rattle.pq_index_keep.specs.Bounds.{tested_foreign, tested_limits, tested_n_behind, row_behind, with_more}
use Rattle.pq_index_keep.specs.NewRows.{tests_of}
use Rattle.pq_index_keep.specs.Spending.{Spends}
use Rattle.pq_index_keep.specs.declared.write.NewRow.{NewRow}
use Rattle.pq_index_keep.specs.Effects.{stays, is_missing, lacks_parent, no_parent, parent_refusal, is_full, lacks_room, no_room, room_refusal, insert_refusal}
use Rattle.pq_index_keep.specs.Promises.{HoldsRows, IsTested}
use Rattle.pq_index_keep.specs.Refusals.{IsTestRefusal, IsInsertRefusal, IsAskedRefusal}
use Rattle.pq_index_keep.specs.Rounds.{test_rounds}
use Rattle.pq_index_keep.specs.Tested.{scope_of, touches, with_sets}
use Rattle.pq_index_keep.specs.declared.write.SetCol.{SetCol}
use Rattle.pq_index_keep.specs.declared.write.Scope.{Scope}
use Rattle.pq_index_keep.specs.declared.write.Scope.TheVariants as scope
use Rattle.pq_index_keep.proofs.Inserting.{position_inside}
use Rattle.pq_index_keep.proofs.Ranged.{group_removals}
use Rattle.pq_index_keep.proofs.Tests.{told_own, told_missing, told_full}

-- ---- one item more

module _ {X : Type 0} (ask : X → Bool) (test : X → Test) (xs : List X) (i : ℕ) (x : X) (before tests : List Test) (less : i < length xs) (at : x ≡ get_or xs i x) (is : tests ≡ before ++ map test (filter ask (take i xs))) where
  taken : filter ask (take (i + 1) xs) ≡ filter ask (take i xs) ++ cond (ask x) (x ∷ []) []
  taken =
      ap (filter ask) (take_more xs i x less ∙ ap (λ y. take i xs ++ y ∷ []) (sym at))
      ∙ filter-append ask (take i xs) (x ∷ [])

  pub asked_more : (one : Test) (new : List Test) → ask x ≡ true → one ≡ test x → new ≡ tests ++ one ∷ [] → new ≡ before ++ map test (filter ask (take (i + 1) xs))
  asked_more one new asks made pushed =
      pushed
      ∙ ap (λ u. tests ++ u ∷ []) made
      ∙ ap (λ ts. ts ++ test x ∷ []) is
      ∙ append_assoc before (map test (filter ask (take i xs))) (test x ∷ [])
      ∙ ap (λ ts. before ++ ts) (sym (map-append test (filter ask (take i xs)) (x ∷ [])))
      ∙ ap (λ ys. before ++ map test ys) (sym (taken ∙ ap (λ b. filter ask (take i xs) ++ cond b (x ∷ []) []) asks))

  pub asked_same : ask x ≡ false → tests ≡ before ++ map test (filter ask (take (i + 1) xs))
  asked_same asks =
      is
      ∙ ap (λ ys. before ++ map test ys) (sym (taken ∙ ap (λ b. filter ask (take i xs) ++ cond b (x ∷ []) []) asks ∙ append-nil (filter ask (take i xs))))

-- ---- the first test that holds among those that are asked

place_map : {X Y : Type 0} (p : Y → Bool) (f : X → Y) (xs : List X) → place p (map f xs) ≡ place (λ x. p (f x)) xs
place_map p f [] = refl
place_map p f (x ∷ xs) = ap (λ r. cond (p (f x)) (Some 0) (option_map suc r)) (place_map p f xs)

-- an item whose test is asked passes just where the test holds, and no other passes
pub asked_first : {X : Type 0} (passes ask : X → Bool) (test : X → Test) (content : Content) (xs : List X) → AllByRecursion (IsDecided passes (λ x. is_held content (test x)) ask) xs
    → position passes xs ≡ option_map (place_among ask xs) (position (is_held content) (map test (filter ask xs)))
asked_first passes ask test content xs each =
    position_asked passes (λ x. is_held content (test x)) ask xs each
    ∙ ap (option_map (place_among ask xs)) (place_is (λ x. is_held content (test x)) (filter ask xs) ∙ sym (place_map (is_held content) test (filter ask xs)) ∙ sym (place_is (is_held content) (map test (filter ask xs))))

-- and the place of the item lies among the items
pub asked_inside : {X : Type 0} (ask : X → Bool) (test : X → Test) (xs : List X) (n : ℕ) → n < length (map test (filter ask xs)) → place_among ask xs n < length xs
asked_inside ask test xs n less = among_within ask xs n (subst (λ k. n < k) (length-map (filter ask xs) test) less)

pub both_asked : (a b m : Bool) → ((a && b) ≡ true → (a && (b && m)) ≡ m) × ((a && b) ≡ false → (a && (b && m)) ≡ false)
both_asked true true m = (λ e. refl, λ e. absurd (cc))
both_asked true false m = (λ e. absurd (cc), λ e. refl)
both_asked false b m = (λ e. absurd (cc), λ e. refl)

pub all_asked : (a s b m : Bool) → ((a && (s && b)) ≡ true → ((a && s) && (b && m)) ≡ m) × ((a && (s && b)) ≡ false → ((a && s) && (b && m)) ≡ false)
all_asked true true true m = (λ e. refl, λ e. absurd (cc))
all_asked true true false m = (λ e. absurd (cc), λ e. refl)
all_asked true false b m = (λ e. absurd (cc), λ e. refl)
all_asked false s b m = (λ e. absurd (cc), λ e. refl)

-- ---- rows that the content has

none_not : (o : Option (List ℕ)) → is_none o ≡ not (is_some o)
none_not None = refl
none_not (Some value) = refl

module _ (tables : List Table) (rows : Rows) (others : List Pair) (content : Content) (holds : HoldsRows (Some content) tables rows others) where
  parents_decided : (of : Scope) (row : List Value) (foreign : List Foreign) → All (λ f. AllOfKinds (key_types (table_at tables f.table)) (cells f.cols row)) foreign
      → AllByRecursion (IsDecided (lacks_parent tables rows of row) (λ f. is_held content (parent_test row f)) (asks_parent of row)) foreign
  parents_decided of row [] kinds = tt
  parents_decided of row (f ∷ foreign) kinds =
      let K : Foreign → Type 0 = λ f. AllOfKinds (key_types (table_at tables f.table)) (cells f.cols row) in
      let held : is_held content (parent_test row f) ≡ is_missing tables rows row f =
      none_not (get content (row_key f.table (cells f.cols row))) ∙ told_missing tables rows others (Some content) row f (is_some (get content (row_key f.table (cells f.cols row)))) holds (All-head K f foreign kinds) refl in
      let parts = both_asked (touches of f.cols) (not (has_null (cells f.cols row))) (is_missing tables rows row f) in
      ((λ asked. parts.0 asked ∙ sym held, parts.1), parents_decided of row foreign (All-tail K f foreign kinds))

  pub parents_found : (of : Scope) (row : List Value) (foreign : List Foreign) → All (λ f. AllOfKinds (key_types (table_at tables f.table)) (cells f.cols row)) foreign
      → position (lacks_parent tables rows of row) foreign ≡ option_map (place_among (asks_parent of row) foreign) (position (is_held content) (parent_tests of row foreign))
  parents_found of row foreign kinds = asked_first (lacks_parent tables rows of row) (asks_parent of row) (parent_test row) content foreign (parents_decided of row foreign kinds)

  module _ (of : Scope) (old : Option (List Value)) (t : ℕ) (table : Table) (row : List Value) (is : table ≡ table_at tables t) (fits : AllFit (types_of table) row) where
    rooms_decided : (limits : List Limit) → All (λ limit. IsSome (group_access table (set_of limit.cols))) limits
        → AllByRecursion (IsDecided (lacks_room rows of old t row) (λ limit. is_held content (room_test t table row limit)) (asks_room of old row)) limits
    rooms_decided [] access = tt
    rooms_decided (limit ∷ limits) access =
        let A : Limit → Type 0 = λ limit. IsSome (group_access table (set_of limit.cols)) in
        let held : is_held content (room_test t table row limit) ≡ is_full rows t row limit =
        told_full tables rows others (Some content) t table row limit _ holds is (All-head A limit limits access) fits refl in
        let parts = all_asked (touches of limit.cols) (not (stays old row limit.cols)) (not (has_null (cells limit.cols row))) (is_full rows t row limit) in
        ((λ asked. parts.0 asked ∙ sym held, parts.1), rooms_decided limits (All-tail A limit limits access))

    pub rooms_found : (limits : List Limit) → All (λ limit. IsSome (group_access table (set_of limit.cols))) limits
        → position (lacks_room rows of old t row) limits ≡ option_map (place_among (asks_room of old row) limits) (position (is_held content) (room_tests of old t table row limits))
    rooms_found limits access = asked_first (lacks_room rows of old t row) (asks_room of old row) (room_test t table row) content limits (rooms_decided limits access)

  -- whether the row's own key is taken
  own_found : (t : ℕ) (table : Table) (row : List Value) (own : List Test) → table ≡ table_at tables t → AllFit (types_of table) row → IsOwn t table row own
      → option_map (λ i. DuplicateKey table.name) (position (is_held content) own) ≡ own_refusal tables rows t table row own
  own_found t table row [] is fits kind = refl
  own_found t table row (test ∷ tests) is fits kind =
      ap (λ ts. option_map (λ i. DuplicateKey table.name) (position (is_held content) (test ∷ ts))) kind.1
      ∙ ap (λ u. option_map (λ i. DuplicateKey table.name) (position (is_held content) (u ∷ []))) kind.0
      ∙ ap (option_map (λ i. DuplicateKey table.name)) (place_is (is_held content) (Has (row_key t (key_of table row)) ∷ []))
      ∙ by (is_some (get content (row_key t (key_of table row)))) (is_some (row_at tables rows t (key_of table row))) (told_own tables rows others (Some content) t table row (row_key t (key_of table row)) _ holds is fits refl refl)
    where
      by : (b there : Bool) → b ≡ there → option_map (λ i. DuplicateKey table.name) (cond b (Some 0) (option_map suc None)) ≡ refused_if there (DuplicateKey table.name)
      by true true e = refl
      by true false e = absurd (cc)
      by false true e = absurd (cc)
      by false false e = refl

-- ---- three lists of tests, one behind another

picked : (o n : ℕ) (f g h : ℕ → Refusal) (a b c : Option ℕ) → IfSome a (λ i. i < o) → IfSome b (λ i. i < n)
    → option_map (λ at. if nat_lt at o then f at else (if nat_lt at (o + n) then g (at - o) else h (at - (o + n)))) (or_behind o a (or_behind n b c)) ≡ or_else (option_map f a) (or_else (option_map g b) (option_map h c))
picked o n f g h (Some i) b c first second =
    ap Some (ap (λ t. cond t (f i) (cond (nat_lt i (o + n)) (g (i - o)) (h (i - (o + n))))) (lt-ltb i o first))
picked o n f g h None (Some j) c first second =
    let back : o + j - o ≡ j = omega arith in
    ap Some
    (ap (λ t. cond t (f (o + j)) (cond (nat_lt (o + j) (o + n)) (g (o + j - o)) (h (o + j - (o + n))))) (le-ltb (o + j) o (omega arith))
    ∙ ap (λ t. cond t (g (o + j - o)) (h (o + j - (o + n)))) (lt-ltb (o + j) (o + n) (omega arith))
    ∙ ap g back)
picked o n f g h None None None first second = refl
picked o n f g h None None (Some k) first second =
    let back : o + (n + k) - (o + n) ≡ k = omega arith in
    ap Some
    (ap (λ t. cond t (f (o + (n + k))) (cond (nat_lt (o + (n + k)) (o + n)) (g (o + (n + k) - o)) (h (o + (n + k) - (o + n))))) (le-ltb (o + (n + k)) o (omega arith))
    ∙ ap (λ t. cond t (g (o + (n + k) - o)) (h (o + (n + k) - (o + n)))) (le-ltb (o + (n + k)) (o + n) (omega arith))
    ∙ ap h back)

inside : {X : Type 0} (p : X → Bool) (xs : List X) → IfSome (position p xs) (λ i. i < length xs)
inside p xs = by (position p xs) refl
  where
    by : (o : Option ℕ) → position p xs ≡ o → IfSome o (λ i. i < length xs)
    by None e = tt
    by (Some i) e = position_inside p xs i e

mapped_twice : {A B C : Type 0} (f : B → C) (g : A → B) (o : Option A) → option_map f (option_map g o) ≡ option_map (λ a. f (g a)) o
mapped_twice f g None = refl
mapped_twice f g (Some a) = refl

-- the first test that holds is that of the first refusal
first_here : (tables : List Table) (rows : Rows) (others : List Pair) (content : Content) → HoldsRows (Some content) tables rows others → (own : List Test) (of : Scope) (old : Option (List Value)) (t : ℕ) (table : Table) (row : List Value)
    → table ≡ table_at tables t → IsTested tables table row → All (λ limit. IsSome (group_access table (set_of limit.cols))) table.limits → IsOwn t table row own
    → option_map (test_refusal (length own) (length own + length (parent_tests of row table.foreign)) of old table row) (position (is_held content) (own ++ row_tests of old t table row))
    ≡ or_else (own_refusal tables rows t table row own) (or_else (parent_refusal tables rows of table row) (room_refusal rows of old t table row))
first_here tables rows others content holds own of old t table row is tested access kind =
    let parents = parent_tests of row table.foreign in
    let rooms = room_tests of old t table row table.limits in
    let held = is_held content in
    let taken : ℕ → Refusal = λ i. DuplicateKey table.name in
    let named : ℕ → Refusal = λ n. no_parent table (place_among (asks_parent of row) table.foreign n) in
    let full : ℕ → Refusal = λ n. no_room table (place_among (asks_room of old row) table.limits n) in
    let by_parent : option_map named (position held parents) ≡ parent_refusal tables rows of table row =
    sym (mapped_twice (no_parent table) (place_among (asks_parent of row) table.foreign) (position held parents))
    ∙ ap (option_map (no_parent table)) (sym (parents_found tables rows others content holds of row table.foreign tested.parents)) in
    let by_room : option_map full (position held rooms) ≡ room_refusal rows of old t table row =
    sym (mapped_twice (no_room table) (place_among (asks_room of old row) table.limits) (position held rooms))
    ∙ ap (option_map (no_room table)) (sym (rooms_found tables rows others content holds of old t table row is tested.fits table.limits access)) in
    ap (option_map (test_refusal (length own) (length own + length parents) of old table row)) (position_append held own (parents ++ rooms) ∙ ap (or_behind (length own) (position held own)) (position_append held parents rooms))
    ∙ picked (length own) (length parents) taken named full (position held own) (position held parents) (position held rooms) (inside held own) (inside held parents)
    ∙ ap (λ r. or_else r (or_else (option_map named (position held parents)) (option_map full (position held rooms)))) (own_found tables rows others content holds t table row own is tested.fits kind)
    ∙ ap (λ r. or_else (own_refusal tables rows t table row own) (or_else r (option_map full (position held rooms)))) by_parent
    ∙ ap (λ r. or_else (own_refusal tables rows t table row own) (or_else (parent_refusal tables rows of table row) r)) by_room

pub first_told : (tables : List Table) (rows : Rows) (others : List Pair) (told : Option Content) → HoldsRows told tables rows others → (own tests : List Test) (of : Scope) (old : Option (List Value)) (t : ℕ) (table : Table) (row : List Value) (first parents : ℕ) (at : Option ℕ) (refusal : Option Refusal)
    → table ≡ table_at tables t → IsTested tables table row → All (λ limit. IsSome (group_access table (set_of limit.cols))) table.limits → IsOwn t table row own
    → tests ≡ own ++ row_tests of old t table row → first ≡ length own → parents ≡ length own + length (parent_tests of row table.foreign)
    → IfSome told (λ c. at ≡ position (is_held c) tests) → refusal ≡ option_map (test_refusal first parents of old table row) at
    → refusal ≡ or_else (own_refusal tables rows t table row own) (or_else (parent_refusal tables rows of table row) (room_refusal rows of old t table row))
first_told tables rows others told holds own tests of old t table row first parents at refusal is tested access kind are counted ended found made =
    let content = content_pairs tables rows others in
    let here : HoldsRows (Some content) tables rows others = subst (λ (o : Option Content). HoldsRows o tables rows others) holds.is holds in
    let at_is : at ≡ position (is_held content) tests = subst (λ (o : Option Content). IfSome o (λ c. at ≡ position (is_held c) tests)) holds.is found in
    made
    ∙ ap (λ n. option_map (test_refusal n parents of old table row) at) counted
    ∙ ap (λ n. option_map (test_refusal (length own) n of old table row) at) ended
    ∙ ap (option_map (test_refusal (length own) (length own + length (parent_tests of row table.foreign)) of old table row)) (at_is ∙ ap (position (is_held content)) are)
    ∙ first_here tables rows others content here own of old t table row is tested access kind

-- ---- each test is of a foreign key or a limit that is there

module _ (own : List Test) (of : Scope) (old : Option (List Value)) (t : ℕ) (table : Table) (row : List Value) (tests : List Test) (first parents at : ℕ)
    (are : tests ≡ own ++ row_tests of old t table row) (counted : first ≡ length own) (ended : parents ≡ length own + length (parent_tests of row table.foreign)) (within : at < length tests) where
  all_length : length tests ≡ length own + (length (parent_tests of row table.foreign) + length (room_tests of old t table row table.limits))
  all_length =
      ap length are
      ∙ length-append own (row_tests of old t table row)
      ∙ ap (λ n. length own + n) (length-append (parent_tests of row table.foreign) (room_tests of old t table row table.limits))

  pub parent_there : first ≤ at → at < parents → place_among (asks_parent of row) table.foreign (at - first) < length table.foreign
  parent_there from upto = asked_inside (asks_parent of row) (parent_test row) table.foreign (at - first) (omega (arith, counted, ended, from, upto))

  pub room_there : parents ≤ at → place_among (asks_room of old row) table.limits (at - parents) < length table.limits
  room_there from = asked_inside (asks_room of old row) (room_test t table row) table.limits (at - parents) (omega (arith, ended, from, within, all_length))

  own_or_test : (why : Refusal) → why ≡ test_refusal first parents of old table row at → (at < first → IsAskedRefusal own table why) → (IsTestRefusal table why → IsAskedRefusal own table why) → IsAskedRefusal own table why
  own_or_test why made taken tested = by (nat_lt at first) refl (nat_lt at parents) refl made
    where
      by : (b : Bool) → nat_lt at first ≡ b → (d : Bool) → nat_lt at parents ≡ d
          → why ≡ cond b (DuplicateKey table.name) (cond d (no_parent table (place_among (asks_parent of row) table.foreign (at - first))) (no_room table (place_among (asks_room of old row) table.limits (at - parents)))) → IsAskedRefusal own table why
      by true e d e' is = taken (less at first e)
        where
          less : (n m : ℕ) → nat_lt n m ≡ true → n < m
          less n m e = grind (arith, e)
      by false e true e' is = tested (inl (place_among (asks_parent of row) table.foreign (at - first), parent_there (grind (arith, e)) (grind (arith, e')), is))
      by false e false e' is = tested (inr (place_among (asks_room of old row) table.limits (at - parents), room_there (grind (arith, e')), is))

-- the refusal is one that the row can have
pub asked_can : (own : List Test) (of : Scope) (old : Option (List Value)) (t : ℕ) (table : Table) (row : List Value) (tests : List Test) (first parents at : ℕ)
    → tests ≡ own ++ row_tests of old t table row → first ≡ length own → parents ≡ length own + length (parent_tests of row table.foreign) → at < length tests
    → (why : Refusal) → why ≡ test_refusal first parents of old table row at → IsAskedRefusal own table why
asked_can [] of old t table row tests first parents at are counted ended within why made =
    own_or_test [] of old t table row tests first parents at are counted ended within why made (λ less. absurd (omega (arith, counted, less))) (λ is. is)
asked_can (test ∷ own) of old t table row tests first parents at are counted ended within why made =
    let first_is : (at < first → IsInsertRefusal table why) = λ less. inl (made ∙ ap (λ b. cond b (DuplicateKey table.name) (cond (nat_lt at parents) (no_parent table (place_among (asks_parent of row) table.foreign (at - first))) (no_room table (place_among (asks_room of old row) table.limits (at - parents))))) (lt-ltb at first less)) in
    own_or_test (test ∷ own) of old t table row tests first parents at are counted ended within why made first_is inr

pub held_inside : (tests : List Test) (found : Option ℕ) (at : ℕ) → found ≡ Some at → IfSome found (λ i. i < length tests) → at < length tests
held_inside tests found at is inside = subst (λ (o : Option ℕ). IfSome o (λ i. i < length tests)) is inside

-- ---- a row whose key is asked for, and one whose key isn't

abbrev by_table : List Table → Rows → ℕ → List Value → Table → Option Refusal
by_table tables rows t row table =
    or_else (refused_if (is_some (row_at tables rows t (key_of table row))) (DuplicateKey table.name))
    (or_else (parent_refusal tables rows scope.All table row) (room_refusal rows scope.All None t table row))

pub inserted : (tables : List Table) (rows : Rows) (t : ℕ) (row : List Value) (table : Table) (own : List Test) (at : List ℕ) (got : Option Refusal) → own ≡ Has at ∷ [] → table ≡ table_at tables t
    → got ≡ or_else (own_refusal tables rows t table row own) (or_else (parent_refusal tables rows scope.All table row) (room_refusal rows scope.All None t table row)) → got ≡ insert_refusal tables rows t row
inserted tables rows t row table own at got are is h =
    h
    ∙ ap (λ o. or_else (own_refusal tables rows t table row o) (or_else (parent_refusal tables rows scope.All table row) (room_refusal rows scope.All None t table row))) are
    ∙ ap (by_table tables rows t row) is

-- ---- what the tests cost

-- so many operations and entries for each item at most
pub record AreCheap (changes : List Change) (tests : List Test) (ops entries : ℕ) : Type 0 where
  pub few : length tests ≤ ops
  pub short : sum_by (seen_entries changes) tests ≤ entries

parents_cheap : (changes : List Change) (of : Scope) (row : List Value) (foreign : List Foreign) → AreCheap changes (parent_tests of row foreign) (tested_foreign of foreign) (tested_foreign of foreign)
parents_cheap changes of row [] = record { few = omega arith; short = omega arith }
parents_cheap changes of row (f ∷ foreign) =
    let rest = parents_cheap changes of row foreign in
    let few = rest.few in
    let short = rest.short in
    let here = sum_by-cons (λ (f : Foreign). cond (touches of f.cols) 1 0) f foreign in
    let first = sum_by-cons (seen_entries changes) (parent_test row f) (parent_tests of row foreign) in
    by (touches of f.cols) (not (has_null (cells f.cols row))) few short here first
  where
    by : (a b : Bool) → length (parent_tests of row foreign) ≤ tested_foreign of foreign → sum_by (seen_entries changes) (parent_tests of row foreign) ≤ tested_foreign of foreign
        → tested_foreign of (f ∷ foreign) ≡ cond a 1 0 + tested_foreign of foreign
        → sum_by (seen_entries changes) (parent_test row f ∷ parent_tests of row foreign) ≡ 1 + sum_by (seen_entries changes) (parent_tests of row foreign)
        → AreCheap changes (map (parent_test row) (cond (a && b) (f ∷ filter (asks_parent of row) foreign) (filter (asks_parent of row) foreign))) (tested_foreign of (f ∷ foreign)) (tested_foreign of (f ∷ foreign))
    by true true few short here first = record { few = omega (arith, few, here); short = omega (arith, short, here, first) }
    by true false few short here first = record { few = omega (arith, few, here); short = omega (arith, short, here) }
    by false b few short here first = record { few = omega (arith, few, here); short = omega (arith, short, here) }

-- a count of a group may read as many pairs more as there are writes that remove some
module _ (changes : List Change) (removers : ℕ) (thin : RemovesAtMost removers changes) where
  pub group_entries : (t : ℕ) (table : Table) (cols : List ℕ) (values : List Value) (n : ℕ) → seen_entries changes (Full (record { low = group_key t table cols values; high = past_code (group_key t table cols values) }) n) ≤ n + removers
  group_entries t table cols values n = let some = group_removals t table cols values removers changes thin in omega (arith, some)

  pub group_countable : (t : ℕ) (table : Table) (cols : List ℕ) (values : List Value) (n : ℕ) → removers ≤ 256 → 1 ≤ n → n ≤ 10000 → IsCountable changes (Full (record { low = group_key t table cols values; high = past_code (group_key t table cols values) }) n)
  group_countable t table cols values n few from most = let some = group_removals t table cols values removers changes thin in (from, omega (arith, some, few, most))

  rooms_cheap : (of : Scope) (old : Option (List Value)) (t : ℕ) (table : Table) (row : List Value) (limits : List Limit) → AreCheap changes (room_tests of old t table row limits) (tested_limits of limits) (sum_by (tested_n_behind removers of) limits)
  rooms_cheap of old t table row [] = record { few = omega arith; short = omega arith }
  rooms_cheap of old t table row (limit ∷ limits) =
      let rest = rooms_cheap of old t table row limits in
      let few = rest.few in
      let short = rest.short in
      let here = sum_by-cons (λ (limit : Limit). cond (touches of limit.cols) 1 0) limit limits in
      let cost = sum_by-cons (tested_n_behind removers of) limit limits in
      let first = sum_by-cons (seen_entries changes) (room_test t table row limit) (room_tests of old t table row limits) in
      let most = group_entries t table limit.cols (cells limit.cols row) limit.n in
      by (touches of limit.cols) (not (stays old row limit.cols) && not (has_null (cells limit.cols row))) few short here cost first most
    where
      by : (a b : Bool) → length (room_tests of old t table row limits) ≤ tested_limits of limits → sum_by (seen_entries changes) (room_tests of old t table row limits) ≤ sum_by (tested_n_behind removers of) limits
          → tested_limits of (limit ∷ limits) ≡ cond a 1 0 + tested_limits of limits
          → sum_by (tested_n_behind removers of) (limit ∷ limits) ≡ cond a (limit.n + removers) 0 + sum_by (tested_n_behind removers of) limits
          → sum_by (seen_entries changes) (room_test t table row limit ∷ room_tests of old t table row limits) ≡ seen_entries changes (room_test t table row limit) + sum_by (seen_entries changes) (room_tests of old t table row limits)
          → seen_entries changes (room_test t table row limit) ≤ limit.n + removers
          → AreCheap changes (map (room_test t table row) (cond (a && b) (limit ∷ filter (asks_room of old row) limits) (filter (asks_room of old row) limits))) (tested_limits of (limit ∷ limits)) (sum_by (tested_n_behind removers of) (limit ∷ limits))
      by true true few short here cost first most = record { few = omega (arith, few, here); short = omega (arith, short, cost, first, most) }
      by true false few short here cost first most = record { few = omega (arith, few, here); short = omega (arith, short, cost) }
      by false b few short here cost first most = record { few = omega (arith, few, here); short = omega (arith, short, cost) }

  own_cheap : (t : ℕ) (table : Table) (row : List Value) (own : List Test) → IsOwn t table row own → sum_by (seen_entries changes) own ≡ length own
  own_cheap t table row [] kind = refl
  own_cheap t table row (test ∷ tests) kind =
      ap (λ ts. sum_by (seen_entries changes) (test ∷ ts)) kind.1 ∙ ap (λ u. sum_by (seen_entries changes) (u ∷ [])) kind.0 ∙ sym (ap (λ ts. length (test ∷ ts)) kind.1)

  pub tests_cheap : (own tests : List Test) (of : Scope) (old : Option (List Value)) (t : ℕ) (table : Table) (row : List Value) → IsOwn t table row own → tests ≡ own ++ row_tests of old t table row
      → AreCheap changes tests (length own + (tested_foreign of table.foreign + tested_limits of table.limits)) (length own + (tested_foreign of table.foreign + sum_by (tested_n_behind removers of) table.limits))
  tests_cheap own tests of old t table row kind are =
      let parents = parents_cheap changes of row table.foreign in
      let rooms = rooms_cheap of old t table row table.limits in
      let named = parents.few in
      let named_sum = parents.short in
      let full = rooms.few in
      let full_sum = rooms.short in
      let ps = parent_tests of row table.foreign in
      let rs = room_tests of old t table row table.limits in
      let long = length-append own (ps ++ rs) in
      let longer = length-append ps rs in
      let sum = sum_by-append (seen_entries changes) own (ps ++ rs) in
      let sums = sum_by-append (seen_entries changes) ps rs in
      let own_sum = own_cheap t table row own kind in
      subst (λ ts. AreCheap changes ts (length own + (tested_foreign of table.foreign + tested_limits of table.limits)) (length own + (tested_foreign of table.foreign + sum_by (tested_n_behind removers of) table.limits))) (sym are)
      record { few = omega (arith, long, longer, named, full); short = omega (arith, sum, sums, own_sum, named_sum, full_sum) }

-- ---- each count is one

countable_append : (changes : List Change) (xs ys : List Test) → AreCountable changes xs → AreCountable changes ys → AreCountable changes (xs ++ ys)
countable_append changes [] ys first second = second
countable_append changes (x ∷ xs) ys first second = (first.0, countable_append changes xs ys first.1 second)

own_countable : (changes : List Change) (t : ℕ) (table : Table) (row : List Value) (own : List Test) → IsOwn t table row own → AreCountable changes own
own_countable changes t table row [] kind = tt
own_countable changes t table row (test ∷ tests) kind = subst (λ ts. AreCountable changes (test ∷ ts)) (sym kind.1) (subst (λ (u : Test). IsCountable changes u) (sym kind.0) tt, tt)

parents_countable : (changes : List Change) (row : List Value) (foreign : List Foreign) → AreCountable changes (map (parent_test row) foreign)
parents_countable changes row [] = tt
parents_countable changes row (f ∷ foreign) = (tt, parents_countable changes row foreign)

rooms_countable : (changes : List Change) (removers : ℕ) → RemovesAtMost removers changes → removers ≤ 256 → (ask : Limit → Bool) (t : ℕ) (table : Table) (row : List Value) (limits : List Limit) → All (λ limit. 1 ≤ limit.n) limits → All (λ limit. limit.n ≤ 10000) limits
    → AreCountable changes (map (room_test t table row) (filter ask limits))
rooms_countable changes removers thin few ask t table row [] from most = tt
rooms_countable changes removers thin few ask t table row (limit ∷ limits) from most =
    let F : Limit → Type 0 = λ limit. 1 ≤ limit.n in
    let M : Limit → Type 0 = λ limit. limit.n ≤ 10000 in
    let rest = rooms_countable changes removers thin few ask t table row limits (All-tail F limit limits from) (All-tail M limit limits most) in
    let here = group_countable changes removers thin t table limit.cols (cells limit.cols row) limit.n few (All-head F limit limits from) (All-head M limit limits most) in
    elim (ask limit) as (λ b. AreCountable changes (map (room_test t table row) (cond b (limit ∷ filter ask limits) (filter ask limits)))) [
      | true ↦ (here, rest)
      | false ↦ rest
    ]

pub tests_countable : (changes : List Change) (removers : ℕ) → RemovesAtMost removers changes → removers ≤ 256 → (own tests : List Test) (of : Scope) (old : Option (List Value)) (t : ℕ) (table : Table) (row : List Value) → IsOwn t table row own → All (λ limit. 1 ≤ limit.n) table.limits → All (λ limit. limit.n ≤ 10000) table.limits
    → tests ≡ own ++ row_tests of old t table row → AreCountable changes tests
tests_countable changes removers thin few own tests of old t table row kind from most are =
    subst (λ ts. AreCountable changes ts) (sym are)
    (countable_append changes own (row_tests of old t table row) (own_countable changes t table row own kind)
    (countable_append changes (parent_tests of row table.foreign) (room_tests of old t table row table.limits) (parents_countable changes row (filter (asks_parent of row) table.foreign)) (rooms_countable changes removers thin few (asks_room of old row) t table row table.limits from most)))

-- ---- how often the store is asked

abbrev pub crowded : List Change → List Test → ℕ
crowded changes tests = count_by (is_crowded changes) tests

pub crowded_append : (changes : List Change) (xs ys : List Test) → crowded changes (xs ++ ys) ≡ crowded changes xs + crowded changes ys
crowded_append changes xs ys = sum_by-append (λ test. cond (is_crowded changes test) 1 0) xs ys

never_crowded : (tests : List Test) → crowded [] tests ≡ 0
never_crowded [] = refl
never_crowded (Has key ∷ tests) = sum_by-cons (λ test. cond (is_crowded [] test) 1 0) (Has key) tests ∙ omega (arith, never_crowded tests)
never_crowded (Lacks key ∷ tests) = sum_by-cons (λ test. cond (is_crowded [] test) 1 0) (Lacks key) tests ∙ omega (arith, never_crowded tests)
never_crowded (Full ends n ∷ tests) = sum_by-cons (λ test. cond (is_crowded [] test) 1 0) (Full ends n) tests ∙ omega (arith, never_crowded tests)

pub rounds_within : (changes : List Change) (tests : List Test) (n : ℕ) → crowded changes tests ≤ n → held_rounds changes tests ≤ test_rounds changes n
rounds_within [] tests n few = omega (arith, never_crowded tests)
rounds_within (change ∷ changes) tests n few = omega (arith, few)

pub crowded_few : (changes : List Change) (tests : List Test) → crowded changes tests ≤ length tests
crowded_few changes [] = omega arith
crowded_few changes (test ∷ tests) =
    let rest = crowded_few changes tests in
    let sum = sum_by-cons (λ test. cond (is_crowded changes test) 1 0) test tests in
    elim (is_crowded changes test) as (λ b. crowded changes (test ∷ tests) ≡ cond b 1 0 + crowded changes tests → crowded changes (test ∷ tests) ≤ length (test ∷ tests)) [
      | true ↦ λ s. omega (arith, rest, s)
      | false ↦ λ s. omega (arith, rest, s)
    ] sum

own_free : (changes : List Change) (t : ℕ) (table : Table) (row : List Value) (own : List Test) → IsOwn t table row own → crowded changes own ≡ 0
own_free changes t table row [] kind = refl
own_free changes t table row (test ∷ tests) kind = ap (λ ts. crowded changes (test ∷ ts)) kind.1 ∙ ap (λ u. crowded changes (u ∷ [])) kind.0

parents_free : (changes : List Change) (row : List Value) (foreign : List Foreign) → crowded changes (map (parent_test row) foreign) ≡ 0
parents_free changes row [] = refl
parents_free changes row (f ∷ foreign) = sum_by-cons (λ test. cond (is_crowded changes test) 1 0) (parent_test row f) (map (parent_test row) foreign) ∙ omega (arith, parents_free changes row foreign)

pub tests_rounds : (changes : List Change) (removers : ℕ) → RemovesAtMost removers changes → (own tests : List Test) (of : Scope) (old : Option (List Value)) (t : ℕ) (table : Table) (row : List Value) → IsOwn t table row own → tests ≡ own ++ row_tests of old t table row
    → held_rounds changes tests ≤ test_rounds changes (tested_limits of table.limits)
tests_rounds changes removers thin own tests of old t table row kind are =
    let ps = parent_tests of row table.foreign in
    let rs = room_tests of old t table row table.limits in
    let rooms = rooms_cheap changes removers thin of old t table row table.limits in
    let few = rooms.few in
    rounds_within changes tests (tested_limits of table.limits)
    (omega (
      arith,
      ap (crowded changes) are,
      crowded_append changes own (ps ++ rs),
      crowded_append changes ps rs,
      own_free changes t table row own kind,
      parents_free changes row (filter (asks_parent of row) table.foreign),
      crowded_few changes rs,
      few,
    ))

-- all that the tests take, asked for at once
pub asked_spend : {S L : Type 0} (s : Ghosts S L) (before after : PendingCalls S L) (own tests : List Test) (new : NewRow) → IsOwn new.number new.table.now new.row.now own → tests ≡ own ++ tests_of new → RemovesAtMost before.pending.now.removers before.pending.now.changes
    → Uses s.content s.faults before after (length tests) (sum_by (seen_entries before.pending.now.changes) tests) → s.rounds after.store.now ≤ s.rounds before.store.now + held_rounds before.pending.now.changes tests
    → Spends s before after (with_more (length own) (row_behind before.pending.now.removers new.scope.now new.table.now)) (test_rounds before.pending.now.changes (tested_limits new.scope.now new.table.now.limits))
asked_spend s before after own tests new kind are thin uses rounds =
    let cheap = tests_cheap before.pending.now.changes before.pending.now.removers thin own tests new.scope.now new.old.now new.number new.table.now new.row.now kind are in
    let few = tests_rounds before.pending.now.changes before.pending.now.removers thin own tests new.scope.now new.old.now new.number new.table.now new.row.now kind are in
    record { uses = uses_within s.content s.faults before after _ _ _ _ uses cheap.few cheap.short; rounds = omega (arith, rounds, few) }

-- ---- what is told where none holds

pub none_held : (told : Option Content) (asked tests : List Test) (at : Option ℕ) → asked ≡ tests → at ≡ None → IfSome told (λ c. at ≡ position (is_held c) asked) → IfSome told (λ c. position (is_held c) tests ≡ None)
none_held None asked tests at are none told = tt
none_held (Some c) asked tests at are none told = subst (λ (ts : List Test). position (is_held c) ts ≡ None) are (sym told ∙ none)

pub where_none : (found : Option Refusal) (P : Type 0) → found ≡ None → IfNone found P → P
where_none None P is h = h
where_none (Some why) P is h = absurd (cc)

-- the tests of an UPDATE, by the row that it finds

pub as_asked : (told : Option Content) (tables : List Table) (t : ℕ) (sets : List SetCol) (old : List Value) (of : Scope) (before : Option (List Value)) (table : Table) (new : List Value) → table ≡ table_at tables t → new ≡ with_sets sets old → of ≡ scope_of sets → before ≡ Some old
    → IfSome told (λ c. position (is_held c) (row_tests of before t table new) ≡ None) → IfSome told (λ c. position (is_held c) (row_tests (scope_of sets) (Some old) t (table_at tables t) (with_sets sets old)) ≡ None)
as_asked None tables t sets old of before table new is made scope was h = tt
as_asked (Some c) tables t sets old of before table new is made scope was h =
    subst (λ (ts : List Test). position (is_held c) ts ≡ None)
    (ap (λ (o : Scope). row_tests o before t table new) scope
    ∙ ap (λ (b : Option (List Value)). row_tests (scope_of sets) b t table new) was
    ∙ ap (λ (tb : Table). row_tests (scope_of sets) (Some old) t tb new) is
    ∙ ap (row_tests (scope_of sets) (Some old) t (table_at tables t)) made)
    h
