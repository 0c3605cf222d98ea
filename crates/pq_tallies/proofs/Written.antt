-- The pairs of all counters, before and after a row comes, goes, or takes the place of another.
use Rattle.std.proofs.Common.{◌≡◌, ℕ, ◌+◌, ◌<◌, Bool, true, false, cond, not, ◌&&◌, ◌||◌, ◌==◌, List, [], ◌∷◌, ◌++◌, map, length, filter, Option, Some, None, refl, sym, ap, ◌∙◌, subst, arith}
use Rattle.std.specs.List.{AllByRecursion}
use Rattle.std.specs.Ordering.{eq_by_cmp}
use Rattle.std.specs.Option.{option_to_list}
use Rattle.std.specs.Cmp.{nat_eq_equiv}
use Rattle.std.specs.Cmp.Lexicographic.{nat_list_cmp_total}
use Rattle.std.specs.FinMap.{find, get, get-from_entries}
use Rattle.std.proofs.lemmas.Bool.{eqb-true, eq-eqb, or_parts}
use Rattle.pq_base.specs.declared.value.Value.{Value}
use Rattle.pq_base.specs.Values.{AllFit, has_null}
use Rattle.pq_base.proofs.Members.{keep_all, each_filter}
use Rattle.pq_schema.specs.declared.table.Table.{Table}
use Rattle.pq_schema.specs.Tables.{table_at, types_at}
use Rattle.pq_schema.proofs.TypeKinds.{kinds_from_fit}
use Rattle.pq_content.specs.Pairs.{Pair, Change, changed_content, content_pairs, row_pairs, is_of_rows, is_of_counters}
use Rattle.pq_content.specs.Tables.{Rows, AllOfKinds, Keeps, rows_of, row_at, rows_without, agrees, cells, types_of, same_values}
use Rattle.pq_content.proofs.Changes.{same_content, get-changed, after, touches, after_untouched}
use Rattle.pq_content.proofs.Find.{find_rest, find_front, find_alike}
use Rattle.pq_content.proofs.Keeping.{rows_with_key, row_found}
use Rattle.pq_content.proofs.KeepingWrites.{rows_of-without}
use Rattle.pq_content.proofs.Keys.{apart_by}
use Rattle.pq_content.proofs.Others.{get_other}
use Rattle.pq_content.proofs.Values.{fit_at, same_from_test}
use Rattle.pq_store.specs.Content.{key_cmp}
use Rattle.pq_tallies.specs.Counters.{tally, counted_rows, counter_key, count_code, counter_pair, group_pairs, counter_pairs, all_pairs, AreBesideCounters}
use Rattle.pq_tallies.specs.Defined.{NumberedCounter, group_types}
use Rattle.pq_tallies.specs.Moves.{GroupMove, no_move, group_in, moved, move_in, move_changes, moves_changes}
use Rattle.pq_tallies.proofs.Keys.{of_counter, its_own, of_none_behind}
use Rattle.pq_tallies.proofs.GroupPairs.{pairs_by, count_in, all_left, filters_swap, counted, inserted, removed, stayed, changed}

-- what a write makes of the rows, apart from its kind: one row comes, one goes, or one takes the place of another
pub data Written (tables : List Table) (rows : Rows) (t : ℕ) : Option (List Value) → Option (List Value) → Rows → Type 0 where
  comes : (row : List Value) → Written tables rows t None (Some row) ((t, row) ∷ rows)
  goes : (key old : List Value) → row_at tables rows t key ≡ Some old
      → Written tables rows t (Some old) None (rows_without tables t key rows)
  turns : (key old new : List Value) → row_at tables rows t key ≡ Some old
      → Written tables rows t (Some old) (Some new) ((t, new) ∷ rows_without tables t key rows)

-- counters in order, with numbers of 16 bits
abbrev pub AreNumbered : List NumberedCounter → Type 0
AreNumbered [] = Unit {0}
AreNumbered (c ∷ cs) = AllByRecursion (λ d. (c.number < d.number) × (d.number < 65536)) cs × AreNumbered cs

-- ---- one counter

-- the values at some columns of a table's rows are of the columns' kinds
pub rows_kinds : (tables : List Table) (u : ℕ) (cols : List ℕ) (rows : Rows) → AllByRecursion (λ e. AllFit (types_of (table_at tables e.0)) e.1) rows → AllByRecursion (λ r. AllOfKinds (types_at (table_at tables u).columns cols) (cells cols r)) (rows_of u rows)
rows_kinds tables u cols [] fit = tt
rows_kinds tables u cols (e ∷ es) fit =
    let P = λ (r : List Value). AllOfKinds (types_at (table_at tables u).columns cols) (cells cols r) in
    let rest = rows_kinds tables u cols es fit.1 in
    elim (e.0 == u) as (λ b. (e.0 == u) ≡ b → AllByRecursion P (cond b (e.1 ∷ rows_of u es) (rows_of u es))) [
      | true ↦ λ is.
          let fits = subst (λ (m : ℕ). AllFit (types_of (table_at tables m)) e.1) (eqb-true e.0 u is) fit.0 in
          (kinds_from_fit (types_at (table_at tables u).columns cols) (cells cols e.1) (fit_at (table_at tables u) cols e.1 fits), rest)
      | false ↦ λ _. rest
    ] refl

-- whether a row is in a group
abbrev pub plain_at : NumberedCounter → List Value → Bool
plain_at c row = not (has_null (cells c.cols row))

-- the same of the rows in groups
pub counted_kinds : (tables : List Table) (c : NumberedCounter) (rows : Rows) → AllByRecursion (λ e. AllFit (types_of (table_at tables e.0)) e.1) rows → AllByRecursion (λ r. AllOfKinds (group_types tables c) (cells c.cols r)) (counted_rows c rows)
counted_kinds tables c rows fit = each_filter (plain_at c) (λ (r : List Value). AllOfKinds (group_types tables c) (cells c.cols r)) (rows_of c.table rows) (rows_kinds tables c.table c.cols rows fit)

-- over these rows and the others, the changes of a counter's pairs make the one's pairs of the other's
abbrev pub Turns : Rows → Rows → ℕ → Option (List Value) → Option (List Value) → NumberedCounter → Type 0
Turns rows made t old new c = (q : List ℕ) → after (move_changes rows c (move_in t old new c)) q (find key_cmp q (group_pairs rows c)) ≡ find key_cmp q (group_pairs made c)

-- the pairs of a counter over the rows in its groups
abbrev pairs_over : NumberedCounter → List (List Value) → List Pair
pairs_over c rs = pairs_by c.number c.cols (count_in c.cols rs) rs

-- the group of a row, as its values have NULL or not
abbrev group_by : Bool → NumberedCounter → List Value → Option (List Value)
group_by b c row = cond b None (Some (cells c.cols row))

-- the move of a row, as its values stay or not
abbrev pub turn : Bool → NumberedCounter → List Value → List Value → GroupMove
turn b c old new = cond b no_move (record { from = group_in c old; to = group_in c new })

-- the rows in groups with one more, as it has NULL or not
abbrev came : Bool → List Value → List (List Value) → List (List Value)
came null new rs = cond (not null) (new ∷ rs) rs

row_comes : (rows : Rows) (t : ℕ) (row : List Value) (c : NumberedCounter) → Turns rows ((t, row) ∷ rows) t None (Some row) c
row_comes rows t row c q =
    let rs = counted_rows c rows in
    elim (t == c.table) as (λ b. after (move_changes rows c (cond b (moved c None (Some row)) no_move)) q (find key_cmp q (pairs_over c rs)) ≡ find key_cmp q (pairs_over c (filter (plain_at c) (cond b (row ∷ rows_of c.table rows) (rows_of c.table rows))))) [
      | true ↦ elim (has_null (cells c.cols row)) as (λ b. after (move_changes rows c (record { from = None; to = group_by b c row })) q (find key_cmp q (pairs_over c rs)) ≡ find key_cmp q (pairs_over c (cond (not b) (row ∷ rs) rs))) [
        | true ↦ refl
        | false ↦ inserted c.number c.cols q row rs
      ]
      | false ↦ refl
    ]

module _ (tables : List Table) (rows : Rows) (keeps : Keeps tables rows) (t : ℕ) (key old : List Value) (found : row_at tables rows t key ≡ Some old) where
  abbrev has : List Value → Bool
  has = agrees (table_at tables t).key key

  only : filter has (rows_of t rows) ≡ old ∷ []
  only = rows_with_key tables rows t key keeps.apart ∙ ap option_to_list found

  fits : AllFit (types_of (table_at tables t)) old
  fits = (row_found tables rows t key old keeps found).fits

  module _ (c : NumberedCounter) where
    abbrev rs : List (List Value)
    rs = counted_rows c rows

    abbrev left : List (List Value)
    left = filter (λ r. not (has r)) rs

    abbrev gone : List (List Value)
    gone = counted_rows c (rows_without tables t key rows)

    -- of the counter's table the row is gone
    own_left : t ≡ c.table → gone ≡ left
    own_left is =
        ap (filter (plain_at c)) (rows_of-without tables rows t c.table key ∙ ap (λ b. filter (λ r. not (b && has r)) (rows_of c.table rows)) (eq-eqb c.table t (sym is)))
        ∙ filters_swap (plain_at c) (λ r. not (has r)) (rows_of c.table rows)

    -- of another table none is
    others_left : (t == c.table) ≡ false → gone ≡ rs
    others_left apart =
        ap (filter (plain_at c))
        (rows_of-without tables rows t c.table key
        ∙ ap (λ b. filter (λ r. not (b && has r)) (rows_of c.table rows)) (sym (nat_eq_equiv.symm t c.table) ∙ apart)
        ∙ keep_all (rows_of c.table rows))

    -- of the rows in groups the row alone has the key, where it is in one
    passing : t ≡ c.table → filter has rs ≡ cond (plain_at c old) (old ∷ []) []
    passing is =
        filters_swap has (plain_at c) (rows_of c.table rows)
        ∙ ap (filter (plain_at c)) (subst (λ (u : ℕ). filter has (rows_of u rows) ≡ old ∷ []) is only)

    own_only : has_null (cells c.cols old) ≡ false → t ≡ c.table → filter has rs ≡ old ∷ []
    own_only plain is = passing is ∙ ap (λ b. cond (not b) (old ∷ []) []) plain

    -- where it is in none, all others stay
    none_left : has_null (cells c.cols old) ≡ true → t ≡ c.table → left ≡ rs
    none_left null is = all_left has rs (passing is ∙ ap (λ b. cond (not b) (old ∷ []) []) null)

    own_kind : t ≡ c.table → AllOfKinds (group_types tables c) (cells c.cols old)
    own_kind is =
        let fit = subst (λ (u : ℕ). AllFit (types_of (table_at tables u)) old) is fits in
        kinds_from_fit (group_types tables c) (cells c.cols old) (fit_at (table_at tables c.table) c.cols old fit)

    kinds : AllByRecursion (λ r. AllOfKinds (group_types tables c) (cells c.cols r)) rs
    kinds = counted_kinds tables c rows keeps.fit

    left_kinds : AllByRecursion (λ r. AllOfKinds (group_types tables c) (cells c.cols r)) left
    left_kinds = each_filter (λ r. not (has r)) _ rs kinds

    -- how many rows of a group are left
    pub tally_left : (v : List Value) → tally rows c v ≡ tally (rows_without tables t key rows) c v + cond ((t == c.table) && (plain_at c old && agrees c.cols v old)) 1 0
    tally_left v =
        elim (t == c.table) as (λ b. (t == c.table) ≡ b → count_in c.cols rs v ≡ count_in c.cols gone v + cond (b && (plain_at c old && agrees c.cols v old)) 1 0) [
          | true ↦ λ is.
              let same = eqb-true t c.table is in
              elim (has_null (cells c.cols old)) as (λ b. has_null (cells c.cols old) ≡ b → count_in c.cols rs v ≡ count_in c.cols gone v + cond (not b && agrees c.cols v old) 1 0) [
                | true ↦ λ null. as_before (own_left same ∙ none_left null same)
                | false ↦ λ plain.
                    counted c.number c.cols has old rs (own_only plain same) v
                    ∙ ap (λ (l : List (List Value)). count_in c.cols l v + length (cond (agrees c.cols v old) (old ∷ []) [])) (sym (own_left same))
                    ∙ ap (λ (m : ℕ). count_in c.cols gone v + m) (one_or_none (agrees c.cols v old))
              ] refl
          | false ↦ λ apart. as_before (others_left apart)
        ] refl
      where
        one_or_none : (b : Bool) → length (cond b (old ∷ []) []) ≡ cond b 1 0
        one_or_none true = refl
        one_or_none false = refl

        as_before : gone ≡ rs → count_in c.cols rs v ≡ count_in c.cols gone v + 0
        as_before same =
            let count : count_in c.cols gone v ≡ count_in c.cols rs v = ap (λ (l : List (List Value)). count_in c.cols l v) same in
            omega arith

    -- what a key finds over some rows
    abbrev Found : List ℕ → List (List Value) → Option (List ℕ)
    Found q l = find key_cmp q (pairs_over c l)

    row_goes : Turns rows (rows_without tables t key rows) t (Some old) None c
    row_goes q =
        elim (t == c.table) as (λ b. (t == c.table) ≡ b → after (move_changes rows c (cond b (moved c (Some old) None) no_move)) q (Found q rs) ≡ Found q gone) [
          | true ↦ λ is.
              let same = eqb-true t c.table is in
              elim (has_null (cells c.cols old)) as (λ b. has_null (cells c.cols old) ≡ b → after (move_changes rows c (record { from = group_by b c old; to = None })) q (Found q rs) ≡ Found q gone) [
                | true ↦ λ null. ap (Found q) (sym (own_left same ∙ none_left null same))
                | false ↦ λ plain.
                    removed c.number c.cols (group_types tables c) has old rs (own_only plain same) (own_kind same) left_kinds q
                    ∙ ap (Found q) (sym (own_left same))
              ] refl
          | false ↦ λ apart. ap (Found q) (sym (others_left apart))
        ] refl

    row_turns : (new : List Value) → Turns rows ((t, new) ∷ rows_without tables t key rows) t (Some old) (Some new) c
    row_turns new q =
        let rest = rows_of c.table (rows_without tables t key rows) in
        elim (t == c.table) as (λ b. (t == c.table) ≡ b → after (move_changes rows c (cond b (moved c (Some old) (Some new)) no_move)) q (Found q rs) ≡ Found q (filter (plain_at c) (cond b (new ∷ rest) rest))) [
          | true ↦ λ is. let same = eqb-true t c.table is in own_turns same (same_values (cells c.cols old) (cells c.cols new)) refl
          | false ↦ λ apart. ap (Found q) (sym (others_left apart))
        ] refl
      where
        stays : t ≡ c.table → cells c.cols old ≡ cells c.cols new → (b : Bool) → has_null (cells c.cols old) ≡ b → Found q rs ≡ Found q (came b new left)
        stays same is true null = ap (Found q) (sym (none_left null same))
        stays same is false plain = stayed c.number c.cols (group_types tables c) has old new rs (own_only plain same) (own_kind same) kinds left_kinds is q

        leaves : t ≡ c.table → same_values (cells c.cols old) (cells c.cols new) ≡ false → (a b : Bool) → has_null (cells c.cols old) ≡ a
            → after (move_changes rows c (record { from = group_by a c old; to = group_by b c new })) q (Found q rs) ≡ Found q (came b new left)
        leaves same other true true null = ap (Found q) (sym (none_left null same))
        leaves same other true false null =
            inserted c.number c.cols q new rs
            ∙ ap (λ (l : List (List Value)). Found q (new ∷ l)) (sym (none_left null same))
        leaves same other false true plain = removed c.number c.cols (group_types tables c) has old rs (own_only plain same) (own_kind same) left_kinds q
        leaves same other false false plain = changed c.number c.cols (group_types tables c) has old new rs (own_only plain same) (own_kind same) left_kinds other q

        own_turns : t ≡ c.table → (b : Bool) → same_values (cells c.cols old) (cells c.cols new) ≡ b → after (move_changes rows c (moved c (Some old) (Some new))) q (Found q rs) ≡ Found q (came (has_null (cells c.cols new)) new gone)
        own_turns same true is =
            let alike = same_from_test (cells c.cols old) (cells c.cols new) is in
            ap (λ b. after (move_changes rows c (turn b c old new)) q (Found q rs)) is
            ∙ stays same alike (has_null (cells c.cols new)) (ap has_null alike)
            ∙ ap (λ (l : List (List Value)). Found q (came (has_null (cells c.cols new)) new l)) (sym (own_left same))
        own_turns same false is =
            ap (λ b. after (move_changes rows c (turn b c old new)) q (Found q rs)) is
            ∙ leaves same is (has_null (cells c.cols old)) (has_null (cells c.cols new)) refl
            ∙ ap (λ (l : List (List Value)). Found q (came (has_null (cells c.cols new)) new l)) (sym (own_left same))

pub each_turns : (tables : List Table) (rows : Rows) (t : ℕ) (old new : Option (List Value)) (made : Rows) → Keeps tables rows → Written tables rows t old new made → (c : NumberedCounter) → Turns rows made t old new c
each_turns tables rows t old new made keeps (comes row) c = row_comes rows t row c
each_turns tables rows t old new made keeps (goes key row found) c = row_goes tables rows keeps t key row found c
each_turns tables rows t old new made keeps (turns key row next found) c = row_turns tables rows keeps t key row found c next

-- ---- all counters

after-append : (xs ys : List Change) (q : List ℕ) (o : Option (List ℕ)) → after (xs ++ ys) q o ≡ after ys q (after xs q o)
after-append [] ys q o = refl
after-append (x ∷ xs) ys q o = after-append xs ys q (cond (eq_by_cmp key_cmp q x.0) x.1 o)

pub touches-append : (xs ys : List Change) (q : List ℕ) → touches xs q ≡ false → touches ys q ≡ false → touches (xs ++ ys) q ≡ false
touches-append [] ys q f g = g
touches-append (x ∷ xs) ys q f g =
    let parts = or_parts (eq_by_cmp key_cmp q x.0) (touches xs q) f in
    ap (λ b. b || touches (xs ++ ys) q) parts.0 ∙ touches-append xs ys q parts.1 g

-- what of a test that passes all keys of a counter
module _ (test : List ℕ → Bool) (q : List ℕ) (fails : test q ≡ false) where
  pub no_pair : (rows : Rows) (c : NumberedCounter) → ((v : List Value) → test (counter_key c.number v) ≡ true) → find key_cmp q (group_pairs rows c) ≡ None
  no_pair rows c passes = none (counted_rows c rows)
    where
      none : (rs : List (List Value)) → find key_cmp q (map (λ row. counter_pair rows c (cells c.cols row)) rs) ≡ None
      none [] = refl
      none (r ∷ rs) = ap (λ b. cond b (Some (count_code (tally rows c (cells c.cols r)))) (find key_cmp q (map (λ row. counter_pair rows c (cells c.cols row)) rs))) (apart_by test q (counter_key c.number (cells c.cols r)) (passes (cells c.cols r)) fails) ∙ none rs

  no_change : (rows : Rows) (c : NumberedCounter) (m : GroupMove) → ((v : List Value) → test (counter_key c.number v) ≡ true) → touches (move_changes rows c m) q ≡ false
  no_change rows c m passes =
      elim m.from as (λ f. touches (move_changes rows c (record { from = f; to = m.to })) q ≡ false) [
        | None ↦ elim m.to as (λ g. touches (move_changes rows c (record { from = None; to = g })) q ≡ false) [
          | None ↦ refl
          | Some w ↦ ap (λ b. b || false) (apart_by test q (counter_key c.number w) (passes w) fails)
        ]
        | Some v ↦ elim m.to as (λ g. touches (move_changes rows c (record { from = Some v; to = g })) q ≡ false) [
          | None ↦ ap (λ b. b || false) (apart_by test q (counter_key c.number v) (passes v) fails)
          | Some w ↦ ap (λ b. b || (eq_by_cmp key_cmp q (counter_key c.number w) || false)) (apart_by test q (counter_key c.number v) (passes v) fails) ∙ ap (λ b. b || false) (apart_by test q (counter_key c.number w) (passes w) fails)
        ]
      ]

-- a key of a counter has nothing among those of the counters behind it
module _ (q : List ℕ) (m : ℕ) (here : of_counter m q ≡ true) where
  abbrev Behind : NumberedCounter → Type 0
  Behind c = (m < c.number) × (c.number < 65536)

  not_of : (c : NumberedCounter) → Behind c → of_counter c.number q ≡ false
  not_of c behind = of_none_behind m c.number q behind.0 behind.1 here

  pub no_pairs_behind : (rows : Rows) (cs : List NumberedCounter) → AllByRecursion Behind cs → find key_cmp q (counter_pairs cs rows) ≡ None
  no_pairs_behind rows [] h = refl
  no_pairs_behind rows (c ∷ cs) h =
      find_rest key_cmp q (group_pairs rows c) (counter_pairs cs rows) (no_pair (of_counter c.number) q (not_of c h.0) rows c (its_own c.number))
      ∙ no_pairs_behind rows cs h.1

  no_changes_behind : (rows : Rows) (t : ℕ) (old new : Option (List Value)) (cs : List NumberedCounter) → AllByRecursion Behind cs → touches (moves_changes cs rows t old new) q ≡ false
  no_changes_behind rows t old new [] h = refl
  no_changes_behind rows t old new (c ∷ cs) h =
      touches-append (move_changes rows c (move_in t old new c)) (moves_changes cs rows t old new) q (no_change (of_counter c.number) q (not_of c h.0) rows c (move_in t old new c) (its_own c.number)) (no_changes_behind rows t old new cs h.1)

pub counters_turn : (rows made : Rows) (t : ℕ) (old new : Option (List Value)) → ((c : NumberedCounter) → Turns rows made t old new c) → (cs : List NumberedCounter) → AreNumbered cs → (q : List ℕ) → after (moves_changes cs rows t old new) q (find key_cmp q (counter_pairs cs rows)) ≡ find key_cmp q (counter_pairs cs made)
counters_turn rows made t old new each [] order q = refl
counters_turn rows made t old new each (c ∷ cs) order q =
    let own = move_changes rows c (move_in t old new c) in
    let rest = moves_changes cs rows t old new in
    let first = group_pairs rows c in
    let others = counter_pairs cs rows in
    after-append own rest q (find key_cmp q (first ++ others))
    ∙ elim (of_counter c.number q) as (λ b. of_counter c.number q ≡ b → after rest q (after own q (find key_cmp q (first ++ others))) ≡ find key_cmp q (group_pairs made c ++ counter_pairs cs made)) [
      | true ↦ λ here.
          after_untouched rest q (after own q (find key_cmp q (first ++ others))) (no_changes_behind q c.number here rows t old new cs order.0)
          ∙ ap (after own q) (find_front key_cmp q first others (no_pairs_behind q c.number here rows cs order.0))
          ∙ each c q
          ∙ sym (find_front key_cmp q (group_pairs made c) (counter_pairs cs made) (no_pairs_behind q c.number here made cs order.0))
      | false ↦ λ apart.
          ap (after rest q) (after_untouched own q (find key_cmp q (first ++ others)) (no_change (of_counter c.number) q apart rows c (move_in t old new c) (its_own c.number)) ∙ find_rest key_cmp q first others (no_pair (of_counter c.number) q apart rows c (its_own c.number)))
          ∙ counters_turn rows made t old new each cs order.1 q
          ∙ sym (find_rest key_cmp q (group_pairs made c) (counter_pairs cs made) (no_pair (of_counter c.number) q apart made c (its_own c.number)))
    ] refl

-- ---- contents

module _ (q : List ℕ) (apart : is_of_counters q ≡ false) where
  pub no_pair_outside : (rows : Rows) (cs : List NumberedCounter) → find key_cmp q (counter_pairs cs rows) ≡ None
  no_pair_outside rows [] = refl
  no_pair_outside rows (c ∷ cs) = find_rest key_cmp q (group_pairs rows c) (counter_pairs cs rows) (no_pair is_of_counters q apart rows c (λ _. refl)) ∙ no_pair_outside rows cs

  pub no_change_outside : (rows : Rows) (t : ℕ) (old new : Option (List Value)) (cs : List NumberedCounter) → touches (moves_changes cs rows t old new) q ≡ false
  no_change_outside rows t old new [] = refl
  no_change_outside rows t old new (c ∷ cs) = touches-append (move_changes rows c (move_in t old new c)) (moves_changes cs rows t old new) q (no_change is_of_counters q apart rows c (move_in t old new c) (λ _. refl)) (no_change_outside rows t old new cs)

-- a key of counters is that of no other pair
pub not_in_others : (others : List Pair) (q : List ℕ) → AreBesideCounters others → is_of_counters q ≡ true → find key_cmp q others ≡ None
not_in_others [] q h here = refl
not_in_others (e ∷ es) q h here =
    let fails : is_of_counters e.0 ≡ false = (or_parts (is_of_rows e.0) (is_of_counters e.0) h.0).1 in
    ap (λ b. cond b (Some e.1) (find key_cmp q es)) (apart_by (λ k. not (is_of_counters k)) q e.0 (ap not fails) (ap not here)) ∙ not_in_others es q h.1 here

pub not_of_rows : (q : List ℕ) → is_of_counters q ≡ true → is_of_rows q ≡ false
not_of_rows [] here = refl
not_of_rows (b ∷ bs) here = ap (λ (x : ℕ). (x == 2) || (x == 3)) (eqb-true b 5 here)

pub get_counter : (tables : List Table) (rows : Rows) (others : List Pair) (over : Rows) (cs : List NumberedCounter) (q : List ℕ) → AreBesideCounters others → is_of_counters q ≡ true → get (content_pairs tables rows (counter_pairs cs over ++ others)) q ≡ find key_cmp q (counter_pairs cs over)
get_counter tables rows others over cs q beside here =
    get_other tables rows (counter_pairs cs over ++ others) q (not_of_rows q here)
    ∙ find_front key_cmp q (counter_pairs cs over) others (not_in_others others q beside here)

get_outside : (tables : List Table) (rows : Rows) (others : List Pair) (over next : Rows) (cs : List NumberedCounter) (q : List ℕ) → is_of_counters q ≡ false → get (content_pairs tables rows (counter_pairs cs over ++ others)) q ≡ get (content_pairs tables rows (counter_pairs cs next ++ others)) q
unfolding content_pairs
get_outside tables rows others over next cs q apart =
    let front = row_pairs tables rows in
    get-from_entries nat_list_cmp_total (front ++ (counter_pairs cs over ++ others)) q
    ∙ find_alike key_cmp q front (counter_pairs cs over ++ others) (counter_pairs cs next ++ others)
    (find_rest key_cmp q (counter_pairs cs over) others (no_pair_outside q apart over cs) ∙ sym (find_rest key_cmp q (counter_pairs cs next) others (no_pair_outside q apart next cs)))
    ∙ sym (get-from_entries nat_list_cmp_total (front ++ (counter_pairs cs next ++ others)) q)

-- the changes of the counters' pairs turn those over the old rows into those over the new ones
pub counters_changed : (tables : List Table) (rows made : Rows) (others : List Pair) (t : ℕ) (old new : Option (List Value)) (cs : List NumberedCounter) → ((c : NumberedCounter) → Turns rows made t old new c) → AreNumbered cs → AreBesideCounters others
    → changed_content (moves_changes cs rows t old new) (content_pairs tables made (counter_pairs cs rows ++ others)) ≡ all_pairs tables cs made others
counters_changed tables rows made others t old new cs each order beside = same_content _ _ (λ q.
    let changes = moves_changes cs rows t old new in
    let before = content_pairs tables made (counter_pairs cs rows ++ others) in
    get-changed changes before q
    ∙ elim (is_of_counters q) as (λ b. is_of_counters q ≡ b → after changes q (get before q) ≡ get (all_pairs tables cs made others) q) [
      | true ↦ λ here.
          ap (after changes q) (get_counter tables made others rows cs q beside here)
          ∙ counters_turn rows made t old new each cs order q
          ∙ sym (get_counter tables made others made cs q beside here)
      | false ↦ λ apart.
          after_untouched changes q (get before q) (no_change_outside q apart rows t old new cs)
          ∙ get_outside tables made others rows made cs q apart
    ] refl)
