-- The pairs of one counter, over the rows of its table before and after a row comes or goes.
use Rattle.std.proofs.Common.{◌≡◌, ℕ, suc, ◌+◌, ◌-◌, Bool, true, false, cond, not, ◌==◌, List, [], ◌∷◌, map, length, filter, Some, None, refl, sym, ap, ◌∙◌, arith}
use Rattle.std.specs.List.{AllByRecursion}
use Rattle.std.specs.Ordering.{eq_by_cmp}
use Rattle.std.specs.FinMap.{find}
use Rattle.std.proofs.lemmas.Bool.{false≢true}
use Rattle.std.proofs.lemmas.Bool.Decides.{nat_tests}
use Rattle.pq_base.specs.declared.value.ColType.{ColType}
use Rattle.pq_base.specs.declared.value.Value.{Value}
use Rattle.pq_content.specs.Pairs.{Pair}
use Rattle.pq_content.specs.Tables.{AllOfKinds, agrees, cells, same_values}
use Rattle.pq_content.proofs.Keys.{same_key}
use Rattle.pq_content.proofs.Values.{same_from_test, same_values_itself}
use Rattle.pq_store.specs.Content.{key_cmp}
use Rattle.pq_tallies.specs.Counters.{counter_key, count_code, stored_count}
use Rattle.pq_tallies.proofs.Keys.{counter_ties}

-- the pair of each row's group, with the number that its values have
abbrev pub pairs_by : ℕ → List ℕ → (List Value → ℕ) → List (List Value) → List Pair
pairs_by n cols f rs = map (λ row. (counter_key n (cells cols row), count_code (f (cells cols row)))) rs

-- how many of some rows have these values
abbrev pub count_in : List ℕ → List (List Value) → List Value → ℕ
count_in cols rs v = length (filter (agrees cols v) rs)

pub stored_some : (k : ℕ) → stored_count (k + 1) ≡ Some (count_code (k + 1))
stored_some k =
    let other : ((k + 1) == 0) ≡ false = grind (arith, nat_tests) in
    ap (λ b. cond b None (Some (count_code (k + 1)))) other

-- two filters in either order
pub filters_swap : (p q : List Value → Bool) (rs : List (List Value)) → filter p (filter q rs) ≡ filter q (filter p rs)
filters_swap p q [] = refl
filters_swap p q (r ∷ rs) =
    let rest : filter p (filter q rs) ≡ filter q (filter p rs) = filters_swap p q rs in
    elim (q r) as (λ b. q r ≡ b → filter p (cond b (r ∷ filter q rs) (filter q rs)) ≡ filter q (cond (p r) (r ∷ filter p rs) (filter p rs))) [
      | true ↦ λ is. elim (p r) as (λ a. cond a (r ∷ filter p (filter q rs)) (filter p (filter q rs)) ≡ filter q (cond a (r ∷ filter p rs) (filter p rs))) [
        | true ↦ ap (λ (l : List (List Value)). r ∷ l) rest ∙ sym (ap (λ b. cond b (r ∷ filter q (filter p rs)) (filter q (filter p rs))) is)
        | false ↦ rest
      ]
      | false ↦ λ is. elim (p r) as (λ a. filter p (filter q rs) ≡ filter q (cond a (r ∷ filter p rs) (filter p rs))) [
        | true ↦ rest ∙ sym (ap (λ b. cond b (r ∷ filter q (filter p rs)) (filter q (filter p rs))) is)
        | false ↦ rest
      ]
    ] refl

-- where none passes, all are left
pub all_left : (p : List Value → Bool) (rs : List (List Value)) → filter p rs ≡ [] → filter (λ r. not (p r)) rs ≡ rs
all_left p [] none = refl
all_left p (r ∷ rs) none =
    elim (p r) as (λ b. cond b (r ∷ filter p rs) (filter p rs) ≡ [] → cond (not b) (r ∷ filter (λ x. not (p x)) rs) (filter (λ x. not (p x)) rs) ≡ r ∷ rs) [
      | true ↦ λ none. absurd (cc)
      | false ↦ λ none. ap (λ (l : List (List Value)). r ∷ l) (all_left p rs none)
    ] none

module _ (n : ℕ) (cols : List ℕ) where
  -- a key finds one number where the two numbers of its values are equal
  alike : (q : List ℕ) (f g : List Value → ℕ) (rs : List (List Value)) → ((v : List Value) → eq_by_cmp key_cmp q (counter_key n v) ≡ true → f v ≡ g v) → find key_cmp q (pairs_by n cols f rs) ≡ find key_cmp q (pairs_by n cols g rs)
  alike q f g [] h = refl
  alike q f g (r ∷ rs) h =
      let k = counter_key n (cells cols r) in
      elim (eq_by_cmp key_cmp q k) as (λ b. eq_by_cmp key_cmp q k ≡ b → cond b (Some (count_code (f (cells cols r)))) (find key_cmp q (pairs_by n cols f rs)) ≡ cond b (Some (count_code (g (cells cols r)))) (find key_cmp q (pairs_by n cols g rs))) [
        | true ↦ λ is. ap (λ (m : ℕ). Some (count_code m)) (h (cells cols r) is)
        | false ↦ λ _. alike q f g rs h
      ] refl

  -- a row whose group has another key has other values
  other_group : (q : List ℕ) (row v : List Value) → eq_by_cmp key_cmp q (counter_key n (cells cols row)) ≡ false → eq_by_cmp key_cmp q (counter_key n v) ≡ true → agrees cols v row ≡ false
  other_group q row v apart here =
      elim (agrees cols v row) as (λ b. agrees cols v row ≡ b → b ≡ false) [
        | true ↦ λ is. absurd (false≢true (sym apart ∙ ap (λ (x : List Value). eq_by_cmp key_cmp q (counter_key n x)) (same_from_test (cells cols row) v is) ∙ here))
        | false ↦ λ _. refl
      ] refl

  -- ---- what a get of a group's key finds

  never : (k : ℕ) → (suc k == 0) ≡ false
  never k = grind (arith, nat_tests)

  pub read : (ts : List ColType) (f : List Value → ℕ) (v : List Value) (rs : List (List Value)) → AllOfKinds ts v → AllByRecursion (λ r. AllOfKinds ts (cells cols r)) rs → find key_cmp (counter_key n v) (pairs_by n cols f rs) ≡ cond (count_in cols rs v == 0) None (Some (count_code (f v)))
  read ts f v [] kind kinds = refl
  read ts f v (r ∷ rs) kind kinds =
      let rest = find key_cmp (counter_key n v) (pairs_by n cols f rs) in
      let left = filter (agrees cols v) rs in
      ap (λ b. cond b (Some (count_code (f (cells cols r)))) rest) (counter_ties n ts v (cells cols r) kind kinds.0)
      ∙ elim (agrees cols v r) as (λ b. agrees cols v r ≡ b → cond b (Some (count_code (f (cells cols r)))) rest ≡ cond (length (cond b (r ∷ left) left) == 0) None (Some (count_code (f v)))) [
        | true ↦ λ is. ap (λ (x : List Value). Some (count_code (f x))) (same_from_test (cells cols r) v is) ∙ sym (ap (λ b. cond b None (Some (count_code (f v)))) (never (length left)))
        | false ↦ λ _. read ts f v rs kind kinds.1
      ] refl

  -- ---- one row more

  pub one_more : (row : List Value) (rs : List (List Value)) → count_in cols (row ∷ rs) (cells cols row) ≡ count_in cols rs (cells cols row) + 1
  one_more row rs =
      let left = filter (agrees cols (cells cols row)) rs in
      let next : suc (length left) ≡ length left + 1 = omega arith in
      ap (λ b. length (cond b (row ∷ left) left)) (same_values_itself (cells cols row)) ∙ next

  pub as_many : (row v : List Value) (rs : List (List Value)) → agrees cols v row ≡ false → count_in cols (row ∷ rs) v ≡ count_in cols rs v
  as_many row v rs other = ap (λ b. length (cond b (row ∷ filter (agrees cols v) rs) (filter (agrees cols v) rs))) other

  pub inserted : (q : List ℕ) (row : List Value) (rs : List (List Value)) → cond (eq_by_cmp key_cmp q (counter_key n (cells cols row))) (stored_count (count_in cols rs (cells cols row) + 1)) (find key_cmp q (pairs_by n cols (count_in cols rs) rs)) ≡ find key_cmp q (pairs_by n cols (count_in cols (row ∷ rs)) (row ∷ rs))
  inserted q row rs =
      let k = counter_key n (cells cols row) in
      let more = count_in cols (row ∷ rs) in
      elim (eq_by_cmp key_cmp q k) as (λ b. eq_by_cmp key_cmp q k ≡ b → cond b (stored_count (count_in cols rs (cells cols row) + 1)) (find key_cmp q (pairs_by n cols (count_in cols rs) rs)) ≡ cond b (Some (count_code (more (cells cols row)))) (find key_cmp q (pairs_by n cols more rs))) [
        | true ↦ λ _. stored_some (count_in cols rs (cells cols row)) ∙ ap (λ (m : ℕ). Some (count_code m)) (sym (one_more row rs))
        | false ↦ λ apart. alike q (count_in cols rs) more rs (λ v here. sym (as_many row v rs (other_group q row v apart here)))
      ] refl

  -- ---- one row less

  split : (a p : List Value → Bool) (rs : List (List Value)) → length (filter a rs) ≡ length (filter a (filter (λ r. not (p r)) rs)) + length (filter a (filter p rs))
  split a p [] = refl
  split a p (r ∷ rs) =
      let left = filter (λ x. not (p x)) rs in
      let own = filter p rs in
      let rest : length (filter a rs) ≡ length (filter a left) + length (filter a own) = split a p rs in
      elim (p r) as (λ b. length (cond (a r) (r ∷ filter a rs) (filter a rs)) ≡ length (filter a (cond (not b) (r ∷ left) left)) + length (filter a (cond b (r ∷ own) own))) [
        | true ↦ elim (a r) as (λ c. length (cond c (r ∷ filter a rs) (filter a rs)) ≡ length (filter a left) + length (cond c (r ∷ filter a own) (filter a own))) [ true ↦ omega arith | false ↦ rest ]
        | false ↦ elim (a r) as (λ c. length (cond c (r ∷ filter a rs) (filter a rs)) ≡ length (cond c (r ∷ filter a left) (filter a left)) + length (filter a own)) [ true ↦ omega arith | false ↦ rest ]
      ]

  -- a row that is alone in passing a test, and the rows without it
  module _ (p : List Value → Bool) (old : List Value) (rs : List (List Value)) (only : filter p rs ≡ old ∷ []) where
    abbrev pub left_rows : List (List Value)
    left_rows = filter (λ r. not (p r)) rs

    pub counted : (v : List Value) → count_in cols rs v ≡ count_in cols left_rows v + length (filter (agrees cols v) (old ∷ []))
    counted v = split (agrees cols v) p rs ∙ ap (λ (l : List (List Value)). count_in cols left_rows v + length (filter (agrees cols v) l)) only

    pub one_less : count_in cols rs (cells cols old) ≡ count_in cols left_rows (cells cols old) + 1
    one_less = counted (cells cols old) ∙ ap (λ b. count_in cols left_rows (cells cols old) + length (cond b (old ∷ []) [])) (same_values_itself (cells cols old))

    pub as_many_left : (v : List Value) → agrees cols v old ≡ false → count_in cols rs v ≡ count_in cols left_rows v
    as_many_left v other =
        let none : count_in cols left_rows v + 0 ≡ count_in cols left_rows v = omega arith in
        counted v ∙ ap (λ b. count_in cols left_rows v + length (cond b (old ∷ []) [])) other ∙ none

  none_passes : (p : List Value → Bool) (rs : List (List Value)) → filter p rs ≡ [] → AllByRecursion (λ r. p r ≡ false) rs
  none_passes p [] none = tt
  none_passes p (r ∷ rs) none =
      elim (p r) as (λ b. cond b (r ∷ filter p rs) (filter p rs) ≡ [] → (b ≡ false) × AllByRecursion (λ x. p x ≡ false) rs) [
        | true ↦ λ none. absurd (cc)
        | false ↦ λ none. (refl, none_passes p rs none)
      ] none

  is_only : (p : List Value → Bool) (old : List Value) (rs : List (List Value)) → filter p rs ≡ old ∷ [] → AllByRecursion (λ r. p r ≡ true → r ≡ old) rs
  is_only p old [] only = tt
  is_only p old (r ∷ rs) only =
      elim (p r) as (λ b. p r ≡ b → cond b (r ∷ filter p rs) (filter p rs) ≡ old ∷ [] → (p r ≡ true → r ≡ old) × AllByRecursion (λ x. p x ≡ true → x ≡ old) rs) [
        | true ↦ λ _ only.
            let here : r ≡ old = cc in
            let none : filter p rs ≡ [] = cc in
            ((λ _. here), weaker rs (none_passes p rs none))
        | false ↦ λ is only. ((λ own. absurd (false≢true (sym is ∙ own))), is_only p old rs only)
      ] refl only
    where
      weaker : (xs : List (List Value)) → AllByRecursion (λ x. p x ≡ false) xs → AllByRecursion (λ x. p x ≡ true → x ≡ old) xs
      weaker [] h = tt
      weaker (x ∷ xs) h = ((λ own. absurd (false≢true (sym h.0 ∙ own))), weaker xs h.1)

  -- rows of other groups play no part
  kept : (q : List ℕ) (f : List Value → ℕ) (p : List Value → Bool) (rs : List (List Value)) → AllByRecursion (λ r. p r ≡ true → eq_by_cmp key_cmp q (counter_key n (cells cols r)) ≡ false) rs → find key_cmp q (pairs_by n cols f rs) ≡ find key_cmp q (pairs_by n cols f (filter (λ r. not (p r)) rs))
  kept q f p [] h = refl
  kept q f p (r ∷ rs) h =
      let left = filter (λ x. not (p x)) rs in
      let k = counter_key n (cells cols r) in
      let own = Some (count_code (f (cells cols r))) in
      elim (p r) as (λ b. p r ≡ b → cond (eq_by_cmp key_cmp q k) own (find key_cmp q (pairs_by n cols f rs)) ≡ find key_cmp q (pairs_by n cols f (cond (not b) (r ∷ left) left))) [
        | true ↦ λ is. ap (λ b. cond b own (find key_cmp q (pairs_by n cols f rs))) (h.0 is) ∙ kept q f p rs h.1
        | false ↦ λ _. ap (cond (eq_by_cmp key_cmp q k) own) (kept q f p rs h.1)
      ] refl

  pub removed : (ts : List ColType) (p : List Value → Bool) (old : List Value) (rs : List (List Value)) (only : filter p rs ≡ old ∷ []) → AllOfKinds ts (cells cols old) → AllByRecursion (λ r. AllOfKinds ts (cells cols r)) (filter (λ r. not (p r)) rs)
      → (q : List ℕ) → cond (eq_by_cmp key_cmp q (counter_key n (cells cols old))) (stored_count (count_in cols rs (cells cols old) - 1)) (find key_cmp q (pairs_by n cols (count_in cols rs) rs)) ≡ find key_cmp q (pairs_by n cols (count_in cols (filter (λ r. not (p r)) rs)) (filter (λ r. not (p r)) rs))
  removed ts p old rs only kind kinds q =
      let v = cells cols old in
      let k = counter_key n v in
      let left = filter (λ r. not (p r)) rs in
      let less : count_in cols rs v ≡ count_in cols left v + 1 = one_less p old rs only in
      let minus : count_in cols rs v - 1 ≡ count_in cols left v = omega arith in
      elim (eq_by_cmp key_cmp q k) as (λ b. eq_by_cmp key_cmp q k ≡ b → cond b (stored_count (count_in cols rs v - 1)) (find key_cmp q (pairs_by n cols (count_in cols rs) rs)) ≡ find key_cmp q (pairs_by n cols (count_in cols left) left)) [
        | true ↦ λ is.
            ap stored_count minus
            ∙ sym (read ts (count_in cols left) v left kind kinds)
            ∙ ap (λ (x : List ℕ). find key_cmp x (pairs_by n cols (count_in cols left) left)) (sym (same_key q k is))
        | false ↦ λ apart.
            alike q (count_in cols rs) (count_in cols left) rs (λ u here. as_many_left p old rs only u (other_group q old u apart here))
            ∙ kept q (count_in cols left) p rs (others rs (is_only p old rs only) apart)
      ] refl
    where
      others : (xs : List (List Value)) → AllByRecursion (λ r. p r ≡ true → r ≡ old) xs → eq_by_cmp key_cmp q (counter_key n (cells cols old)) ≡ false → AllByRecursion (λ r. p r ≡ true → eq_by_cmp key_cmp q (counter_key n (cells cols r)) ≡ false) xs
      others [] h apart = tt
      others (x ∷ xs) h apart = ((λ own. ap (λ (r : List Value). eq_by_cmp key_cmp q (counter_key n (cells cols r))) (h.0 own) ∙ apart), others xs h.1 apart)

  -- ---- one row in the place of another

  -- within one group nothing changes
  pub stayed : (ts : List ColType) (p : List Value → Bool) (old new : List Value) (rs : List (List Value)) (only : filter p rs ≡ old ∷ []) → AllOfKinds ts (cells cols old) → AllByRecursion (λ r. AllOfKinds ts (cells cols r)) rs → AllByRecursion (λ r. AllOfKinds ts (cells cols r)) (filter (λ r. not (p r)) rs) → cells cols old ≡ cells cols new
      → (q : List ℕ) → find key_cmp q (pairs_by n cols (count_in cols rs) rs) ≡ find key_cmp q (pairs_by n cols (count_in cols (new ∷ filter (λ r. not (p r)) rs)) (new ∷ filter (λ r. not (p r)) rs))
  stayed ts p old new rs only kind all kinds same q =
      let v = cells cols old in
      let k = counter_key n v in
      let left = filter (λ r. not (p r)) rs in
      let first = find key_cmp q (pairs_by n cols (count_in cols rs) rs) in
      let less : count_in cols rs v ≡ count_in cols left v + 1 = one_less p old rs only in
      let gone = removed ts p old rs only kind kinds q in
      let come = inserted q new left in
      let P = λ (w : List Value). cond (eq_by_cmp key_cmp q (counter_key n w)) (stored_count (count_in cols left w + 1)) (cond (eq_by_cmp key_cmp q k) (stored_count (count_in cols rs v - 1)) first) in
      let both : first ≡ P v =
      elim (eq_by_cmp key_cmp q k) as (λ b. eq_by_cmp key_cmp q k ≡ b → first ≡ cond b (stored_count (count_in cols left v + 1)) (cond b (stored_count (count_in cols rs v - 1)) first)) [
        | true ↦ λ is.
            ap (λ (x : List ℕ). find key_cmp x (pairs_by n cols (count_in cols rs) rs)) (same_key q k is)
            ∙ read ts (count_in cols rs) v rs kind all
            ∙ ap stored_count less
        | false ↦ λ _. refl
      ] refl in
      both ∙ ap P same ∙ ap (cond (eq_by_cmp key_cmp q (counter_key n (cells cols new))) (stored_count (count_in cols left (cells cols new) + 1))) gone ∙ come

  -- from one group into another
  pub changed : (ts : List ColType) (p : List Value → Bool) (old new : List Value) (rs : List (List Value)) (only : filter p rs ≡ old ∷ []) → AllOfKinds ts (cells cols old) → AllByRecursion (λ r. AllOfKinds ts (cells cols r)) (filter (λ r. not (p r)) rs) → same_values (cells cols old) (cells cols new) ≡ false
      → (q : List ℕ) → cond (eq_by_cmp key_cmp q (counter_key n (cells cols new))) (stored_count (count_in cols rs (cells cols new) + 1)) (cond (eq_by_cmp key_cmp q (counter_key n (cells cols old))) (stored_count (count_in cols rs (cells cols old) - 1)) (find key_cmp q (pairs_by n cols (count_in cols rs) rs)))
      ≡ find key_cmp q (pairs_by n cols (count_in cols (new ∷ filter (λ r. not (p r)) rs)) (new ∷ filter (λ r. not (p r)) rs))
  changed ts p old new rs only kind kinds other q =
      let w = cells cols new in
      let left = filter (λ r. not (p r)) rs in
      let here = eq_by_cmp key_cmp q (counter_key n w) in
      let gone = removed ts p old rs only kind kinds q in
      ap (λ (m : ℕ). cond here (stored_count (m + 1)) (cond (eq_by_cmp key_cmp q (counter_key n (cells cols old))) (stored_count (count_in cols rs (cells cols old) - 1)) (find key_cmp q (pairs_by n cols (count_in cols rs) rs)))) (as_many_left p old rs only w other)
      ∙ ap (cond here (stored_count (count_in cols left w + 1))) gone
      ∙ inserted q new left
