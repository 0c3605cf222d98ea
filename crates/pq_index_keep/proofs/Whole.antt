-- An INSERT that gives all columns values, in their order.
use Rattle.std.proofs.Common.{◌≡◌, ℕ, zero, suc, ◌+◌, ◌≤◌, ◌<◌, Bool, true, false, cond, not, ◌||◌, ◌&&◌, List, [], ◌∷◌, length, map, take, refl, sym, ap, subst, ◌∙◌, arith}
use Rattle.std.specs.Prelude.{slice_index_or, ◌==◌, is_some, unwrap_or}
use Rattle.std.proofs.lemmas.Bool.{eq-eqb, ne_eqb}
use Rattle.std.specs.List.{list_all, range_with_len}
use Rattle.pq_base.specs.declared.value.Value.{Value}
use Rattle.pq_schema.specs.declared.table.Table.{Table}
use Rattle.pq_schema.specs.Rows.{no_value}
use Rattle.pq_schema.specs.Keys.{given_value}
use Rattle.pq_index_keep.specs.Checking.{all_columns, default_at, has_value, inserted_value, insert_row, is_insert_wrong}
use Rattle.pq_index_keep.specs.Sound.{is_among}

-- the first n of more numbers
pub take_range : (k n m : ℕ) → n ≤ m → take n (range_with_len k m) ≡ range_with_len k n
take_range k zero m le = refl
take_range k (suc n) zero le = absurd (omega arith)
take_range k (suc n) (suc m) le = ap (λ (l : List ℕ). k ∷ l) (take_range (k + 1) n m (omega arith))

same : (n : ℕ) → (n == n) ≡ true
same n = eq-eqb n n refl

other : (k c : ℕ) → (k == k + suc c) ≡ false
other k c = ne_eqb k (k + suc c) (λ e. absurd (omega (arith, e)))

or_true : (b : Bool) → (b || true) ≡ true
or_true true = refl
or_true false = refl

both : (a b : Bool) → a ≡ true → b ≡ true → (a && b) ≡ true
both true b one two = two
both false b one two = one

all_range : (p : ℕ → Bool) (k n : ℕ) → ((c : ℕ) → c < n → p (k + c) ≡ true) → list_all p (range_with_len k n) ≡ true
all_range p k zero h = refl
all_range p k (suc n) h =
    both (p k) (list_all p (range_with_len (k + 1) n)) (subst (λ (j : ℕ). p j ≡ true) (omega arith) (h zero (omega arith)))
    (all_range p (k + 1) n (λ c less. subst (λ (j : ℕ). p j ≡ true) (omega arith) (h (suc c) (omega arith))))

map_range : (f : ℕ → Value) (k : ℕ) (values : List Value) → ((c : ℕ) → c < length values → f (k + c) ≡ slice_index_or values c no_value) → map f (range_with_len k (length values)) ≡ values
map_range f k [] h = refl
map_range f k (x ∷ values) h =
    let here : f k ≡ x = subst (λ (j : ℕ). f j ≡ x) (omega arith) (h zero (omega arith)) in
    ap (λ (y : Value). y ∷ map f (range_with_len (k + 1) (length values))) here
    ∙ ap (λ (ys : List Value). x ∷ ys) (map_range f (k + 1) values (λ c less. subst (λ (j : ℕ). f j ≡ slice_index_or values c no_value) (omega arith) (h (suc c) (omega arith))))

among_range : (k n c : ℕ) → c < n → is_among (range_with_len k n) (k + c) ≡ true
among_range k zero c less = absurd (omega arith)
among_range k (suc n) zero less =
    let e : k ≡ k + 0 = omega arith in
    subst (λ (j : ℕ). ((k == j) || is_among (range_with_len (k + 1) n) j) ≡ true) e (ap (λ (b : Bool). b || is_among (range_with_len (k + 1) n) k) (same k))
among_range k (suc n) (suc c) less =
    let e : k + 1 + c ≡ k + suc c = omega arith in
    let later : is_among (range_with_len (k + 1) n) (k + suc c) ≡ true = subst (λ (j : ℕ). is_among (range_with_len (k + 1) n) j ≡ true) e (among_range (k + 1) n c (omega arith)) in
    ap (λ (b : Bool). (k == k + suc c) || b) later ∙ or_true (k == k + suc c)

given_range : (k : ℕ) (values : List Value) (c : ℕ) → c < length values → given_value (range_with_len k (length values)) values (k + c) ≡ slice_index_or values c no_value
given_range k [] c less = absurd (omega arith)
given_range k (x ∷ values) zero less =
    let e : k ≡ k + 0 = omega arith in
    subst (λ (j : ℕ). cond (k == j) x (given_value (range_with_len (k + 1) (length values)) values j) ≡ x) e (ap (λ (b : Bool). cond b x (given_value (range_with_len (k + 1) (length values)) values k)) (same k))
given_range k (x ∷ values) (suc c) less =
    let e : k + 1 + c ≡ k + suc c = omega arith in
    ap (λ (b : Bool). cond b x (given_value (range_with_len (k + 1) (length values)) values (k + suc c))) (other k c)
    ∙ subst (λ (j : ℕ). given_value (range_with_len (k + 1) (length values)) values j ≡ slice_index_or values c no_value) e (given_range (k + 1) values c (omega arith))

range_length : (k n : ℕ) → length (range_with_len k n) ≡ n
range_length k zero = refl
range_length k (suc n) = ap suc (range_length (k + 1) n)

-- each column has a value
pub whole_wrong : (table : Table) (places : List ℕ) (values : List Value) → places ≡ all_columns table → not (length values == length places) ≡ is_insert_wrong table places values
whole_wrong table places values whole =
    subst (λ (ps : List ℕ). not (length values == length ps) ≡ is_insert_wrong table ps values) (sym whole)
    (ap (λ (b : Bool). not b || not (length values == length (all_columns table))) (sym all))
  where
    all : list_all (has_value table (all_columns table)) (all_columns table) ≡ true
    all = all_range (has_value table (all_columns table)) 0 (length table.columns) (λ c less. ap (λ (b : Bool). is_some (default_at table (0 + c)) || b) (among_range 0 (length table.columns) c less) ∙ or_true (is_some (default_at table (0 + c))))

whole_values : (table : Table) (values : List Value) → map (inserted_value table (range_with_len 0 (length values)) values) (range_with_len 0 (length values)) ≡ values
whole_values table values =
    map_range (inserted_value table (range_with_len 0 (length values)) values) 0 values
    (λ c less. ap (λ (b : Bool). cond b (given_value (range_with_len 0 (length values)) values (0 + c)) (unwrap_or (default_at table (0 + c)) no_value)) (among_range 0 (length values) c less) ∙ given_range 0 values c less)

-- the row is the values
pub whole_row : (table : Table) (places : List ℕ) (values : List Value) → places ≡ all_columns table → length values ≡ length places → values ≡ insert_row table places values
whole_row table places values whole long =
    let n : length values ≡ length table.columns = long ∙ ap length whole ∙ range_length 0 (length table.columns) in
    subst (λ (ps : List ℕ). values ≡ insert_row table ps values) (sym whole)
    (subst (λ (m : ℕ). values ≡ map (inserted_value table (range_with_len 0 m) values) (range_with_len 0 m)) n (sym (whole_values table values)))
