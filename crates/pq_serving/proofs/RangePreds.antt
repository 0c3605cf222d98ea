-- A range predicate on the first value holds exactly within the bounds that it makes.
use Rattle.std.proofs.Common.{◌≡◌, Bool, true, false, not, ◌&&◌, ◌||◌, List, [], ◌∷◌, Option, Some, None, refl, sym, ap, ◌∙◌}
use Rattle.std.specs.declared.cmp.Ordering.{Ordering}
use Rattle.std.specs.declared.cmp.Ordering.TheVariants.{Less, Equal, Greater}
use Rattle.std.specs.Ordering.{is_lt, is_le, ordering_then, ordering_reverse}
use Rattle.std.specs.List.{list_all}
use Rattle.std.proofs.lemmas.Bool.{false≢true, and_parts}
use Rattle.pq_base.specs.declared.value.Dir.{Dir}
use Rattle.pq_base.specs.declared.value.Dir.TheVariants.{Asc, Desc}
use Rattle.pq_base.specs.declared.value.Value.{Value}
use Rattle.pq_base.specs.declared.value.Value.TheVariants as value
use Rattle.pq_base.specs.Values.{is_null}
use Rattle.pq_base.specs.Order.{value_cmp, directed_order}
use Rattle.pq_base.specs.declared.op.Op.{Op}
use Rattle.pq_base.specs.declared.op.Op.TheVariants as op
use Rattle.pq_base.specs.Comparing.{is_null_test}
use Rattle.pq_schema.specs.Relations.{is_range}
use Rattle.pq_key_code.specs.KeyOrder.{common_cmp}
use Rattle.pq_base.specs.Comparing.{may_hold, meets, compares}
use Rattle.pq_plan.proofs.ValueOrder.{value_cmp_total}
use Rattle.pq_serving.specs.Starts.{reaches, at_value, past_value, lower, upper}

-- by how the first value stands to the operand, in the sequence's direction
abbrev verdict : Dir → Op → Ordering → Bool
verdict Asc op.Gt o = is_lt o
verdict Asc op.Ge o = is_le o
verdict Asc op.Lt o = not (is_le o)
verdict Asc op.Le o = not (is_lt o)
verdict Desc op.Lt o = is_lt o
verdict Desc op.Le o = is_le o
verdict Desc op.Gt o = not (is_le o)
verdict Desc op.Ge o = not (is_lt o)
verdict _ _ o = false

meets_verdict : (d : Dir) (o : Op) (r : Ordering) → is_range o ≡ true → meets o r ≡ verdict d o (directed_order d (ordering_reverse r))
meets_verdict d op.Eq r h = absurd (false≢true h)
meets_verdict d op.Ne r h = absurd (false≢true h)
meets_verdict d op.IsNull r h = absurd (false≢true h)
meets_verdict Asc op.Lt Less h = refl
meets_verdict Asc op.Lt Equal h = refl
meets_verdict Asc op.Lt Greater h = refl
meets_verdict Asc op.Le Less h = refl
meets_verdict Asc op.Le Equal h = refl
meets_verdict Asc op.Le Greater h = refl
meets_verdict Asc op.Gt Less h = refl
meets_verdict Asc op.Gt Equal h = refl
meets_verdict Asc op.Gt Greater h = refl
meets_verdict Asc op.Ge Less h = refl
meets_verdict Asc op.Ge Equal h = refl
meets_verdict Asc op.Ge Greater h = refl
meets_verdict Desc op.Lt Less h = refl
meets_verdict Desc op.Lt Equal h = refl
meets_verdict Desc op.Lt Greater h = refl
meets_verdict Desc op.Le Less h = refl
meets_verdict Desc op.Le Equal h = refl
meets_verdict Desc op.Le Greater h = refl
meets_verdict Desc op.Gt Less h = refl
meets_verdict Desc op.Gt Equal h = refl
meets_verdict Desc op.Gt Greater h = refl
meets_verdict Desc op.Ge Less h = refl
meets_verdict Desc op.Ge Equal h = refl
meets_verdict Desc op.Ge Greater h = refl

and_true : (b : Bool) → b ≡ (b && true)
and_true true = refl
and_true false = refl

first_only : (d : Dir) (ds : List Dir) (w x : Value) (xs : List Value) → directed_order d (ordering_reverse (value_cmp x w)) ≡ common_cmp (d ∷ ds) (w ∷ []) (x ∷ xs)
first_only d ds w x xs = ap (directed_order d) (sym (value_cmp_total.antisymm w x)) ∙ alone (directed_order d (value_cmp w x)) (common_cmp ds [] xs) (none ds xs)
  where
    none : (ds : List Dir) (xs : List Value) → Equal ≡ common_cmp ds [] xs
    none [] xs = refl
    none (d ∷ ds) xs = refl

    alone : (r s : Ordering) → Equal ≡ s → r ≡ ordering_then r s
    alone Less s h = refl
    alone Equal s h = h
    alone Greater s h = refl

-- ---- NULL

-- the values past NULL where they ascend
null_low : (ds : List Dir) (x : Value) (xs : List Value) → reaches (Asc ∷ ds) (past_value value.Null) (x ∷ xs) ≡ not (is_null x)
null_low [] value.Null xs = refl
null_low (d ∷ ds) value.Null xs = refl
null_low ds (value.Int a) xs = refl
null_low ds (value.Bool a) xs = refl
null_low ds (value.Text a) xs = refl

-- and those before it where they descend
null_high : (ds : List Dir) (x : Value) (xs : List Value) → reaches (Desc ∷ ds) (at_value value.Null) (x ∷ xs) ≡ is_null x
null_high [] value.Null xs = refl
null_high (d ∷ ds) value.Null xs = refl
null_high ds (value.Int a) xs = refl
null_high ds (value.Bool a) xs = refl
null_high ds (value.Text a) xs = refl

null_is : (x : Value) → is_null x ≡ true → x ≡ value.Null
null_is value.Null h = refl
null_is (value.Int a) h = absurd (false≢true h)
null_is (value.Bool a) h = absurd (false≢true h)
null_is (value.Text a) h = absurd (false≢true h)

over_null : (w : Value) → is_null w ≡ false → value_cmp w value.Null ≡ Greater
over_null value.Null h = absurd (false≢true (sym h))
over_null (value.Int a) h = refl
over_null (value.Bool a) h = refl
over_null (value.Text a) h = refl

abbrev order_of : Dir → List Dir → Value → Value → List Value → Ordering
order_of d ds w x xs = common_cmp (d ∷ ds) (w ∷ []) (x ∷ xs)

-- how NULL stands to another operand
null_order : (d : Dir) (ds : List Dir) (w x : Value) (xs : List Value) → is_null w ≡ false → is_null x ≡ true → order_of d ds w x xs ≡ directed_order d Greater
null_order Asc ds w x xs plain null = ap (λ v. order_of Asc ds w v xs) (null_is x null) ∙ ap (λ o. ordering_then o (common_cmp ds [] xs)) (over_null w plain)
null_order Desc ds w x xs plain null = ap (λ v. order_of Desc ds w v xs) (null_is x null) ∙ ap (λ o. ordering_then (ordering_reverse o) (common_cmp ds [] xs)) (over_null w plain)

both_ends : (n v : Bool) → (n && v) ≡ ((n && true) && (v && true))
both_ends true true = refl
both_ends true false = refl
both_ends false v = refl

low_end : (n v : Bool) → (n ≡ true → v ≡ false) → (not n && v) ≡ ((v && true) && true)
low_end true v h = sym (ap (λ b. (b && true) && true) (h refl))
low_end false true h = refl
low_end false false h = refl

high_end : (n v : Bool) → (n ≡ true → v ≡ false) → (not n && v) ≡ (true && (v && true))
high_end true v h = sym (ap (λ b. b && true) (h refl))
high_end false true h = refl
high_end false false h = refl

turned : (n v : Bool) → (not n && v) ≡ ((v && true) && (not n && true))
turned true true = refl
turned true false = refl
turned false true = refl
turned false false = refl

-- a value within the bounds isn't NULL
bounds_verdict : (d : Dir) (ds : List Dir) (o : Op) (w x : Value) (xs : List Value) → is_range o ≡ true → is_null w ≡ false → (not (is_null x) && verdict d o (common_cmp (d ∷ ds) (w ∷ []) (x ∷ xs))) ≡ (list_all (λ b. reaches (d ∷ ds) b (x ∷ xs)) (lower d o w) && list_all (λ b. not (reaches (d ∷ ds) b (x ∷ xs))) (upper d o w))
bounds_verdict d ds op.Eq w x xs h plain = absurd (false≢true h)
bounds_verdict d ds op.Ne w x xs h plain = absurd (false≢true h)
bounds_verdict d ds op.IsNull w x xs h plain = absurd (false≢true h)
bounds_verdict Asc ds op.Lt w x xs h plain = both_ends (not (is_null x)) (not (is_le (order_of Asc ds w x xs))) ∙ ap (λ n. (n && true) && (not (is_le (order_of Asc ds w x xs)) && true)) (sym (null_low ds x xs))
bounds_verdict Asc ds op.Le w x xs h plain = both_ends (not (is_null x)) (not (is_lt (order_of Asc ds w x xs))) ∙ ap (λ n. (n && true) && (not (is_lt (order_of Asc ds w x xs)) && true)) (sym (null_low ds x xs))
bounds_verdict Asc ds op.Gt w x xs h plain = low_end (is_null x) (is_lt (order_of Asc ds w x xs)) (λ null. ap is_lt (null_order Asc ds w x xs plain null))
bounds_verdict Asc ds op.Ge w x xs h plain = low_end (is_null x) (is_le (order_of Asc ds w x xs)) (λ null. ap is_le (null_order Asc ds w x xs plain null))
bounds_verdict Desc ds op.Lt w x xs h plain = turned (is_null x) (is_lt (order_of Desc ds w x xs)) ∙ ap (λ n. (is_lt (order_of Desc ds w x xs) && true) && (not n && true)) (sym (null_high ds x xs))
bounds_verdict Desc ds op.Le w x xs h plain = turned (is_null x) (is_le (order_of Desc ds w x xs)) ∙ ap (λ n. (is_le (order_of Desc ds w x xs) && true) && (not n && true)) (sym (null_high ds x xs))
bounds_verdict Desc ds op.Gt w x xs h plain = high_end (is_null x) (not (is_le (order_of Desc ds w x xs))) (λ null. ap (λ o. not (is_le o)) (null_order Desc ds w x xs plain null))
bounds_verdict Desc ds op.Ge w x xs h plain = high_end (is_null x) (not (is_lt (order_of Desc ds w x xs))) (λ null. ap (λ o. not (is_lt o)) (null_order Desc ds w x xs plain null))

no_test : (o : Op) → is_range o ≡ true → is_null_test o ≡ false
no_test op.Eq h = refl
no_test op.Ne h = refl
no_test op.Lt h = refl
no_test op.Le h = refl
no_test op.Gt h = refl
no_test op.Ge h = refl
no_test op.IsNull h = absurd (false≢true h)

may : (o : Op) (x w : Value) → is_range o ≡ true → is_null w ≡ false → may_hold o x w ≡ not (is_null x)
may o x w h plain = (λ i. no_test o h i || not (is_null x || plain i)) ∙ ap not (left (is_null x))
  where
    left : (b : Bool) → (b || false) ≡ b
    left true = refl
    left false = refl

neither : (a b : Bool) → not (a || b) ≡ true → b ≡ false
neither true b h = absurd (false≢true h)
neither false true h = absurd (false≢true h)
neither false false h = refl

-- where a range predicate holds its operand isn't NULL
pub right_plain : (o : Op) (a b : Option Value) (w : Value) → is_range o ≡ true → b ≡ Some w → compares o a b ≡ true → is_null w ≡ false
right_plain o a b w h is held = by a (ap (compares o a) (sym is) ∙ held)
  where
    by : (a : Option Value) → compares o a (Some w) ≡ true → is_null w ≡ false
    by None held = absurd (false≢true held)
    by (Some x) held = neither (is_null x) (is_null w) (sym (ap (λ b. b || not (is_null x || is_null w)) (no_test o h)) ∙ (and_parts _ _ held).0)

-- the value stands left of the operand as the bounds say
pub range_law : (d : Dir) (ds : List Dir) (o : Op) (w x : Value) (xs : List Value) → is_range o ≡ true → is_null w ≡ false → compares o (Some x) (Some w) ≡ (list_all (λ b. reaches (d ∷ ds) b (x ∷ xs)) (lower d o w) && list_all (λ b. not (reaches (d ∷ ds) b (x ∷ xs))) (upper d o w))
range_law d ds o w x xs h plain =
    (λ i. may o x w h plain i && meets_verdict d o (value_cmp x w) h i)
    ∙ ap (λ r. not (is_null x) && verdict d o r) (first_only d ds w x xs)
    ∙ bounds_verdict d ds o w x xs h plain
