-- Of the rows that an input meets, the predicates keep those of one range of the sequence.
use Rattle.std.proofs.Common.{◌≡◌, ℕ, zero, suc, ◌<◌, Bool, true, false, cond, not, ◌&&◌, ◌==◌, inl, inr, List, [], ◌∷◌, ◌++◌, length, get_or, map, flat_map, drop, take, count_ones, Option, Some, None, slice_get, unwrap_or, refl, sym, ap, ◌∙◌, subst}
use Rattle.std.specs.declared.cmp.Ordering.{Ordering}
use Rattle.std.specs.declared.cmp.Ordering.TheVariants.{Less, Equal, Greater}
use Rattle.std.specs.Ordering.{is_eq, is_lt}
use Rattle.std.specs.List.{list_all}
use Rattle.std.proofs.lemmas.Bool.{and_parts, and_from, eqb-true, false≢true}
use Rattle.std.proofs.lemmas.List.{length-map}
use Rattle.pq_base.specs.declared.value.Value.{Value}
use Rattle.pq_base.specs.declared.value.Dir.{Dir}
use Rattle.pq_base.specs.Members.{In}
use Rattle.pq_key_code.specs.KeyOrder.{common_cmp}
use Rattle.pq_base.specs.Values.{is_null}
use Rattle.pq_schema.specs.Keys.{dirs_of}
use Rattle.pq_schema.specs.declared.table.KeyPart.{KeyPart}
use Rattle.pq_base.specs.declared.op.Op.{Op}
use Rattle.pq_schema.specs.declared.query.Pred.{Pred}
use Rattle.pq_schema.specs.Sequences.{columns_of}
use Rattle.pq_schema.specs.Relations.{belongs_to, tied_set, position_columns}
use Rattle.pq_base.specs.Comparing.{compares}
use Rattle.pq_plan.specs.Answer.{Question, row_of, cell, side, holds, no_value, position, by_position}
use Rattle.pq_plan.specs.Kept.{cells}
use Rattle.pq_plan.specs.Meaning.{keeps}
use Rattle.pq_plan.specs.Running.{tied_value}
use Rattle.pq_base.proofs.Members.{all_at}
use Rattle.pq_base.proofs.Members.{all_from, in_filter, in_flat_map, flat_map_in, get_at}
use Rattle.pq_base.proofs.Sets.{set_members}
use Rattle.pq_plan.proofs.Fixed.{last, earlier_side, tied_one}
use Rattle.pq_serving.specs.Starts.{Bound, reaches, under, lower, upper}
use Rattle.pq_serving.specs.Scanning.{first_direction, own_preds, is_operand, is_tied, passes_one, passes, bounds_with, lowers, uppers, front, rest, ties as tie_values, lows, highs, lies_within, cells_of}
use Rattle.pq_serving.proofs.Columns.{same_test_from}
use Rattle.pq_serving.proofs.Places.{reaches-under, front_equal, common_cmp-prefix}
use Rattle.pq_serving.proofs.RangePreds.{range_law, right_plain}
use Rattle.pq_serving.proofs.Served.{HasColumns, IsServed, fixed_in_front, kept_front}
use Rattle.pq_serving.proofs.Constants.{dirs_are, cells_are, front_long, start_is}

-- strictly after the cursor
abbrev pub is_after : Question → Option (List Value) → List (List Value) → Bool
is_after q None combo = true
is_after q (Some at) combo = is_lt (by_position q at (position q combo))

not_so : (b : Bool) → not b ≡ true → b ≡ false
not_so true h = absurd (false≢true h)
not_so false h = refl

-- ---- tests of lists of bounds

-- both sides of a comparison that holds are there
sides : (o : Op) (a b : Option Value) → compares o a b ≡ true → (x : Value) × (y : Value) × (a ≡ Some x) × (b ≡ Some y)
sides o None b h = absurd (false≢true h)
sides o (Some x) None h = absurd (false≢true h)
sides o (Some x) (Some y) h = (x, y, refl, refl)

each_under : (f : Bool → Bool) (fs ds : List Dir) (e ys : List Value) → length fs ≡ length e → (bs : List Bound) → list_all (λ b. f (reaches (fs ++ ds) b (e ++ ys))) (map (under e) bs) ≡ list_all (λ b. f (reaches ds b ys)) bs
each_under f fs ds e ys l [] = refl
each_under f fs ds e ys l (b ∷ bs) = λ i. f (reaches-under fs ds e b ys l i) && each_under f fs ds e ys l bs i

all_flat : {X Y : Type 0} (t : Y → Bool) (g : X → List Y) (xs : List X) → ((x : X) → In x xs → list_all t (g x) ≡ true) → list_all t (flat_map g xs) ≡ true
all_flat t g xs h = all_from t (flat_map g xs) (λ y here. let f = in_flat_map g y xs here in all_at t (g f.0) (h f.0 f.1) y f.2)

flat_all : {X Y : Type 0} (t : Y → Bool) (g : X → List Y) (xs : List X) → list_all t (flat_map g xs) ≡ true → (x : X) → In x xs → list_all t (g x) ≡ true
flat_all t g xs h x here = all_from t (g x) (λ y there. all_at t (flat_map g xs) h y (flat_map_in g y x xs here there))

is_equal : (r : Ordering) → is_eq r ≡ true → r ≡ Equal
is_equal Less h = absurd (false≢true h)
is_equal Equal h = refl
is_equal Greater h = absurd (false≢true h)

map_at_in : (f g : ℕ → Value) (ks : List ℕ) → map f ks ≡ map g ks → (k : ℕ) → In k ks → f k ≡ g k
map_at_in f g [] e k i = absurd i
map_at_in f g (j ∷ ks) e k (inl same) = let first : f j ≡ g j = cc in ap f (sym same) ∙ first ∙ ap g same
map_at_in f g (j ∷ ks) e k (inr i) = let more : map f ks ≡ map g ks = cc in map_at_in f g ks more k i

module _ (q : Question) (p : ℕ) (sequence : List KeyPart) (s : IsServed q p sequence) (c : List (List Value)) (long : suc (length c) ≡ p) (r : List Value) (wide : HasColumns sequence r) where
  abbrev d : List (List Value)
  d = c ++ r ∷ []

  abbrev ds : List Dir
  ds = dirs_of (rest q p sequence)

  abbrev ys : List Value
  ys = cells (columns_of (rest q p sequence)) r

  -- in the rest: all lower bounds are reached, and no upper one
  abbrev above : Bool
  above = list_all (λ b. reaches ds b ys) (flat_map (lowers q p (first_direction (rest q p sequence)) c) (own_preds q p))

  abbrev below : Bool
  below = list_all (λ b. not (reaches ds b ys)) (highs q p sequence c)

  own_is : (pred : Pred) → In pred (own_preds q p) → In pred q.query.preds × (belongs_to pred ≡ p)
  own_is pred here = let f = in_filter (λ pred. belongs_to pred == p) pred q.query.preds here in (f.0, eqb-true _ _ f.1)

  left_is : (pred : Pred) → In pred (own_preds q p) → cell d pred.left ≡ slice_get r pred.left.col
  left_is pred here =
      let o = own_is pred here in
      ap (λ (row : List Value). slice_get row pred.left.col) (ap (λ (n : ℕ). row_of n d) (s.own pred o.0 o.1).left ∙ last c r p long)

  right_is : (pred : Pred) → In pred (own_preds q p) → side q.params d pred.right ≡ side q.params c pred.right
  right_is pred here =
      let o = own_is pred here in
      earlier_side q s.named p c r pred o.0 long (s.own pred o.0 o.1).before

  holds_is : (pred : Pred) → In pred (own_preds q p) → holds q.params d pred ≡ compares pred.op (slice_get r pred.left.col) (side q.params c pred.right)
  holds_is pred here = λ i. compares pred.op (left_is pred here i) (right_is pred here i)

  -- a predicate on the first column of the rest holds within its bounds
  range_is : (pred : Pred) → In pred (own_preds q p) → is_tied q p pred ≡ false → (w : Value) → side q.params c pred.right ≡ Some w → is_null w ≡ false →
      holds q.params d pred ≡ (list_all (λ b. reaches ds b ys) (lower (first_direction (rest q p sequence)) pred.op w) && list_all (λ b. not (reaches ds b ys)) (upper (first_direction (rest q p sequence)) pred.op w))
  range_is pred here untied w is plain =
      let o = own_is pred here in
      let f = s.ranges pred o.0 o.1 untied in
      let value = λ (col : ℕ). get_or r col no_value in
      let there : In f.part.col (columns_of (rest q p sequence)) = subst (λ (parts : List KeyPart). In f.part.col (columns_of parts)) (sym f.first) (inl refl) in
      let inside : f.part.col < length r = wide f.part.col (in_rest f.part.col there) in
      let left : slice_get r pred.left.col ≡ Some (value f.part.col) = ap (slice_get r) (sym f.column) ∙ get_at r f.part.col no_value inside in
      holds_is pred here
      ∙ (λ i. compares pred.op (left i) (is i))
      ∙ range_law f.part.dir (dirs_of f.parts) pred.op w (value f.part.col) (cells (columns_of f.parts) r) f.range plain
      ∙ (λ i. list_all (λ b. reaches (dirs_of (sym f.first i)) b (cells (columns_of (sym f.first i)) r)) (lower (first_direction (sym f.first i)) pred.op w) && list_all (λ b. not (reaches (dirs_of (sym f.first i)) b (cells (columns_of (sym f.first i)) r))) (upper (first_direction (sym f.first i)) pred.op w))
    where
      in_rest : (k : ℕ) → In k (columns_of (rest q p sequence)) → In k (columns_of sequence)
      in_rest k here = later (count_ones (tied_set q.query p)) sequence k here
        where
          later : (n : ℕ) (parts : List KeyPart) (k : ℕ) → In k (columns_of (drop n parts)) → In k (columns_of parts)
          later zero parts k here = here
          later (suc n) [] k here = here
          later (suc n) (part ∷ parts) k here = inr (later n parts k here)

  -- the operand of a range isn't NULL where the predicate holds
  operand_plain : keeps q p d ≡ true → (pred : Pred) → In pred (own_preds q p) → is_tied q p pred ≡ false → (w : Value) → side q.params c pred.right ≡ Some w → is_null w ≡ false
  operand_plain keep pred here untied w is =
      let o = own_is pred here in
      let f = s.ranges pred o.0 o.1 untied in
      right_plain pred.op (slice_get r pred.left.col) (side q.params c pred.right) w f.range is (sym (holds_is pred here) ∙ all_at (holds q.params d) (own_preds q p) keep pred here)

  -- ---- where the predicates keep the row
  kept_passes : keeps q p d ≡ true → passes q p c ≡ true
  kept_passes keep = all_from (passes_one q p c) (own_preds q p) (λ pred here.
      let held : holds q.params d pred ≡ true = all_at (holds q.params d) (own_preds q p) keep pred here in
      let both : compares pred.op (slice_get r pred.left.col) (side q.params c pred.right) ≡ true = sym (holds_is pred here) ∙ held in
      elim (is_tied q p pred) as (λ b. is_tied q p pred ≡ b → cond b (compares pred.op (tied_value q p c pred.left.col) (side q.params c pred.right)) (is_operand (side q.params c pred.right)) ≡ true) [
        | true ↦ λ tied.
            let e = tied_one q s.named p pred.left.col (set_members _ pred.left.col tied) c r long keep in
            ap (λ (o : Option Value). compares pred.op o (side q.params c pred.right)) (e.2 ∙ sym e.1) ∙ both
        | false ↦ λ untied.
            let there = sides pred.op (slice_get r pred.left.col) (side q.params c pred.right) both in
            ap is_operand there.3 ∙ ap not (operand_plain keep pred here untied there.1 there.3)
      ] refl)

  kept_bounds : keeps q p d ≡ true → (above ≡ true) × (below ≡ true)
  kept_bounds keep = (
    all_flat (λ b. reaches ds b ys) (lowers q p (first_direction (rest q p sequence)) c) (own_preds q p) (λ pred here. (one pred here).0),
    all_flat (λ b. not (reaches ds b ys)) (uppers q p (first_direction (rest q p sequence)) c) (own_preds q p) (λ pred here. (one pred here).1),
  )
    where
      one : (pred : Pred) → In pred (own_preds q p) → (list_all (λ b. reaches ds b ys) (lowers q p (first_direction (rest q p sequence)) c pred) ≡ true) × (list_all (λ b. not (reaches ds b ys)) (uppers q p (first_direction (rest q p sequence)) c pred) ≡ true)
      one pred here =
          let dir = first_direction (rest q p sequence) in
          elim (is_tied q p pred) as (λ b. is_tied q p pred ≡ b → (list_all (λ b. reaches ds b ys) (cond b [] (bounds_with q p (lower dir pred.op) (side q.params c pred.right))) ≡ true) × (list_all (λ b. not (reaches ds b ys)) (cond b [] (bounds_with q p (upper dir pred.op) (side q.params c pred.right))) ≡ true)) [
            | true ↦ λ _. (refl, refl)
            | false ↦ λ untied.
                elim (side q.params c pred.right) as (λ o. side q.params c pred.right ≡ o → (list_all (λ b. reaches ds b ys) (bounds_with q p (lower dir pred.op) o) ≡ true) × (list_all (λ b. not (reaches ds b ys)) (bounds_with q p (upper dir pred.op) o) ≡ true)) [
                  | None ↦ λ _. (refl, refl)
                  | Some w ↦ λ is. and_parts _ _ (sym (range_is pred here untied w is (operand_plain keep pred here untied w is)) ∙ all_at (holds q.params d) (own_preds q p) keep pred here)
                ] refl
          ] refl

  -- ---- where the row has the tied values and lies within the bounds
  passes_keep : passes q p c ≡ true → cells (front q p sequence) r ≡ tie_values q p sequence c → above ≡ true → below ≡ true → keeps q p d ≡ true
  passes_keep pass same up down = all_from (holds q.params d) (own_preds q p) (λ pred here.
      let dir = first_direction (rest q p sequence) in
      let passed : passes_one q p c pred ≡ true = all_at (passes_one q p c) (own_preds q p) pass pred here in
      let low = flat_all (λ b. reaches ds b ys) (lowers q p dir c) (own_preds q p) up pred here in
      let high = flat_all (λ b. not (reaches ds b ys)) (uppers q p dir c) (own_preds q p) down pred here in
      elim (is_tied q p pred) as (λ b. is_tied q p pred ≡ b → cond b (compares pred.op (tied_value q p c pred.left.col) (side q.params c pred.right)) (is_operand (side q.params c pred.right)) ≡ true
      → list_all (λ b. reaches ds b ys) (cond b [] (bounds_with q p (lower dir pred.op) (side q.params c pred.right))) ≡ true → list_all (λ b. not (reaches ds b ys)) (cond b [] (bounds_with q p (upper dir pred.op) (side q.params c pred.right))) ≡ true → holds q.params d pred ≡ true) [
        | true ↦ λ tied one _ _. tied_holds pred here tied one
        | false ↦ λ untied one l h. open_holds pred here untied (side q.params c pred.right) refl one l h
      ] refl passed low high)
    where
      tied_holds : (pred : Pred) → In pred (own_preds q p) → is_tied q p pred ≡ true → compares pred.op (tied_value q p c pred.left.col) (side q.params c pred.right) ≡ true → holds q.params d pred ≡ true
      tied_holds pred here tied one =
          let k = pred.left.col in
          let both = sides pred.op (tied_value q p c k) (side q.params c pred.right) one in
          let in_front = fixed_in_front q p sequence s k tied in
          let value : get_or r k no_value ≡ both.0 = map_at_in (λ col. get_or r col no_value) (λ col. unwrap_or (tied_value q p c col) no_value) (front q p sequence) same k in_front ∙ ap (λ (o : Option Value). unwrap_or o no_value) both.2 in
          let left : slice_get r k ≡ tied_value q p c k = get_at r k no_value (wide k (in_take (count_ones (tied_set q.query p)) (columns_of sequence) k in_front)) ∙ ap (λ (v : Value). Some v) value ∙ sym both.2 in
          holds_is pred here ∙ ap (λ (o : Option Value). compares pred.op o (side q.params c pred.right)) left ∙ one
        where
          in_take : (n : ℕ) (cols : List ℕ) (k : ℕ) → In k (take n cols) → In k cols
          in_take zero cols k here = absurd here
          in_take (suc n) [] k here = absurd here
          in_take (suc n) (col ∷ cols) k (inl e) = inl e
          in_take (suc n) (col ∷ cols) k (inr i) = inr (in_take n cols k i)

      open_holds : (pred : Pred) → In pred (own_preds q p) → is_tied q p pred ≡ false → (o : Option Value) → side q.params c pred.right ≡ o → is_operand o ≡ true → list_all (λ b. reaches ds b ys) (bounds_with q p (lower (first_direction (rest q p sequence)) pred.op) o) ≡ true → list_all (λ b. not (reaches ds b ys)) (bounds_with q p (upper (first_direction (rest q p sequence)) pred.op) o) ≡ true → holds q.params d pred ≡ true
      open_holds pred here untied None is some l h = absurd (false≢true some)
      open_holds pred here untied (Some w) is some l h = range_is pred here untied w is (not_so (is_null w) some) ∙ and_from _ _ l h

  -- ---- both
  ties_long : length (dirs_of (take (count_ones (tied_set q.query p)) sequence)) ≡ length (tie_values q p sequence c)
  ties_long = front_long q p sequence s r ∙ length-map (front q p sequence) (λ (col : ℕ). get_or r col no_value) ∙ sym (length-map (front q p sequence) (λ (col : ℕ). unwrap_or (tied_value q p c col) no_value))

  abbrev begins : Bool
  begins = is_eq (common_cmp (dirs_of sequence) (tie_values q p sequence c) (cells_of q p sequence r))

  cells_tied : cells (front q p sequence) r ≡ tie_values q p sequence c → cells_of q p sequence r ≡ tie_values q p sequence c ++ ys
  cells_tied same = cells_are q p sequence s r ∙ ap (λ (l : List Value). l ++ ys) same

  begins_from : cells (front q p sequence) r ≡ tie_values q p sequence c → begins ≡ true
  begins_from same = ap (λ (l : List Value). is_eq (common_cmp (dirs_of sequence) (tie_values q p sequence c) l)) (cells_tied same) ∙ ap is_eq (common_cmp-prefix (dirs_of sequence) (tie_values q p sequence c) ys)

  front_from : begins ≡ true → cells (front q p sequence) r ≡ tie_values q p sequence c
  front_from h =
      front_equal (dirs_of (take (count_ones (tied_set q.query p)) sequence)) ds (tie_values q p sequence c) (cells (front q p sequence) r) ys ties_long
      (sym (front_long q p sequence s r) ∙ ties_long)
      (is_equal (common_cmp (dirs_of (take (count_ones (tied_set q.query p)) sequence) ++ ds) (tie_values q p sequence c) (cells (front q p sequence) r ++ ys)) ((λ i. is_eq (common_cmp (sym (dirs_are q p sequence s) i) (tie_values q p sequence c) (sym (cells_are q p sequence s r) i))) ∙ h))

  -- bounds behind the ties are bounds of the rest
  under_ties : cells (front q p sequence) r ≡ tie_values q p sequence c → (f : Bool → Bool) (bs : List Bound) → list_all (λ b. f (reaches (dirs_of sequence) b (cells_of q p sequence r))) (map (under (tie_values q p sequence c)) bs) ≡ list_all (λ b. f (reaches ds b ys)) bs
  under_ties same f bs =
      (λ i. list_all (λ b. f (reaches (dirs_are q p sequence s i) b (cells_tied same i))) (map (under (tie_values q p sequence c)) bs))
      ∙ each_under f (dirs_of (take (count_ones (tied_set q.query p)) sequence)) ds (tie_values q p sequence c) ys ties_long bs

  abbrev reach_lows : Option (List Value) → Bool
  reach_lows after = list_all (λ b. reaches (dirs_of sequence) b (cells_of q p sequence r)) (map (under (tie_values q p sequence c)) (lows q p sequence c after))

  abbrev reach_highs : Bool
  reach_highs = list_all (λ b. not (reaches (dirs_of sequence) b (cells_of q p sequence r))) (map (under (tie_values q p sequence c)) (highs q p sequence c))

  lows_are : cells (front q p sequence) r ≡ tie_values q p sequence c → (after : Option (List Value)) → reach_lows after ≡ list_all (λ b. reaches ds b ys) (lows q p sequence c after)
  lows_are same after = under_ties same (λ b. b) (lows q p sequence c after)

  highs_are : cells (front q p sequence) r ≡ tie_values q p sequence c → reach_highs ≡ below
  highs_are same = under_ties same not (highs q p sequence c)

  within_parts : (after : Option (List Value)) → (passes q p c && (begins && (reach_lows after && reach_highs))) ≡ true → (passes q p c ≡ true) × (begins ≡ true) × (reach_lows after ≡ true) × (reach_highs ≡ true)
  within_parts after all =
      let a = and_parts (passes q p c) (begins && (reach_lows after && reach_highs)) all in
      let b = and_parts begins (reach_lows after && reach_highs) a.1 in
      let e = and_parts (reach_lows after) reach_highs b.1 in
      (a.0, b.0, e.0, e.1)

  within_from : (after : Option (List Value)) → passes q p c ≡ true → begins ≡ true → reach_lows after ≡ true → reach_highs ≡ true → (passes q p c && (begins && (reach_lows after && reach_highs))) ≡ true
  within_from after a b l h = and_from (passes q p c) (begins && (reach_lows after && reach_highs)) a (and_from begins (reach_lows after && reach_highs) b (and_from (reach_lows after) reach_highs l h))

  -- the predicates keep a row exactly where the input passes and the row lies within the range
  pub row_kept : keeps q p d ≡ (passes q p c && lies_within q p sequence c None (cells_of q p sequence r))
  row_kept = same_test_from (keeps q p d) (passes q p c && (begins && (reach_lows None && reach_highs))) there back
    where
      there : keeps q p d ≡ true → (passes q p c && (begins && (reach_lows None && reach_highs))) ≡ true
      there keep =
          let same = kept_front q p sequence s c r long keep in
          let bounds = kept_bounds keep in
          within_from None (kept_passes keep) (begins_from same) (lows_are same None ∙ bounds.0) (highs_are same ∙ bounds.1)

      back : (passes q p c && (begins && (reach_lows None && reach_highs))) ≡ true → keeps q p d ≡ true
      back all =
          let a = within_parts None all in
          let same = front_from a.1 in
          passes_keep a.0 same (sym (lows_are same None) ∙ a.2) (sym (highs_are same) ∙ a.3)

  -- and strictly after the cursor exactly where it reaches the start too
  pub row_after : (after : Option (List Value)) → ((at : List Value) → after ≡ Some at → length at ≡ length (position_columns q.tables q.query)) → (keeps q p d && is_after q after d) ≡ (passes q p c && lies_within q p sequence c after (cells_of q p sequence r))
  row_after None fits = and_true (keeps q p d) ∙ row_kept
    where
      and_true : (b : Bool) → (b && true) ≡ b
      and_true true = refl
      and_true false = refl
  row_after (Some at) fits = same_test_from (keeps q p d && is_after q (Some at) d) (passes q p c && (begins && (reach_lows (Some at) && reach_highs))) there back
    where
      there : (keeps q p d && is_after q (Some at) d) ≡ true → (passes q p c && (begins && (reach_lows (Some at) && reach_highs))) ≡ true
      there both =
          let k = and_parts (keeps q p d) (is_after q (Some at) d) both in
          let a = within_parts None (sym row_kept ∙ k.0) in
          let same = kept_front q p sequence s c r long k.0 in
          let reached = sym (start_is q p sequence s c r at long k.0 (fits at refl)) ∙ k.1 in
          within_from (Some at) a.0 a.1 (lows_are same (Some at) ∙ and_from _ _ reached (sym (lows_are same None) ∙ a.2)) a.3

      back : (passes q p c && (begins && (reach_lows (Some at) && reach_highs))) ≡ true → (keeps q p d && is_after q (Some at) d) ≡ true
      back all =
          let a = within_parts (Some at) all in
          let same = front_from a.1 in
          let l = and_parts _ _ (sym (lows_are same (Some at)) ∙ a.2) in
          let keep : keeps q p d ≡ true = row_kept ∙ within_from None a.0 a.1 (lows_are same None ∙ l.1) a.3 in
          and_from (keeps q p d) (is_after q (Some at) d) keep (start_is q p sequence s c r at long keep (fits at refl) ∙ l.0)
