-- What is known of a relation at which a stop can stand, and of a sequence that serves it.
use Rattle.std.proofs.Common.{◌≡◌, ℕ, suc, ◌+◌, ◌-◌, ◌<◌, ◌≤◌, true, false, not, nat_le, inl, inr, List, [], ◌∷◌, ◌++◌, length, get_or, map, filter, bit_or, Option, unwrap_or, refl, sym, ap, ◌∙◌, arith}
use Rattle.std.specs.List.{range_with_len}
use Rattle.std.proofs.lemmas.Bool.{and_parts, or_cases, eqb-true, eq-eqb, leb-true, lt-ltb, false≢true, true≢false, not-true, cases_lt}
use Rattle.std.proofs.lemmas.Option.{get_or_from_slice_get}
use Rattle.std.proofs.lemmas.List.{length-map}
use Rattle.pq_base.specs.Columns.{has_col, set_of}
use Rattle.pq_base.specs.declared.value.Value.{Value}
use Rattle.pq_base.specs.Members.{In}
use Rattle.pq_base.proofs.TypeFits.{length_from_fits}
use Rattle.pq_schema.specs.declared.table.KeyPart.{KeyPart}
use Rattle.pq_schema.specs.declared.table.Table.{Table}
use Rattle.pq_schema.specs.declared.table.Column.{Column}
use Rattle.pq_schema.specs.declared.query.Operand.{Operand}
use Rattle.pq_schema.specs.declared.query.Operand.TheVariants as operand
use Rattle.pq_schema.specs.declared.query.Pred.{Pred}
use Rattle.pq_schema.specs.declared.query.OrderItem.{OrderItem}
use Rattle.pq_schema.specs.declared.query.Query.{Query}
use Rattle.pq_schema.specs.Sound.{IsQuery, IsNamedPred}
use Rattle.pq_schema.specs.Resolved.{IsColumnOf, IsJoined, IsOperand, IsPredicate, IsResolved}
use Rattle.pq_schema.specs.Sequences.{ascending_part, columns_of, without, begins_with, serves}
use Rattle.pq_schema.specs.Tables.{is_lookup}
use Rattle.pq_schema.specs.Relations.{relation_at, table_of, later, belongs_to, is_range, is_before, ties, tied_set, is_rest, part_of, order_rest, first_column, is_column_at, keeps_range, range_on, position_columns, is_total}
use Rattle.pq_schema.specs.Candidates.{can_stop_at, are_bounded}
use Rattle.pq_plan.specs.Answer.{Question, rows_at, no_value}
use Rattle.pq_plan.specs.Kept.{cells, KeepsSchema}
use Rattle.pq_plan.proofs.Kept.{row_fits}
use Rattle.pq_plan.specs.Meaning.{keeps, looks_up}
use Rattle.pq_plan.specs.Running.{tied_value, is_match}
use Rattle.pq_base.proofs.Members.{all_at}
use Rattle.pq_base.proofs.Members.{all_member, range_in}
use Rattle.pq_base.proofs.Sets.{set_members, members_set, members_within}
use Rattle.pq_plan.proofs.Matching.{AreTied}
use Rattle.pq_plan.proofs.Fixed.{passes_match, tied_one}
use Rattle.pq_plan.proofs.Bounds.{asked, named}
use Rattle.pq_plan.proofs.Totals.{total}
use Rattle.pq_serving.specs.Scanning.{front, rest, ties as tie_values}
use Rattle.pq_serving.proofs.Columns.{same_parts_are, rest_columns, position_item, none_left}

-- the row has a value at each column of the sequence
abbrev pub HasColumns : List KeyPart → List Value → Type 0
HasColumns sequence r = (k : ℕ) → In k (columns_of sequence) → k < length r

-- a constant or a parameter
abbrev pub IsFree : Operand → Type 0
IsFree (operand.Const value) = Unit {0}
IsFree (operand.Param number) = Unit {0}
IsFree (operand.Col col) = ⊥

-- a predicate that belongs to relation p is of a column of p, against what is known before p
pub record IsOwn (p : ℕ) (pred : Pred) : Type 0 where
  pub left : pred.left.rel ≡ p
  pub before : is_before p pred.right ≡ true

-- and one on a column that is not fixed is a range on the first column of the rest, against a constant or parameter
pub record IsFirstRange (q : Question) (p : ℕ) (sequence : List KeyPart) (pred : Pred) : Type 0 where
  pub range : is_range pred.op ≡ true
  pub free : IsFree pred.right
  pub part : KeyPart
  pub parts : List KeyPart
  pub first : rest q p sequence ≡ part ∷ parts
  pub column : part.col ≡ pred.left.col

-- the sequence serves relation p of the query, at which a stop can stand
pub record IsServed (q : Question) (p : ℕ) (sequence : List KeyPart) : Type 0 where
  pub from_one : 1 ≤ p
  pub within : p ≤ length q.query.relations
  pub named : (pred : Pred) → In pred q.query.preds → IsNamedPred (length q.query.relations) pred
  pub items : (item : OrderItem) → In item (position_columns q.tables q.query) → (1 ≤ item.col.rel) × (item.col.rel ≤ p)
  pub free : looks_up q p ≡ false
  pub own : (pred : Pred) → In pred q.query.preds → belongs_to pred ≡ p → IsOwn p pred
  pub begins : begins_with sequence (tied_set q.query p) ≡ true
  pub rest_is : map part_of (filter (is_rest p (tied_set q.query p)) (position_columns q.tables q.query)) ≡ rest q p sequence
  pub some_rest : rest q p sequence ≡ [] → ⊥
  pub ranges : (pred : Pred) → In pred q.query.preds → belongs_to pred ≡ p → has_col (tied_set q.query p) pred.left.col ≡ false → IsFirstRange q p sequence pred

-- ---- the tied columns
module _ (q : Question) (p : ℕ) (sequence : List KeyPart) (s : IsServed q p sequence) where
  -- the first columns are tied
  pub front_tied : AreTied q p (front q p sequence)
  front_tied k here = set_members _ k (ap (λ (set : ℕ). has_col set k) (sym (eqb-true _ _ s.begins)) ∙ members_set (front q p sequence) k here)

  -- each fixed column is among them
  pub fixed_in_front : (k : ℕ) → has_col (tied_set q.query p) k ≡ true → In k (front q p sequence)
  fixed_in_front k h = set_members (front q p sequence) k (ap (λ (set : ℕ). has_col set k) (eqb-true _ _ s.begins) ∙ h)

  -- a row that passes has the tied values there
  pub kept_match : (c : List (List Value)) (r : List Value) → suc (length c) ≡ p → keeps q p (c ++ r ∷ []) ≡ true → is_match q p (front q p sequence) c r ≡ true
  kept_match c r long keep = passes_match q s.named p (front q p sequence) front_tied c r long keep

  pub kept_front : (c : List (List Value)) (r : List Value) → suc (length c) ≡ p → keeps q p (c ++ r ∷ []) ≡ true → cells (front q p sequence) r ≡ tie_values q p sequence c
  kept_front c r long keep = each (front q p sequence) front_tied
    where
      each : (cols : List ℕ) → AreTied q p cols → cells cols r ≡ map (λ col. unwrap_or (tied_value q p c col) no_value) cols
      each [] h = refl
      each (k ∷ ks) h =
          let e = tied_one q s.named p k (h k (inl refl)) c r long keep in
          let one : get_or r k no_value ≡ unwrap_or (tied_value q p c k) no_value = get_or_from_slice_get r k e.0 no_value e.1 ∙ sym (ap (λ (o : Option Value). unwrap_or o no_value) e.2) in
          λ i. one i ∷ each ks (λ n there. h n (inr there)) i

-- ---- that a sequence serves
module _ (tables : List Table) (query : Query) (rows : List (ℕ × List Value)) (params : List Value) (sound : IsQuery tables query) (kept : KeepsSchema tables rows) (resolved : IsResolved tables query) (p : ℕ) (low : 1 ≤ p) (high : p ≤ length query.relations) (can : can_stop_at tables query p ≡ true) where
  abbrev q : Question
  q = asked tables query rows params sound kept

  no_lookup : is_lookup (table_of tables query p) (tied_set query p) ≡ false
  no_lookup = not-true _ (and_parts (are_bounded tables query (p - 1)) _ (and_parts _ _ (and_parts _ _ (and_parts _ _ can).0).0).0).1

  ordered : (item : OrderItem) → In item query.order → item.col.rel ≤ p
  ordered item here = leb-true _ _ (all_at (λ (item : OrderItem). nat_le item.col.rel p) query.order (and_parts _ _ (and_parts _ _ (and_parts _ _ can).0).0).1 item here)

  ranged : range_on query p ≡ true
  ranged = (and_parts _ _ (and_parts _ _ can).0).1

  -- a relation behind p is a lookup
  behind : (i : ℕ) → p < i → i ≤ length query.relations → looks_up q i ≡ true
  behind i above inside = (total tables query rows params sound kept i inside (all_at (is_total tables query) (range_with_len (p + 1) (length query.relations - p)) (and_parts _ _ can).1 i (range_in i (p + 1) (length query.relations - p) (omega arith) (omega arith)))).lookup

  pub each_item : (item : OrderItem) → In item (position_columns tables query) → (1 ≤ item.col.rel) × (item.col.rel ≤ p)
  each_item item here = elim (position_item tables query p item here) [
    | inl a ↦ ((all_member (λ (item : OrderItem). IsColumnOf tables query item.col) query.order resolved.order item a).from_one, ordered item a)
    | inr b ↦ (
      b.0,
      elim (cases_lt p item.col.rel) [
        | inl above ↦ absurd (true≢false (sym (behind item.col.rel above b.1) ∙ b.2))
        | inr upto ↦ upto
      ],
    )
  ]

  predicate : (pred : Pred) → In pred query.preds → IsPredicate tables query pred
  predicate pred here = all_member (IsPredicate tables query) query.preds resolved.preds pred here

  left_is : (pred : Pred) (o : Operand) → IsOperand tables query pred o → later pred.left.rel o ≡ pred.left.rel
  left_is pred (operand.Const value) h = refl
  left_is pred (operand.Param number) h = refl
  left_is pred (operand.Col col) h = let joined : IsJoined tables query pred col = h in let lt = joined.earlier in omega arith

  before_is : (pred : Pred) (o : Operand) → IsOperand tables query pred o → (n : ℕ) → pred.left.rel ≡ n → is_before n o ≡ true
  before_is pred (operand.Const value) h n e = refl
  before_is pred (operand.Param number) h n e = refl
  before_is pred (operand.Col col) h n e = let joined : IsJoined tables query pred col = h in let lt = joined.earlier in lt-ltb col.rel n (omega arith)

  each_own : (pred : Pred) → In pred query.preds → belongs_to pred ≡ p → IsOwn p pred
  each_own pred here is =
      let h = predicate pred here in
      let left : pred.left.rel ≡ p = sym (left_is pred pred.right h.right) ∙ is in
      record { left = left; before = before_is pred pred.right h.right p left }

  free_is : (pred : Pred) (o : Operand) → IsOperand tables query pred o → is_range pred.op ≡ true → IsFree o
  free_is pred (operand.Const value) h r = tt
  free_is pred (operand.Param number) h r = tt
  free_is pred (operand.Col col) h r = let joined : IsJoined tables query pred col = h in absurd (false≢true (sym (ap is_range joined.equal) ∙ r))

  first_of : (order tail : List KeyPart) (col : ℕ) → is_column_at col (first_column order) ≡ true → (part : KeyPart) × (parts : List KeyPart) × (order ++ tail ≡ part ∷ parts) × (part.col ≡ col)
  first_of [] tail col h = absurd (false≢true h)
  first_of (part ∷ parts) tail col h = (part, parts ++ tail, refl, eqb-true _ _ h)

  abbrev left_keys : List KeyPart
  left_keys = map ascending_part (without (bit_or (tied_set query p) (set_of (columns_of (order_rest query p)))) (table_of tables query p).key)

  first_range : (sequence : List KeyPart) → rest q p sequence ≡ order_rest query p ++ left_keys → (pred : Pred) → In pred query.preds → belongs_to pred ≡ p → has_col (tied_set query p) pred.left.col ≡ false → IsFirstRange q p sequence pred
  first_range sequence is pred here own free =
      let k = all_at (keeps_range p (tied_set query p) (first_column (order_rest query p))) query.preds ranged pred here in
      elim (or_cases _ _ k) [
        | inl a ↦ elim (or_cases _ _ a) [
          | inl other ↦ absurd (false≢true (sym (ap not (eq-eqb _ _ own)) ∙ other))
          | inr tied ↦ absurd (false≢true (sym free ∙ tied))
        ]
        | inr b ↦
            let both = and_parts _ _ b in
            let f = first_of (order_rest query p) left_keys pred.left.col both.1 in
            record { range = both.0; free = free_is pred pred.right (predicate pred here).right both.0; part = f.0; parts = f.1; first = is ∙ f.2; column = f.3 }
      ]

  some_left : (sequence : List KeyPart) → rest q p sequence ≡ order_rest query p ++ left_keys → rest q p sequence ≡ [] → ⊥
  some_left sequence is none =
      let fixed_columns = map (λ (pred : Pred). pred.left.col) (filter (ties p) query.preds) in
      false≢true (sym no_lookup ∙ members_within (table_of tables query p).key fixed_columns (λ k here. set_members fixed_columns k (none_left tables query p (order_rest query p) (sym is ∙ none) k here)))

  pub served : (sequence : List KeyPart) → serves (table_of tables query p) (tied_set query p) (order_rest query p) sequence ≡ true → IsServed q p sequence
  served sequence h =
      let both = and_parts _ _ h in
      let is : rest q p sequence ≡ order_rest query p ++ left_keys = same_parts_are _ _ both.1 in
      record {
        from_one = low;
        within = high;
        named = named tables query rows params sound kept;
        items = each_item;
        free = no_lookup;
        own = each_own;
        begins = both.0;
        rest_is = rest_columns tables query p low high no_lookup ∙ sym is;
        some_rest = some_left sequence is;
        ranges = first_range sequence is;
      }

  -- each row of the relation has a value at each column of a sequence of its table
  pub wide : (sequence : List KeyPart) → ((k : ℕ) → In k (columns_of sequence) → k < length (table_of tables query p).columns) → (r : List Value) → In r (rows_at q p) → HasColumns sequence r
  wide sequence inside r here k at =
      let types = map (λ (column : Column). column.ty) (table_of tables query p).columns in
      let l = length_from_fits types r (row_fits tables rows kept (relation_at query p).table r here) in
      let m = length-map (table_of tables query p).columns (λ (column : Column). column.ty) in
      let n = inside k at in
      omega (arith, l, m, n)
