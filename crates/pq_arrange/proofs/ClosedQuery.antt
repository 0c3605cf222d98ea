-- With its equalities closed a query is again one that reading gives over the tables.
use Rattle.std.proofs.Common.{◌≡◌, ℕ, ◌+◌, ◌<◌, ◌≤◌, Bool, true, false, not, ◌&&◌, inl, inr, List, [], ◌∷◌, length, map, filter, flat_map, Option, Some, None, refl, sym, ap, ◌∙◌, subst, arith}
use Rattle.std.specs.List.{range_with_len, find}
use Rattle.std.specs.Option.{option_map_or}
use Rattle.std.proofs.lemmas.Bool.{false≢true, and_parts, ltb-true, ltb-false}
use Rattle.std.proofs.lemmas.List.Elements.{All-from_recursion, All-weaker}
use Rattle.pq_base.specs.Values.{FitsType}
use Rattle.pq_base.specs.declared.value.ColType.{ColType}
use Rattle.pq_base.specs.declared.value.ColType.TheVariants as type
use Rattle.pq_base.specs.Members.{In}
use Rattle.pq_schema.proofs.TypeKinds.{param_same, same_from_params}
use Rattle.pq_schema.specs.declared.table.Table.{Table}
use Rattle.pq_schema.specs.declared.query.ColRef.{ColRef}
use Rattle.pq_schema.specs.declared.query.Operand.{Operand}
use Rattle.pq_schema.specs.declared.query.Operand.TheVariants as operand
use Rattle.pq_schema.specs.declared.query.Pred.{Pred}
use Rattle.pq_schema.specs.declared.query.OrderItem.{OrderItem}
use Rattle.pq_schema.specs.declared.query.Query.{Query}
use Rattle.pq_base.specs.Values.{same_kind}
use Rattle.pq_base.specs.Comparing.{is_null_test}
use Rattle.pq_schema.specs.Relations.{table_of, is_equality}
use Rattle.pq_schema.specs.Resolved.{IsResolved, IsPredicate, IsOperand, IsColumnOf, IsParam, ref_type, param_type, is_param}
use Rattle.pq_base.proofs.Members.{each_by_in, in_filter, in_map, map_in, in_flat_map, flat_map_in, in_either, in_left, in_right, in_range, all_member, any_at, any_from}
use Rattle.pq_arrange.specs.Classes.{is_ref, is_given, class_of, is_in, classes, column_refs_at, members, gives, equality_of, is_later, beside, class_joins, class_preds, others, closed_query}
use Rattle.pq_arrange.specs.Laws.{ResolvedWhenClosed, NoMorePredicates}
use Rattle.pq_arrange.proofs.Chains.{within_class, ref_same, member_in, in_members, Rises, members_rise}
use Rattle.pq_arrange.proofs.Closes.{find_parts, others_in, stays_or_gives, class_there, not_true}
use Rattle.pq_arrange.proofs.Counted.{no_more}
use Rattle.pq_arrange.proofs.Moved.{equality}

pub no_more_predicates : NoMorePredicates
no_more_predicates tables query = no_more tables query

-- ---- kinds
-- two types are of one kind exactly where what is compared with them has one type
kind_param : (a b : ColType) → same_kind a b ≡ true → param_type a ≡ param_type b
kind_param = param_same

param_kind : (a b : ColType) → param_type a ≡ param_type b → same_kind a b ≡ true
param_kind = same_from_params

module _ (tables : List Table) (query : Query) (r : IsResolved tables query) where
  abbrev old : List Pred
  old = query.preds

  abbrev query' : Query
  query' = closed_query tables query

  column_kept : (ref : ColRef) → IsColumnOf tables query ref → IsColumnOf tables query' ref
  column_kept ref c = record { from_one = c.from_one; there = c.there; inside = c.inside }

  predicate : (pred : Pred) → In pred old → IsPredicate tables query pred
  predicate pred i = all_member (IsPredicate tables query) old r.preds pred i

  -- what is compared with members of one class is of one type
  abbrev Alike : ColRef → ColRef → Type 0
  Alike a b = param_type (ref_type tables query a) ≡ param_type (ref_type tables query b)

  alike : (a b : ColRef) → class_of old a ≡ class_of old b → Alike a b
  alike = within_class Alike (record { itself = λ a. refl; back = λ a b e. sym e; on = λ a b c e f. e ∙ f }) old
      (λ pred i other is e. kind_param (ref_type tables query pred.left) (ref_type tables query other) (subst (IsOperand tables query pred) is (predicate pred i).right).kind)

  member_column : (class ref : ColRef) → In ref (members tables query class) → IsColumnOf tables query ref
  member_column class ref i =
      let f = in_filter (is_in old class) ref (flat_map (column_refs_at tables query) (range_with_len 1 (length query.relations))) i in
      let g = in_flat_map (column_refs_at tables query) ref (range_with_len 1 (length query.relations)) f.0 in
      let h = in_map (λ (col : ℕ). let r : ColRef = record { rel = g.0; col = col } in r) ref (range_with_len 0 (length (table_of tables query g.0).columns)) g.2 in
      let rels = in_range g.0 1 (length query.relations) g.1 in
      let cols = in_range h.0 0 (length (table_of tables query g.0).columns) h.1 in
      let low : 1 ≤ g.0 = rels.0 in
      let high : g.0 < 1 + length query.relations = rels.1 in
      let inside : h.0 < 0 + length (table_of tables query g.0).columns = cols.1 in
      subst (IsColumnOf tables query) h.2 (record { from_one = low; there = omega (arith, high); inside = omega (arith, inside) })

  -- what a class has
  joined : (a b : ColRef) → IsColumnOf tables query a → IsColumnOf tables query b → class_of old a ≡ class_of old b → b.rel < a.rel → IsPredicate tables query' (equality_of (operand.Col b) a)
  joined a b c d e low = record {
    left = column_kept a c;
    right = record { equal = refl; column = column_kept b d; earlier = low; kind = param_kind (ref_type tables query a) (ref_type tables query b) (alike a b e) };
  }

  operand_kept : (a : ColRef) (pred : Pred) (right : Operand) → is_ref right ≡ false → is_null_test pred.op ≡ false → IsOperand tables query pred right → Alike a pred.left → IsOperand tables query' (equality_of right a) right
  operand_kept a pred (operand.Const value) n c o e = (λ _. subst (λ (t : ColType). FitsType t value) (sym e) (o.0 c), λ h. absurd (false≢true h))
  operand_kept a pred (operand.Param number) n c o e = (refl, subst (λ (t : ColType). IsParam query.params number t) (sym e) o.1)
  operand_kept a pred (operand.Col other) n c o e = absurd (false≢true (sym n))

  joins_kept : (class : ColRef) (refs : List ColRef) → ((ref : ColRef) → In ref refs → IsColumnOf tables query ref × (class_of old ref ≡ class)) → Rises tables query refs → (pred : Pred) → In pred (class_joins refs) → IsPredicate tables query' pred
  joins_kept class [] known up pred i = absurd i
  joins_kept class (f ∷ rest) known up pred i =
      let later : List ColRef = filter (is_later f) rest in
      let beyond : List ColRef = filter (λ ref. not (is_later f ref)) rest in
      let first = known f (inl refl) in
      elim (in_either pred (map (equality_of (operand.Col f)) later) (flat_map (beside later) beyond) i) [
        | inl a ↦
            let x = in_map (equality_of (operand.Col f)) pred later a in
            let y = in_filter (is_later f) x.0 rest x.1 in
            let k = known x.0 (inr y.0) in
            subst (IsPredicate tables query') x.2 (joined x.0 f k.0 first.0 (k.1 ∙ sym first.1) (ltb-true f.rel (x.0).rel y.1))
        | inr b ↦
            let x = in_flat_map (beside later) pred beyond b in
            let q = in_filter (λ ref. not (is_later f ref)) x.0 rest x.1 in
            let s = one later x.0 pred x.2 in
            let t = in_filter (is_later f) s.0 rest s.1 in
            let kq = known x.0 (inr q.0) in
            let ks = known s.0 (inr t.0) in
            let above : f.rel < (s.0).rel = ltb-true f.rel (s.0).rel t.1 in
            let below : (x.0).rel ≤ f.rel = ltb-false f.rel (x.0).rel (not_true (is_later f x.0) q.1) in
            subst (IsPredicate tables query') s.2 (joined s.0 x.0 ks.0 kq.0 (ks.1 ∙ sym kq.1) (omega (arith, above, below)))
      ]
    where
      one : (later : List ColRef) (q : ColRef) (pred : Pred) → In pred (beside later q) → (s : ColRef) × In s later × (equality_of (operand.Col q) s ≡ pred)
      one [] q pred i = absurd i
      one (s ∷ more) q pred (inl e) = (s, inl refl, e)
      one (s ∷ more) q pred (inr i) = absurd i

  class_kept : (class : ColRef) (pred : Pred) → In pred (class_preds tables query class) → IsPredicate tables query' pred
  class_kept class pred i = by_given (find (gives old class) old) refl i
    where
      by_given : (o : Option Pred) → find (gives old class) old ≡ o → In pred (option_map_or (λ pred. map (equality_of pred.right) (members tables query class)) o (class_joins (members tables query class))) → IsPredicate tables query' pred
      by_given None e i = joins_kept class (members tables query class) (λ ref here. (member_column class ref here, in_members tables query class ref here)) (members_rise tables query class) pred i
      by_given (Some p) e i =
          let f = find_parts (gives old class) old p e in
          let parts = and_parts (is_given p) (is_in old class p.left) f.1 in
          let x = in_map (equality_of p.right) pred (members tables query class) i in
          let one : class_of old x.0 ≡ class_of old p.left = in_members tables query class x.0 x.1 ∙ sym (ref_same (class_of old p.left) class parts.1) in
          subst (IsPredicate tables query') x.2 (record {
            left = column_kept x.0 (member_column class x.0 x.1);
            right = operand_kept x.0 p p.right (not_true (is_ref p.right) (and_parts (is_equality p.op) (not (is_ref p.right)) parts.0).1) (ap is_null_test (equality p.op (and_parts (is_equality p.op) (not (is_ref p.right)) parts.0).0)) (predicate p f.0).right (alike x.0 p.left one);
          })

  predicate_kept : (pred : Pred) → IsPredicate tables query pred → IsPredicate tables query' pred
  predicate_kept pred h = record { left = column_kept pred.left h.left; right = by_right pred.right h.right }
    where
      by_right : (right : Operand) → IsOperand tables query pred right → IsOperand tables query' pred right
      by_right (operand.Const value) o = o
      by_right (operand.Param number) o = o
      by_right (operand.Col other) o = record { equal = o.equal; column = column_kept other o.column; earlier = o.earlier; kind = o.kind }

  all_kept : (pred : Pred) → In pred query'.preds → IsPredicate tables query' pred
  all_kept pred i = elim (in_either pred (flat_map (class_preds tables query) (classes old)) (others old) i) [
    | inl a ↦ let c = in_flat_map (class_preds tables query) pred (classes old) a in class_kept c.0 pred c.2
    | inr b ↦ predicate_kept pred (predicate pred (others_in old [] old pred b))
  ]

  -- a parameter that was used is
  used_kept : (number : ℕ) (pred : Pred) → In pred old → is_param number pred.right ≡ true → (p : Pred) × In p query'.preds × (is_param number p.right ≡ true)
  used_kept number pred i u = elim (stays_or_gives old [] old (λ c _ _. refl) pred i (no_join pred.right u)) [
    | inl stays ↦ (pred, in_right pred (flat_map (class_preds tables query) (classes old)) (others old) stays, u)
    | inr given ↦
        let c : ColRef = class_of old pred.left in
        let there : In c (classes old) = class_there old pred i (and_parts (is_equality pred.op) (not (is_ref pred.right)) given.0).0 given.1 in
        let in_class : In (equality_of pred.right pred.left) (class_preds tables query c) = subst (λ (o : Option Pred). In (equality_of pred.right pred.left) (option_map_or (λ pred. map (equality_of pred.right) (members tables query c)) o (class_joins (members tables query c)))) (sym given.2)
        (map_in (equality_of pred.right) pred.left (members tables query c) (member_in tables query c pred.left (predicate pred i).left refl)) in
        (equality_of pred.right pred.left, in_left (equality_of pred.right pred.left) (flat_map (class_preds tables query) (classes old)) (others old) (flat_map_in (class_preds tables query) (equality_of pred.right pred.left) c (classes old) there in_class), u)
  ]
    where
      neither : (b : Bool) → (b && false) ≡ false
      neither true = refl
      neither false = refl

      no_join : (right : Operand) → is_param number right ≡ true → (is_equality pred.op && is_ref right) ≡ false
      no_join (operand.Const value) u = absurd (false≢true u)
      no_join (operand.Param other) u = neither (is_equality pred.op)
      no_join (operand.Col other) u = absurd (false≢true u)

  pub closed_resolved : IsResolved tables query'
  closed_resolved = record {
    some_relations = r.some_relations;
    few_relations = r.few_relations;
    relations = r.relations;
    aliases = r.aliases;
    some_selected = r.some_selected;
    few_selected = r.few_selected;
    select = All-weaker (IsColumnOf tables query) (IsColumnOf tables query') column_kept query.select r.select;
    few_preds = let a : length query'.preds ≤ length query.preds = no_more tables query in let b = r.few_preds in omega (arith, a, b);
    preds = All-from_recursion (IsPredicate tables query') query'.preds (each_by_in (IsPredicate tables query') query'.preds all_kept);
    few_order = r.few_order;
    order = All-weaker (λ (item : OrderItem). IsColumnOf tables query item.col) (λ (item : OrderItem). IsColumnOf tables query' item.col) (λ item. column_kept item.col) query.order r.order;
    once = r.once;
    stop = r.stop;
    params = λ number low high.
        let f = any_at (λ pred. is_param number pred.right) query.preds (r.params number low high) in
        let g = used_kept number f.0 f.1 f.2 in
        any_from (λ pred. is_param number pred.right) query'.preds g.0 g.1 g.2;
  }

pub resolved_when_closed : ResolvedWhenClosed
resolved_when_closed tables query r = closed_resolved tables query r
