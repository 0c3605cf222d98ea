-- What holds of a query over tables that keep the schema.
use Rattle.std.proofs.Common.{◌≡◌, Some, None, ℕ, zero, suc, ◌-◌, ◌≤◌, true, false, cond, min, ◌⊎◌, inl, inr, List, [], ◌∷◌, length, get_or, map, filter, slice_get, refl, sym, ap, ◌∙◌, subst, arith}
use Rattle.std.specs.Option.{option_map_or}
use Rattle.std.specs.Ordering.{eq_by_cmp}
use Rattle.std.proofs.lemmas.Bool.{ne_eqb, cases_lt}
use Rattle.pq_base.specs.declared.value.Value.{Value}
use Rattle.pq_base.specs.Values.{has_null}
use Rattle.pq_schema.specs.declared.table.Table.{Table}
use Rattle.pq_schema.specs.declared.table.Limit.{Limit}
use Rattle.pq_schema.specs.declared.query.Operand.{Operand}
use Rattle.pq_schema.specs.declared.query.Operand.TheVariants as operand
use Rattle.pq_schema.specs.declared.query.Pred.{Pred}
use Rattle.pq_schema.specs.declared.query.Relation.{Relation}
use Rattle.pq_schema.specs.declared.query.Query.{Query}
use Rattle.pq_schema.specs.Sound.{IsQuery, IsLinked, IsNamedPred, IsNamedSide}
use Rattle.pq_schema.specs.Tables.{table_at, is_lookup, applies, least_of, least_limit, no_table}
use Rattle.pq_schema.specs.Relations.{relation_at, no_relation, table_of, later, ties, tied_set}
use Rattle.pq_schema.specs.Candidates.{bound_at}
use Rattle.pq_base.specs.Members.{In, Apart}
use Rattle.pq_base.specs.Comparing.{compares}
use Rattle.pq_plan.specs.Answer.{Question, rows_of, rows_at}
use Rattle.pq_plan.specs.Kept.{row_cmp, cells, IsNumber, KeepsSchema}
use Rattle.pq_plan.specs.Meaning.{key_of}
use Rattle.pq_base.proofs.Members.{each_in, each_by_in, in_filter, filter_none, all_member, at_in}
use Rattle.pq_base.proofs.Sets.{within_members}
use Rattle.pq_plan.proofs.ValueOrder.{row_total, row_only}
use Rattle.pq_plan.proofs.Apart.{differs, differing, equal}
use Rattle.pq_plan.proofs.Kept.{row_numbers, rows_apart, limit_kept}
use Rattle.pq_plan.proofs.Laws.{IsOf, Limited, Keeps}
use Rattle.pq_plan.proofs.Fixed.{earlier_row, same_side, tied}

-- ---- lists
past_end : {X : Type 0} (xs : List X) (k : ℕ) (d : X) → length xs ≤ k → get_or xs k d ≡ d
past_end [] k d h = refl
past_end (x ∷ xs) zero d h = absurd (omega arith)
past_end (x ∷ xs) (suc k) d h = past_end xs k d (omega arith)

-- ---- data bounds
which : (a b : ℕ) → (min a b ≡ a) ⊎ (min a b ≡ b)
which a b = grind arith

pub least_is : (n : ℕ) (ls : List Limit) → least_of (map (λ (l : Limit). l.n) ls) ≡ Some n → (l : Limit) × In l ls × (l.n ≡ n)
least_is n [] h = let no : None ≡ Some n = h in cc
least_is n (l ∷ ls) h =
    let rest = least_of (map (λ (l : Limit). l.n) ls) in
    elim rest as (λ o. rest ≡ o → Some (option_map_or (λ m. min l.n m) o l.n) ≡ Some n → (k : Limit) × In k (l ∷ ls) × (k.n ≡ n)) [
      | None ↦ λ _ e. let same : l.n ≡ n = cc in (l, inl refl, same)
      | Some m ↦ λ is e.
          let same : min l.n m ≡ n = cc in
          let more = least_is m ls is in
          elim (which l.n m) [ inl a ↦ (l, inl refl, sym a ∙ same) | inr b ↦ (more.0, inr more.1, more.2 ∙ sym b ∙ same) ]
    ] refl h

few_of_key : (columns : List ℕ) (v : List Value) (rows : List (List Value)) → Apart row_cmp (cells columns) rows → length (filter (λ r. eq_by_cmp row_cmp (cells columns r) v) rows) ≤ 1
few_of_key columns v [] h = omega arith
few_of_key columns v (w ∷ rows) h =
    let test = λ (r : List Value). eq_by_cmp row_cmp (cells columns r) v in
    elim (test w) as (λ b. test w ≡ b → length (cond b (w ∷ filter test rows) (filter test rows)) ≤ 1) [
      | true ↦ λ is.
          let none : filter test rows ≡ [] = filter_none test rows (each_by_in _ rows (λ y there. differing row_cmp row_total row_only (cells columns y) v (λ e. differs row_cmp row_total (cells columns w) (cells columns y) (each_in (λ y. eq_by_cmp row_cmp (cells columns w) (cells columns y) ≡ false) rows h.0 y there) (equal row_cmp row_total row_only (cells columns w) v is ∙ sym e)))) in
          subst (λ (l : List (List Value)). length (w ∷ l) ≤ 1) (sym none) (omega arith)
      | false ↦ λ _. few_of_key columns v rows h.1
    ] refl

module _ (tables : List Table) (query : Query) (rows : List (ℕ × List Value)) (params : List Value) (sound : IsQuery tables query) (kept : KeepsSchema tables rows) where
  abbrev pub asked : Question
  asked = record { tables = tables; query = query; rows = rows; params = params }

  pub named : (p : Pred) → In p query.preds → IsNamedPred (length query.relations) p
  named p here = all_member (IsNamedPred (length query.relations)) query.preds sound.named p here

  pub number_at : (i : ℕ) → 1 ≤ i → i ≤ length query.relations → IsNumber tables (relation_at query i).table
  number_at i low high = all_member (λ (relation : Relation). (1 ≤ relation.table) × (relation.table ≤ length tables)) query.relations sound.relations (relation_at query i) (at_in query.relations (i - 1) no_relation (omega arith))

  pub linked : (n : ℕ) → IsNumber tables n → IsLinked tables (table_at tables n)
  linked n is = let low = is.0 in let high = is.1 in all_member (IsLinked tables) tables sound.linked (table_at tables n) (at_in tables (n - 1) no_table (omega arith))

  -- no table has number 0
  no_rows : (pairs : List (ℕ × List Value)) → ((pair : ℕ × List Value) → In pair pairs → IsNumber tables pair.0) → rows_of 0 pairs ≡ []
  no_rows [] h = refl
  no_rows (pair ∷ pairs) h =
      let low = (h pair (inl refl)).0 in
      ap (λ b. cond b (pair.1 ∷ rows_of 0 pairs) (rows_of 0 pairs)) (ne_eqb pair.0 0 (omega arith)) ∙ no_rows pairs (λ e here. h e (inr here))

  -- a relation's table is of the schema, or there is no such relation, and it has no rows
  pub outside : (i : ℕ) → IsNumber tables (relation_at query i).table ⊎ (rows_at asked i ≡ [])
  outside i = elim (cases_lt (i - 1) (length query.relations)) [
    | inl within ↦ inl (all_member (λ (relation : Relation). (1 ≤ relation.table) × (relation.table ≤ length tables)) query.relations sound.relations (relation_at query i) (at_in query.relations (i - 1) no_relation within))
    | inr past ↦ inr (ap (λ (relation : Relation). rows_of relation.table rows) (past_end query.relations (i - 1) no_relation past) ∙ no_rows rows (row_numbers tables rows kept))
  ]

  pub keys : (i : ℕ) → Apart row_cmp (cells (key_of asked i)) (rows_at asked i)
  keys i = elim (outside i) [
    | inl number ↦ rows_apart tables rows kept (relation_at query i).table
    | inr none ↦ subst (Apart row_cmp (cells (key_of asked i))) (sym none) tt
  ]

  abbrev pub fixed_columns : ℕ → List ℕ
  fixed_columns i = map (λ (p : Pred). p.left.col) (filter (ties i) query.preds)

  of_query : (p : Pred) → In p query.preds → IsOf asked p
  of_query p here =
      let h = named p here in
      let low = h.0.0 in
      let high = h.0.1 in
      record {
        from_one = from_left p.right;
        within = upto p.right h.1;
        looks = λ c d l. λ x. compares p.op (ap (λ (row : List Value). slice_get row p.left.col) (earlier_row c d p.left.rel low (left_of p.right l)) x) (same_side (length query.relations) params c d p.right p.left.rel h.1 l x);
      }
    where
      from_left : (o : Operand) → 1 ≤ later p.left.rel o
      from_left (operand.Const v) = (named p here).0.0
      from_left (operand.Param n) = (named p here).0.0
      from_left (operand.Col col) = let low = (named p here).0.0 in omega arith

      upto : (o : Operand) → IsNamedSide (length query.relations) o → later p.left.rel o ≤ length query.relations
      upto (operand.Const v) h = (named p here).0.1
      upto (operand.Param n) h = (named p here).0.1
      upto (operand.Col col) h = let a = (named p here).0.1 in let b = h.1 in omega arith

      left_of : (o : Operand) {n : ℕ} → later p.left.rel o ≤ n → p.left.rel ≤ n
      left_of (operand.Const v) l = l
      left_of (operand.Param k) l = l
      left_of (operand.Col col) l = omega arith

  bounds : (i n : ℕ) → bound_at tables query i ≡ Some n → Limited asked i n
  bounds i n h =
      let table = table_of tables query i in
      elim (is_lookup table (tied_set query i)) as (λ b. is_lookup table (tied_set query i) ≡ b → cond b (Some 1) (least_limit table (tied_set query i)) ≡ Some n → Limited asked i n) [
        | true ↦ λ is e.
            let one : 1 ≡ n = cc in
            record {
              columns = table.key;
              tied = tied asked named i table.key (within_members table.key (fixed_columns i) is);
              few = λ v _. subst (λ (m : ℕ). length (filter (λ r. eq_by_cmp row_cmp (cells table.key r) v) (rows_at asked i)) ≤ m) one (few_of_key table.key v (rows_at asked i) (keys i));
            }
        | false ↦ λ _ e.
            let l = least_is n (filter (applies (tied_set query i)) table.limits) e in
            let f = in_filter (applies (tied_set query i)) l.0 table.limits l.1 in
            record {
              columns = l.0.cols;
              tied = tied asked named i l.0.cols (within_members l.0.cols (fixed_columns i) f.1);
              few = λ v plain. subst (λ (m : ℕ). length (filter (λ r. eq_by_cmp row_cmp (cells l.0.cols r) v) (rows_at asked i)) ≤ m) l.2 (few_of_limit i l.0 f.0 v plain);
            }
      ] refl h
    where
      few_of_limit : (i : ℕ) (l : Limit) → In l (table_of tables query i).limits → (v : List Value) → has_null v ≡ false → length (filter (λ r. eq_by_cmp row_cmp (cells l.cols r) v) (rows_at asked i)) ≤ l.n
      few_of_limit i l here v plain = elim (outside i) [
        | inl number ↦ limit_kept tables rows kept (relation_at query i).table number l here v plain
        | inr none ↦ subst (λ (rs : List (List Value)). length (filter (λ r. eq_by_cmp row_cmp (cells l.cols r) v) rs) ≤ l.n) (sym none) (omega arith)
      ]

  pub keeps_over : Keeps asked (bound_at tables query)
  keeps_over = record {
    predicates = each_by_in _ query.preds of_query;
    keys = keys;
    lookups = λ i is. tied asked named i (table_of tables query i).key (within_members (table_of tables query i).key (fixed_columns i) is);
    bounds = bounds;
  }
