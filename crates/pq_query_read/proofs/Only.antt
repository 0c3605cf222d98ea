-- The one relation that has a column of a name.
use Rattle.std.proofs.Common.{◌≡◌, ℕ, ◌+◌, ◌-◌, ◌<◌, true, false, List, [], ◌∷◌, ◌++◌, length, get_or, is_some, Option, Some, None, sym, ap, ◌∙◌, arith}
use Rattle.std.specs.List.{filter_map, range_with_len, cons_option}
use Rattle.std.proofs.lemmas.Bool.{false≢true}
use Rattle.std.proofs.lemmas.List.{get_or_default}
use Rattle.std.proofs.lemmas.List.Elements.{filter_map-append}
use Rattle.pq_schema.specs.Relations.{no_relation}
use Rattle.pq_schema.specs.declared.query.ColRef.{ColRef}
use Rattle.pq_schema.specs.declared.query.Relation.{Relation}
use Rattle.pq_schema.specs.declared.table.Table.{Table}
use Rattle.pq_query_read.specs.Columns.{only, column_named, named_in}
use Rattle.pq_query_read.proofs.Loops.{range_push, range_split}

-- the relation at a place has the next number
pub named_at : (tables : List Table) (relations : List Relation) (name : List ℕ) (place : ℕ) (relation : Relation) (found : Option ColRef) → place < length relations → relation ≡ get_or relations place relation
    → found ≡ column_named tables name (place + 1) relation → named_in tables relations name (place + 1) ≡ found
named_at tables relations name place relation found lt is named =
    let low : place + 1 - 1 ≡ place = omega arith in
    ap (column_named tables name (place + 1)) (ap (λ i. get_or relations i no_relation) low ∙ get_or_default relations place no_relation relation lt ∙ sym is) ∙ sym named

module _ (f : ℕ → Option ColRef) where
  pub one_more : (k : ℕ) (next : Option ColRef) → f (k + 1) ≡ next → filter_map f (range_with_len 1 (k + 1)) ≡ filter_map f (range_with_len 1 k) ++ cons_option next []
  one_more k next is =
      let at : 1 + k ≡ k + 1 = omega arith in
      ap (filter_map f) (range_push 1 k) ∙ filter_map-append f (range_with_len 1 k) ((1 + k) ∷ [])
      ∙ ap (λ o. filter_map f (range_with_len 1 k) ++ cons_option o []) (ap f at ∙ is)

  -- the first one that is found
  pub first_found : (found : Option ColRef) (k : ℕ) (ref : ColRef) → is_some found ≡ false → cons_option found [] ≡ filter_map f (range_with_len 1 k) → f (k + 1) ≡ Some ref
      → cons_option (Some ref) [] ≡ filter_map f (range_with_len 1 (k + 1))
  first_found None k ref none before is = ap (λ xs. xs ++ ref ∷ []) before ∙ sym (one_more k (Some ref) is)
  first_found (Some other) k ref none before is = absurd (false≢true (sym none))

  -- nothing is found
  pub same_found : (found : Option ColRef) (k : ℕ) → cons_option found [] ≡ filter_map f (range_with_len 1 k) → f (k + 1) ≡ None → cons_option found [] ≡ filter_map f (range_with_len 1 (k + 1))
  same_found None k before is = ap (λ xs. xs ++ []) before ∙ sym (one_more k None is)
  same_found (Some ref) k before is = ap (λ xs. xs ++ []) before ∙ sym (one_more k None is)

  -- a second one is found
  pub second_found : (found : Option ColRef) (k n : ℕ) (ref : ColRef) → is_some found ≡ true → k < n → cons_option found [] ≡ filter_map f (range_with_len 1 k) → f (k + 1) ≡ Some ref
      → None ≡ only (filter_map f (range_with_len 1 n))
  second_found None k n ref some lt before is = absurd (false≢true some)
  second_found (Some first) k n ref some lt before is =
      let long : k + 1 + (n - (k + 1)) ≡ n = omega (arith, lt) in
      let rest = filter_map f (range_with_len (1 + (k + 1)) (n - (k + 1))) in
      let two : filter_map f (range_with_len 1 (k + 1)) ≡ first ∷ ref ∷ [] = one_more k (Some ref) is ∙ ap (λ xs. xs ++ ref ∷ []) (sym before) in
      let whole : filter_map f (range_with_len 1 n) ≡ first ∷ ref ∷ rest =
      ap (λ m. filter_map f (range_with_len 1 m)) (sym long) ∙ ap (filter_map f) (range_split 1 (k + 1) (n - (k + 1)))
      ∙ filter_map-append f (range_with_len 1 (k + 1)) (range_with_len (1 + (k + 1)) (n - (k + 1))) ∙ ap (λ xs. xs ++ rest) two in
      ap only (sym whole)
