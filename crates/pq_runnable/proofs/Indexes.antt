-- The sequences of a table that begin with a set or serve a stop.
use Rattle.std.proofs.Common.{◌≡◌, ℕ, ◌+◌, ◌-◌, ◌<◌, Bool, true, false, cond, not, ◌&&◌, ◌==◌, nat_lt, List, [], ◌∷◌, ◌++◌, length, get_or, map, filter, take, drop, count_ones, bit_or, Option, Some, None, option_map, is_some, position, refl, sym, ap, ◌∙◌, subst, arith, append_assoc, length-append}
use Rattle.std.specs.Int.{bit_at}
use Rattle.std.specs.List.{AllByRecursion, position_or_len, list_any}
use Rattle.std.proofs.Math.Seq.{take-append_seam, drop-append_seam}
use Rattle.std.proofs.lemmas.Bool.{and_parts, and_from, eq-eqb, eqb-true, lt-ltb, ltb-true, or_left, or_right}
use Rattle.std.proofs.lemmas.List.{map-append, length-map}
use Rattle.std.proofs.lemmas.List.Elements.{recursion_from_All}
use Rattle.std.proofs.lemmas.List.Folds.{list_any-append}
use Rattle.std.proofs.lemmas.List.Quantifiers.{position-Some}
use Rattle.std.proofs.lemmas.Option.{none-some, same_Some}
use Rattle.pq_base.specs.Columns.{set_of}
use Rattle.pq_base.specs.declared.value.Dir.{Dir}
use Rattle.pq_base.specs.declared.value.Dir.TheVariants.{Asc, Desc}
use Rattle.pq_base.specs.declared.value.Value.{Value}
use Rattle.pq_schema.specs.declared.query.Pred.{Pred}
use Rattle.pq_schema.specs.declared.query.Query.{Query}
use Rattle.pq_schema.specs.declared.table.Access.{Access}
use Rattle.pq_schema.specs.declared.table.Access.TheVariants.{Primary, Secondary}
use Rattle.pq_schema.specs.declared.table.Column.{Column}
use Rattle.pq_schema.specs.declared.table.Index.{Index}
use Rattle.pq_schema.specs.declared.table.KeyPart.{KeyPart}
use Rattle.pq_schema.specs.declared.table.Table.{Table}
use Rattle.pq_schema.specs.Relations.{table_of, is_equality, is_before, ties, tied_set, order_rest}
use Rattle.pq_schema.specs.Resolved.{IsPredicate, IsResolved}
use Rattle.pq_schema.specs.Schema.{with_new_index}
use Rattle.pq_schema.specs.Sequences.{ascending_part, columns_of, without, then_key, primary_sequence, index_sequence, no_index, sequence_of, IsAccess, begins_with, same_dir, same_parts, serves_with, serves, secondary, serving_access, new_index, group_access}
use Rattle.pq_schema.proofs.Counts.{position_is}
use Rattle.pq_runnable.specs.Grown.{with_more}
use Rattle.pq_runnable.proofs.Bits.{each_of_set, set_of-append, chosen_columns, columns_make, columns_counted}

-- ---- the first of some that passes

-- its place is below the length
located : {X : Type 0} (p : X → Bool) (xs : List X) (k : ℕ) → position p xs ≡ Some k → (position_or_len p xs ≡ k) × (k < length xs)
located p xs k is = by_test (nat_lt (position_or_len p xs) (length xs)) refl is
  where
    by_test : (b : Bool) → nat_lt (position_or_len p xs) (length xs) ≡ b → cond b (Some (position_or_len p xs)) None ≡ Some k → (position_or_len p xs ≡ k) × (k < length xs)
    by_test true t e =
        let same = same_Some (position_or_len p xs) k e in
        let low = ltb-true (position_or_len p xs) (length xs) t in
        (same, omega (arith, same, low))
    by_test false t e = absurd (none-some k e)

first_stays : {X : Type 0} (p : X → Bool) (xs ys : List X) → position_or_len p xs < length xs → position_or_len p (xs ++ ys) ≡ position_or_len p xs
first_stays p [] ys low = absurd (omega arith)
first_stays p (x ∷ xs) ys low =
    elim (p x) as (λ b. cond (not b) (1 + position_or_len p xs) 0 < length (x ∷ xs) → cond (not b) (1 + position_or_len p (xs ++ ys)) 0 ≡ cond (not b) (1 + position_or_len p xs) 0) [
      | true ↦ λ _. refl
      | false ↦ λ low. ap (λ n. 1 + n) (first_stays p xs ys (omega arith))
    ] low

-- more behind them change nothing
position_stays : {X : Type 0} (p : X → Bool) (xs ys : List X) (k : ℕ) → position p xs ≡ Some k → position p (xs ++ ys) ≡ Some k
position_stays p xs ys k is =
    let at = located p xs k is in
    let same : position_or_len p xs ≡ k = at.0 in
    let low : k < length xs = at.1 in
    let long = length-append xs ys in
    ap (λ n. cond (nat_lt n (length (xs ++ ys))) (Some n) None) (first_stays p xs ys (omega arith) ∙ same)
    ∙ ap (λ b. cond b (Some k) None) (lt-ltb k (length (xs ++ ys)) (omega arith))

-- ---- the first sequence that passes

module _ (table : Table) (test : List KeyPart → Bool) where
  abbrev pub tested : Index → Bool
  tested index = test (index_sequence table index)

  abbrev pub first_access : Option Access
  first_access = cond (test (primary_sequence table)) (Some Primary) (option_map secondary (position tested table.indexes))

  abbrev pub Passes : Access → Type 0
  Passes access = IsAccess table access × (test (sequence_of table access) ≡ true)

  pub access_found : (access : Access) → first_access ≡ Some access → IsAccess table access × (test (sequence_of table access) ≡ true)
  access_found access is = by_primary (test (primary_sequence table)) refl is
    where
      by_place : (o : Option ℕ) → position tested table.indexes ≡ o → option_map secondary o ≡ Some access → Passes access
      by_place None at e = absurd (none-some access e)
      by_place (Some k) at e =
          let found = position-Some tested table.indexes k no_index at in
          let low = found.0 in
          let place : k + 1 - 1 ≡ k = omega arith in
          subst Passes (same_Some (Secondary (k + 1)) access e)
          ((omega arith, omega arith), ap (λ n. tested (get_or table.indexes n no_index)) place ∙ found.1)

      by_primary : (b : Bool) → test (primary_sequence table) ≡ b → cond b (Some Primary) (option_map secondary (position tested table.indexes)) ≡ Some access → Passes access
      by_primary true passes e = subst Passes (same_Some Primary access e) (tt, passes)
      by_primary false passes e = by_place (position tested table.indexes) refl e

-- where the table has more the same one is found
pub access_stays : (table : Table) (columns : List Column) (fillers : List (Option Value)) (more : List Index) (test : List KeyPart → Bool) (access : Access) → first_access table test ≡ Some access → first_access (with_more table columns fillers more) test ≡ Some access
access_stays table columns fillers more test access is = by_primary (test (primary_sequence table)) is
  where
    by_place : (o : Option ℕ) → position (tested table test) table.indexes ≡ o → option_map secondary o ≡ Some access → option_map secondary (position (tested table test) (table.indexes ++ more)) ≡ Some access
    by_place None at e = absurd (none-some access e)
    by_place (Some k) at e = ap (option_map secondary) (position_stays (tested table test) table.indexes more k at) ∙ e

    by_primary : (b : Bool) → cond b (Some Primary) (option_map secondary (position (tested table test) table.indexes)) ≡ Some access → cond b (Some Primary) (option_map secondary (position (tested table test) (table.indexes ++ more))) ≡ Some access
    by_primary true e = e
    by_primary false e = by_place (position (tested table test) table.indexes) refl e

-- an index that passes is found, if no other
pub access_of_last : (table : Table) (index : Index) (test : List KeyPart → Bool) → test (index_sequence table index) ≡ true → is_some (first_access (with_new_index table index) test) ≡ true
access_of_last table index test passes =
    let old = list_any (tested table test) table.indexes in
    let any : list_any (tested table test) (table.indexes ++ index ∷ []) ≡ true =
    list_any-append (tested table test) table.indexes (index ∷ []) ∙ or_right old (list_any (tested table test) (index ∷ [])) (or_left (test (index_sequence table index)) false passes) in
    let at = position_is (tested table test) (table.indexes ++ index ∷ []) any in
    elim (test (primary_sequence table)) as (λ b. is_some (cond b (Some Primary) (option_map secondary (position (tested table test) (table.indexes ++ index ∷ [])))) ≡ true) [
      | true ↦ refl
      | false ↦ ap (λ (o : Option ℕ). is_some (option_map secondary o)) at
    ]

-- ---- the index that a query wants

columns_ascending : (cols : List ℕ) → columns_of (map ascending_part cols) ≡ cols
columns_ascending [] = refl
columns_ascending (col ∷ cols) = ap (λ (rest : List ℕ). col ∷ rest) (columns_ascending cols)

dirs_alike : (d : Dir) → same_dir d d ≡ true
dirs_alike Asc = refl
dirs_alike Desc = refl

parts_alike : (parts : List KeyPart) → same_parts parts parts ≡ true
parts_alike [] = refl
parts_alike (p ∷ ps) = and_from _ _ (and_from _ _ (eq-eqb p.col p.col refl) (dirs_alike p.dir)) (parts_alike ps)

-- parts that begin with the columns of the set and go on with the order serve
serves_itself : (key cols : List ℕ) (order : List KeyPart) (set : ℕ) → set_of cols ≡ set → length cols ≡ count_ones set → serves_with key set order (then_key (map ascending_part cols ++ order) (set_of (columns_of (map ascending_part cols ++ order))) key) ≡ true
serves_itself key cols order set make counted =
    let front = map ascending_part cols in
    let all : columns_of (front ++ order) ≡ cols ++ columns_of order =
    map-append (λ (part : KeyPart). part.col) front order ∙ ap (λ (cs : List ℕ). cs ++ columns_of order) (columns_ascending cols) in
    let whole : set_of (columns_of (front ++ order)) ≡ bit_or set (set_of (columns_of order)) =
    ap set_of all ∙ set_of-append cols (columns_of order) ∙ ap (λ s. bit_or s (set_of (columns_of order))) make in
    let left = map ascending_part (without (set_of (columns_of (front ++ order))) key) in
    let columns : columns_of ((front ++ order) ++ left) ≡ cols ++ (columns_of order ++ columns_of left) =
    map-append (λ (part : KeyPart). part.col) (front ++ order) left ∙ ap (λ (cs : List ℕ). cs ++ columns_of left) all ∙ append_assoc cols (columns_of order) (columns_of left) in
    let first : take (count_ones set) (columns_of ((front ++ order) ++ left)) ≡ cols =
    (λ i. take (sym counted i) (columns i)) ∙ take-append_seam cols (columns_of order ++ columns_of left) in
    let long : count_ones set ≡ length front = sym counted ∙ sym (length-map cols ascending_part) in
    let rest : drop (count_ones set) ((front ++ order) ++ left) ≡ order ++ left =
    (λ i. drop (long i) (append_assoc front order left i)) ∙ drop-append_seam front (order ++ left) in
    and_from _ _
    (eq-eqb _ _ (ap set_of first ∙ make))
    ((λ i. same_parts (rest i) (order ++ map ascending_part (without (sym whole i) key))) ∙ parts_alike (order ++ left))

module _ (tables : List Table) (query : Query) (p : ℕ) (resolved : IsResolved tables query) where
  abbrev pub width : ℕ
  width = length (table_of tables query p).columns

  tied_inside : (preds : List Pred) → AllByRecursion (IsPredicate tables query) preds → AllByRecursion (λ col. col < width) (map (λ (pred : Pred). pred.left.col) (filter (ties p) preds))
  tied_inside [] all = tt
  tied_inside (pred ∷ preds) all =
      let rest = tied_inside preds all.1 in
      elim (ties p pred) as (λ b. ties p pred ≡ b → AllByRecursion (λ col. col < width) (map (λ (pred : Pred). pred.left.col) (cond b (pred ∷ filter (ties p) preds) (filter (ties p) preds)))) [
        | true ↦ λ is.
            let both = and_parts (is_equality pred.op && (pred.left.rel == p)) (is_before p pred.right) is in
            let own : pred.left.rel ≡ p = eqb-true pred.left.rel p (and_parts (is_equality pred.op) (pred.left.rel == p) both.0).1 in
            (subst (λ r. pred.left.col < length (table_of tables query r).columns) own all.0.left.inside, rest)
        | false ↦ λ _. rest
      ] refl

  fixed_inside : (k : ℕ) → bit_at (tied_set query p) k ≡ 1 → k < width
  fixed_inside = each_of_set (λ col. col < width) (map (λ (pred : Pred). pred.left.col) (filter (ties p) query.preds)) (tied_inside query.preds (recursion_from_All (IsPredicate tables query) query.preds resolved.preds))

  pub new_serves : serves (table_of tables query p) (tied_set query p) (order_rest query p) (index_sequence (table_of tables query p) (new_index (table_of tables query p) (tied_set query p) (order_rest query p))) ≡ true
  new_serves =
      let table = table_of tables query p in
      let set = tied_set query p in
      serves_itself table.key (chosen_columns set 0 (length table.columns)) (order_rest query p) set
      (columns_make set (length table.columns) fixed_inside)
      (columns_counted set (length table.columns) fixed_inside)

-- ---- accesses

pub group_found : (table : Table) (set : ℕ) (access : Access) → group_access table set ≡ Some access → IsAccess table access × (begins_with (sequence_of table access) set ≡ true)
group_found table set access is = access_found table (λ sequence. begins_with sequence set) access is

pub serving_found : (table : Table) (set : ℕ) (order : List KeyPart) (access : Access) → serving_access table set order ≡ Some access → IsAccess table access × (serves table set order (sequence_of table access) ≡ true)
serving_found table set order access is = access_found table (serves table set order) access is

pub serving_stays : (table : Table) (columns : List Column) (fillers : List (Option Value)) (more : List Index) (set : ℕ) (order : List KeyPart) (access : Access) → serving_access table set order ≡ Some access → serving_access (with_more table columns fillers more) set order ≡ Some access
serving_stays table columns fillers more set order access is = access_stays table columns fillers more (serves table set order) access is

pub served_by_last : (table : Table) (index : Index) (set : ℕ) (order : List KeyPart) → serves table set order (index_sequence table index) ≡ true → is_some (serving_access (with_new_index table index) set order) ≡ true
served_by_last table index set order passes = access_of_last table index (serves table set order) passes
