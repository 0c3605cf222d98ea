-- Over a content that holds rows: what the range of an input gives is what the scan finds.
use Rattle.std.proofs.Common.{◌≡◌, ℕ, suc, ◌-◌, true, false, cond, inl, inr, List, [], ◌∷◌, ◌++◌, length, map, filter, drop, take, flat_map, count_ones, Option, Some, None, refl, sym, ap, ◌∙◌, subst, arith}
use Rattle.std.specs.List.{AllByRecursion}
use Rattle.std.proofs.lemmas.List.Sorted.{IsPermutation-sym}
use Rattle.pq_base.specs.declared.value.Value.{Value}
use Rattle.pq_base.specs.Members.{In}
use Rattle.pq_base.specs.Order.{position_cmp}
use Rattle.pq_base.specs.Sorting.{sort_by}
use Rattle.pq_base.specs.Values.{AllFit}
use Rattle.pq_base.proofs.Members.{in_filter, each_by_in}
use Rattle.pq_base.proofs.Sorts.{IsPermutation-sort_by}
use Rattle.pq_key_code.specs.KeyCode.{code_of}
use Rattle.pq_schema.specs.declared.table.Access.{Access}
use Rattle.pq_schema.specs.declared.table.Access.TheVariants.{Primary, Secondary}
use Rattle.pq_schema.specs.declared.table.KeyPart.{KeyPart}
use Rattle.pq_schema.specs.declared.table.Table.{Table}
use Rattle.pq_schema.specs.Keys.{dirs_of}
use Rattle.pq_schema.specs.Relations.{relation_at, table_of, tied_set}
use Rattle.pq_schema.specs.Rows.{Rows, cells, types_of}
use Rattle.pq_schema.specs.Sequences.{columns_of, sequence_of}
use Rattle.pq_schema.specs.Tables.{table_at}
use Rattle.pq_store.specs.Content.{Content, pairs_within}
use Rattle.pq_content.specs.Pairs.{Pair, AreBeside, content_pairs}
use Rattle.pq_content.specs.Tables.{values_of}
use Rattle.pq_content.proofs.Values.{values_of-columns_of}
use Rattle.pq_entries.specs.Entries.{key_front, pair_of}
use Rattle.pq_operands.specs.Ties.{cells_tied}
use Rattle.pq_plan.specs.Answer.{Question, rows_at, position}
use Rattle.pq_plan.proofs.Kept.{row_fits}
use Rattle.pq_plan.proofs.Orders.{in_permuted}
use Rattle.pq_nodes.specs.Combos.{FitsTables}
use Rattle.pq_nodes.specs.Operators.{IsCursor}
use Rattle.pq_serving.specs.Keys.{bound_key, higher, highest, lowest, range_low, range_high}
use Rattle.pq_serving.specs.Laws.{IsScanned, Serves}
use Rattle.pq_serving.specs.Scanning.{position_directions, constant, constants, own_preds, passes, lowers, uppers, first_direction, rest, ties, lies_within, lying, found, cells_of}
use Rattle.pq_serving.specs.Starts.{under, start_of, filled_values}
use Rattle.pq_serving.proofs.Found.{found_position}
use Rattle.pq_serving.proofs.Whole.{entry_scans, row_scans, served_is, wide_is, cursor_long}
use Rattle.pq_scan.specs.declared.prepared.Scan.{Scan}
use Rattle.pq_scan.specs.Candidates.{scanned_table, held_of, shown_values, AreFirst, candidate_at, row_candidate, input_candidates}
use Rattle.pq_scan.specs.Inputs.{Input, IsInputAt, low_code, high_code}
use Rattle.pq_scan.specs.Prepared.{asked_over, item_directions, IsPrepared}

pub map_map : {A B D : Type 0} (f : A → B) (g : B → D) (xs : List A) → map g (map f xs) ≡ map (λ x. g (f x)) xs
map_map f g [] = refl
map_map f g (x ∷ xs) = ap (λ l. g (f x) ∷ l) (map_map f g xs)

pub map_self : {A : Type 0} (xs : List A) → map (λ x. x) xs ≡ xs
map_self [] = refl
map_self (x ∷ xs) = ap (λ l. x ∷ l) (map_self xs)

map_same : {A B : Type 0} (f g : A → B) (xs : List A) → ((x : A) → In x xs → f x ≡ g x) → map f xs ≡ map g xs
map_same f g [] h = refl
map_same f g (x ∷ xs) h = λ i. h x (inl refl) i ∷ map_same f g xs (λ y there. h y (inr there)) i

module _ (scan : Scan) (sound : IsPrepared scan) (rows : Rows) (after : Option (List Value)) (combo : List (List Value)) (input : Input) (of : IsInputAt scan combo input) where
  abbrev q : Question
  q = asked_over scan rows

  abbrev p : ℕ
  p = scan.rel

  ties_are : input.ties ≡ ties q p scan.sequence combo
  ties_are = of.ties_is ∙ ap (cells_tied scan.query.now scan.params.now p combo) sound.front_is

  constants_are : input.constants ≡ constants q p combo
  constants_are = of.constants_is ∙ ap (map (constant q p combo)) sound.items_is

  position_dirs_are : scan.position_dirs ≡ position_directions q p
  position_dirs_are = sound.position_dirs_is ∙ ap item_directions sound.items_is

  low_is : (at : Option (List Value)) → low_code scan combo input at ≡ range_low q p scan.sequence combo at
  low_is None = λ i.
      let ds = sound.dirs_is i in
      let e = ties_are i in
      highest ds (bound_key ds (record { past = false; values = e })) (map (under e) (flat_map (lowers q p (first_direction (rest q p scan.sequence)) combo) (own_preds q p)))
  low_is (Some at) = λ i.
      let ds = sound.dirs_is i in
      let e = ties_are i in
      higher (bound_key ds (under e (start_of (position_dirs_are i) (constants_are i) at)))
      (highest ds (bound_key ds (record { past = false; values = e })) (map (under e) (flat_map (lowers q p (first_direction (rest q p scan.sequence)) combo) (own_preds q p))))

  high_is : high_code scan combo input ≡ range_high q p scan.sequence combo
  high_is = λ i.
      let ds = sound.dirs_is i in
      let e = ties_are i in
      lowest ds (bound_key ds (record { past = true; values = e })) (map (under e) (flat_map (uppers q p (first_direction (rest q p scan.sequence)) combo) (own_preds q p)))

  module _ (is : IsScanned q p) (serves : Serves q p scan.access) (cursor : IsCursor q.tables q.query after) (fits : FitsTables q.tables q.query (p - 1) combo) (passed : passes q p combo ≡ true) where
    abbrev t : ℕ
    t = (relation_at q.query p).table

    -- the rows of the range
    lying_in : (s : List KeyPart) (r : List Value) → In r (lying q p s after combo) → In r (rows_at q p)
    lying_in s r here =
        let test = λ (row : List Value). lies_within q p s combo after (cells_of q p s row) in
        let some = filter test (rows_at q p) in
        let sorted = sort_by (position_cmp (dirs_of s)) (cells_of q p s) some in
        (in_filter test r (rows_at q p) (in_permuted (position_cmp (dirs_of s)) (cells_of q p s) r sorted some (IsPermutation-sym some sorted (IsPermutation-sort_by (position_cmp (dirs_of s)) (cells_of q p s) some)) here)).0

    lying_fit : AllByRecursion (AllFit (types_of (table_at q.tables t))) (lying q p scan.sequence after combo)
    lying_fit = each_by_in _ (lying q p scan.sequence after combo) (λ r here. let keeps = is.rows in row_fits q.tables q.rows keeps.schema t r (lying_in scan.sequence r here))

    module _ (others : List Pair) (beside : AreBeside others) where
      law : (access : Access) → Serves q p access → pairs_within (content_pairs q.tables q.rows others) (key_front t access ++ range_low q p (sequence_of (table_of q.tables q.query p) access) combo after) (key_front t access ++ range_high q p (sequence_of (table_of q.tables q.query p) access) combo) ≡ map (pair_of t (table_at q.tables t) access) (lying q p (sequence_of (table_of q.tables q.query p) access) after combo)
      law Primary s = row_scans q p is s others beside after cursor combo (record { fits = fits; passes = passed })
      law (Secondary n) s = entry_scans q p is n s others beside after cursor combo (record { fits = fits; passes = passed })

      abbrev front : List ℕ
      front = key_front scan.number scan.access

      range_is : pairs_within (content_pairs q.tables q.rows others) (front ++ low_code scan combo input after) (front ++ high_code scan combo input) ≡ map (pair_of scan.number (scanned_table scan) scan.access) (lying q p scan.sequence after combo)
      range_is =
          (λ i. pairs_within (content_pairs q.tables q.rows others) (front ++ low_is after i) (front ++ high_is i))
          ∙ subst (λ (n : ℕ). pairs_within (content_pairs q.tables q.rows others) (key_front n scan.access ++ range_low q p scan.sequence combo after) (key_front n scan.access ++ range_high q p scan.sequence combo) ≡ map (pair_of n (table_at q.tables n) scan.access) (lying q p scan.sequence after combo)) (sym sound.number_is)
          (subst (λ (s : List KeyPart). pairs_within (content_pairs q.tables q.rows others) (key_front t scan.access ++ range_low q p s combo after) (key_front t scan.access ++ range_high q p s combo) ≡ map (pair_of t (table_at q.tables t) scan.access) (lying q p s after combo)) (sym sound.sequence_is)
          (law scan.access serves))

      first : (access : Access) (n : ℕ) (table : Table) (s : List KeyPart) → sequence_of table access ≡ s → (low high : List ℕ) (k : ℕ) (held : List (List Value)) (content : Content) (found : List (List Value)) → AllByRecursion (AllFit (types_of table)) found → pairs_within content low high ≡ map (pair_of n table access) found → AreFirst n table access low high k held content → held ≡ map (held_of access s) (take k found)
      first Primary n table s same low high k held content found fit is given = given found fit is ∙ sym (map_self (take k found))
      first (Secondary index) n table s same low high k held content found fit is given = given found fit is ∙ ap (λ s. map (values_of s) (take k found)) same

      pub held_are : (k : ℕ) (held : List (List Value)) → AreFirst scan.number (scanned_table scan) scan.access (front ++ low_code scan combo input after) (front ++ high_code scan combo input) k held (content_pairs q.tables q.rows others) → held ≡ map (held_of scan.access scan.sequence) (found q p scan.sequence k after combo)
      held_are k held given =
          first scan.access scan.number (scanned_table scan) scan.sequence
          (ap (λ (n : ℕ). sequence_of (table_at q.tables n) scan.access) sound.number_is ∙ sym sound.sequence_is)
          _ _ k held (content_pairs q.tables q.rows others) (lying q p scan.sequence after combo)
          (subst (λ (n : ℕ). AllByRecursion (AllFit (types_of (table_at q.tables n))) (lying q p scan.sequence after combo)) (sym sound.number_is) lying_fit)
          range_is given
          ∙ ap (λ b. map (held_of scan.access scan.sequence) (cond b (take k (lying q p scan.sequence after combo)) [])) (sym passed)

    shown_held : (access : Access) (s : List KeyPart) (r : List Value) → shown_values access s (held_of access s r) ≡ cells (columns_of s) r
    shown_held Primary s r = refl
    shown_held (Secondary index) s r = values_of-columns_of s r

    position_of : (k : ℕ) (r : List Value) → In r (found q p scan.sequence k after combo) → position q (combo ++ r ∷ []) ≡ filled_values (constants q p combo) (drop (count_ones (tied_set q.query p)) (cells (columns_of scan.sequence) r))
    position_of k =
        subst (λ (s : List KeyPart). (r : List Value) → In r (found q p s k after combo) → position q (combo ++ r ∷ []) ≡ filled_values (constants q p combo) (drop (count_ones (tied_set q.query p)) (cells (columns_of s) r))) (sym sound.sequence_is)
        (found_position q p (sequence_of (table_of q.tables q.query p) scan.access) after k combo (served_is q p is scan.access serves) (wide_is q p is scan.access serves) (cursor_long q p is after cursor) long)
      where
        long : suc (length combo) ≡ p
        long = let low = is.relation.from_one in let l = fits.long in omega arith

    -- with the codes of their positions they are the candidates of its rows
    pub candidates_are : (k place : ℕ) (held : List (List Value)) → held ≡ map (held_of scan.access scan.sequence) (found q p scan.sequence k after combo) → map (candidate_at scan input.constants place) held ≡ input_candidates scan rows k after place combo
    candidates_are k place held same =
        let some = found q p scan.sequence k after combo in
        ap (map (candidate_at scan input.constants place)) same
        ∙ map_map (held_of scan.access scan.sequence) (candidate_at scan input.constants place) some
        ∙ map_same (λ r. candidate_at scan input.constants place (held_of scan.access scan.sequence r)) (row_candidate scan rows place combo) some (λ r here i.
        record {
          place = (ap (code_of scan.position_dirs) ((λ j. filled_values (constants_are j) (drop (count_ones (sound.fixed_is j)) (shown_held scan.access scan.sequence r j))) ∙ sym (position_of k r here))) i;
          item = record { input = place; held = held_of scan.access scan.sequence r };
        })
