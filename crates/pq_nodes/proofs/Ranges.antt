-- The range of a group's sequence under the tied values has just the rows that match, and ranges of all inputs what is ranged.
use Rattle.std.proofs.Common.{◌≡◌, ℕ, ◌-◌, true, false, cond, ◌||◌, inl, inr, refl, List, [], ◌∷◌, ◌++◌, length, map, take, flat_map, count_ones, IsPermutation, sym, ap, ◌∙◌, subst, arith}
use Rattle.std.specs.Prelude.{unwrap_or}
use Rattle.std.specs.List.{AllByRecursion}
use Rattle.std.proofs.lemmas.Bool.{eqb-true, false≢true, or_right}
use Rattle.std.proofs.lemmas.List.{length-map, length-take, take_min, take-map}
use Rattle.std.proofs.lemmas.List.Sorted.{IsPermutation-refl, IsPermutation-map, IsPermutation-append}
use Rattle.pq_base.specs.Columns.{is_column_within, set_of}
use Rattle.pq_base.specs.Members.{In}
use Rattle.pq_base.specs.Values.{AllFit, is_null, has_null}
use Rattle.pq_base.proofs.Sets.{members_within, within_members}
use Rattle.pq_content.proofs.Values.{both_ways}
use Rattle.pq_base.specs.declared.value.ColType.{ColType}
use Rattle.pq_base.specs.declared.value.Value.{Value}
use Rattle.pq_schema.specs.declared.query.Query.{Query}
use Rattle.pq_schema.specs.declared.table.Access.{Access}
use Rattle.pq_schema.specs.declared.table.KeyPart.{KeyPart}
use Rattle.pq_schema.specs.declared.table.Table.{Table}
use Rattle.pq_schema.specs.Relations.{relation_at, table_of, tied_set}
use Rattle.pq_schema.specs.Resolved.{IsResolved}
use Rattle.pq_schema.specs.Rows.{Rows, no_value, KeepsSchema}
use Rattle.pq_schema.specs.Sequences.{columns_of, begins_with, sequence_of}
use Rattle.pq_plan.specs.Answer.{Question}
use Rattle.pq_plan.specs.Running.{tied_value, matching, ranged}
use Rattle.pq_content.specs.Tables.{AllOfKinds, type_at, types_at, first_columns}
use Rattle.pq_content.proofs.Scans.{group_by_first}
use Rattle.pq_nodes.specs.Combos.{FitsTables}
use Rattle.pq_nodes.specs.Tied.{tied_cells, range_sequence, range_prefix, HasRange}
use Rattle.pq_nodes.proofs.Sizes.{taken_few}
use Rattle.pq_nodes.proofs.Tied.{tied_kinds, matching_group, within_tied}

taken_again : {X : Type 0} (n : ℕ) (xs : List X) → take (length (take n xs)) xs ≡ take n xs
taken_again n xs = ap (λ k. take k xs) (length-take n xs) ∙ take_min n xs

-- ---- NULL among the values at columns

null_there : (f : ℕ → Value) (xs : List ℕ) → has_null (map f xs) ≡ true → (k : ℕ) × In k xs × (is_null (f k) ≡ true)
null_there f [] h = absurd (false≢true h)
null_there f (x ∷ xs) h =
    elim (is_null (f x)) as (λ b. is_null (f x) ≡ b → (b || has_null (map f xs)) ≡ true → (k : ℕ) × In k (x ∷ xs) × (is_null (f k) ≡ true)) [
      | true ↦ λ is _. (x, inl refl, is)
      | false ↦ λ _ more. let t = null_there f xs more in (t.0, inr t.1, t.2)
    ] refl h

there_null : (f : ℕ → Value) (xs : List ℕ) (k : ℕ) → In k xs → is_null (f k) ≡ true → has_null (map f xs) ≡ true
there_null f [] k here h = absurd here
there_null f (x ∷ xs) k (inl same) h = ap (λ b. b || has_null (map f xs)) (ap (λ (n : ℕ). is_null (f n)) same ∙ h)
there_null f (x ∷ xs) k (inr later) h = or_right (is_null (f x)) (has_null (map f xs)) (there_null f xs k later h)

nulls_alike : (f : ℕ → Value) (xs ys : List ℕ) → ((k : ℕ) → In k xs → In k ys) → ((k : ℕ) → In k ys → In k xs) → has_null (map f xs) ≡ has_null (map f ys)
nulls_alike f xs ys to from =
    both_ways (has_null (map f xs)) (has_null (map f ys))
    (λ h. let t = null_there f xs h in there_null f ys t.0 (to t.0 t.1) t.2)
    (λ h. let t = null_there f ys h in there_null f xs t.0 (from t.0 t.1) t.2)

module _ (tables : List Table) (query : Query) (rows : Rows) (params : List Value) (resolved : IsResolved tables query) (given : AllFit query.params params) (rel : ℕ) (combo : List (List Value)) (fits : FitsTables tables query (rel - 1) combo) (kept : KeepsSchema tables rows) (cols : List ℕ) (within : is_column_within (set_of cols) (tied_set query rel) ≡ true) (access : Access) (begins : begins_with (sequence_of (table_of tables query rel) access) (set_of cols) ≡ true) where
  abbrev q : Question
  q = record { tables = tables; query = query; rows = rows; params = params }

  abbrev sequence : List KeyPart
  sequence = range_sequence q rel access

  abbrev first : List ℕ
  first = first_columns sequence cols

  abbrev prefix : List Value
  prefix = range_prefix q rel cols access combo

  first_within : is_column_within (set_of first) (tied_set query rel) ≡ true
  first_within = subst (λ (s : ℕ). is_column_within s (tied_set query rel) ≡ true) (sym (eqb-true (set_of first) (set_of cols) begins)) within

  as_long : length prefix ≡ length first
  as_long = length-map first (λ col. unwrap_or (tied_value q rel combo col) no_value)

  same_set : set_of first ≡ set_of cols
  same_set = eqb-true (set_of first) (set_of cols) begins

  itself : is_column_within (set_of cols) (set_of cols) ≡ true
  itself = members_within cols cols (λ k here. here)

  -- one of the prefix's values is NULL where one of the tied values is
  pub same_nulls : has_null prefix ≡ has_null (tied_cells q rel cols combo)
  same_nulls =
      nulls_alike (λ col. unwrap_or (tied_value q rel combo col) no_value) first cols
      (within_members first cols (subst (λ s. is_column_within s (set_of cols) ≡ true) (sym same_set) itself))
      (within_members cols first (subst (λ s. is_column_within (set_of cols) s ≡ true) (sym same_set) itself))

  first_types : take (length prefix) (types_at (table_of tables query rel).columns (columns_of sequence)) ≡ types_at (table_of tables query rel).columns first
  first_types =
      let table = table_of tables query rel in
      take-map (type_at table.columns) (length prefix) (columns_of sequence)
      ∙ ap (λ n. map (type_at table.columns) (take n (columns_of sequence))) as_long
      ∙ ap (map (type_at table.columns)) (taken_again (count_ones (set_of cols)) (columns_of sequence))

  pub has_range : HasRange q rel cols access combo
  has_range =
      let few = taken_few (count_ones (set_of cols)) (columns_of sequence) in
      let columns = length-map sequence (λ (part : KeyPart). part.col) in
      let long = as_long in
      record {
        kinds = subst (λ (ts : List ColType). AllOfKinds ts prefix) (sym first_types) (tied_kinds tables query rows params resolved given rel combo fits first (within_tied query rel first first_within));
        short = omega (arith, few, columns, long);
        found =
            (λ i. cond (same_nulls i) [] (group_by_first sequence cols (λ col. unwrap_or (tied_value q rel combo col) no_value) (relation_at query rel).table rows begins i))
            ∙ sym (matching_group tables query rows params resolved given rel combo fits kept cols (within_tied query rel cols within));
      }

-- what each input is given in some order makes what all are given in some order
pub ranged_permuted : (q : Question) (rel : ℕ) (cols : List ℕ) (found : List (List Value) → List (List Value)) (inputs : List (List (List Value))) → AllByRecursion (λ combo. IsPermutation (matching q rel cols combo) (found combo)) inputs → IsPermutation (ranged q rel cols inputs) (flat_map (λ combo. map (λ row. combo ++ row ∷ []) (found combo)) inputs)
ranged_permuted q rel cols found [] each = IsPermutation-refl []
ranged_permuted q rel cols found (combo ∷ inputs) each =
    IsPermutation-append (map (λ row. combo ++ row ∷ []) (matching q rel cols combo)) (map (λ row. combo ++ row ∷ []) (found combo)) (ranged q rel cols inputs) (flat_map (λ combo. map (λ row. combo ++ row ∷ []) (found combo)) inputs)
    (IsPermutation-map (λ row. combo ++ row ∷ []) (matching q rel cols combo) (found combo) each.0)
    (ranged_permuted q rel cols found inputs each.1)
