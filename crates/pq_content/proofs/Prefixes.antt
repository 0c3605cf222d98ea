-- Ranges and counts of the rows that begin with some values.
use Rattle.std.proofs.Common.{◌≡◌, ℕ, ◌≤◌, true, cond, ◌&&◌, List, [], ◌∷◌, ◌++◌, length, map, refl, sym, ap, ◌∙◌, arith}
use Rattle.std.specs.Prelude.{filter, take}
use Rattle.std.specs.Ordering.{is_eq, ordering_then}
use Rattle.std.specs.declared.cmp.Ordering.{Ordering}
use Rattle.std.specs.declared.cmp.Ordering.TheVariants.{Less, Equal, Greater}
use Rattle.std.proofs.lemmas.List.{length-map, take-map}
use Rattle.pq_base.specs.Columns.{set_of}
use Rattle.pq_base.specs.declared.value.ColType.{ColType}
use Rattle.pq_base.specs.declared.value.Dir.{Dir}
use Rattle.pq_base.specs.declared.value.Dir.TheVariants.{Asc, Desc}
use Rattle.pq_base.specs.declared.value.Value.{Value}
use Rattle.pq_base.specs.Order.{value_cmp, directed_order}
use Rattle.pq_base.specs.Values.{AllFit, SameKinds}
use Rattle.pq_key_code.specs.KeyOrder.{common_cmp}
use Rattle.pq_schema.specs.declared.table.KeyPart.{KeyPart}
use Rattle.pq_schema.specs.declared.table.Table.{Table}
use Rattle.pq_schema.specs.Sequences.{columns_of}
use Rattle.pq_content.specs.Tables.{Rows, AllOfKinds, rows_of, types_of, types_at, value_of, cells, values_of, dirs_of, same_values, agrees, group_of}
use Rattle.pq_content.proofs.Ranges.{in_range}
use Rattle.pq_content.proofs.Sequence.{agree_by_set}
use Rattle.pq_content.proofs.TableRows.{AreRows, sequence_kinds, long_enough}
use Rattle.pq_content.proofs.Values.{both_ways, same_values_decides, same_from_test, AreValues_from_kinds, SameKinds_from_kinds, same_values_sym, values_of-columns_of}
use Rattle.pq_key_code.specs.KeyCode.{code_of}
use Rattle.pq_key_code.proofs.Order.{range_lem}

is_eq_directed : (d : Dir) (r : Ordering) → is_eq (directed_order d r) ≡ is_eq r
is_eq_directed Asc r = refl
is_eq_directed Desc Less = refl
is_eq_directed Desc Equal = refl
is_eq_directed Desc Greater = refl

is_eq_then : (r s : Ordering) → is_eq (ordering_then r s) ≡ (is_eq r && is_eq s)
is_eq_then Less s = refl
is_eq_then Equal s = refl
is_eq_then Greater s = refl

-- lists are equal as far as the first goes
pub common_same : (ds : List Dir) (ps xs : List Value) → length ps ≤ length xs → length xs ≤ length ds → is_eq (common_cmp ds ps xs) ≡ same_values ps (take (length ps) xs)
common_same [] [] xs h k = refl
common_same [] (p ∷ ps) [] h k = absurd (omega arith)
common_same [] (p ∷ ps) (x ∷ xs) h k = absurd (omega arith)
common_same (d ∷ ds) [] xs h k = refl
common_same (d ∷ ds) (p ∷ ps) [] h k = absurd (omega arith)
common_same (d ∷ ds) (p ∷ ps) (x ∷ xs) h k =
    is_eq_then (directed_order d (value_cmp p x)) (common_cmp ds ps xs)
    ∙ (λ i. is_eq_directed d (value_cmp p x) i && common_same ds ps xs (omega arith) (omega arith) i)

-- kinds of a list are those of its beginning
SameKinds_from_prefix : (ts : List ColType) (ps xs : List Value) → AllOfKinds (take (length ps) ts) ps → AllOfKinds ts xs → SameKinds ps xs
SameKinds_from_prefix ts [] xs f g = tt
SameKinds_from_prefix [] (p ∷ ps) xs f g = absurd f
SameKinds_from_prefix (t ∷ ts) (p ∷ ps) [] f g = absurd g
SameKinds_from_prefix (t ∷ ts) (p ∷ ps) (x ∷ xs) f g =
    let here : SameKinds (p ∷ []) (x ∷ []) = SameKinds_from_kinds (t ∷ []) (p ∷ []) (x ∷ []) (f.0, tt) (g.0, tt) in
    (here.0, SameKinds_from_prefix ts ps xs f.1 g.1)

module _ (table : Table) (sequence : List KeyPart) where
  -- a row's code is in the range of a prefix exactly where the row has these values at the sequence's first columns
  pub in_prefix : (ps row : List Value) → AllOfKinds (take (length ps) (types_at table.columns (columns_of sequence))) ps → length ps ≤ length sequence → AllFit (types_of table) row → in_range (code_of (dirs_of sequence) ps) (code_of (dirs_of sequence) ps ++ 32 ∷ []) (code_of (dirs_of sequence) (values_of sequence row)) ≡ agrees (take (length ps) (columns_of sequence)) ps row
  in_prefix ps row kinds short fits =
      let ts = types_at table.columns (columns_of sequence) in
      let xs = values_of sequence row in
      let own = sequence_kinds table sequence row fits in
      let long : length ps ≤ length xs = omega (arith, length-map sequence (λ (part : KeyPart). value_of row part.col)) in
      let first : take (length ps) xs ≡ cells (take (length ps) (columns_of sequence)) row = ap (take (length ps)) (values_of-columns_of sequence row) ∙ take-map (value_of row) (length ps) (columns_of sequence) in
      range_lem (dirs_of sequence) ps xs (AreValues_from_kinds (take (length ps) ts) ps kinds) (AreValues_from_kinds ts xs own) (SameKinds_from_prefix ts ps xs kinds own) long (long_enough table sequence row)
      ∙ common_same (dirs_of sequence) ps xs long (long_enough table sequence row)
      ∙ ap (same_values ps) first
      ∙ same_values_sym ps (cells (take (length ps) (columns_of sequence)) row)

  pub within_prefix : (ps : List Value) (rows : List (List Value)) → AllOfKinds (take (length ps) (types_at table.columns (columns_of sequence))) ps → length ps ≤ length sequence → AreRows table rows → filter (λ row. in_range (code_of (dirs_of sequence) ps) (code_of (dirs_of sequence) ps ++ 32 ∷ []) (code_of (dirs_of sequence) (values_of sequence row))) rows ≡ filter (agrees (take (length ps) (columns_of sequence)) ps) rows
  within_prefix ps [] kinds short h = refl
  within_prefix ps (row ∷ rows) kinds short h =
      λ i. cond (in_prefix ps row kinds short h.0 i) (row ∷ within_prefix ps rows kinds short h.2 i) (within_prefix ps rows kinds short h.2 i)

-- groups by the columns of one set are one, where each column has one value
pub group_by_set : (t : ℕ) (xs ys : List ℕ) (assign : ℕ → Value) (rows : Rows) → set_of xs ≡ set_of ys → group_of t xs (map assign xs) rows ≡ group_of t ys (map assign ys) rows
group_by_set t xs ys assign rows same = each (rows_of t rows)
  where
    turned : (xs ys : List ℕ) (row : List Value) → set_of xs ≡ set_of ys → agrees xs (map assign xs) row ≡ true → agrees ys (map assign ys) row ≡ true
    turned xs ys row same h = (same_values_decides (cells ys row) (map assign ys)).1 (agree_by_set xs ys (value_of row) assign same (same_from_test (cells xs row) (map assign xs) h))

    each : (rs : List (List Value)) → filter (agrees xs (map assign xs)) rs ≡ filter (agrees ys (map assign ys)) rs
    each [] = refl
    each (row ∷ rs) = λ i. cond (both_ways (agrees xs (map assign xs) row) (agrees ys (map assign ys) row) (turned xs ys row same) (turned ys xs row (sym same)) i) (row ∷ each rs i) (each rs i)
