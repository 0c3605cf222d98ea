-- The rows of one input's range are what one range of keys answers, of rows or of entries.
use Rattle.std.proofs.Common.{◌≡◌, ℕ, ◌+◌, Bool, List, [], ◌∷◌, get_or, map, filter, replicate, slice_get, Option, Some, refl, sym, ap, ◌∙◌, subst}
use Rattle.std.proofs.lemmas.List.{length-map}
use Rattle.pq_base.specs.declared.value.Dir.TheVariants.{Asc}
use Rattle.pq_base.specs.declared.value.Value.{Value}
use Rattle.pq_base.specs.declared.value.ColType.{ColType}
use Rattle.pq_base.specs.Order.{position_cmp}
use Rattle.pq_base.specs.Members.{In}
use Rattle.pq_base.specs.Sorting.{sort_by}
use Rattle.pq_key_code.specs.KeyCode.{code_of}
use Rattle.pq_schema.specs.declared.table.Index.{Index}
use Rattle.pq_schema.specs.declared.table.KeyPart.{KeyPart}
use Rattle.pq_schema.specs.declared.table.Table.{Table}
use Rattle.pq_schema.specs.Sequences.{columns_of, primary_sequence, index_sequence}
use Rattle.pq_schema.specs.Tables.{table_at}
use Rattle.pq_schema.specs.Relations.{relation_at}
use Rattle.pq_content.specs.Pairs.{Pair, AreBeside, row_pair, entry_pair, content_pairs}
use Rattle.pq_store.specs.Content.{pairs_within}
use Rattle.pq_content.specs.Tables.{rows_of, type_at, types_at, value_of, key_of, values_of, dirs_of, AllOfKinds}
use Rattle.pq_content.proofs.EntryRanges.{entry_range, entry_bytes}
use Rattle.pq_content.proofs.Ranges.{in_range}
use Rattle.pq_content.proofs.RowRanges.{row_range, key_bytes}
use Rattle.pq_content.proofs.TableRows.{values_of-primary, dirs_of-primary}
use Rattle.pq_schema.proofs.TypeKinds.{kinds_from_fit}
use Rattle.pq_content.proofs.Values.{sequence_fits, values_of-columns_of}
use Rattle.pq_plan.specs.Answer.{Question, rows_at, no_value}
use Rattle.pq_plan.specs.Kept.{KeepsSchema}
use Rattle.pq_plan.proofs.Kept.{row_fits}
use Rattle.pq_base.proofs.Members.{each_by_in, filter_same}
use Rattle.pq_serving.specs.Starts.{under}
use Rattle.pq_serving.specs.Scanning.{ties, lows, highs, lies_within, lying, cells_of}
use Rattle.pq_serving.specs.Keys.{range_low, range_high}
use Rattle.pq_serving.proofs.Keys.{key_range, Fits, AreFit}

kinds_fit : (ts : List ColType) (xs : List Value) → AllOfKinds ts xs → Fits ts xs
kinds_fit [] [] h = tt
kinds_fit [] (x ∷ xs) h = absurd h
kinds_fit (t ∷ ts) [] h = absurd h
kinds_fit (t ∷ ts) (x ∷ xs) h = (h.0, kinds_fit ts xs h.1)

-- the values of an input's bounds are of the kinds of the sequence's columns
pub record IsTyped (q : Question) (p : ℕ) (sequence : List KeyPart) (c : List (List Value)) (after : Option (List Value)) (ts : List ColType) : Type 0 where
  pub tied : Fits ts (ties q p sequence c)
  pub above : AreFit ts (map (under (ties q p sequence c)) (lows q p sequence c after))
  pub below : AreFit ts (map (under (ties q p sequence c)) (highs q p sequence c))

module _ (q : Question) (p : ℕ) (sequence : List KeyPart) (c : List (List Value)) (after : Option (List Value)) (others : List Pair)
    (kept : KeepsSchema q.tables q.rows) (beside : AreBeside others)
    (typed : IsTyped q p sequence c after (types_at (table_at q.tables (relation_at q.query p).table).columns (columns_of sequence))) where
  abbrev t : ℕ
  t = (relation_at q.query p).table

  abbrev table : Table
  table = table_at q.tables t

  abbrev low : List ℕ
  low = range_low q p sequence c after

  abbrev high : List ℕ
  high = range_high q p sequence c

  abbrev lies : List Value → Bool
  lies r = lies_within q p sequence c after (cells_of q p sequence r)

  test_is : (r : List Value) → In r (rows_of t q.rows) → in_range low high (code_of (dirs_of sequence) (values_of sequence r)) ≡ lies r
  test_is r here =
      let ts = types_at table.columns (columns_of sequence) in
      let fit = row_fits q.tables q.rows kept t r here in
      let same = values_of-columns_of sequence r in
      let kinds : Fits ts (cells_of q p sequence r) = subst (Fits ts) same (kinds_fit ts (values_of sequence r) (kinds_from_fit ts (values_of sequence r) (sequence_fits table sequence r fit))) in
      ap (λ (xs : List Value). in_range low high (code_of (dirs_of sequence) xs)) same
      ∙ key_range q p sequence c after ts (cells_of q p sequence r)
      (length-map (columns_of sequence) (type_at table.columns) ∙ length-map sequence (λ (part : KeyPart). part.col) ∙ sym (length-map sequence (λ (part : KeyPart). part.dir)))
      (length-map (columns_of sequence) (λ (col : ℕ). get_or r col no_value) ∙ length-map sequence (λ (part : KeyPart). part.col) ∙ sym (length-map sequence (λ (part : KeyPart). part.dir)))
      kinds typed.tied typed.above typed.below

  -- the rows of the range, by either way to say what they are, in the order of the sequence
  pub rows_lie : (test : List Value → Bool) → ((r : List Value) → In r (rows_of t q.rows) → test r ≡ in_range low high (code_of (dirs_of sequence) (values_of sequence r))) → sort_by (position_cmp (dirs_of sequence)) (values_of sequence) (filter test (rows_of t q.rows)) ≡ sort_by (position_cmp (dirs_of sequence)) (cells_of q p sequence) (filter lies (rows_at q p))
  rows_lie test is =
      ap (λ rows. sort_by (position_cmp (dirs_of sequence)) (values_of sequence) rows) (filter_same test lies (rows_of t q.rows) (each_by_in _ (rows_of t q.rows) (λ r here. is r here ∙ test_is r here)))
      ∙ ap (λ (f : List Value → List Value). sort_by (position_cmp (dirs_of sequence)) f (filter lies (rows_of t q.rows))) (λ i r. values_of-columns_of sequence r i)

module _ (q : Question) (p : ℕ) (c : List (List Value)) (after : Option (List Value)) (others : List Pair)
    (kept : KeepsSchema q.tables q.rows) (beside : AreBeside others) where
  abbrev at : ℕ
  at = (relation_at q.query p).table

  -- of an index: the first k entries of one range
  pub entries_are : (place : ℕ) (index : Index) (has : slice_get (table_at q.tables at).indexes place ≡ Some index) (i : ℕ) (number : 1 + place ≡ i) →
      IsTyped q p (index_sequence (table_at q.tables at) index) c after (types_at (table_at q.tables at).columns (columns_of (index_sequence (table_at q.tables at) index))) →
      pairs_within (content_pairs q.tables q.rows others) (3 ∷ at ∷ i ∷ range_low q p (index_sequence (table_at q.tables at) index) c after) (3 ∷ at ∷ i ∷ range_high q p (index_sequence (table_at q.tables at) index) c)
      ≡ map (entry_pair at i (index_sequence (table_at q.tables at) index)) (lying q p (index_sequence (table_at q.tables at) index) after c)
  entries_are place index has i number typed =
      let table = table_at q.tables at in
      let sequence = index_sequence table index in
      let low = range_low q p sequence c after in
      let high = range_high q p sequence c in
      let f = entry_pair at i sequence in
      entry_range at i low high q.tables place index has number q.rows others kept.fit kept.apart beside
      ∙ ap (map f) (rows_lie q p sequence c after others kept beside typed (λ row. in_range low high (entry_bytes at i low high table index row)) (λ r here. refl))

  -- of the rows themselves: the first k pairs of one range
  pub rows_are_found : IsTyped q p (primary_sequence (table_at q.tables at)) c after (types_at (table_at q.tables at).columns (columns_of (primary_sequence (table_at q.tables at)))) →
      pairs_within (content_pairs q.tables q.rows others) (2 ∷ at ∷ range_low q p (primary_sequence (table_at q.tables at)) c after) (2 ∷ at ∷ range_high q p (primary_sequence (table_at q.tables at)) c)
      ≡ map (row_pair at (table_at q.tables at)) (lying q p (primary_sequence (table_at q.tables at)) after c)
  rows_are_found typed =
      let table = table_at q.tables at in
      let sequence = primary_sequence table in
      let low = range_low q p sequence c after in
      let high = range_high q p sequence c in
      let f = row_pair at table in
      row_range at low high q.tables q.rows others kept.fit kept.apart beside
      ∙ ap (map f) (rows_lie q p sequence c after others kept beside typed (λ row. in_range low high (key_bytes at low high table row)) (λ r here. ap (in_range low high) (primary_bytes low high table r)))
    where
      primary_bytes : (from to : List ℕ) (table : Table) (row : List Value) → key_bytes at from to table row ≡ code_of (dirs_of (primary_sequence table)) (values_of (primary_sequence table) row)
      primary_bytes from to table row =
          ap (λ (n : ℕ). code_of (replicate n Asc) (key_of table row)) (length-map table.key (value_of row))
          ∙ (λ i. code_of (sym (dirs_of-primary table.key) i) (sym (values_of-primary table.key row) i))
