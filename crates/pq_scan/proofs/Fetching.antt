-- The rows of candidates, behind their inputs.
use Rattle.std.proofs.Common.{◌≡◌, ℕ, suc, ◌-◌, ◌≤◌, ◌<◌, List, [], ◌∷◌, length, get_or, map, Option, refl, sym, ap, ◌∙◌, subst, arith}
use Rattle.std.specs.Prelude.{IfOk, Result, Ok, Err}
use Rattle.std.specs.List.{AllByRecursion}
use Rattle.pq_base.specs.declared.value.Value.{Value}
use Rattle.pq_base.specs.Members.{In}
use Rattle.pq_base.specs.Values.{AllFit}
use Rattle.pq_base.proofs.Members.{each_in, at_in}
use Rattle.pq_schema.specs.declared.query.Query.{Query}
use Rattle.pq_schema.specs.declared.table.Access.{Access}
use Rattle.pq_schema.specs.declared.table.Access.TheVariants.{Primary, Secondary}
use Rattle.pq_schema.specs.declared.table.KeyPart.{KeyPart}
use Rattle.pq_schema.specs.declared.table.Table.{Table}
use Rattle.pq_schema.specs.Relations.{table_of}
use Rattle.pq_schema.specs.Rows.{Rows, rows_of, types_of}
use Rattle.pq_schema.specs.Sequences.{sequence_of, index_sequence, index_numbered}
use Rattle.pq_schema.specs.Tables.{table_at}
use Rattle.pq_store.specs.Content.{Content}
use Rattle.pq_store.specs.declared.damage.Broke.{Broke}
use Rattle.pq_calls.specs.Keys.{sequence_types}
use Rattle.pq_content.specs.Pairs.{Pair, HoldsRows}
use Rattle.pq_content.specs.Tables.{values_of}
use Rattle.pq_entries.specs.Entries.{IsEntryThere}
use Rattle.pq_nodes.specs.Combos.{FitsTables}
use Rattle.pq_nodes.specs.Operators.{AreInputs}
use Rattle.pq_scan.specs.declared.prepared.Scan.{Scan}
use Rattle.pq_scan.specs.Candidates.{Candidate, scanned_table, held_of, IsHeldOf, IsHeld, IsCandidate, AreRowsOf, place_in, kept_in, rows_behind}
use Rattle.pq_scan.specs.Prepared.{IsPrepared}
use Rattle.pq_scan.proofs.Merged.{fits_more}
use Rattle.pq_scan.proofs.Told.{map_self}

each_so : {X : Type 0} (P Q : X → Type 0) → ((x : X) → P x → Q x) → (xs : List X) → AllByRecursion P xs → AllByRecursion Q xs
each_so P Q so [] all = tt
each_so P Q so (x ∷ xs) all = (so x all.0, each_so P Q so xs all.1)

each_map : {X Y : Type 0} (f : X → Y) (P : Y → Type 0) (xs : List X) → AllByRecursion (λ x. P (f x)) xs → AllByRecursion P (map f xs)
each_map f P [] all = tt
each_map f P (x ∷ xs) all = (all.0, each_map f P xs all.1)

-- ---- what was kept, and the rows

module _ (scan : Scan) (told : Option Content) (held : List (List Value)) where
  abbrev table : Table
  table = scanned_table scan

  -- rows
  pub held_rows : scan.access ≡ Primary → AllByRecursion (IsHeld scan told) held → AllByRecursion (AllFit (types_of table)) held
  held_rows is all = subst (λ (a : Access). AllByRecursion (IsHeldOf table scan.number told a) held) is all

  pub rows_themselves : scan.access ≡ Primary → AreRowsOf scan told held held
  rows_themselves is = λ rows others wanted h there kept. kept ∙ ap (λ (a : Access). map (held_of a scan.sequence) wanted) is ∙ map_self wanted

  -- values of entries
  module _ (index : ℕ) (is : scan.access ≡ Secondary index) where
    entries : AllByRecursion (IsHeld scan told) held → AllByRecursion (IsHeldOf table scan.number told (Secondary index)) held
    entries all = subst (λ (a : Access). AllByRecursion (IsHeldOf table scan.number told a) held) is all

    pub held_values : AllByRecursion (IsHeld scan told) held → AllByRecursion (AllFit (sequence_types table (Secondary index))) held
    held_values all = each_so (IsHeldOf table scan.number told (Secondary index)) (AllFit (sequence_types table (Secondary index))) (λ values h. h.0) held (entries all)

    pub held_entries : AllByRecursion (IsHeld scan told) held → AllByRecursion (IsEntryThere scan.number table index told) held
    held_entries all = each_so (IsHeldOf table scan.number told (Secondary index)) (IsEntryThere scan.number table index told) (λ values h. h.1) held (entries all)

    -- what was kept of rows by an index are the rows' values in it
    kept_values : IsPrepared scan → (wanted : List (List Value)) → map (held_of scan.access scan.sequence) wanted ≡ map (values_of (index_sequence table (index_numbered table index))) wanted
    kept_values sound wanted =
        ap (λ (a : Access). map (held_of a scan.sequence) wanted) is
        ∙ ap (λ (s : List KeyPart). map (values_of s) wanted) (sound.sequence_is ∙ ap (λ (a : Access). sequence_of (table_of scan.catalog.now.tables scan.query.now scan.rel) a) is ∙ ap (λ (n : ℕ). sequence_of (table_at scan.catalog.now.tables n) (Secondary index)) (sym sound.number_is))

    pub rows_named : IsPrepared scan → (items : List (List Value)) → items ≡ held → (result : Result (List (List Value)) Broke)
        → IfOk result (λ named. (rows : Rows) (others : List Pair) (wanted : List (List Value)) → HoldsRows told scan.catalog.now.tables rows others → AllByRecursion (λ row. In row (rows_of scan.number rows)) wanted → items ≡ map (values_of (index_sequence table (index_numbered table index))) wanted → named ≡ wanted)
        → IfOk result (AreRowsOf scan told held)
    rows_named sound items same (Err error) h = tt
    rows_named sound items same (Ok named) h = λ rows others wanted holds there kept. h rows others wanted holds there (same ∙ kept ∙ kept_values sound wanted)

-- ---- candidates

module _ (scan : Scan) (told : Option Content) (count : ℕ) (candidates : List Candidate) (all : AllByRecursion (IsCandidate scan told count) candidates) where
  pub kept_held : (held : List (List Value)) → held ≡ map kept_in candidates → AllByRecursion (IsHeld scan told) held
  kept_held held is = subst (AllByRecursion (IsHeld scan told)) (sym is) (each_map kept_in (IsHeld scan told) candidates (each_so (IsCandidate scan told count) (λ c. IsHeld scan told (kept_in c)) (λ c h. h.held) candidates all))

  pub places_there : (places : List ℕ) → places ≡ map place_in candidates → AllByRecursion (λ (place : ℕ). place < count) places
  places_there places is = subst (AllByRecursion (λ (place : ℕ). place < count)) (sym is) (each_map place_in (λ (place : ℕ). place < count) candidates (each_so (IsCandidate scan told count) (λ c. place_in c < count) (λ c h. h.input) candidates all))

-- ---- rows behind inputs

module _ (inputs : List (List (List Value))) where
  pub behind_length : (places : List ℕ) (rows : List (List Value)) → length rows ≡ length places → length (rows_behind inputs places rows) ≡ length rows
  behind_length places [] long = refl
  behind_length [] (row ∷ rows) long = absurd (omega arith)
  behind_length (place ∷ places) (row ∷ rows) long = ap suc (behind_length places rows (omega arith))

  pub behind_fit : (tables : List Table) (query : Query) (rel : ℕ) → 1 ≤ rel → AreInputs tables query rel inputs → (places : List ℕ) → AllByRecursion (λ (place : ℕ). place < length inputs) places → (rows : List (List Value)) → AllByRecursion (AllFit (types_of (table_of tables query rel))) rows → AllByRecursion (FitsTables tables query rel) (rows_behind inputs places rows)
  behind_fit tables query rel low fit places there [] fits = tt
  behind_fit tables query rel low fit [] there (row ∷ rows) fits = tt
  behind_fit tables query rel low fit (place ∷ places) there (row ∷ rows) fits =
      (fits_more tables query rel low (get_or inputs place []) row (each_in (FitsTables tables query (rel - 1)) inputs fit (get_or inputs place []) (at_in inputs place [] there.0)) fits.0, behind_fit tables query rel low fit places there.1 rows fits.1)
