-- What a scan finds for its inputs.
use Rattle.std.specs.Prelude.{◌≡◌, ℕ, ◌+◌, ◌<◌, List, [], ◌∷◌, ◌++◌, map, drop, count_ones, slice_index_or, Option}
use Rattle.std.specs.List.{AllByRecursion}
use Rattle.pq_base.specs.Members.{In}
use Rattle.pq_base.specs.Values.{AllFit}
use Rattle.pq_base.specs.declared.value.Value.{Value}
use Rattle.pq_key_code.specs.KeyCode.{code_of}
use Rattle.pq_schema.specs.declared.table.Access.{Access}
use Rattle.pq_schema.specs.declared.table.Access.TheVariants.{Primary, Secondary}
use Rattle.pq_schema.specs.declared.table.KeyPart.{KeyPart}
use Rattle.pq_schema.specs.declared.table.Table.{Table}
use Rattle.pq_schema.specs.Rows.{Rows, rows_of, cells, types_of}
use Rattle.pq_schema.specs.Sequences.{columns_of}
use Rattle.pq_schema.specs.Tables.{table_at}
use Rattle.pq_store.specs.Content.{Content}
use Rattle.pq_calls.specs.Keys.{sequence_types}
use Rattle.pq_content.specs.Pairs.{Pair, HoldsRows}
use Rattle.pq_content.specs.Tables.{values_of}
use Rattle.pq_entries.specs.Entries.{IsEntryThere, AreRowsWithin, AreKeysWithin, AreFirstRows, AreFirstValues}
use Rattle.pq_plan.specs.Answer.{position}
use Rattle.pq_serving.specs.Scanning.{found}
use Rattle.pq_serving.specs.Starts.{filled_values}
use Rattle.pq_scan.specs.declared.candidates.Found.{Found}
use Rattle.pq_scan.specs.declared.merge.Placed.{Placed}
use Rattle.pq_scan.specs.declared.prepared.Scan.{Scan}
use Rattle.pq_scan.specs.Prepared.{asked_over}

abbrev pub scanned_table : Scan → Table
scanned_table scan = table_at scan.catalog.now.tables scan.number

-- ---- what is kept of a row: itself where the primary sequence serves, and else its values in the sequence

abbrev pub held_of : Access → List KeyPart → List Value → List Value
held_of Primary sequence row = row
held_of (Secondary index) sequence row = values_of sequence row

-- the values in the sequence of what is kept
abbrev pub shown_values : Access → List KeyPart → List Value → List Value
shown_values Primary sequence held = cells (columns_of sequence) held
shown_values (Secondary index) sequence held = held

-- what is kept fits, and an entry is there
abbrev pub IsHeldOf : Table → ℕ → Option Content → Access → List Value → Type 0
IsHeldOf table t told Primary held = AllFit (types_of table) held
IsHeldOf table t told (Secondary index) held =
    AllFit (sequence_types table (Secondary index)) held × IsEntryThere t table index told held

abbrev pub IsHeld : Scan → Option Content → List Value → Type 0
IsHeld scan told held = IsHeldOf (scanned_table scan) scan.number told scan.access held

-- what is kept of the first pairs of a range, as a content has them
abbrev pub AreHeldWithin : ℕ → Table → Access → List ℕ → List ℕ → ℕ → List (List Value) → Content → Type 0
AreHeldWithin t table Primary low high limit held content = AreRowsWithin table low high limit held content
AreHeldWithin t table (Secondary index) low high limit held content =
    AreKeysWithin t table (Secondary index) low high limit held content

-- what is kept of the first rows of a range
abbrev pub AreFirst : ℕ → Table → Access → List ℕ → List ℕ → ℕ → List (List Value) → Content → Type 0
AreFirst t table Primary low high limit held content = AreFirstRows t table low high limit held content
AreFirst t table (Secondary index) low high limit held content =
    AreFirstValues t table (Secondary index) low high limit held content

-- ---- candidates

abbrev pub Candidate : Type 0
Candidate = Placed Found

-- the code of the position, by the constants of an input
abbrev pub place_code : Scan → List (Option Value) → List Value → List ℕ
place_code scan constants held =
    code_of scan.position_dirs (filled_values constants
    (drop (count_ones scan.fixed) (shown_values scan.access scan.sequence held)))

abbrev pub candidate_at : Scan → List (Option Value) → ℕ → List Value → Candidate
candidate_at scan constants input held =
    record { place = place_code scan constants held; item = record { input = input; held = held } }

-- the candidate of a row behind the input at a place
abbrev pub row_candidate : Scan → Rows → ℕ → List (List Value) → List Value → Candidate
row_candidate scan rows input combo row =
    record {
      place = code_of scan.position_dirs (position (asked_over scan rows) (combo ++ row ∷ []));
      item = record { input = input; held = held_of scan.access scan.sequence row };
    }

abbrev pub input_candidates : Scan → Rows → ℕ → Option (List Value) → ℕ → List (List Value) → List Candidate
input_candidates scan rows k after input combo =
    map (row_candidate scan rows input combo) (found (asked_over scan rows) scan.rel scan.sequence k after combo)

-- those of all inputs, from a place on
abbrev pub all_candidates : Scan → Rows → ℕ → Option (List Value) → ℕ → List (List (List Value)) → List Candidate
all_candidates scan rows k after place [] = []
all_candidates scan rows k after place (combo ∷ inputs) =
    input_candidates scan rows k after place combo ++ all_candidates scan rows k after (place + 1) inputs

-- over any store: of one of so many inputs, and what is kept fits
pub record IsCandidate (scan : Scan) (told : Option Content) (count : ℕ) (candidate : Candidate) : Type 0 where
  pub input : candidate.item.input < count
  pub held : IsHeld scan told candidate.item.held

-- over a content that holds rows, those of one input come behind what was there
abbrev pub AddsCandidates : Scan → Option Content → ℕ → Option (List Value) → ℕ → List (List Value)
    → List Candidate → List Candidate → Type 0
AddsCandidates scan told k after place combo before now =
    (rows : Rows) (others : List Pair) → HoldsRows told scan.catalog.now.tables rows others
    → now ≡ before ++ input_candidates scan rows k after place combo

-- over a content that holds rows they are those of all inputs
abbrev pub AreCandidates : Scan → Option Content → ℕ → Option (List Value) → List (List (List Value))
    → List Candidate → Type 0
AreCandidates scan told k after inputs candidates =
    (rows : Rows) (others : List Pair) → HoldsRows told scan.catalog.now.tables rows others
    → candidates ≡ all_candidates scan rows k after 0 inputs

-- how many calls and entries the fetch of so many rows takes
abbrev pub fetches : Access → ℕ → ℕ
fetches Primary count = 0
fetches (Secondary index) count = count

-- the place of a candidate's input, and what was kept of its row
abbrev pub place_in : Candidate → ℕ
place_in candidate = candidate.item.input

abbrev pub kept_in : Candidate → List Value
kept_in candidate = candidate.item.held

-- over a content that holds rows they are the rows of which these were kept
abbrev pub AreRowsOf : Scan → Option Content → List (List Value) → List (List Value) → Type 0
AreRowsOf scan told held found =
    (rows : Rows) (others : List Pair) (wanted : List (List Value))
    → HoldsRows told scan.catalog.now.tables rows others
    → AllByRecursion (λ row. In row (rows_of scan.number rows)) wanted
    → held ≡ map (held_of scan.access scan.sequence) wanted → found ≡ wanted

-- each row behind the input at its place
abbrev pub rows_behind : List (List (List Value)) → List ℕ → List (List Value) → List (List (List Value))
rows_behind inputs places [] = []
rows_behind inputs [] (row ∷ rows) = []
rows_behind inputs (place ∷ places) (row ∷ rows) =
    (slice_index_or inputs place [] ++ row ∷ []) ∷ rows_behind inputs places rows

-- and behind their inputs, where the candidates are of rows
abbrev pub AreCombosOf : Scan → Option Content → List (List (List Value)) → List Candidate
    → List (List (List Value)) → Type 0
AreCombosOf scan told inputs candidates found =
    (rows : Rows) (others : List Pair) (wanted : List (List Value))
    → HoldsRows told scan.catalog.now.tables rows others
    → AllByRecursion (λ row. In row (rows_of scan.number rows)) wanted
    → map kept_in candidates ≡ map (held_of scan.access scan.sequence) wanted
    → found ≡ rows_behind inputs (map place_in candidates) wanted
