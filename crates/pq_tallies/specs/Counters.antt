-- How many rows each group of a counter has, and the pairs that stand for these numbers in a store.
use Rattle.std.specs.Prelude.{◌≡◌, ◌≢◌, ℕ, ◌+◌, ◌≤◌, ◌==◌, ◌||◌, not, false, nat_lt, if◌then◌else◌, List, ◌∷◌, ◌++◌, filter, map, flat_map, length, replicate, Option, Some, None}
use Rattle.std.specs.Int.{w16, w64, to_be_bytes}
use Rattle.std.specs.List.{AllByRecursion}
use Rattle.pq_base.specs.declared.value.Dir.TheVariants.{Asc}
use Rattle.pq_base.specs.declared.value.Value.{Value}
use Rattle.pq_base.specs.Values.{has_null}
use Rattle.pq_schema.specs.declared.table.Table.{Table}
use Rattle.pq_schema.specs.Schema.{Schema}
use Rattle.pq_key_code.specs.KeyCode.{code_of}
use Rattle.pq_content.specs.Pairs.{Pair, content_pairs, is_of_rows, is_of_counters}
use Rattle.pq_content.specs.Tables.{Rows, Keeps, rows_of, cells, agrees}
use Rattle.pq_store.specs.Content.{Content}
use Rattle.pq_tallies.specs.Defined.{NumberedCounter, counters_in}

-- ---- tallies

-- the greatest number of rows that a group may have
abbrev pub most_count : ℕ
most_count = 9223372036854775807

-- the number after this one; None exactly from the greatest on
abbrev pub next_count : ℕ → Option ℕ
next_count n = if nat_lt n most_count then Some (n + 1) else None

-- the rows of the counter's table that are in a group: those without NULL at its columns
abbrev pub counted_rows : NumberedCounter → Rows → List (List Value)
counted_rows counter rows = filter (λ row. not (has_null (cells counter.cols row))) (rows_of counter.table rows)

-- how many rows of the counter's table have these values at its columns, none of them NULL
abbrev pub tally : Rows → NumberedCounter → List Value → ℕ
tally rows counter values = length (filter (agrees counter.cols values) (counted_rows counter rows))

-- ---- keys and values in a store

-- space 05, the counter's number in two bytes, and the ascending code of a group's values
abbrev pub counter_key : ℕ → List Value → List ℕ
counter_key number values = 5 ∷ to_be_bytes w16 number ++ code_of (replicate (length values) Asc) values

-- the number in eight bytes, the highest first
abbrev pub count_code : ℕ → List ℕ
count_code n = to_be_bytes w64 n

-- what a store holds for a group of so many rows: nothing for a group of none
abbrev pub stored_count : ℕ → Option (List ℕ)
stored_count n = if n == 0 then None else Some (count_code n)

-- no number of rows of a group has this code
abbrev pub IsNoCountCode : List ℕ → Type 0
IsNoCountCode code = (n : ℕ) → 1 ≤ n → n ≤ most_count → count_code n ≢ code

-- ---- the pairs of counters

abbrev pub counter_pair : Rows → NumberedCounter → List Value → Pair
counter_pair rows counter values = (counter_key counter.number values, count_code (tally rows counter values))

-- the pair of each row's group: those of one group are equal
abbrev pub group_pairs : Rows → NumberedCounter → List Pair
group_pairs rows counter =
    map (λ row. counter_pair rows counter (cells counter.cols row)) (counted_rows counter rows)

abbrev pub counter_pairs : List NumberedCounter → Rows → List Pair
counter_pairs counters rows = flat_map (group_pairs rows) counters

-- any pairs whose keys are of neither rows, nor entries, nor counters
abbrev pub AreBesideCounters : List Pair → Type 0
AreBesideCounters others =
    AllByRecursion (λ pair. (is_of_rows pair.0 || is_of_counters pair.0) ≡ false) others

-- the content that has the pairs of the rows and of the counters, and other pairs beside them
abbrev pub all_pairs : List Table → List NumberedCounter → Rows → List Pair → Content
all_pairs tables counters rows others = content_pairs tables rows (counter_pairs counters rows ++ others)

-- ---- what a told content stands for

-- no group has more rows than the greatest number
abbrev pub AreFewRows : List NumberedCounter → Rows → Type 0
AreFewRows counters rows =
    AllByRecursion (λ counter. (values : List Value) → tally rows counter values ≤ most_count) counters

-- it has just the pairs of these rows and of the schema's counters over them, and any others beside them
pub record HoldsCounted (told : Option Content) (schema : Schema) (rows : Rows) (others : List Pair) : Type 0 where
  pub keeps : Keeps schema.tables rows
  pub few : AreFewRows (counters_in schema) rows
  pub beside : AreBesideCounters others
  pub is : told ≡ Some (all_pairs schema.tables (counters_in schema) rows others)
