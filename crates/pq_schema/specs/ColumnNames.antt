-- The names of columns: where they stand among the columns, and which of them are refused.
use Rattle.std.specs.Prelude.{ℕ, Bool, List, [], ◌∷◌, ◌++◌, map, find, unwrap_or, is_none, option_map, Option, Some, None, if◌then◌else◌}
use Rattle.std.specs.Str.{bytes_eq}
use Rattle.std.specs.List.{list_any}
use Rattle.pq_base.specs.Answers.{or_else}
use Rattle.pq_base.specs.declared.refusal.Refusal.{Refusal}
use Rattle.pq_base.specs.declared.refusal.Refusal.TheVariants as refusal
use Rattle.pq_schema.specs.declared.table.Column.{Column}
use Rattle.pq_schema.specs.Schema.{find_column}

-- the name is the first of those that stand among the ones before them
abbrev pub repeated_after : List (List ℕ) → List (List ℕ) → Option (List ℕ)
repeated_after before [] = None
repeated_after before (name ∷ names) =
    if list_any (bytes_eq name) before then Some name else repeated_after (before ++ name ∷ []) names

abbrev pub first_repeated : List (List ℕ) → Option (List ℕ)
first_repeated names = repeated_after [] names

abbrev pub names_of : List Column → List (List ℕ)
names_of columns = map (λ (column : Column). column.name) columns

-- no column has the name
abbrev pub is_unknown : List Column → List ℕ → Bool
is_unknown columns name = is_none (find_column columns name)

-- the place of the column of this name
abbrev pub place_of : List Column → List ℕ → ℕ
place_of columns name = unwrap_or (find_column columns name) 0

abbrev pub places_of : List Column → List (List ℕ) → List ℕ
places_of columns names = map (place_of columns) names

abbrev pub no_column : List ℕ → Refusal
no_column name = refusal.NoColumn name

abbrev pub repeated_name : List ℕ → Refusal
repeated_name name = refusal.Repeated name

-- a name that no column has
abbrev pub unknown_refusal : List Column → List (List ℕ) → Option Refusal
unknown_refusal columns names = option_map no_column (find (is_unknown columns) names)

abbrev pub repeated_refusal : List (List ℕ) → Option Refusal
repeated_refusal names = option_map repeated_name (first_repeated names)

-- an unknown name, and a repeated one
abbrev pub names_refusal : List Column → List (List ℕ) → Option Refusal
names_refusal columns names = or_else (unknown_refusal columns names) (repeated_refusal names)
