-- A row as it is stored: without the longest suffix of added columns that hold their defaults.
use Rattle.std.specs.Prelude.{ℕ, zero, suc, ◌≢◌, ◌-◌, Bool, false, nat_lt, ◌==◌, if◌then◌else◌, List, [], ◌∷◌, ◌++◌, length, take, drop, slice_index_or, Option, Some, None, All, IfSome}
use Rattle.std.specs.Ordering.{is_eq}
use Rattle.pq_base.specs.declared.value.ColType.{ColType}
use Rattle.pq_base.specs.declared.value.Value.{Value}
use Rattle.pq_base.specs.Cells.{value_of}
use Rattle.pq_base.specs.Order.{value_cmp}
use Rattle.pq_base.specs.Shapes.{RowShape}
use Rattle.pq_base.specs.Values.{AllFit, IsValue, fits_type}
use Rattle.pq_key_code.specs.KeyReading.{◌>>=◌}
use Rattle.pq_row_code.specs.RowCode.{row_code}
use Rattle.pq_row_code.specs.RowReading.{row_decoded}

abbrev pub is_filler : Option Value → Value → Bool
is_filler None x = false
is_filler (Some default) x = is_eq (value_cmp default x)

-- whether this column, from 0, is an added one that holds its default
abbrev pub holds_default : List (Option Value) → List Value → ℕ → Bool
holds_default fillers row col = is_filler (slice_index_or fillers col None) (value_of row col)

-- how many of the first n columns are left without the longest suffix of added ones that hold their defaults
abbrev pub len_below : List (Option Value) → List Value → ℕ → ℕ
len_below fillers row zero = zero
len_below fillers row (suc n) = if holds_default fillers row n then len_below fillers row n else suc n

-- the number of columns of the stored row; of more than 32 columns, which no table has, none is left out
abbrev pub stored_len : List (Option Value) → List Value → ℕ
stored_len fillers row = if nat_lt 32 (length row) then length row else len_below fillers row (length row)

abbrev pub stored_row : List (Option Value) → List Value → List Value
stored_row fillers row = take (stored_len fillers row) row

-- the code of a row of a table of this shape
abbrev pub code_as : RowShape → List Value → List ℕ
code_as shape row = row_code (stored_row shape.fillers row)

-- no row that fits the types has this code
abbrev pub IsNoRowCode : RowShape → List ℕ → Type 0
IsNoRowCode shape code = (row : List Value) → AllFit shape.types row → code_as shape row ≢ code

-- each default is in its kind's range
abbrev pub AreFillers : List (Option Value) → Type 0
AreFillers fillers = All (λ filler. IfSome filler IsValue) fillers

-- ---- from left to right

-- the number of columns that the first byte tells
abbrev pub columns_told : List ℕ → ℕ
columns_told [] = 0
columns_told (k ∷ bytes) = if nat_lt k 64 then k else k - 64

-- the row with the defaults of the columns behind it, each of which has to be an added one
abbrev pub with_defaults : List ColType → List (Option Value) → List Value → Option (List Value)
with_defaults [] fillers row = Some row
with_defaults (t ∷ ts) [] row = None
with_defaults (t ∷ ts) (None ∷ fillers) row = None
with_defaults (t ∷ ts) (Some default ∷ fillers) row = if fits_type t default
    then with_defaults ts fillers (row ++ default ∷ []) else None

-- the row, where its stored row has so many columns
abbrev pub of_stored_len : List (Option Value) → ℕ → List Value → Option (List Value)
of_stored_len fillers n row = if stored_len fillers row == n then Some row else None

-- the first n columns were read
unfoldable pub filled : RowShape → ℕ → List Value → Option (List Value)
filled shape n front = with_defaults (drop n shape.types) (drop n shape.fillers) front >>= of_stored_len shape.fillers n

unfoldable pub short_decoded : RowShape → ℕ → List ℕ → Option (List Value)
short_decoded shape n bytes = if nat_lt (length shape.types) n then None
    else (row_decoded (take n shape.types) bytes >>= λ front. filled shape n front)

-- all of the bytes
unfoldable pub filled_decoded : RowShape → List ℕ → Option (List Value)
filled_decoded shape bytes = if nat_lt 32 (length shape.types) then row_decoded shape.types bytes
    else short_decoded shape (columns_told bytes) bytes
