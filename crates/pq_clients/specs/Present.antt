-- The tables that are present in a content, and what writes make of them.
use Rattle.std.specs.Prelude.{ℕ, ◌==◌, List, [], ◌∷◌, ◌++◌, Option, Some, None, if◌then◌else◌}
use Rattle.std.specs.FinMap.{get, entries}
use Rattle.pq_base.specs.declared.value.Value.{Value}
use Rattle.pq_key_code.specs.KeyCode.{row_key}
use Rattle.pq_schema.specs.declared.table.Table.{Table}
use Rattle.pq_schema.specs.Tables.{table_at}
use Rattle.pq_content.specs.Pairs.{Pair}
use Rattle.pq_content.specs.Tables.{Rows, key_of, row_at, rows_without}
use Rattle.pq_store.specs.Content.{Content}
use Rattle.pq_index_keep.specs.declared.write.SetCol.{SetCol}
use Rattle.pq_index_keep.specs.declared.write.Write.{Write}
use Rattle.pq_index_keep.specs.declared.write.Write.TheVariants as write
use Rattle.pq_index_keep.specs.Tested.{with_sets}
use Rattle.pq_clients.specs.declared.outcome.Wrote.{Wrote}
use Rattle.pq_clients.specs.Held.{present_row}
use Rattle.pq_clients.specs.Clients.{View, write_at}

-- the row present at a key of a table
unfoldable pub present_at : List Table → Content → ℕ → List Value → Option (List Value)
present_at tables c t key = present_row (table_at tables t) (get c (row_key t key))

abbrev pub as_row : ℕ → Option (List Value) → Rows
as_row t None = []
as_row t (Some row) = (t, row) ∷ []

-- the row present in a pair, if it is one of the rows' pairs
abbrev pub rows_in : List Table → List ℕ → List ℕ → Rows
rows_in tables (space ∷ t ∷ code) value =
    if space == 2 then as_row t (present_row (table_at tables t) (Some value)) else []
rows_in tables _ value = []

abbrev pub rows_among : List Table → List Pair → Rows
rows_among tables [] = []
rows_among tables (pair ∷ pairs) = rows_in tables pair.0 pair.1 ++ rows_among tables pairs

-- the present tables
unfoldable pub present_rows : List Table → Content → Rows
present_rows tables c = rows_among tables (entries c)

-- ---- what writes make of them

abbrev pub updated_row : List Table → ℕ → List Value → List SetCol → Rows → Option (List Value) → Rows
updated_row tables t key sets rows None = rows
updated_row tables t key sets rows (Some old) = (t, with_sets sets old) ∷ rows_without tables t key rows

abbrev pub rows_after : List Table → Rows → Write → Rows
rows_after tables rows (write.Insert t row) = (t, row) ∷ rows_without tables t (key_of (table_at tables t) row) rows
rows_after tables rows (write.Update t key sets conds) = updated_row tables t key sets rows (row_at tables rows t key)
rows_after tables rows (write.Delete t key conds) = rows_without tables t key rows

abbrev pub rows_after_all : List Table → Rows → List Write → Rows
rows_after_all tables rows [] = rows
rows_after_all tables rows (w ∷ ws) = rows_after_all tables (rows_after tables rows w) ws

-- the write of a client with this number
abbrev pub found_write : Option Write → List Write
found_write None = []
found_write (Some w) = w ∷ []

abbrev pub write_named : List View → Wrote → List Write
write_named [] wrote = []
write_named (v ∷ vs) wrote =
    if v.number == wrote.client then found_write (write_at v.writes wrote.number) else write_named vs wrote

abbrev pub writes_named : List View → List Wrote → List Write
writes_named clients [] = []
writes_named clients (wrote ∷ rest) = write_named clients wrote ++ writes_named clients rest
