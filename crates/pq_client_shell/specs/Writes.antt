-- The writes of a script: where they begin, and which of them clients make.
use Rattle.std.specs.Prelude.{◌≡◌, ◌≤◌, ◌^◌, ℕ, ◌+◌, Bool, false, not, nat_le, nat_lt, length, List, [], ◌∷◌, ◌++◌, take, drop, Option, Some, None, is_some, option_and_then, Result, Ok, Err, if◌then◌else◌}
use Rattle.std.specs.Result.{result_ok}
use Rattle.pq_text.specs.Tokens.{tokens_of}
use Rattle.pq_text.specs.declared.piece.Piece.{Piece}
use Rattle.pq_text.specs.declared.piece.Piece.TheVariants as piece
use Rattle.pq_def_read.specs.Reading.{statement_of}
use Rattle.pq_def_read.specs.declared.statement.Statement.{Statement}
use Rattle.pq_def_read.specs.declared.statement.Statement.TheVariants as statement
use Rattle.pq_def_read.specs.declared.write.WriteDef.{WriteDef}
use Rattle.pq_schema.specs.Schema.{Schema, counters_of}
use Rattle.pq_index_keep.specs.Checking.{checked_write}
use Rattle.pq_index_keep.specs.declared.write.Write.{Write}
use Rattle.pq_tallies.specs.Writes.{written_table}
use Rattle.pq_client_shell.specs.declared.script.Parted.{Parted}

-- an INSERT, UPDATE or DELETE
abbrev pub as_write : Statement → Option WriteDef
as_write (statement.Write def) = Some def
as_write (statement.Batch defs) = None
as_write (statement.Create def) = None
as_write (statement.Prepare name from) = None
as_write (statement.Explain from) = None
as_write (statement.Run name params after) = None
as_write (statement.Alter def) = None
as_write (statement.Counter def) = None
as_write (statement.Read name values) = None
as_write statement.Show = None
as_write statement.Select = None

abbrev pub read_write : Result Statement ℕ → Option WriteDef
read_write (Ok statement) = as_write statement
read_write (Err left) = None

-- of a text of at most 65,536 bytes
abbrev pub text_written : List ℕ → Option WriteDef
text_written text = if nat_le (length text) 65536 then read_write (statement_of text (tokens_of text)) else None

-- the INSERT, UPDATE or DELETE that a piece spells
unfoldable pub written_of : Piece → Option WriteDef
written_of (piece.Statement text) = text_written text
written_of piece.NotUtf8 = None
written_of piece.TooLong = None

-- ---- the pieces before the first write, and those from it on

unfoldable pub front_count : List Piece → ℕ
front_count [] = 0
front_count (p ∷ ps) = if is_some (written_of p) then 0 else 1 + front_count ps

abbrev pub front_of : List Piece → List Piece
front_of pieces = take (front_count pieces) pieces

abbrev pub gathered_of : List Piece → List Piece
gathered_of pieces = drop (front_count pieces) pieces

-- a script that is parted there, with no more pieces than a script may have
pub record IsParted (p : Parted) : Type 0 where
  pub front : p.front ≡ front_count p.script.now.pieces
  pub within : p.front ≤ length p.script.now.pieces
  pub few : length p.script.now.pieces ≤ 2 ^ 24

-- ---- the clients

-- so many clients step beside one another
pub record AreSeats (k : ℕ) : Type 0 where
  pub some : 1 ≤ k
  pub most : k ≤ 16

-- ---- the writes that these definitions accept

-- a table has counters
abbrev pub has_counters : Schema → ℕ → Bool
has_counters schema table = nat_lt 0 (length (counters_of schema table))

-- a write of a table without counters
abbrev pub IsUncounted : Schema → Write → Type 0
IsUncounted schema write = has_counters schema (written_table write) ≡ false

abbrev pub if_uncounted : Schema → Write → Option Write
if_uncounted schema write = if has_counters schema (written_table write) then None else Some write

-- clients make no write of a table that has counters
abbrev pub accepted : Schema → Option WriteDef → Option Write
accepted schema None = None
accepted schema (Some def) = option_and_then (if_uncounted schema) (result_ok (checked_write schema def))

abbrev pub write_of : Schema → Piece → Option Write
write_of schema p = accepted schema (written_of p)

abbrev pub one_write : Option Write → List Write
one_write None = []
one_write (Some write) = write ∷ []

unfoldable pub writes_of : Schema → List Piece → List Write
writes_of schema [] = []
writes_of schema (p ∷ ps) = one_write (write_of schema p) ++ writes_of schema ps

-- a piece that is gathered and spells no accepted write of a table without counters is skipped
abbrev pub is_skipped : Schema → Piece → Bool
is_skipped schema p = not (is_some (write_of schema p))
