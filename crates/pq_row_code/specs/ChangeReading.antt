-- Reading a change list from left to right: what is read and the bytes after it, or None.
use Rattle.std.specs.Prelude.{ℕ, zero, suc, List, [], ◌∷◌, length, take, drop, Option, Some, None, nat_lt, ◌==◌, if◌then◌else◌}
use Rattle.std.specs.Int.{w16, w32}
use Rattle.pq_row_code.specs.declared.changes.Change.{Change}
use Rattle.pq_key_code.specs.KeyReading.{◌>>=◌}
use Rattle.pq_row_code.specs.RowReading.{bits_at}

unfoldable pub sized_at : List ℕ → Option (List ℕ × List ℕ)
sized_at bytes = bits_at w32 bytes >>= λ k. if nat_lt (length k.1) k.0 then None else Some (take k.0 k.1, drop k.0 k.1)

unfoldable pub new_at : List ℕ → Option (Option (List ℕ) × List ℕ)
new_at [] = None
new_at (b ∷ rest) = if b == 0 then Some (None, rest) else if b == 1
    then (sized_at rest >>= λ x. Some (Some x.0, x.1)) else None

unfoldable pub change_at : List ℕ → Option (Change × List ℕ)
change_at bytes = sized_at bytes >>= λ k. new_at k.1 >>= λ n. Some (record { key = k.0; new = n.0 }, n.1)

unfoldable pub changes_at : ℕ → List ℕ → Option (List Change × List ℕ)
changes_at zero bytes = Some ([], bytes)
changes_at (suc n) bytes = change_at bytes >>= λ x. changes_at n x.1 >>= λ y. Some (x.0 ∷ y.0, y.1)

-- all of the bytes
unfoldable pub list_at : List ℕ → Option (List Change)
list_at bytes = bits_at w16 bytes >>= λ n. changes_at n.0 n.1 >>= λ x. if length x.1 == 0 then Some x.0 else None
