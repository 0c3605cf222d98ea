-- Pieces that are UTF-8 or not.
use Rattle.std.proofs.Common.{◌≡◌, ℕ, Bool, true, false, List, refl}
use Rattle.std.specs.Str.{IsUtf8, is_utf8}
use Rattle.std.proofs.lemmas.Str.{is_utf8-from_IsUtf8, IsUtf8-from_is_utf8}
use Rattle.pq_text.specs.Pieces.{statement}
use Rattle.pq_text.specs.declared.piece.Piece.TheVariants as piece

pub is_statement : (text bytes : List ℕ) → IsUtf8 bytes → text ≡ bytes → piece.Statement text ≡ statement bytes
is_statement text bytes utf8 same = rw (same, is_utf8-from_IsUtf8 bytes utf8) refl

isnt_by : (bytes : List ℕ) (b : Bool) → is_utf8 bytes ≡ b → ¬ IsUtf8 bytes → piece.NotUtf8 ≡ statement bytes
isnt_by bytes true e isnt = absurd (isnt (IsUtf8-from_is_utf8 bytes e))
isnt_by bytes false e isnt = rw e refl

pub isnt_utf8 : (bytes : List ℕ) → ¬ IsUtf8 bytes → piece.NotUtf8 ≡ statement bytes
isnt_utf8 bytes isnt = isnt_by bytes (is_utf8 bytes) refl isnt
