-- A row code is that of a row without NULL or that of one with NULL, by its first byte.
use Rattle.std.proofs.Common.{◌≡◌, ℕ, true, false, List, [], ◌∷◌, refl}
use Rattle.pq_base.specs.declared.value.ColType.{ColType}
use Rattle.pq_row_code.specs.RowReading.{front_at, is_plain, plain_decoded, marked_decoded, row_decoded}

pub plain_is : (ts : List ColType) (bytes : List ℕ) → is_plain ts bytes ≡ true → plain_decoded ts bytes ≡ row_decoded ts bytes
unfolding row_decoded plain_decoded front_at
plain_is ts [] e = refl
plain_is ts (k ∷ bytes) e = rw e refl

pub marked_is : (ts : List ColType) (bytes : List ℕ) → is_plain ts bytes ≡ false → marked_decoded ts bytes ≡ row_decoded ts bytes
unfolding row_decoded marked_decoded front_at
marked_is ts [] e = refl
marked_is ts (k ∷ bytes) e = rw e refl
