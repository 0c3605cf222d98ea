-- What was taken of a source.
use Rattle.std.proofs.Common.{◌≡◌, ℕ, zero, suc, ◌<◌, List, [], ◌∷◌, ◌++◌, take, length, get_or, Option, sym, ap, ◌∙◌, arith}
use Rattle.std.proofs.lemmas.Grind.{common_steps}
use Rattle.std.specs.Io.KnownBytes.{prepend_known}
use Rattle.pq_console.specs.Reading.{TookBytes, script_limit}
use Rattle.pq_console.specs.declared.reading.Ending.TheVariants.{TooLong}
use Rattle.pq_console.proofs.Known.{prepend_known-append}

-- of a room of one byte, one was taken
one_byte : (room : List ℕ) (n : ℕ) → length room ≡ 1 → 0 < n → take n room ≡ get_or room 0 0 ∷ []
one_byte [] n long some = absurd (omega (arith, long))
one_byte (x ∷ []) (suc n) long some = grind (arith, common_steps)
one_byte (x ∷ y ∷ ys) n long some = absurd (omega (arith, long))
one_byte (x ∷ []) zero long some = absurd (omega (arith, some))

-- the limit was taken, and one byte more
pub Took-past : (old mid now : Option (List ℕ)) (bytes room : List ℕ) (n : ℕ) → length bytes ≡ script_limit → old ≡ prepend_known bytes mid → mid ≡ prepend_known (take n room) now → length room ≡ 1 → 0 < n → TookBytes TooLong old now bytes
Took-past old mid now bytes room n long first next one some =
    (get_or room 0 0, first ∙ ap (prepend_known bytes) next ∙ sym (prepend_known-append bytes (take n room) now) ∙ ap (λ b. prepend_known (bytes ++ b) now) (one_byte room n one some), long)
