-- Names and texts are of UTF-8 bytes.
use Rattle.std.proofs.Common.{◌≡◌, ℕ, Bool, true, false, cond, List, [], ◌∷◌, ◌++◌, ◌||◌, ◌==◌, length, drop, get_or, ◌+◌, ◌<◌, ◌≤◌, add-one, nat_le, nat_lt, zero, suc, ◌&&◌, Option, Some, None, Result, Ok, Err, arith, refl, sym, ap}
use Rattle.std.specs.Prelude.{IsUtf8, IsAscii, MatchOption, MatchResult}
use Rattle.std.specs.Str.{is_utf8}
use Rattle.std.proofs.lemmas.Str.{IsUtf8-from_is_utf8, is_utf8-from_IsUtf8, IsUtf8-from_ascii}
use Rattle.std.proofs.lemmas.Str.Ascii.{IsAscii-map, lowercase_ascii}
use Rattle.std.specs.Char.{to_ascii_lowercase}
use Rattle.pq_shape.specs.Shapes.{lowercase_bytes, name_shape, named_shape, utf8_text, kept_byte, is_kept_quote, undoubled_quotes}
use Rattle.std.proofs.Math.Seq.{drop-cons}
use Rattle.std.proofs.lemmas.List.{drop_all}
use Rattle.std.proofs.lemmas.Bool.{true≢false}
use Rattle.std.proofs.lemmas.Bool.Decides.{nat_tests}
use Rattle.std.specs.Result.{is_ok}
use Rattle.pq_shape.specs.Shape as shape
use Rattle.std.specs.List.{list_all, list_any}

none_is : (b : Bool) (bs : List ℕ) → is_utf8 bs ≡ b → (IsUtf8 bs → ⊥) → None ≡ cond b (Some bs) None
none_is true bs is h = absurd (h (IsUtf8-from_is_utf8 bs is))
none_is false bs is h = refl

pub checked_is : (found : Option (List ℕ)) (bs : List ℕ) → MatchOption found (¬ IsUtf8 bs) (λ text. IsUtf8 bs × text ≡ bs) → found ≡ utf8_text bs
unfolding utf8_text
checked_is None bs h = none_is (is_utf8 bs) bs refl h
checked_is (Some t) bs h = rw (is_utf8-from_IsUtf8 bs h.0) (ap (λ (u : List ℕ). Some u) h.1)

-- one byte put
pub undoubled_step : (q : Bool) (i : ℕ) (bs : List ℕ) → i < length bs → undoubled_quotes q (drop i bs) ≡ kept_byte q (get_or bs i 0) ++ undoubled_quotes (is_kept_quote q (get_or bs i 0)) (drop (i + 1) bs)
unfolding undoubled_quotes
undoubled_step q i bs h = rw (add-one, drop-cons bs i 0) refl

-- without a quote nothing is left out
plain_step : (b : ℕ) (bs : List ℕ) (q : Bool) → (b == 39) ≡ q → (q || list_any (λ x. x == 39) bs) ≡ false → (list_any (λ x. x == 39) bs ≡ false → undoubled_quotes false bs ≡ bs) → undoubled_quotes false (b ∷ bs) ≡ b ∷ bs
unfolding undoubled_quotes
plain_step b bs true is none rest = absurd (true≢false none)
plain_step b bs false is none rest = rw is (ap (λ (xs : List ℕ). b ∷ xs) (rest none))

pub undoubled_plain : (bs : List ℕ) → list_any (λ x. x == 39) bs ≡ false → undoubled_quotes false bs ≡ bs
unfolding undoubled_quotes
undoubled_plain [] none = refl
undoubled_plain (b ∷ bs) none = plain_step b bs (b == 39) refl none (undoubled_plain bs)

pub undoubled_end : (q : Bool) (i : ℕ) (bs : List ℕ) → length bs ≤ i → undoubled_quotes q (drop i bs) ≡ []
unfolding undoubled_quotes
undoubled_end q i bs h = rw (drop_all i bs h) refl

ascii_step : (b : ℕ) (bs : List ℕ) (low : Bool) → nat_lt b 128 ≡ low → (low && list_all (λ c. nat_lt c 128) bs) ≡ true
    → (list_all (λ c. nat_lt c 128) bs ≡ true → IsAscii bs) → IsAscii (b ∷ bs)
ascii_step b bs true is plain rest zero = grind (arith, nat_tests)
ascii_step b bs true is plain rest (suc i) = rest plain i
ascii_step b bs false is plain rest i = absurd (true≢false (sym plain))

plain_ascii : (bs : List ℕ) → list_all (λ b. nat_lt b 128) bs ≡ true → IsAscii bs
plain_ascii [] plain = λ i. omega arith
plain_ascii (b ∷ bs) plain = ascii_step b bs (nat_lt b 128) refl plain (plain_ascii bs)

pub lowercase_utf8 : (bs : List ℕ) → list_all (λ b. nat_lt b 128) bs ≡ true → is_utf8 (lowercase_bytes bs) ≡ true
lowercase_utf8 bs plain =
    let ascii = plain_ascii bs plain in
    is_utf8-from_IsUtf8 (lowercase_bytes bs) (IsUtf8-from_ascii (lowercase_bytes bs) (IsAscii-map to_ascii_lowercase bs lowercase_ascii ascii))

pub named_word : (bs : List ℕ) → length bs ≤ 32 → is_utf8 (lowercase_bytes bs) ≡ true → name_shape bs ≡ shape.Name (lowercase_bytes bs)
unfolding utf8_text
named_word bs le is = let short : nat_le (length bs) 32 ≡ true = grind (arith, nat_tests) in rw (short, is) refl

pub long_word : (bs : List ℕ) → 32 < length bs → name_shape bs ≡ shape.Other
long_word bs lt = let long : nat_le (length bs) 32 ≡ false = grind (arith, nat_tests) in rw long refl

other_bytes : (short : Bool) (low : List ℕ) → is_utf8 low ≡ false → cond short (named_shape (utf8_text low)) shape.Other ≡ shape.Other
unfolding utf8_text
other_bytes true low isnt = rw isnt refl
other_bytes false low isnt = refl

pub other_word : (bs : List ℕ) → is_utf8 (lowercase_bytes bs) ≡ false → name_shape bs ≡ shape.Other
other_word bs isnt = other_bytes (nat_le (length bs) 32) (lowercase_bytes bs) isnt

pub known_name : (low : List ℕ) → is_utf8 low ≡ true → utf8_text low ≡ Some low
unfolding utf8_text
known_name low is = rw is refl

pub test_is : {S E : Type 0} (bs : List ℕ) (tested : Result S E) (same : S → Type 0) (upto : E → Type 0)
    → MatchResult tested (λ s. same s × IsUtf8 bs) (λ e. ¬ (IsUtf8 bs) × upto e) → is_ok tested ≡ is_utf8 bs
test_is bs (Ok s) same upto h = sym (is_utf8-from_IsUtf8 bs h.1)
test_is bs (Err e) same upto h = not_utf8 (is_utf8 bs) refl h.0
  where
    not_utf8 : (b : Bool) → is_utf8 bs ≡ b → ¬ (IsUtf8 bs) → false ≡ b
    not_utf8 true is isnt = absurd (isnt (IsUtf8-from_is_utf8 bs is))
    not_utf8 false is isnt = refl
