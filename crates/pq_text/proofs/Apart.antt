-- Which bytes exclude one another.
use Rattle.std.proofs.Common.{◌≡◌, ℕ, true, false, eqb, arith}
use Rattle.std.proofs.lemmas.Bool.Decides.{nat_tests}
use Rattle.std.specs.Char.{is_ascii_digit}
use Rattle.pq_text.specs.Bytes.{is_white, is_letter, is_mark, is_double_mark}

pub letter_not_white : (b : ℕ) → is_letter b ≡ true → is_white b ≡ false
letter_not_white b h = grind (arith, nat_tests)

pub letter_not_digit : (b : ℕ) → is_letter b ≡ true → is_ascii_digit b ≡ false
letter_not_digit b h = grind (arith, nat_tests)

pub letter_not_mark : (b : ℕ) → is_letter b ≡ true → is_mark b ≡ false
letter_not_mark b h = grind (arith, nat_tests)

pub letter_not_dash : (b : ℕ) → is_letter b ≡ true → eqb b 45 ≡ false
letter_not_dash b h = grind (arith, nat_tests)

pub letter_not_quote : (b : ℕ) → is_letter b ≡ true → eqb b 39 ≡ false
letter_not_quote b h = grind (arith, nat_tests)

pub digit_not_white : (b : ℕ) → is_ascii_digit b ≡ true → is_white b ≡ false
digit_not_white b h = grind (arith, nat_tests)

pub digit_not_letter : (b : ℕ) → is_ascii_digit b ≡ true → is_letter b ≡ false
digit_not_letter b h = grind (arith, nat_tests)

pub digit_not_mark : (b : ℕ) → is_ascii_digit b ≡ true → is_mark b ≡ false
digit_not_mark b h = grind (arith, nat_tests)

pub digit_not_dash : (b : ℕ) → is_ascii_digit b ≡ true → eqb b 45 ≡ false
digit_not_dash b h = grind (arith, nat_tests)

pub digit_not_quote : (b : ℕ) → is_ascii_digit b ≡ true → eqb b 39 ≡ false
digit_not_quote b h = grind (arith, nat_tests)

pub mark_not_white : (b : ℕ) → is_mark b ≡ true → is_white b ≡ false
mark_not_white b h = grind (arith, nat_tests)

pub mark_not_letter : (b : ℕ) → is_mark b ≡ true → is_letter b ≡ false
mark_not_letter b h = grind (arith, nat_tests)

pub mark_not_digit : (b : ℕ) → is_mark b ≡ true → is_ascii_digit b ≡ false
mark_not_digit b h = grind (arith, nat_tests)

pub mark_not_dash : (b : ℕ) → is_mark b ≡ true → eqb b 45 ≡ false
mark_not_dash b h = grind (arith, nat_tests)

pub mark_not_quote : (b : ℕ) → is_mark b ≡ true → eqb b 39 ≡ false
mark_not_quote b h = grind (arith, nat_tests)

pub white_not_letter : (b : ℕ) → is_white b ≡ true → is_letter b ≡ false
white_not_letter b h = grind (arith, nat_tests)

pub white_not_digit : (b : ℕ) → is_white b ≡ true → is_ascii_digit b ≡ false
white_not_digit b h = grind (arith, nat_tests)

pub white_not_mark : (b : ℕ) → is_white b ≡ true → is_mark b ≡ false
white_not_mark b h = grind (arith, nat_tests)

pub white_not_dash : (b : ℕ) → is_white b ≡ true → eqb b 45 ≡ false
white_not_dash b h = grind (arith, nat_tests)

pub white_not_quote : (b : ℕ) → is_white b ≡ true → eqb b 39 ≡ false
white_not_quote b h = grind (arith, nat_tests)

pub double_needs_mark : (b c : ℕ) → is_mark b ≡ false → is_double_mark b c ≡ false
double_needs_mark b c h = grind (arith, nat_tests)
