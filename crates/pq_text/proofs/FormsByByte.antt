-- The form of bytes by their first byte.
use Rattle.std.proofs.Common.{◌≡◌, ℕ, Bool, true, false, cond, eqb, List, [], ◌∷◌, length, Some, None, refl, ◌&&◌, not}
use Rattle.std.specs.List.{list_all}
use Rattle.std.specs.Char.{is_ascii_digit}
use Rattle.pq_text.specs.Bytes.{next_is, is_white, is_letter, is_word_byte, is_mark, is_double_mark}
use Rattle.pq_text.specs.Forms.{LeftOut, Of, form_of, text_end, is_at, is_nowhere}
use Rattle.pq_text.specs.declared.token.Kind.TheVariants as kind
use Rattle.pq_text.proofs.Apart.{letter_not_white, letter_not_digit, letter_not_mark, letter_not_dash, letter_not_quote, digit_not_white, digit_not_letter, digit_not_mark, digit_not_dash, digit_not_quote, mark_not_white, mark_not_letter, mark_not_digit, mark_not_dash, mark_not_quote, white_not_letter, white_not_digit, white_not_mark, white_not_dash, white_not_quote, double_needs_mark}

pub form_letter : (last : Bool) (b : ℕ) (w : List ℕ) → is_letter b ≡ true → form_of last (b ∷ w) ≡ cond (list_all is_word_byte w) (Some (Of kind.Word)) None
form_letter last b [] h = simp (h, letter_not_white b h, letter_not_digit b h, letter_not_mark b h, letter_not_dash b h, letter_not_quote b h)
form_letter last b (c ∷ []) h = simp (h, letter_not_white b h, letter_not_digit b h, letter_not_dash b h, letter_not_quote b h, double_needs_mark b c (letter_not_mark b h))
form_letter last b (c ∷ d ∷ w) h = simp (h, letter_not_white b h, letter_not_digit b h, letter_not_dash b h, letter_not_quote b h)

pub form_digit : (last : Bool) (b : ℕ) (w : List ℕ) → is_ascii_digit b ≡ true → form_of last (b ∷ w) ≡ cond (list_all is_ascii_digit w) (Some (Of kind.Number)) None
form_digit last b [] h = simp (h, digit_not_white b h, digit_not_letter b h, digit_not_mark b h, digit_not_dash b h, digit_not_quote b h)
form_digit last b (c ∷ []) h = simp (h, digit_not_white b h, digit_not_letter b h, digit_not_dash b h, digit_not_quote b h, double_needs_mark b c (digit_not_mark b h))
form_digit last b (c ∷ d ∷ w) h = simp (h, digit_not_white b h, digit_not_letter b h, digit_not_dash b h, digit_not_quote b h)

pub form_negative : (last : Bool) (c : ℕ) (w : List ℕ) → is_ascii_digit c ≡ true → form_of last (45 ∷ c ∷ w) ≡ cond (list_all is_ascii_digit w) (Some (Of kind.Number)) None
form_negative last c [] h = simp (h, digit_not_dash c h)
form_negative last c (d ∷ w) h = simp (h, digit_not_dash c h)

pub form_comment : (last : Bool) (w : List ℕ) → form_of last (45 ∷ 45 ∷ w) ≡ cond (list_all (λ d. not (eqb d 10)) w) (Some LeftOut) None
form_comment last [] = refl
form_comment last (d ∷ w) = refl

pub form_dash : (last : Bool) (w : List ℕ) → next_is (λ c. eqb c 45) w ≡ false → next_is is_ascii_digit w ≡ false → form_of last (45 ∷ w) ≡ None
form_dash last [] h g = refl
form_dash last (c ∷ []) h g = simp (h, g)
form_dash last (c ∷ d ∷ w) h g = simp (h, g)

pub form_white : (last : Bool) (b : ℕ) → is_white b ≡ true → form_of last (b ∷ []) ≡ Some LeftOut
form_white last b h = simp h

pub form_white_more : (last : Bool) (b c : ℕ) (w : List ℕ) → is_white b ≡ true → form_of last (b ∷ c ∷ w) ≡ None
form_white_more last b c [] h = simp (white_not_letter b h, white_not_digit b h, white_not_dash b h, white_not_quote b h, double_needs_mark b c (white_not_mark b h))
form_white_more last b c (d ∷ w) h = simp (white_not_letter b h, white_not_digit b h, white_not_dash b h, white_not_quote b h)

pub form_quote : (last : Bool) (w : List ℕ) → form_of last (39 ∷ w) ≡ cond (is_at (text_end w) (length w)) (Some (Of kind.Text)) (cond (is_nowhere (text_end w) && last) (Some (Of kind.Other)) None)
form_quote last [] = refl
form_quote last (c ∷ []) = refl
form_quote last (c ∷ d ∷ w) = refl

pub form_mark : (last : Bool) (b : ℕ) → is_mark b ≡ true → form_of last (b ∷ []) ≡ Some (Of kind.Mark)
form_mark last b h = simp (h, mark_not_white b h, mark_not_letter b h, mark_not_digit b h, mark_not_dash b h, mark_not_quote b h)

pub form_two_marks : (last : Bool) (b c : ℕ) → is_mark b ≡ true → form_of last (b ∷ c ∷ []) ≡ cond (is_double_mark b c) (Some (Of kind.Mark)) None
form_two_marks last b c h = simp (mark_not_letter b h, mark_not_digit b h, mark_not_dash b h, mark_not_quote b h)

pub form_mark_more : (last : Bool) (b c d : ℕ) (w : List ℕ) → is_mark b ≡ true → form_of last (b ∷ c ∷ d ∷ w) ≡ None
form_mark_more last b c d w h = simp (mark_not_letter b h, mark_not_digit b h, mark_not_dash b h, mark_not_quote b h)

pub form_other : (last : Bool) (b : ℕ) (w : List ℕ) → is_white b ≡ false → is_letter b ≡ false → is_ascii_digit b ≡ false → is_mark b ≡ false → eqb b 45 ≡ false → eqb b 39 ≡ false → form_of last (b ∷ w) ≡ None
form_other last b [] white letter digit mark dash quote = simp (white, letter, digit, mark, dash, quote)
form_other last b (c ∷ []) white letter digit mark dash quote = simp (letter, digit, double_needs_mark b c mark, dash, quote)
form_other last b (c ∷ d ∷ w) white letter digit mark dash quote = simp (letter, digit, dash, quote)
