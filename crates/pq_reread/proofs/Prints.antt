-- Printed parts of a text, each with a grammar that spells the shapes of its tokens.
use Rattle.std.proofs.Common.{◌≡◌, ℕ, ℤ, zero, suc, pos, negsuc, ◌+◌, ◌-◌, ◌*◌, ◌/◌, ◌%◌, ◌^◌, ◌<◌, ◌≤◌, Bool, true, false, cond, eqb, List, [], ◌∷◌, ◌++◌, length, take, drop, get_or, flat_map, Some, refl, sym, ap, subst, ◌∙◌, arith, append_assoc, append-nil, length-append}
use Rattle.std.specs.Prelude.{slice_index, FitsSigned, IsUtf8}
use Rattle.std.specs.Int.{w64}
use Rattle.std.specs.List.{list_all}
use Rattle.std.specs.Str.{IsAscii, is_utf8}
use Rattle.std.proofs.lemmas.Str.{IsUtf8-append, IsUtf8-nil, IsUtf8-take, IsUtf8-drop, IsCharBoundary-before_ascii, IsCharBoundary-after_ascii, IsUtf8-from_ascii, is_utf8-from_IsUtf8}
use Rattle.std.proofs.lemmas.Str.Ascii.{IsAscii-nil}
use Rattle.std.specs.Fmt.{decimal, signed_decimal}
use Rattle.std.proofs.lemmas.Fmt.{decimal_by_steps, decimal_nonempty}
use Rattle.std.proofs.Math.IntN.{neg_ℤ}
use Rattle.std.proofs.lemmas.List.Folds.{list_all-append}
use Rattle.std.proofs.Math.Seq.{get_or-append_seam}
use Rattle.std.proofs.lemmas.Bool.{eqb-true}
use Rattle.std.proofs.lemmas.List.{drop_at}
use Rattle.std.proofs.lemmas.Bool.Decides.{nat_tests}
use Rattle.std.specs.Char.{is_ascii_digit}
use Rattle.pq_text.specs.Bytes.{next_is, is_letter, is_word_byte, is_mark, is_double_mark}
use Rattle.pq_text.specs.Forms.{is_word_form}
use Rattle.pq_text.specs.Tokens.{tokens_of}
use Rattle.pq_grammar.specs.Language.{◌⋅◌, nothing, one, each, separated_by}
use Rattle.pq_shape.specs.Shapes.{shapes_of, word_shape, number_or_other}
use Rattle.pq_shape.specs.Numbers.{digits_after, fitting_number, digits_number}
use Rattle.pq_shape.specs.Parts.{mark, number, text}
use Rattle.pq_shape.specs.Shape.{Shape}
use Rattle.pq_shape.specs.Shape as shape
use Rattle.pq_shape.proofs.Digits.{fitting_pos, fitting_neg}
use Rattle.pq_print.specs.Lists.{each_after, separate_texts as separated_texts}
use Rattle.pq_print.specs.Values.{doubled_quotes, quoted_text}
use Rattle.pq_reread.specs.Said.{Pairwise}
use Rattle.pq_reread.specs.Printed.{joins_none, is_quote}
use Rattle.pq_reread.proofs.Cut.{cut, shapes_are, both, take_exact, cut_word, cut_number, cut_negative, cut_mark, cut_two_marks, cut_text, cut_white}

-- what follows does not begin with a byte that would join
abbrev pub MayFollow : (ℕ → Bool) → List ℕ → Type 0
MayFollow joins rest = next_is joins rest ≡ false

-- These bytes are cut into shapes that S spells, whatever follows; but what follows must not begin with a byte
-- that would join them, and they don't begin with one that would join what stands before. They are UTF-8.
pub record Prints (S : List Shape → Type 0) (before : ℕ → Bool) (bytes : List ℕ) (after : ℕ → Bool) : Type 0 where
  pub shapes : List Shape
  pub spells : S shapes
  pub apart : (rest : List ℕ) → MayFollow after rest → MayFollow before (bytes ++ rest)
  pub cuts : (rest : List ℕ) → MayFollow after rest → cut 0 (bytes ++ rest) ≡ shapes ++ cut 0 rest
  pub utf8 : IsUtf8 bytes

-- ---- UTF-8

ascii_more : (b : ℕ) (bs : List ℕ) → b < 128 → IsAscii bs → (i : ℕ) → slice_index (b ∷ bs) i < 128
ascii_more b bs lt all zero = lt
ascii_more b bs lt all (suc i) = all i

one_byte : (b : ℕ) → b < 128 → IsUtf8 (b ∷ [])
one_byte b lt = IsUtf8-from_ascii (b ∷ []) (ascii_more b [] lt IsAscii-nil)

mark_ascii : (b : ℕ) → is_mark b ≡ true → b < 128
mark_ascii b h = grind (arith, nat_tests)

letter_word : (b : ℕ) → is_letter b ≡ true → is_word_byte b ≡ true
letter_word b h = rw h refl

word_ascii : (b : ℕ) → is_word_byte b ≡ true → b < 128
word_ascii b h = grind (arith, nat_tests)

all_ascii : (bs : List ℕ) → list_all is_word_byte bs ≡ true → IsAscii bs
all_ascii [] all = IsAscii-nil
all_ascii (b ∷ bs) all = let parts = both (is_word_byte b) (list_all is_word_byte bs) all in ascii_more b bs (word_ascii b parts.0) (all_ascii bs parts.1)

digit_ascii : (b : ℕ) → is_ascii_digit b ≡ true → b < 128
digit_ascii b h = grind (arith, nat_tests)

digits_ascii : (bs : List ℕ) → list_all is_ascii_digit bs ≡ true → IsAscii bs
digits_ascii [] all = IsAscii-nil
digits_ascii (b ∷ bs) all = let parts = both (is_ascii_digit b) (list_all is_ascii_digit bs) all in ascii_more b bs (digit_ascii b parts.0) (digits_ascii bs parts.1)

-- a quote stands between whole characters
doubled_step : (b : ℕ) (bs front : List ℕ) → ((front : List ℕ) → IsUtf8 (front ++ bs) → IsUtf8 (front ++ flat_map doubled_quotes bs)) → (q : Bool) → eqb b 39 ≡ q → IsUtf8 (front ++ b ∷ bs) → IsUtf8 (front ++ (cond q (39 ∷ 39 ∷ []) (b ∷ []) ++ flat_map doubled_quotes bs))
doubled_step b bs front later true is u =
    let quote : b ≡ 39 = eqb-true b 39 is in
    let at : get_or (front ++ b ∷ bs) (length front) 0 ≡ b = get_or-append_seam front b bs 0 in
    let inside : length front < length (front ++ b ∷ bs) = omega (arith, length-append front (b ∷ bs)) in
    let before : IsUtf8 (take (length front) (front ++ b ∷ bs)) = IsUtf8-take (front ++ b ∷ bs) (length front) u (IsCharBoundary-before_ascii (front ++ b ∷ bs) (length front) inside (omega (arith, at, quote))) in
    let behind : IsUtf8 (drop (length front + 1) (front ++ b ∷ bs)) = IsUtf8-drop (front ++ b ∷ bs) (length front + 1) u (IsCharBoundary-after_ascii (front ++ b ∷ bs) (length front) u inside (omega (arith, at, quote))) in
    let rest : drop (length front + 1) (front ++ b ∷ bs) ≡ bs = ap (drop (length front + 1)) (sym (append_assoc front (b ∷ []) bs)) ∙ drop_at (front ++ b ∷ []) bs (length front + 1) (length-append front (b ∷ [])) in
    IsUtf8-append front (39 ∷ 39 ∷ flat_map doubled_quotes bs) (subst IsUtf8 (take_exact front (b ∷ bs)) before)
    (IsUtf8-append (39 ∷ 39 ∷ []) (flat_map doubled_quotes bs) (IsUtf8-append (39 ∷ []) (39 ∷ []) (one_byte 39 (omega arith)) (one_byte 39 (omega arith))) (later [] (subst IsUtf8 rest behind)))
doubled_step b bs front later false is u =
    subst IsUtf8 (append_assoc front (b ∷ []) (flat_map doubled_quotes bs)) (later (front ++ b ∷ []) (subst IsUtf8 (sym (append_assoc front (b ∷ []) bs)) u))

doubled_utf8 : (bs front : List ℕ) → IsUtf8 (front ++ bs) → IsUtf8 (front ++ flat_map doubled_quotes bs)
doubled_utf8 [] front u = u
doubled_utf8 (b ∷ bs) front u = doubled_step b bs front (doubled_utf8 bs) (eqb b 39) refl u

quoted_utf8 : (t : List ℕ) → IsUtf8 t → IsUtf8 (quoted_text t)
quoted_utf8 t is = IsUtf8-append ((39 ∷ []) ++ flat_map doubled_quotes t) (39 ∷ []) (IsUtf8-append (39 ∷ []) (flat_map doubled_quotes t) (one_byte 39 (omega arith)) (doubled_utf8 t [] is)) (one_byte 39 (omega arith))

-- ---- parts

-- one part behind the other
pub join : {S U : List Shape → Type 0} {t u v : ℕ → Bool} {a b : List ℕ} → Prints S t a u → Prints U u b v → Prints (S ⋅ U) t (a ++ b) v
join {S} {U} {t} {u} {v} {a} {b} p q = record {
  shapes = p.shapes ++ q.shapes;
  spells = record { front = p.shapes; back = q.shapes; fits_front = p.spells; fits_back = q.spells; parts = refl };
  apart = λ rest may. subst (MayFollow t) (sym (append_assoc a b rest)) (p.apart (b ++ rest) (q.apart rest may));
  cuts = λ rest may. ap (cut 0) (append_assoc a b rest) ∙ p.cuts (b ++ rest) (q.apart rest may) ∙ ap (λ (s : List Shape). p.shapes ++ s) (q.cuts rest may) ∙ sym (append_assoc p.shapes q.shapes (cut 0 rest));
  utf8 = IsUtf8-append a b p.utf8 q.utf8;
}

-- the same shapes, spelled by another set
pub respelled : {S U : List Shape → Type 0} {t u : ℕ → Bool} {a : List ℕ} → ((w : List Shape) → S w → U w) → Prints S t a u → Prints U t a u
respelled h p = record { shapes = p.shapes; spells = h p.shapes p.spells; apart = p.apart; cuts = p.cuts; utf8 = p.utf8 }

pub nothing_prints : (t : ℕ → Bool) → Prints nothing t [] t
nothing_prints t = record { shapes = []; spells = refl; apart = λ rest may. may; cuts = λ rest may. refl; utf8 = IsUtf8-nil }

-- a space before a part
pub space : {S : List Shape → Type 0} {u : ℕ → Bool} {a : List ℕ} (t : ℕ → Bool) → t 32 ≡ false → Prints S joins_none a u → Prints S t (32 ∷ a) u
space {S} {u} {a} t is p = record { shapes = p.shapes; spells = p.spells; apart = λ rest may. is; cuts = λ rest may. cut_white 32 (a ++ rest) refl ∙ p.cuts rest may; utf8 = IsUtf8-append (32 ∷ []) a (one_byte 32 (omega arith)) p.utf8 }

-- a space behind a part that no space joins
pub spaced : {S : List Shape → Type 0} {t u : ℕ → Bool} {a : List ℕ} → u 32 ≡ false → Prints S t a u → Prints S t (a ++ (32 ∷ [])) joins_none
spaced {S} {t} {u} {a} is p = record {
  shapes = p.shapes;
  spells = p.spells;
  apart = λ rest may. subst (MayFollow t) (sym (append_assoc a (32 ∷ []) rest)) (p.apart (32 ∷ rest) is);
  cuts = λ rest may. ap (cut 0) (append_assoc a (32 ∷ []) rest) ∙ p.cuts (32 ∷ rest) is ∙ ap (λ (s : List Shape). p.shapes ++ s) (cut_white 32 rest refl);
  utf8 = IsUtf8-append a (32 ∷ []) p.utf8 (one_byte 32 (omega arith));
}

-- fewer bytes may follow than could
pub looser : {S : List Shape → Type 0} {s u : ℕ → Bool} {a : List ℕ} (t : ℕ → Bool) → ((b : ℕ) → t b ≡ false → u b ≡ false) → Prints S s a u → Prints S s a t
looser {S} {s} {u} {a} t less p = record { shapes = p.shapes; spells = p.spells; apart = λ rest may. p.apart rest (fewer rest may); cuts = λ rest may. p.cuts rest (fewer rest may); utf8 = p.utf8 }
  where
    fewer : (rest : List ℕ) → MayFollow t rest → MayFollow u rest
    fewer [] may = refl
    fewer (b ∷ rest) may = less b may

-- bytes of which the first joins nothing that stands before
pub behind : {S : List Shape → Type 0} {u : ℕ → Bool} (t : ℕ → Bool) (a : List ℕ) → 0 < length a → next_is t a ≡ false → Prints S joins_none a u → Prints S t a u
behind t [] some is p = absurd (omega arith)
behind t (b ∷ bs) some is p = record { shapes = p.shapes; spells = p.spells; apart = λ rest may. is; cuts = p.cuts; utf8 = p.utf8 }

-- a mark of one byte
pub mark_prints : (b : ℕ) (t : ℕ → Bool) → is_mark b ≡ true → t b ≡ false → Prints (mark b) t (b ∷ []) (is_double_mark b)
mark_prints b t is apart = record {
  shapes = shape.Mark b ∷ [];
  spells = refl;
  apart = λ rest may. apart;
  cuts = λ rest may. cut_mark b rest is may;
  utf8 = one_byte b (mark_ascii b is);
}

second_ascii : (b c : ℕ) → is_double_mark b c ≡ true → c < 128
second_ascii b c h = grind (arith, nat_tests)

-- a mark of two bytes
pub two_marks_print : (b c : ℕ) (t : ℕ → Bool) → is_mark b ≡ true → is_double_mark b c ≡ true → t b ≡ false → Prints (mark (b * 256 + c)) t (b ∷ c ∷ []) joins_none
two_marks_print b c t is double apart = record {
  shapes = shape.Mark (b * 256 + c) ∷ [];
  spells = refl;
  apart = λ rest may. apart;
  cuts = λ rest may. cut_two_marks b c rest is double;
  utf8 = IsUtf8-append (b ∷ []) (c ∷ []) (one_byte b (mark_ascii b is)) (one_byte c (second_ascii b c double));
}

-- a word
pub word_prints : (w : List ℕ) (s : Shape) → is_word_form w ≡ true → word_shape w ≡ s → Prints (one s) joins_none w is_word_byte
word_prints [] s is e = absurd cc
word_prints (b ∷ bs) s is e =
    let parts = both (is_letter b) (list_all is_word_byte bs) is in
    record {
      shapes = s ∷ [];
      spells = refl;
      apart = λ rest may. refl;
      cuts = λ rest may. cut_word b bs rest parts.0 parts.1 may ∙ ap (λ (u : Shape). u ∷ cut 0 rest) e;
      utf8 = IsUtf8-from_ascii (b ∷ bs) (ascii_more b bs (word_ascii b (letter_word b parts.0)) (all_ascii bs parts.1));
    }

-- a text between quotes
pub text_prints : (t : List ℕ) → IsUtf8 t → Prints (text t) joins_none (quoted_text t) is_quote
text_prints t is = record {
  shapes = shape.Text t ∷ [];
  spells = refl;
  apart = λ rest may. refl;
  cuts = λ rest may. cut_text t rest (is_utf8-from_IsUtf8 t is) may;
  utf8 = quoted_utf8 t is;
}

-- ---- numbers

record Digits (n : ℕ) (ds : List ℕ) : Type 0 where
  all : list_all is_ascii_digit ds ≡ true
  value : digits_after 0 ds ≡ n

digits_more : (m : ℕ) (ds es : List ℕ) → digits_after m (ds ++ es) ≡ digits_after (digits_after m ds) es
unfolding digits_after
digits_more m [] es = refl
digits_more m (d ∷ ds) es = digits_more (m * 10 + (d - 48)) ds es

digit_is : (n : ℕ) → n < 10 → is_ascii_digit (48 + n) ≡ true
digit_is n h = grind (arith, nat_tests)

one_digit : (n : ℕ) → n < 10 → Digits n ((48 + n) ∷ [])
unfolding digits_after
one_digit n h = record { all = rw (digit_is n h) refl; value = omega arith }

more_digits : (n : ℕ) (ds : List ℕ) → 10 ≤ n → Digits (n / 10) ds → Digits n (ds ++ ((48 + n % 10) ∷ []))
unfolding digits_after
more_digits n ds h p =
    let small : n % 10 < 10 = omega arith in
    record {
      all = list_all-append is_ascii_digit ds ((48 + n % 10) ∷ []) ∙ rw (p.all, digit_is (n % 10) small) refl;
      value = digits_more 0 ds ((48 + n % 10) ∷ []) ∙ ap (λ (m : ℕ). m * 10 + ((48 + n % 10) - 48)) p.value ∙ omega arith;
    }

decimal_digits : (n : ℕ) → n < 2 ^ 64 → Digits n (decimal n)
decimal_digits n h = decimal_by_steps Digits one_digit more_digits n h

digit_not_dash : (b : ℕ) → is_ascii_digit b ≡ true → eqb b 45 ≡ false
digit_not_dash b h = grind (arith, nat_tests)

number_by : (n : ℕ) (ds : List ℕ) → n < 2 ^ 63 → 0 < length ds → Digits n ds → Prints (number (pos n)) joins_none ds is_ascii_digit
number_by n [] small some d = absurd (omega arith)
number_by n (b ∷ bs) small some d =
    let parts = both (is_ascii_digit b) (list_all is_ascii_digit bs) d.all in
    let value : digits_number (b ∷ bs) ≡ Some (pos n) = rw (digit_not_dash b parts.0) (ap (λ (m : ℕ). fitting_number (pos m)) d.value ∙ fitting_pos n small) in
    record {
      shapes = shape.Number (pos n) ∷ [];
      spells = refl;
      apart = λ rest may. refl;
      cuts = λ rest may. cut_number b bs rest parts.0 parts.1 may ∙ ap (λ o. number_or_other o ∷ cut 0 rest) value;
      utf8 = IsUtf8-from_ascii (b ∷ bs) (ascii_more b bs (digit_ascii b parts.0) (digits_ascii bs parts.1));
    }

negative_by : (n : ℕ) (ds : List ℕ) → n < 2 ^ 63 → 0 < length ds → Digits (suc n) ds → Prints (number (negsuc n)) joins_none (45 ∷ ds) is_ascii_digit
negative_by n [] small some d = absurd (omega arith)
negative_by n (b ∷ bs) small some d =
    let parts = both (is_ascii_digit b) (list_all is_ascii_digit bs) d.all in
    let value : digits_number (45 ∷ b ∷ bs) ≡ Some (negsuc n) = ap (λ (m : ℕ). fitting_number (neg_ℤ (pos m))) d.value ∙ fitting_neg (suc n) (omega arith) in
    record {
      shapes = shape.Number (negsuc n) ∷ [];
      spells = refl;
      apart = λ rest may. refl;
      cuts = λ rest may. cut_negative b bs rest parts.0 d.all may ∙ ap (λ o. number_or_other o ∷ cut 0 rest) value;
      utf8 = IsUtf8-from_ascii (45 ∷ b ∷ bs) (ascii_more 45 (b ∷ bs) (omega arith) (ascii_more b bs (digit_ascii b parts.0) (digits_ascii bs parts.1)));
    }

-- a number of 63 bits without a sign
pub number_prints : (n : ℕ) → n < 2 ^ 63 → Prints (number (pos n)) joins_none (decimal n) is_ascii_digit
number_prints n small = number_by n (decimal n) small (decimal_nonempty n (omega arith)) (decimal_digits n (omega arith))

-- a number of 64 bits
pub signed_prints : (z : ℤ) → FitsSigned w64 z → Prints (number z) joins_none (signed_decimal z) is_ascii_digit
signed_prints (pos n) fits = number_prints n fits.sfits
signed_prints (negsuc n) fits =
    let small : n < 2 ^ 63 = fits.sfits in
    negative_by n (decimal (suc n)) small (decimal_nonempty (suc n) (omega arith)) (decimal_digits (suc n) (omega arith))

-- ---- lists

-- items with a text before each
pub each_prints : {X Y : Type 0} (B : List Shape → Type 0) (between : List ℕ) (S : X → List Shape → Type 0) (text : Y → List ℕ) (t : ℕ → Bool) → Prints B t between joins_none
    → (xs : List X) (ys : List Y) → Pairwise (λ x y. Prints (S x) joins_none (text y) t) xs ys → Prints (each (λ x. B ⋅ S x) xs) t (each_after between text ys) t
each_prints B between S text t b [] [] all = nothing_prints t
each_prints B between S text t b [] (y ∷ ys) all = absurd all
each_prints B between S text t b (x ∷ xs) [] all = absurd all
each_prints B between S text t b (x ∷ xs) (y ∷ ys) all = join (join b all.0) (each_prints B between S text t b xs ys all.1)

-- one or more items with a text between them
pub separated_prints : {X Y : Type 0} (B : List Shape → Type 0) (between : List ℕ) (S : X → List Shape → Type 0) (text : Y → List ℕ) (t : ℕ → Bool) → Prints B t between joins_none
    → (xs : List X) (ys : List Y) → 0 < length xs → Pairwise (λ x y. Prints (S x) joins_none (text y) t) xs ys → Prints (separated_by B S xs) joins_none (separated_texts between text ys) t
separated_prints B between S text t b [] ys some all = absurd (omega arith)
separated_prints B between S text t b (x ∷ xs) [] some all = absurd all
separated_prints B between S text t b (x ∷ xs) (y ∷ ys) some all = join all.0 (each_prints B between S text t b xs ys all.1)

-- ---- whole texts

pub whole : (S : List Shape → Type 0) (bytes : List ℕ) (t : ℕ → Bool) → Prints S joins_none bytes t → S (shapes_of bytes (tokens_of bytes))
unfolding cut
whole S bytes t p =
    let end : cut 0 (bytes ++ []) ≡ p.shapes ++ cut 0 [] = p.cuts [] refl in
    subst S (sym (shapes_are bytes ∙ ap (cut 0) (sym (append-nil bytes)) ∙ end ∙ append-nil p.shapes)) p.spells

pub whole_utf8 : (S : List Shape → Type 0) (bytes : List ℕ) (t : ℕ → Bool) → Prints S joins_none bytes t → is_utf8 bytes ≡ true
whole_utf8 S bytes t p = is_utf8-from_IsUtf8 bytes p.utf8
