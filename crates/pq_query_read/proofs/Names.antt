-- Names, as words of a text.
use Rattle.std.proofs.Common.{◌≡◌, ◌≤◌, ℕ, zero, suc, ◌<◌, Bool, true, false, cond, not, ◌||◌, ◌&&◌, List, [], ◌∷◌, length, map, Option, Some, None, refl, sym, ap, subst, ◌∙◌, arith}
use Rattle.std.specs.Prelude.{nat_le}
use Rattle.std.specs.List.{list_all, list_any}
use Rattle.std.specs.Option.{option_map}
use Rattle.std.specs.Str.{bytes_eq, is_utf8, IsAscii}
use Rattle.std.specs.Char.{to_ascii_lowercase}
use Rattle.std.proofs.lemmas.Slice.Eq.{bytes_eq-Decides}
use Rattle.std.proofs.lemmas.List.{length-map}
use Rattle.std.proofs.lemmas.Str.{is_utf8-from_IsUtf8, IsUtf8-from_ascii}
use Rattle.std.proofs.lemmas.Bool.{leb-true, and_parts}
use Rattle.std.proofs.lemmas.Bool.Decides.{nat_tests}
use Rattle.pq_base.specs.Words.{uppercase_byte, keywords}
use Rattle.pq_schema.specs.Names.{is_small_letter, is_name_byte, is_keyword, is_name, IsName}
use Rattle.pq_schema.specs.Names.{is_word as is_name_word}
use Rattle.pq_text.specs.Bytes.{is_letter, is_word_byte}
use Rattle.pq_text.specs.Forms.{is_word_form}
use Rattle.pq_shape.specs.Shapes.{word_place, lowercase_bytes, utf8_text, named_shape, name_shape, keyword_or, word_shape}
use Rattle.pq_shape.specs.Shape as shape

-- what a name is
record NameParts (name : List ℕ) : Type 0 where
  letters : list_all is_name_byte name ≡ true
  short : nat_le (length name) 32 ≡ true
  free : is_keyword name ≡ false
  word : is_word_form name ≡ true

not_true : (b : Bool) → not b ≡ true → b ≡ false
not_true true e = absurd cc
not_true false e = refl

name_letter : (b : ℕ) → is_small_letter b ≡ true → is_letter b ≡ true
name_letter b h = grind (arith, nat_tests)

letter_byte : (b : ℕ) → is_small_letter b ≡ true → is_name_byte b ≡ true
letter_byte b h = rw h refl

name_word_byte : (b : ℕ) → is_name_byte b ≡ true → is_word_byte b ≡ true
name_word_byte b h = grind (arith, nat_tests)

all_word_bytes : (bs : List ℕ) → list_all is_name_byte bs ≡ true → list_all is_word_byte bs ≡ true
all_word_bytes [] all = refl
all_word_bytes (b ∷ bs) all =
    let parts = and_parts (is_name_byte b) (list_all is_name_byte bs) all in
    rw (name_word_byte b parts.0, all_word_bytes bs parts.1) refl

of_word : (name : List ℕ) → is_name_word name ≡ true → (list_all is_name_byte name ≡ true) × (is_word_form name ≡ true)
of_word [] is = absurd cc
of_word (b ∷ bs) is =
    let parts = and_parts (is_small_letter b) (list_all is_name_byte bs) is in
    (rw (letter_byte b parts.0, parts.1) refl, rw (name_letter b parts.0, all_word_bytes bs parts.1) refl)

parts_of : (name : List ℕ) → IsName name → NameParts name
unfolding is_name
parts_of name is =
    let first = and_parts (is_name_word name && nat_le (length name) 32) (not (is_keyword name)) is in
    let second = and_parts (is_name_word name) (nat_le (length name) 32) first.0 in
    let word = of_word name second.0 in
    record { letters = word.0; short = second.1; free = not_true (is_keyword name) first.1; word = word.1 }

name_from : (name : List ℕ) → is_name_word name ≡ true → nat_le (length name) 32 ≡ true → is_keyword name ≡ false → IsName name
unfolding is_name
name_from name word short free = rw (word, short, free) refl

-- ---- the keyword table

same : (v w : List ℕ) → bytes_eq v w ≡ true → v ≡ w
same v w e = (bytes_eq-Decides v w).0 e

pub turned : (v w : List ℕ) (b : Bool) → bytes_eq w v ≡ false → bytes_eq v w ≡ b → bytes_eq v w ≡ false
turned v w true e is = let f : bytes_eq w v ≡ true = (bytes_eq-Decides w v).1 (sym (same v w is)) in absurd cc
turned v w false e is = is

neither : (a b : Bool) → (a || b) ≡ false → (a ≡ false) × (b ≡ false)
neither true b e = absurd cc
neither false b e = (refl, e)

place_none : (vs : List (List ℕ)) (w : List ℕ) → list_any (bytes_eq w) vs ≡ false → word_place vs w ≡ None
unfolding word_place
place_none [] w e = refl
place_none (v ∷ vs) w e =
    let parts = neither (bytes_eq w v) (list_any (bytes_eq w) vs) e in
    rw (turned v w (bytes_eq v w) parts.0 refl) (ap (option_map suc) (place_none vs w parts.1))

unplaced_by : (vs : List (List ℕ)) (w : List ℕ) (b : Bool) → cond b (Some 0) (option_map suc (word_place vs w)) ≡ None → (b ≡ false) × (word_place vs w ≡ None)
unplaced_by vs w true e = absurd cc
unplaced_by vs w false e = (refl, by_option (word_place vs w) e)
  where
    by_option : (o : Option ℕ) → option_map suc o ≡ None → o ≡ None
    by_option None e = refl
    by_option (Some n) e = absurd cc

unplaced : (vs : List (List ℕ)) (w : List ℕ) → word_place vs w ≡ None → list_any (bytes_eq w) vs ≡ false
unfolding word_place
unplaced [] w e = refl
unplaced (v ∷ vs) w e =
    let parts = unplaced_by vs w (bytes_eq v w) e in
    rw (turned w v (bytes_eq w v) parts.0 refl) (unplaced vs w parts.1)

-- ---- a name is a word whose shape is this name

name_lower : (b : ℕ) → is_name_byte b ≡ true → to_ascii_lowercase b ≡ b
name_lower b h = grind (arith, nat_tests)

lowered_same : (bs : List ℕ) → list_all is_name_byte bs ≡ true → lowercase_bytes bs ≡ bs
lowered_same [] all = refl
lowered_same (b ∷ bs) all =
    let parts = and_parts (is_name_byte b) (list_all is_name_byte bs) all in
    rw (name_lower b parts.0) (ap (λ (v : List ℕ). b ∷ v) (lowered_same bs parts.1))

name_ascii : (b : ℕ) → is_name_byte b ≡ true → b < 128
name_ascii b h = grind (arith, nat_tests)

all_ascii : (bs : List ℕ) → list_all is_name_byte bs ≡ true → IsAscii bs
all_ascii [] all i = omega arith
all_ascii (b ∷ bs) all zero = name_ascii b (and_parts (is_name_byte b) (list_all is_name_byte bs) all).0
all_ascii (b ∷ bs) all (suc i) = all_ascii bs (and_parts (is_name_byte b) (list_all is_name_byte bs) all).1 i

pub checked_name : (bs : List ℕ) → list_all is_name_byte bs ≡ true → utf8_text bs ≡ Some bs
unfolding utf8_text
checked_name bs all = rw (is_utf8-from_IsUtf8 bs (IsUtf8-from_ascii bs (all_ascii bs all))) refl

pub name_is_word : (name : List ℕ) → IsName name → is_word_form name ≡ true
name_is_word name is = (parts_of name is).word

pub word_is_name : (name : List ℕ) → IsName name → word_shape name ≡ shape.Name name
word_is_name name is =
    let parts = parts_of name is in
    ap (keyword_or (name_shape name)) (place_none keywords (map uppercase_byte name) parts.free)
    ∙ rw (parts.short) (ap (λ (v : List ℕ). named_shape (utf8_text v)) (lowered_same name parts.letters) ∙ ap named_shape (checked_name name parts.letters))

-- ---- a word whose shape is a name

raised_lower : (b : ℕ) → uppercase_byte (to_ascii_lowercase b) ≡ uppercase_byte b
raised_lower b = grind (arith, nat_tests)

raised_lowered : (bs : List ℕ) → map uppercase_byte (lowercase_bytes bs) ≡ map uppercase_byte bs
raised_lowered [] = refl
raised_lowered (b ∷ bs) = rw (raised_lower b) (ap (λ (v : List ℕ). uppercase_byte b ∷ v) (raised_lowered bs))

lower_letter : (b : ℕ) → is_letter b ≡ true → is_small_letter (to_ascii_lowercase b) ≡ true
lower_letter b h = grind (arith, nat_tests)

lower_word_byte : (b : ℕ) → is_word_byte b ≡ true → is_name_byte (to_ascii_lowercase b) ≡ true
lower_word_byte b h = grind (arith, nat_tests)

lower_bytes : (bs : List ℕ) → list_all is_word_byte bs ≡ true → list_all is_name_byte (lowercase_bytes bs) ≡ true
lower_bytes [] all = refl
lower_bytes (b ∷ bs) all =
    let parts = and_parts (is_word_byte b) (list_all is_word_byte bs) all in
    rw (lower_word_byte b parts.0, lower_bytes bs parts.1) refl

lowered_name : (w : List ℕ) → is_word_form w ≡ true → nat_le (length w) 32 ≡ true → word_place keywords (map uppercase_byte w) ≡ None → IsName (lowercase_bytes w)
lowered_name [] is short none = absurd cc
lowered_name (b ∷ bs) is short none =
    let parts = and_parts (is_letter b) (list_all is_word_byte bs) is in
    name_from (lowercase_bytes (b ∷ bs)) (rw (lower_letter b parts.0, lower_bytes bs parts.1) refl)
    (ap (λ (n : ℕ). nat_le n 32) (length-map (b ∷ bs) to_ascii_lowercase) ∙ short)
    (ap (λ (v : List ℕ). list_any (bytes_eq v) keywords) (raised_lowered (b ∷ bs)) ∙ unplaced keywords (map uppercase_byte (b ∷ bs)) none)

by_checked : (v name : List ℕ) (b : Bool) → IsName v → named_shape (cond b (Some v) None) ≡ shape.Name name → IsName name
by_checked v name true is e = let f : v ≡ name = cc in subst (λ (u : List ℕ). IsName u) f is
by_checked v name false is e = absurd cc

by_length : (w name : List ℕ) (b : Bool) → nat_le (length w) 32 ≡ b → is_word_form w ≡ true → word_place keywords (map uppercase_byte w) ≡ None → cond b (named_shape (utf8_text (lowercase_bytes w))) shape.Other ≡ shape.Name name → IsName name
unfolding utf8_text
by_length w name true short is none e = by_checked (lowercase_bytes w) name (is_utf8 (lowercase_bytes w)) (lowered_name w is short none) e
by_length w name false long is none e = absurd cc

by_place : (w name : List ℕ) (o : Option ℕ) → word_place keywords (map uppercase_byte w) ≡ o → is_word_form w ≡ true → keyword_or (name_shape w) o ≡ shape.Name name → IsName name
by_place w name None none is e = by_length w name (nat_le (length w) 32) refl is none e
by_place w name (Some k) found is e = absurd cc

pub name_of_word : (w name : List ℕ) → is_word_form w ≡ true → word_shape w ≡ shape.Name name → IsName name
name_of_word w name is e = by_place w name (word_place keywords (map uppercase_byte w)) refl is e

pub name_short : (name : List ℕ) → IsName name → length name ≤ 32
name_short name is = leb-true _ _ (parts_of name is).short
