-- The shapes of a text, from its bytes without their places.
use Rattle.std.proofs.Common.{◌≡◌, ℕ, zero, suc, ◌+◌, ◌-◌, ◌*◌, Bool, true, false, cond, eqb, List, [], ◌∷◌, ◌++◌, length, take, Option, Some, None, refl, sym, ap, subst, ◌∙◌, arith, append_assoc, length-append, ◌&&◌}
use Rattle.std.specs.Prelude.{flat_map}
use Rattle.std.specs.List.{slice_range, list_all, take_while}
use Rattle.std.specs.Option.{option_map}
use Rattle.std.specs.Str.{is_utf8}
use Rattle.std.proofs.lemmas.Bool.{eqb-true}
use Rattle.std.proofs.lemmas.List.{drop_at}
use Rattle.std.specs.Char.{is_ascii_digit}
use Rattle.pq_text.specs.Bytes.{next_is, is_white, is_letter, is_word_byte, is_mark, is_double_mark}
use Rattle.pq_text.specs.Forms.{Form, LeftOut, Of}
use Rattle.pq_text.specs.Forms.{text_end}
use Rattle.pq_text.specs.Scanning.{text_or_open, left_out, first_token}
use Rattle.pq_text.specs.Tokens.{Front, front_of, put_before, tokens_from, tokens_of}
use Rattle.pq_text.specs.declared.token.Kind.{Kind}
use Rattle.pq_text.specs.declared.token.Kind.TheVariants as kind
use Rattle.pq_text.specs.declared.token.Token.{Token}
use Rattle.pq_text.proofs.Apart.{letter_not_white, letter_not_dash, digit_not_white, digit_not_letter, digit_not_dash, mark_not_white, mark_not_letter, mark_not_digit, mark_not_dash, mark_not_quote}
use Rattle.pq_text.proofs.Fronts.{left_front, token_front}
use Rattle.pq_text.proofs.Runs.{while_true, while_false}
use Rattle.pq_text.proofs.TextEnds.{text_other_at, text_double_at, text_ends_at, text_last_at}
use Rattle.pq_shape.specs.Shapes.{shape_of, shapes_of, kind_shape, word_shape, number_or_other, utf8_text, undoubled_quotes, between_quotes}
use Rattle.pq_shape.specs.Shapes.{text_shape as quoted_shape}
use Rattle.pq_shape.specs.Numbers.{digits_number}
use Rattle.pq_shape.specs.Shape.{Shape}
use Rattle.pq_shape.specs.Shape as shape
use Rattle.pq_print.specs.Values.{doubled_quotes, quoted_text}
use Rattle.pq_reread.specs.Printed.{is_quote}

-- what stands first, before the shapes behind it
abbrev pub shaped : Front → List ℕ → List Shape → List Shape
shaped front bytes more = elim front.form [ LeftOut ↦ more | Of k ↦ kind_shape k (take front.len bytes) ∷ more ]

-- the shapes of these bytes, behind so many that are gone over
unfoldable pub cut : ℕ → List ℕ → List Shape
cut skip [] = []
cut (suc skip) (b ∷ bs) = cut skip bs
cut zero (b ∷ bs) = shaped (front_of b bs) (b ∷ bs) (cut ((front_of b bs).len - 1) bs)

slice_behind : (pre rest : List ℕ) (at n : ℕ) → length pre ≡ at → slice_range (pre ++ rest) at (at + n) ≡ take n rest
slice_behind pre rest at n len =
    let count : (at + n) - at ≡ n = omega arith in
    ap (λ (v : List ℕ). take ((at + n) - at) v) (drop_at pre rest at len) ∙ ap (λ (m : ℕ). take m rest) count

put_shapes : (pre rest : List ℕ) (at n : ℕ) (form : Form) (ts : List Token) (more : List Shape) → length pre ≡ at → shapes_of (pre ++ rest) ts ≡ more
    → shapes_of (pre ++ rest) (put_before at (record { len = n; form = form }) ts) ≡ shaped (record { len = n; form = form }) rest more
unfolding shape_of
put_shapes pre rest at n LeftOut ts more len same = same
put_shapes pre rest at n (Of k) ts more len same =
    ap (λ (w : List ℕ). kind_shape k w ∷ shapes_of (pre ++ rest) ts) (slice_behind pre rest at n len) ∙ ap (λ (s : List Shape). kind_shape k (take n rest) ∷ s) same

shapes_cut : (pre : List ℕ) (skip at : ℕ) (bs : List ℕ) → length pre ≡ at → shapes_of (pre ++ bs) (tokens_from skip at bs) ≡ cut skip bs
unfolding tokens_from cut
shapes_cut pre skip at [] len = refl
shapes_cut pre (suc skip) at (b ∷ bs) len =
    ap (λ (text : List ℕ). shapes_of text (tokens_from skip (at + 1) bs)) (sym (append_assoc pre (b ∷ []) bs)) ∙ shapes_cut (pre ++ b ∷ []) skip (at + 1) bs (omega (arith, length-append pre (b ∷ [])))
shapes_cut pre zero at (b ∷ bs) len =
    let n = (front_of b bs).len - 1 in
    put_shapes pre (b ∷ bs) at (front_of b bs).len (front_of b bs).form (tokens_from n (at + 1) bs) (cut n bs) len
    (ap (λ (text : List ℕ). shapes_of text (tokens_from n (at + 1) bs)) (sym (append_assoc pre (b ∷ []) bs)) ∙ shapes_cut (pre ++ b ∷ []) n (at + 1) bs (omega (arith, length-append pre (b ∷ []))))

-- the shapes of a text's tokens
pub shapes_are : (text : List ℕ) → shapes_of text (tokens_of text) ≡ cut 0 text
shapes_are text = shapes_cut [] 0 0 text refl

-- ---- one token at a time

pub cut_skip : (w rest : List ℕ) → cut (length w) (w ++ rest) ≡ cut 0 rest
unfolding cut
cut_skip [] rest = refl
cut_skip (b ∷ bs) rest = cut_skip bs rest

cut_front : (b : ℕ) (bs : List ℕ) (front : Front) → front_of b bs ≡ front → cut 0 (b ∷ bs) ≡ shaped front (b ∷ bs) (cut (front.len - 1) bs)
unfolding cut
cut_front b bs front e = ap (λ (f : Front). shaped f (b ∷ bs) (cut (f.len - 1) bs)) e

pub take_exact : (w rest : List ℕ) → take (length w) (w ++ rest) ≡ w
take_exact [] rest = refl
take_exact (b ∷ bs) rest = ap (λ (v : List ℕ). b ∷ v) (take_exact bs rest)

-- a token of a byte and so many more
cut_run : (k : Kind) (b : ℕ) (bs rest : List ℕ) → front_of b (bs ++ rest) ≡ record { len = length bs + 1; form = Of k } → cut 0 (b ∷ (bs ++ rest)) ≡ kind_shape k (b ∷ bs) ∷ cut 0 rest
cut_run k b bs rest e =
    let more : length bs + 1 ≡ length (b ∷ bs) = omega arith in
    let less : (length bs + 1) - 1 ≡ length bs = omega arith in
    cut_front b (bs ++ rest) _ e
    ∙ ap (λ (n : ℕ). kind_shape k (take n (b ∷ (bs ++ rest))) ∷ cut ((length bs + 1) - 1) (bs ++ rest)) more
    ∙ ap (λ (w : List ℕ). kind_shape k w ∷ cut ((length bs + 1) - 1) (bs ++ rest)) (take_exact (b ∷ bs) rest)
    ∙ ap (λ (n : ℕ). kind_shape k (b ∷ bs) ∷ cut n (bs ++ rest)) less
    ∙ ap (λ (s : List Shape). kind_shape k (b ∷ bs) ∷ s) (cut_skip bs rest)

pub both : (a b : Bool) → (a && b) ≡ true → (a ≡ true) × (b ≡ true)
both true b e = (refl, e)
both false b e = absurd cc

while_rest : (p : ℕ → Bool) (rest : List ℕ) → next_is p rest ≡ false → take_while p rest ≡ []
while_rest p [] e = refl
while_rest p (b ∷ rest) e = while_false p b rest e

while_exact : (p : ℕ → Bool) (bs rest : List ℕ) → list_all p bs ≡ true → next_is p rest ≡ false → take_while p (bs ++ rest) ≡ bs
while_exact p [] rest all e = while_rest p rest e
while_exact p (b ∷ bs) rest all e =
    let parts = both (p b) (list_all p bs) all in
    while_true p b (bs ++ rest) parts.0 ∙ ap (λ (v : List ℕ). b ∷ v) (while_exact p bs rest parts.1 e)

pub cut_word : (b : ℕ) (bs rest : List ℕ) → is_letter b ≡ true → list_all is_word_byte bs ≡ true → next_is is_word_byte rest ≡ false → cut 0 (b ∷ (bs ++ rest)) ≡ word_shape (b ∷ bs) ∷ cut 0 rest
unfolding left_out first_token
cut_word b bs rest letter all e =
    cut_run kind.Word b bs rest (token_front b (bs ++ rest) (length bs + 1) kind.Word (simp (letter_not_white b letter, letter_not_dash b letter))
    (simp letter (ap (λ (v : List ℕ). let t : Kind × ℕ = (kind.Word, length v + 1) in t) (while_exact is_word_byte bs rest all e))))

pub cut_number : (b : ℕ) (bs rest : List ℕ) → is_ascii_digit b ≡ true → list_all is_ascii_digit bs ≡ true → next_is is_ascii_digit rest ≡ false → cut 0 (b ∷ (bs ++ rest)) ≡ number_or_other (digits_number (b ∷ bs)) ∷ cut 0 rest
unfolding left_out first_token
cut_number b bs rest digit all e =
    cut_run kind.Number b bs rest (token_front b (bs ++ rest) (length bs + 1) kind.Number (simp (digit_not_white b digit, digit_not_dash b digit))
    (simp (digit_not_letter b digit, digit) (ap (λ (v : List ℕ). let t : Kind × ℕ = (kind.Number, length v + 1) in t) (while_exact is_ascii_digit bs rest all e))))

pub cut_mark : (b : ℕ) (rest : List ℕ) → is_mark b ≡ true → next_is (is_double_mark b) rest ≡ false → cut 0 (b ∷ rest) ≡ shape.Mark b ∷ cut 0 rest
unfolding left_out first_token
cut_mark b rest mark alone =
    cut_run kind.Mark b [] rest (token_front b rest 1 kind.Mark (simp (mark_not_white b mark, mark_not_dash b mark))
    (simp (mark_not_letter b mark, mark_not_digit b mark, mark_not_dash b mark, mark_not_quote b mark, mark, alone)))

pub cut_white : (b : ℕ) (rest : List ℕ) → is_white b ≡ true → cut 0 (b ∷ rest) ≡ cut 0 rest
unfolding left_out
cut_white b rest white = cut_front b rest _ (left_front b rest 1 (simp white) (omega arith))

pub cut_two_marks : (b c : ℕ) (rest : List ℕ) → is_mark b ≡ true → is_double_mark b c ≡ true → cut 0 (b ∷ c ∷ rest) ≡ shape.Mark (b * 256 + c) ∷ cut 0 rest
unfolding left_out first_token
cut_two_marks b c rest mark double =
    cut_run kind.Mark b (c ∷ []) rest (token_front b (c ∷ rest) 2 kind.Mark (simp (mark_not_white b mark, mark_not_dash b mark))
    (simp (mark_not_letter b mark, mark_not_digit b mark, mark_not_dash b mark, mark_not_quote b mark, mark, double)))

-- a dash before a digit begins a number
negative_out : (bs : List ℕ) → next_is (λ c. eqb c 45) bs ≡ false → left_out 45 bs ≡ 0
unfolding left_out
negative_out bs out = rw out refl

negative_token : (bs : List ℕ) → next_is is_ascii_digit bs ≡ true → first_token 45 bs ≡ (kind.Number, length (take_while is_ascii_digit bs) + 1)
unfolding first_token
negative_token bs digit = rw digit refl

pub cut_negative : (d : ℕ) (ds rest : List ℕ) → is_ascii_digit d ≡ true → list_all is_ascii_digit (d ∷ ds) ≡ true → next_is is_ascii_digit rest ≡ false → cut 0 (45 ∷ (d ∷ (ds ++ rest))) ≡ number_or_other (digits_number (45 ∷ d ∷ ds)) ∷ cut 0 rest
cut_negative d ds rest digit all e =
    cut_run kind.Number 45 (d ∷ ds) rest (token_front 45 (d ∷ (ds ++ rest)) (length (d ∷ ds) + 1) kind.Number (negative_out (d ∷ (ds ++ rest)) (digit_not_dash d digit))
    (negative_token (d ∷ (ds ++ rest)) digit ∙ ap (λ (v : List ℕ). let t : Kind × ℕ = (kind.Number, length v + 1) in t) (while_exact is_ascii_digit (d ∷ ds) rest all e)))

-- ---- texts

-- a text ends behind its doubled bytes
ends_step : (b : ℕ) (more rest : List ℕ) (q : Bool) → eqb b 39 ≡ q → text_end (more ++ rest) ≡ Some (length more) → text_end ((cond q (39 ∷ 39 ∷ []) (b ∷ []) ++ more) ++ rest) ≡ Some (length (cond q (39 ∷ 39 ∷ []) (b ∷ []) ++ more))
ends_step b more rest true is later = text_double_at 39 39 (more ++ rest) refl refl ∙ ap (option_map (λ n. n + 2)) later ∙ ap (λ (n : ℕ). Some n) (omega arith)
ends_step b more rest false is later = text_other_at b (more ++ rest) is ∙ ap (option_map (λ n. n + 1)) later ∙ ap (λ (n : ℕ). Some n) (omega arith)

ends_behind : (t rest : List ℕ) → next_is is_quote rest ≡ false → text_end ((flat_map doubled_quotes t ++ 39 ∷ []) ++ rest) ≡ Some (length (flat_map doubled_quotes t ++ 39 ∷ []))
ends_behind [] [] e = text_last_at 39 refl
ends_behind [] (c ∷ rest) e = text_ends_at 39 c rest refl e
ends_behind (b ∷ t) rest e =
    subst (λ (w : List ℕ). text_end (w ++ rest) ≡ Some (length w)) (sym (append_assoc (doubled_quotes b) (flat_map doubled_quotes t) (39 ∷ [])))
    (ends_step b (flat_map doubled_quotes t ++ 39 ∷ []) rest (eqb b 39) refl (ends_behind t rest e))

undoubled_step : (b : ℕ) (t : List ℕ) (q : Bool) → eqb b 39 ≡ q → undoubled_quotes false (flat_map doubled_quotes t) ≡ t → undoubled_quotes false (cond q (39 ∷ 39 ∷ []) (b ∷ []) ++ flat_map doubled_quotes t) ≡ b ∷ t
unfolding undoubled_quotes
undoubled_step b t true is later = ap (λ (v : List ℕ). 39 ∷ v) later ∙ ap (λ (c : ℕ). c ∷ t) (sym (eqb-true b 39 is))
undoubled_step b t false is later = rw is (ap (λ (v : List ℕ). b ∷ v) later)

undoubled_back : (t : List ℕ) → undoubled_quotes false (flat_map doubled_quotes t) ≡ t
unfolding undoubled_quotes
undoubled_back [] = refl
undoubled_back (b ∷ t) = undoubled_step b t (eqb b 39) refl (undoubled_back t)

between : (t : List ℕ) → between_quotes (quoted_text t) ≡ t
between t =
    let ds : List ℕ = flat_map doubled_quotes t in
    let count : (length (quoted_text t) - 1) - 1 ≡ length ds = omega (arith, length-append ds (39 ∷ [])) in
    ap (λ (n : ℕ). undoubled_quotes false (take n (ds ++ 39 ∷ []))) count ∙ ap (undoubled_quotes false) (take_exact ds (39 ∷ [])) ∙ undoubled_back t

pub cut_text : (t rest : List ℕ) → is_utf8 t ≡ true → next_is is_quote rest ≡ false → cut 0 (quoted_text t ++ rest) ≡ shape.Text t ∷ cut 0 rest
unfolding first_token left_out utf8_text
cut_text t rest text e =
    let ds : List ℕ = flat_map doubled_quotes t ++ 39 ∷ [] in
    cut_run kind.Text 39 ds rest (token_front 39 (ds ++ rest) (length ds + 1) kind.Text refl (ap (λ (o : Option ℕ). text_or_open o (length (ds ++ rest) + 1)) (ends_behind t rest e)))
    ∙ ap (λ (v : List ℕ). quoted_shape (utf8_text v) ∷ cut 0 rest) (between t)
    ∙ ap (λ (b : Bool). quoted_shape (cond b (Some t) None) ∷ cut 0 rest) text
