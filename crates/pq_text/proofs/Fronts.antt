-- What stands first: the longest form, found from the first bytes.
use Rattle.std.proofs.Common.{◌≡◌, ◌≢◌, ℕ, zero, suc, ◌+◌, ◌≤◌, ◌<◌, ◌⊎◌, inl, inr, Bool, true, false, cond, eqb, List, [], ◌∷◌, length, take, Option, Some, None, refl, sym, ap, subst, ◌∙◌, arith, not, length-take, min}
use Rattle.std.specs.List.{list_all, take_while}
use Rattle.std.proofs.lemmas.Bool.{eqb-true, eq-eqb}
use Rattle.std.proofs.lemmas.List.{length-take-le, take_all}
use Rattle.std.specs.Char.{is_ascii_digit}
use Rattle.pq_text.specs.Bytes.{next_is, is_white, is_letter, is_word_byte, is_mark, is_double_mark}
use Rattle.pq_text.specs.Forms.{Form, LeftOut, Of, form_of, form_at, text_end}
use Rattle.pq_text.specs.Tokens.{Front, or_shorter, longest, char_len, or_character, front_of}
use Rattle.pq_text.specs.Scanning.{text_or_open, first_token, left_out}
use Rattle.pq_text.specs.declared.token.Kind.{Kind}
use Rattle.pq_text.specs.declared.token.Kind.TheVariants as kind
use Rattle.pq_text.proofs.TextEnds.{text_end_within, text_end_take}
use Rattle.pq_text.proofs.Runs.{while_true, all_front, all_past, while_within}
use Rattle.pq_text.proofs.FormsByByte.{form_letter, form_digit, form_negative, form_comment, form_dash, form_white, form_white_more, form_quote, form_mark, form_two_marks, form_mark_more, form_other}
use Rattle.pq_text.proofs.Apart.{letter_not_white, letter_not_dash, digit_not_white, digit_not_letter, digit_not_dash, mark_not_white, mark_not_letter, mark_not_digit, mark_not_dash, mark_not_quote}

by_last : (n k : ℕ) (rest : List ℕ) (f : Form) → form_at k rest ≡ Some f → ((j : ℕ) → k < j → j ≤ suc n → form_at j rest ≡ None) → (k ≤ n → longest n rest ≡ Some (record { len = k; form = f })) → (v : Bool) → eqb k (suc n) ≡ v → k ≤ suc n → longest (suc n) rest ≡ Some (record { len = k; form = f })
unfolding longest
by_last n k rest f e past shorter true is le =
    let same : k ≡ suc n = eqb-true k (suc n) is in
    ap (λ (o : Option Form). or_shorter (suc n) o (longest n rest)) (subst (λ (m : ℕ). form_at m rest ≡ Some f) same e) ∙ ap (λ (m : ℕ). let front : Front = record { len = m; form = f } in Some front) (sym same)
by_last n k rest f e past shorter false isnt le =
    let other : k ≢ suc n = λ same. (let t = eq-eqb k (suc n) same in cc) in
    ap (λ (o : Option Form). or_shorter (suc n) o (longest n rest)) (past (suc n) (omega arith) (omega arith)) ∙ shorter (omega arith)

-- the longest where it has a form and no longer one has
longest_is : (n k : ℕ) (rest : List ℕ) (f : Form) → 0 < k → k ≤ n → form_at k rest ≡ Some f → ((j : ℕ) → k < j → j ≤ n → form_at j rest ≡ None) → longest n rest ≡ Some (record { len = k; form = f })
unfolding longest
longest_is zero k rest f some le e past = absurd (omega arith)
longest_is (suc n) k rest f some le e past = by_last n k rest f e past (λ below. longest_is n k rest f some below e (λ j lt le2. past j lt (omega arith))) (eqb k (suc n)) refl le

longest_none : (n : ℕ) (rest : List ℕ) → ((j : ℕ) → 0 < j → j ≤ n → form_at j rest ≡ None) → longest n rest ≡ None
unfolding longest
longest_none zero rest past = refl
longest_none (suc n) rest past = ap (λ (o : Option Form). or_shorter (suc n) o (longest n rest)) (past (suc n) (omega arith) (omega arith)) ∙ longest_none n rest (λ j lt le. past j lt (omega arith))

-- whether i bytes behind the first are all
abbrev is_last : ℕ → List ℕ → Bool
is_last i bs = eqb (suc i) (suc (length bs))

front_is : (b : ℕ) (bs : List ℕ) (m : ℕ) (f : Form) → m ≤ length bs → form_of (is_last m bs) (b ∷ take m bs) ≡ Some f → ((i : ℕ) → m < i → i ≤ length bs → form_of (is_last i bs) (b ∷ take i bs) ≡ None) → front_of b bs ≡ record { len = m + 1; form = f }
unfolding front_of
front_is b bs m f le e past =
    let len : suc m ≡ m + 1 = omega arith in
    let found : longest (length bs + 1) (b ∷ bs) ≡ Some (record { len = suc m; form = f }) = longest_is (length bs + 1) (suc m) (b ∷ bs) f (omega arith) (omega arith) e at_more in
    ap (or_character (min (char_len b) (length bs + 1))) found ∙ ap (λ (k : ℕ). let front : Front = record { len = k; form = f } in front) len
  where
    at_more : (j : ℕ) → suc m < j → j ≤ length bs + 1 → form_at j (b ∷ bs) ≡ None
    at_more zero lt le = absurd (omega arith)
    at_more (suc i) lt le = past i (omega arith) (omega arith)

-- a byte, and then as many as pass
front_run : (p : ℕ → Bool) (b : ℕ) (bs : List ℕ) (f : Form) → ((last : Bool) (w : List ℕ) → form_of last (b ∷ w) ≡ cond (list_all p w) (Some f) None) → front_of b bs ≡ record { len = length (take_while p bs) + 1; form = f }
front_run p b bs f forms =
    front_is b bs (length (take_while p bs)) f (while_within p bs) (forms _ _ ∙ ap (λ (v : Bool). cond v (Some f) None) (all_front p bs))
    (λ i lt le. forms _ _ ∙ ap (λ (v : Bool). cond v (Some f) None) (all_past p bs i lt le))

-- two bytes, of which the second passes, and then as many as pass
front_run_two : (p : ℕ → Bool) (b c : ℕ) (bs : List ℕ) (f : Form) → p c ≡ true → ((last : Bool) (w : List ℕ) → form_of last (b ∷ c ∷ w) ≡ cond (list_all p w) (Some f) None) → front_of b (c ∷ bs) ≡ record { len = length (take_while p (c ∷ bs)) + 1; form = f }
front_run_two p b c bs f passes forms =
    let len : length (c ∷ take_while p bs) ≡ length (take_while p (c ∷ bs)) = sym (ap length (while_true p c bs passes)) in
    front_is b (c ∷ bs) (suc (length (take_while p bs))) f (omega (arith, while_within p bs)) (forms _ _ ∙ ap (λ (v : Bool). cond v (Some f) None) (all_front p bs)) at_more ∙ ap (λ (k : ℕ). let front : Front = record { len = k + 1; form = f } in front) len
  where
    at_more : (i : ℕ) → suc (length (take_while p bs)) < i → i ≤ length (c ∷ bs) → form_of (is_last i (c ∷ bs)) (b ∷ take i (c ∷ bs)) ≡ None
    at_more zero lt le = absurd (omega arith)
    at_more (suc i) lt le = forms _ _ ∙ ap (λ (v : Bool). cond v (Some f) None) (all_past p bs i (omega arith) (omega arith))

front_white : (b : ℕ) (bs : List ℕ) → is_white b ≡ true → front_of b bs ≡ record { len = 1; form = LeftOut }
front_white b bs h = front_is b bs 0 LeftOut (omega arith) (form_white _ b h) (at_more bs)
  where
    at_more : (bs : List ℕ) (i : ℕ) → 0 < i → i ≤ length bs → form_of (is_last i bs) (b ∷ take i bs) ≡ None
    at_more bs zero lt le = absurd (omega arith)
    at_more [] (suc i) lt le = absurd (omega arith)
    at_more (c ∷ bs) (suc i) lt le = form_white_more _ b c (take i bs) h

front_mark_alone : (b : ℕ) (bs : List ℕ) → is_mark b ≡ true → next_is (is_double_mark b) bs ≡ false → front_of b bs ≡ record { len = 1; form = Of kind.Mark }
front_mark_alone b bs h alone = front_is b bs 0 (Of kind.Mark) (omega arith) (form_mark _ b h) (at_more bs alone)
  where
    at_more : (bs : List ℕ) → next_is (is_double_mark b) bs ≡ false → (i : ℕ) → 0 < i → i ≤ length bs → form_of (is_last i bs) (b ∷ take i bs) ≡ None
    at_more bs e zero lt le = absurd (omega arith)
    at_more [] e (suc i) lt le = absurd (omega arith)
    at_more (c ∷ bs) e (suc zero) lt le = form_two_marks _ b c h ∙ ap (λ (v : Bool). cond v (Some (Of kind.Mark)) None) e
    at_more (c ∷ []) e (suc (suc i)) lt le = absurd (omega arith)
    at_more (c ∷ d ∷ bs) e (suc (suc i)) lt le = form_mark_more _ b c d (take i bs) h

front_mark_double : (b : ℕ) (bs : List ℕ) → is_mark b ≡ true → next_is (is_double_mark b) bs ≡ true → front_of b bs ≡ record { len = 2; form = Of kind.Mark }
front_mark_double b [] h double = absurd cc
front_mark_double b (c ∷ bs) h double = front_is b (c ∷ bs) 1 (Of kind.Mark) (omega arith) (form_two_marks _ b c h ∙ ap (λ (v : Bool). cond v (Some (Of kind.Mark)) None) double) (at_more bs)
  where
    at_more : (bs : List ℕ) (i : ℕ) → 1 < i → i ≤ length (c ∷ bs) → form_of (is_last i (c ∷ bs)) (b ∷ take i (c ∷ bs)) ≡ None
    at_more bs zero lt le = absurd (omega arith)
    at_more bs (suc zero) lt le = absurd (omega arith)
    at_more [] (suc (suc i)) lt le = absurd (omega arith)
    at_more (d ∷ bs) (suc (suc i)) lt le = form_mark_more _ b c d (take i bs) h

closed_form : (last : Bool) (w : List ℕ) (n : ℕ) → text_end w ≡ Some n → length w ≡ n → form_of last (39 ∷ w) ≡ Some (Of kind.Text)
closed_form last w n e len =
    let here : eqb n (length w) ≡ true = eq-eqb n (length w) (sym len) in
    form_quote last w ∙ rw (e, here) refl

passed_form : (last : Bool) (w : List ℕ) (n : ℕ) → text_end w ≡ Some n → n < length w → form_of last (39 ∷ w) ≡ None
passed_form last w n e lt =
    let there : eqb n (length w) ≡ false = ne_false n (length w) (omega arith) in
    form_quote last w ∙ rw (e, there) refl
  where
    ne_false : (a b : ℕ) → a ≢ b → eqb a b ≡ false
    ne_false a b ne = grind arith

open_form : (last : Bool) (w : List ℕ) → text_end w ≡ None → last ≡ true → form_of last (39 ∷ w) ≡ Some (Of kind.Other)
open_form last w e all = form_quote last w ∙ rw (e, all) refl

front_text : (bs : List ℕ) (n : ℕ) → text_end bs ≡ Some n → front_of 39 bs ≡ record { len = n + 1; form = Of kind.Text }
front_text bs n e =
    let inside = text_end_within bs n e in
    front_is 39 bs n (Of kind.Text) inside.1 (closed_form _ (take n bs) n (text_end_take bs n n e (omega arith)) (length-take-le n bs inside.1))
    (λ i lt le. passed_form _ (take i bs) n (text_end_take bs n i e (omega arith)) (omega (arith, length-take i bs)))

front_open_text : (bs : List ℕ) → text_end bs ≡ None → front_of 39 bs ≡ record { len = length bs + 1; form = Of kind.Other }
front_open_text bs e =
    let all : take (length bs) bs ≡ bs = take_all (length bs) bs (omega arith) in
    front_is 39 bs (length bs) (Of kind.Other) (omega arith) (open_form _ (take (length bs) bs) (ap text_end all ∙ e) (eq-eqb (suc (length bs)) (suc (length bs)) refl)) (λ i lt le. absurd (omega arith))

front_character : (b : ℕ) (bs : List ℕ) → ((i : ℕ) → i ≤ length bs → form_of (is_last i bs) (b ∷ take i bs) ≡ None) → front_of b bs ≡ record { len = min (char_len b) (length bs + 1); form = Of kind.Other }
unfolding front_of
front_character b bs none = ap (or_character (min (char_len b) (length bs + 1))) (longest_none (length bs + 1) (b ∷ bs) at_more)
  where
    at_more : (j : ℕ) → 0 < j → j ≤ length bs + 1 → form_at j (b ∷ bs) ≡ None
    at_more zero lt le = absurd (omega arith)
    at_more (suc i) lt le = none i (omega arith)

next_take : (p : ℕ → Bool) (bs : List ℕ) (i : ℕ) → next_is p bs ≡ false → next_is p (take i bs) ≡ false
next_take p bs zero e = refl
next_take p [] (suc i) e = refl
next_take p (b ∷ bs) (suc i) e = e

-- what the first bytes tell
abbrev Told : ℕ → List ℕ → Type 0
Told b bs = ((n : ℕ) × (left_out b bs ≡ n) × (0 < n) × (front_of b bs ≡ record { len = n; form = LeftOut }))
    ⊎ ((left_out b bs ≡ 0) × (front_of b bs ≡ record { len = (first_token b bs).1; form = Of (first_token b bs).0 }))

told_token : (b : ℕ) (bs : List ℕ) (k : Kind) (n : ℕ) → left_out b bs ≡ 0 → first_token b bs ≡ (k, n) → front_of b bs ≡ record { len = n; form = Of k } → Told b bs
told_token b bs k n out first is = inr (out, is ∙ ap (λ (t : Kind × ℕ). let front : Front = record { len = t.1; form = Of t.0 } in front) (sym first))

told_comment : (bs : List ℕ) → next_is (λ c. eqb c 45) bs ≡ true → Told 45 bs
unfolding left_out
told_comment [] h = absurd cc
told_comment (c ∷ bs) h =
    let same : 45 ≡ c = sym (eqb-true c 45 h) in
    subst (λ (d : ℕ). Told 45 (d ∷ bs)) same
    (inl (length (take_while (λ d. not (eqb d 10)) (45 ∷ bs)) + 1, refl, omega arith, front_run_two (λ d. not (eqb d 10)) 45 45 bs LeftOut refl form_comment))

told_negative : (bs : List ℕ) → next_is (λ c. eqb c 45) bs ≡ false → next_is is_ascii_digit bs ≡ true → Told 45 bs
unfolding left_out first_token
told_negative [] out h = absurd cc
told_negative (c ∷ bs) out h = told_token 45 (c ∷ bs) kind.Number (length (take_while is_ascii_digit (c ∷ bs)) + 1) (rw out refl) (rw h refl) (front_run_two is_ascii_digit 45 c bs (Of kind.Number) h (λ last w. form_negative last c w h))

told_dash : (bs : List ℕ) → next_is (λ c. eqb c 45) bs ≡ false → next_is is_ascii_digit bs ≡ false → Told 45 bs
unfolding left_out first_token
told_dash bs out h = told_token 45 bs kind.Other (min (char_len 45) (length bs + 1)) (rw out refl) (rw h refl) (front_character 45 bs (λ i le. form_dash (is_last i bs) (take i bs) (next_take (λ c. eqb c 45) bs i out) (next_take is_ascii_digit bs i h)))

told_by_second : (bs : List ℕ) (v w : Bool) → next_is (λ c. eqb c 45) bs ≡ v → next_is is_ascii_digit bs ≡ w → Told 45 bs
told_by_second bs true w e f = told_comment bs e
told_by_second bs false true e f = told_negative bs e f
told_by_second bs false false e f = told_dash bs e f

told_letter : (b : ℕ) (bs : List ℕ) → is_letter b ≡ true → Told b bs
unfolding left_out first_token
told_letter b bs h = told_token b bs kind.Word (length (take_while is_word_byte bs) + 1) (simp (letter_not_white b h, letter_not_dash b h)) (simp h) (front_run is_word_byte b bs (Of kind.Word) (λ last w. form_letter last b w h))

told_digit : (b : ℕ) (bs : List ℕ) → is_ascii_digit b ≡ true → Told b bs
unfolding left_out first_token
told_digit b bs h = told_token b bs kind.Number (length (take_while is_ascii_digit bs) + 1) (simp (digit_not_white b h, digit_not_dash b h)) (simp (digit_not_letter b h, h)) (front_run is_ascii_digit b bs (Of kind.Number) (λ last w. form_digit last b w h))

told_mark : (b : ℕ) (bs : List ℕ) (double : Bool) → is_mark b ≡ true → next_is (is_double_mark b) bs ≡ double → Told b bs
unfolding left_out first_token
told_mark b bs true h e = told_token b bs kind.Mark 2 (simp (mark_not_white b h, mark_not_dash b h)) (simp (mark_not_letter b h, mark_not_digit b h, mark_not_dash b h, mark_not_quote b h, h, e)) (front_mark_double b bs h e)
told_mark b bs false h e = told_token b bs kind.Mark 1 (simp (mark_not_white b h, mark_not_dash b h)) (simp (mark_not_letter b h, mark_not_digit b h, mark_not_dash b h, mark_not_quote b h, h, e)) (front_mark_alone b bs h e)

told_quote : (bs : List ℕ) (o : Option ℕ) → text_end bs ≡ o → Told 39 bs
unfolding left_out first_token
told_quote bs None e = told_token 39 bs kind.Other (length bs + 1) refl (ap (λ (o : Option ℕ). text_or_open o (length bs + 1)) e) (front_open_text bs e)
told_quote bs (Some n) e = told_token 39 bs kind.Text (n + 1) refl (ap (λ (o : Option ℕ). text_or_open o (length bs + 1)) e) (front_text bs n e)

told_other : (b : ℕ) (bs : List ℕ) → is_white b ≡ false → is_letter b ≡ false → is_ascii_digit b ≡ false → is_mark b ≡ false → eqb b 45 ≡ false → eqb b 39 ≡ false → Told b bs
unfolding left_out first_token
told_other b bs white letter digit mark dash quote =
    told_token b bs kind.Other (min (char_len b) (length bs + 1)) (simp (white, dash)) (simp (letter, digit, dash, quote, mark)) (front_character b bs (λ i le. form_other _ b (take i bs) white letter digit mark dash quote))

told_by : (b : ℕ) (bs : List ℕ) (white dash letter digit quote mark : Bool) → is_white b ≡ white → eqb b 45 ≡ dash → is_letter b ≡ letter → is_ascii_digit b ≡ digit → eqb b 39 ≡ quote → is_mark b ≡ mark → Told b bs
unfolding left_out
told_by b bs true dash letter digit quote mark w d l g q m = inl (1, simp w, omega arith, front_white b bs w)
told_by b bs false true letter digit quote mark w d l g q m = subst (λ (c : ℕ). Told c bs) (sym (eqb-true b 45 d)) (told_by_second bs (next_is (λ c. eqb c 45) bs) (next_is is_ascii_digit bs) refl refl)
told_by b bs false false true digit quote mark w d l g q m = told_letter b bs l
told_by b bs false false false true quote mark w d l g q m = told_digit b bs g
told_by b bs false false false false true mark w d l g q m = subst (λ (c : ℕ). Told c bs) (sym (eqb-true b 39 q)) (told_quote bs (text_end bs) refl)
told_by b bs false false false false false true w d l g q m = told_mark b bs (next_is (is_double_mark b) bs) m refl
told_by b bs false false false false false false w d l g q m = told_other b bs w l g m d q

told : (b : ℕ) (bs : List ℕ) → Told b bs
told b bs = told_by b bs (is_white b) (eqb b 45) (is_letter b) (is_ascii_digit b) (eqb b 39) (is_mark b) refl refl refl refl refl refl

pub left_front : (b : ℕ) (bs : List ℕ) (n : ℕ) → left_out b bs ≡ n → 0 < n → front_of b bs ≡ record { len = n; form = LeftOut }
left_front b bs n e some = elim (told b bs) [ inl t ↦ t.3 ∙ ap (λ (k : ℕ). let front : Front = record { len = k; form = LeftOut } in front) (sym t.1 ∙ e) | inr t ↦ absurd (omega (arith, t.0)) ]

pub token_front : (b : ℕ) (bs : List ℕ) (n : ℕ) (kind : Kind) → left_out b bs ≡ 0 → first_token b bs ≡ (kind, n) → front_of b bs ≡ record { len = n; form = Of kind }
token_front b bs n kind out e = elim (told b bs) [ inl t ↦ absurd (omega (arith, t.1, t.2)) | inr t ↦ t.1 ∙ ap (λ (u : Kind × ℕ). let front : Front = record { len = u.1; form = Of u.0 } in front) e ]
