-- Steps of going over a text.
use Rattle.std.proofs.Common.{◌≡◌, ◌≢◌, ℕ, zero, suc, ◌+◌, ◌-◌, ◌≤◌, ◌<◌, true, false, eqb, List, [], ◌∷◌, length, get_or, drop, Option, Some, None, refl, sym, ap, ◌∙◌, arith, add-one, drop-cons, eq-eqb, drop-drop, length-drop}
use Rattle.std.proofs.lemmas.List.{nil_from_length, get_or-drop}
use Rattle.std.specs.Option.{option_map}
use Rattle.pq_text.specs.declared.token.Kind.{Kind}
use Rattle.pq_text.specs.declared.token.Token.{Token}
use Rattle.pq_text.specs.Forms.{text_end}
use Rattle.pq_text.specs.Tokens.{Front, put_before, tokens_from}
use Rattle.pq_text.proofs.Fronts.{left_front, token_front}
use Rattle.pq_text.specs.Scanning.{left_out, first_token}

pub at_drop : (bs : List ℕ) (i : ℕ) → i < length bs → drop i bs ≡ get_or bs i 0 ∷ drop (i + 1) bs
at_drop bs i lt = rw (add-one, drop-cons bs i 0) refl

ne_false : (a b : ℕ) → a ≢ b → eqb a b ≡ false
ne_false a b ne = grind arith

pub moved : (p k : ℕ) (o : Option ℕ) → option_map (λ n. p + n) (option_map (λ n. n + k) o) ≡ option_map (λ n. (p + k) + n) o
moved p k None = refl
moved p k (Some n) = let e : p + (n + k) ≡ (p + k) + n = omega arith in ap (λ (m : ℕ). Some m) e

text_other_at : (b : ℕ) (bs : List ℕ) → eqb b 39 ≡ false → text_end (b ∷ bs) ≡ option_map (λ n. n + 1) (text_end bs)
unfolding text_end
text_other_at b [] e = rw e refl
text_other_at b (c ∷ bs) e = rw e refl

text_double_at : (b c : ℕ) (bs : List ℕ) → eqb b 39 ≡ true → eqb c 39 ≡ true → text_end (b ∷ c ∷ bs) ≡ option_map (λ n. n + 2) (text_end bs)
unfolding text_end
text_double_at b c bs e f = rw (e, f) refl

text_closes_at : (b : ℕ) (bs : List ℕ) → eqb b 39 ≡ true → (0 < length bs → get_or bs 0 0 ≢ 39) → text_end (b ∷ bs) ≡ Some 1
unfolding text_end
text_closes_at b [] e h = rw e refl
text_closes_at b (c ∷ bs) e h = rw (e, ne_false c 39 (h (omega arith))) refl

pub text_other : (bs : List ℕ) (i : ℕ) → i < length bs → get_or bs i 0 ≢ 39 → text_end (drop i bs) ≡ option_map (λ n. n + 1) (text_end (drop (i + 1) bs))
text_other bs i lt ne = ap text_end (at_drop bs i lt) ∙ text_other_at (get_or bs i 0) (drop (i + 1) bs) (ne_false _ _ ne)

pub text_double : (bs : List ℕ) (i : ℕ) → i + 1 < length bs → get_or bs i 0 ≡ 39 → get_or bs (i + 1) 0 ≡ 39 → text_end (drop i bs) ≡ option_map (λ n. n + 2) (text_end (drop (i + 2) bs))
text_double bs i lt e f =
    let one = at_drop bs i (omega arith) in
    let two : drop (i + 1) bs ≡ get_or bs (i + 1) 0 ∷ drop (i + 2) bs = at_drop bs (i + 1) lt ∙ ap (λ (k : ℕ). get_or bs (i + 1) 0 ∷ drop k bs) (omega arith) in
    ap text_end (one ∙ ap (λ (v : List ℕ). get_or bs i 0 ∷ v) two) ∙ text_double_at (get_or bs i 0) (get_or bs (i + 1) 0) (drop (i + 2) bs) (eq-eqb _ _ e) (eq-eqb _ _ f)

pub skip_is : (k at : ℕ) (bs : List ℕ) → tokens_from k at bs ≡ tokens_from 0 (at + k) (drop k bs)
unfolding tokens_from
skip_is zero at bs = ap (λ (n : ℕ). tokens_from 0 n bs) (omega arith)
skip_is (suc k) at [] = refl
skip_is (suc k) at (b ∷ bs) = skip_is k (at + 1) bs ∙ ap (λ (n : ℕ). tokens_from 0 n (drop k bs)) (omega arith)

left_at : (at b : ℕ) (bs : List ℕ) (n : ℕ) → left_out b bs ≡ n → 0 < n → tokens_from 0 at (b ∷ bs) ≡ tokens_from (n - 1) (at + 1) bs
unfolding tokens_from
left_at at b bs n e some = ap (λ (f : Front). put_before at f (tokens_from (f.len - 1) (at + 1) bs)) (left_front b bs n e some)

token_at : (at b : ℕ) (bs : List ℕ) (n : ℕ) (kind : Kind) → left_out b bs ≡ 0 → first_token b bs ≡ (kind, n) → tokens_from 0 at (b ∷ bs) ≡ record { kind = kind; from = at; to = at + n } ∷ tokens_from (n - 1) (at + 1) bs
unfolding tokens_from
token_at at b bs n kind e f = ap (λ (f : Front). put_before at f (tokens_from (f.len - 1) (at + 1) bs)) (token_front b bs n kind e f)

-- behind n bytes, of which one is gone over
behind : (text : List ℕ) (at n : ℕ) → 0 < n → tokens_from (n - 1) (at + 1) (drop (at + 1) text) ≡ tokens_from 0 (at + n) (drop (at + n) text)
behind text at n some =
    let one : (at + 1) + (n - 1) ≡ at + n = omega arith in
    skip_is (n - 1) (at + 1) (drop (at + 1) text) ∙ ap (λ (v : List ℕ). tokens_from 0 ((at + 1) + (n - 1)) v) (drop-drop (n - 1) (at + 1) text) ∙ ap (λ (m : ℕ). tokens_from 0 m (drop m text)) one

pub left_step : (text : List ℕ) (at n : ℕ) → at < length text → 0 < n → n ≡ left_out (get_or text at 0) (drop (at + 1) text) → tokens_from 0 at (drop at text) ≡ tokens_from 0 (at + n) (drop (at + n) text)
left_step text at n lt some e = ap (tokens_from 0 at) (at_drop text at lt) ∙ left_at at (get_or text at 0) (drop (at + 1) text) n (sym e) some ∙ behind text at n some

pub token_step : (text : List ℕ) (at n : ℕ) (kind : Kind) → at < length text → 0 < n → left_out (get_or text at 0) (drop (at + 1) text) ≡ 0 → (kind, n) ≡ first_token (get_or text at 0) (drop (at + 1) text)
    → tokens_from 0 at (drop at text) ≡ record { kind = kind; from = at; to = at + n } ∷ tokens_from 0 (at + n) (drop (at + n) text)
token_step text at n kind lt some out e =
    ap (tokens_from 0 at) (at_drop text at lt) ∙ token_at at (get_or text at 0) (drop (at + 1) text) n kind out (sym e) ∙ ap (λ (ts : List Token). record { kind = kind; from = at; to = at + n } ∷ ts) (behind text at n some)

pub at_end : (text : List ℕ) (at : ℕ) → length text ≤ at → tokens_from 0 at (drop at text) ≡ []
unfolding tokens_from
at_end text at le = rw (drop_past text at le) refl
  where
    drop_past : (text : List ℕ) (at : ℕ) → length text ≤ at → drop at text ≡ []
    drop_past text at le = nil_from_length (drop at text) (omega (arith, length-drop at text))

pub text_closes : (bs : List ℕ) (i : ℕ) → i < length bs → get_or bs i 0 ≡ 39 → (i + 1 < length bs → get_or bs (i + 1) 0 ≢ 39) → text_end (drop i bs) ≡ Some 1
text_closes bs i lt e h =
    ap text_end (at_drop bs i lt) ∙ text_closes_at (get_or bs i 0) (drop (i + 1) bs) (eq-eqb _ _ e)
    (λ some same. h (omega (arith, length-drop (i + 1) bs)) (sym (get_or-drop (i + 1) bs 0 0 ∙ ap (λ (k : ℕ). get_or bs k 0) (zero_more (i + 1))) ∙ same))
  where
    zero_more : (k : ℕ) → k + 0 ≡ k
    zero_more k = omega arith

pub text_open : (bs : List ℕ) (i : ℕ) → length bs ≤ i → text_end (drop i bs) ≡ None
unfolding text_end
text_open bs i le = rw (nil_from_length (drop i bs) (omega (arith, length-drop i bs))) refl
