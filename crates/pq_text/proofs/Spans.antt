-- The spans of tokens: in order, within the text, and with the form of their kind.
use Rattle.std.proofs.Common.{◌≡◌, ℕ, zero, suc, ◌+◌, ◌-◌, ◌≤◌, ◌<◌, Bool, true, false, cond, ◌⊎◌, inl, inr, List, [], ◌∷◌, ◌++◌, length, take, Option, Some, None, refl, sym, ap, subst, ◌∙◌, arith, min, append_assoc, length-append}
use Rattle.std.specs.Bool.{IsTrue}
use Rattle.std.specs.List.{slice_range}
use Rattle.std.proofs.lemmas.List.{drop_at}
use Rattle.std.proofs.lemmas.Bool.Decides.{nat_tests}
use Rattle.pq_text.specs.Forms.{Form, LeftOut, Of, form_of, form_at, is_word_form, is_number, is_text, is_whole_mark}
use Rattle.pq_text.specs.Tokens.{Front, or_shorter, longest, char_len, or_character, front_of, put_before, tokens_from, tokens_of, InOrder, has_form, HaveForms}
use Rattle.pq_text.specs.declared.token.Kind.{Kind}
use Rattle.pq_text.specs.declared.token.Kind.TheVariants as kind
use Rattle.pq_text.specs.declared.token.Token.{Token}

-- a front that is a form of the rest, of at most so many bytes
record Stands (most : ℕ) (rest : List ℕ) (front : Front) : Type 0 where
  some : 0 < front.len
  within : front.len ≤ most
  form : (form_at front.len rest ≡ Some front.form) ⊎ (front.form ≡ Of kind.Other)

stands_by : (n : ℕ) (rest : List ℕ) (front : Front) (o : Option Form) → form_at (suc n) rest ≡ o → (longest n rest ≡ Some front → Stands n rest front) → or_shorter (suc n) o (longest n rest) ≡ Some front → Stands (suc n) rest front
stands_by n rest front None is shorter e = let s = shorter e in record { some = s.some; within = omega (arith, s.within); form = s.form }
stands_by n rest front (Some f) is shorter e =
    let this : Front = record { len = suc n; form = f } in
    let same : this ≡ front = cc in
    subst (λ (x : Front). Stands (suc n) rest x) same (record { some = omega arith; within = omega arith; form = inl is })

stands : (n : ℕ) (rest : List ℕ) (front : Front) → longest n rest ≡ Some front → Stands n rest front
unfolding longest
stands zero rest front e = absurd cc
stands (suc n) rest front e = stands_by n rest front (form_at (suc n) rest) refl (stands n rest front) e

character_some : (b n : ℕ) → (0 < min (char_len b) (n + 1)) × (min (char_len b) (n + 1) ≤ n + 1)
character_some b n = grind (arith, nat_tests)

front_stands_by : (b : ℕ) (bs : List ℕ) (o : Option Front) → ((front : Front) → o ≡ Some front → Stands (length bs + 1) (b ∷ bs) front) → Stands (length bs + 1) (b ∷ bs) (or_character (min (char_len b) (length bs + 1)) o)
front_stands_by b bs None h = record { some = (character_some b (length bs)).0; within = (character_some b (length bs)).1; form = inr refl }
front_stands_by b bs (Some front) h = h front refl

front_stands : (b : ℕ) (bs : List ℕ) → Stands (length bs + 1) (b ∷ bs) (front_of b bs)
unfolding front_of
front_stands b bs = front_stands_by b bs (longest (length bs + 1) (b ∷ bs)) (stands (length bs + 1) (b ∷ bs))

put_order : (low at end : ℕ) (front : Front) (ts : List Token) → low ≤ at → 0 < front.len → at + front.len ≤ end → ((low : ℕ) → low ≤ at + front.len → InOrder low end ts) → InOrder low end (put_before at front ts)
put_order low at end front ts le some within rest = by_form low at end front.len front.form ts le some within rest
  where
    by_form : (low at end n : ℕ) (form : Form) (ts : List Token) → low ≤ at → 0 < n → at + n ≤ end → ((low : ℕ) → low ≤ at + n → InOrder low end ts) → InOrder low end (put_before at (record { len = n; form = form }) ts)
    by_form low at end n LeftOut ts le some within rest = rest low (omega arith)
    by_form low at end n (Of k) ts le some within rest = (le, omega arith, within, rest (at + n) (omega arith))

from_order : (skip at low : ℕ) (bs : List ℕ) (end : ℕ) → low ≤ at + skip → at + length bs ≡ end → InOrder low end (tokens_from skip at bs)
unfolding tokens_from
from_order skip at low [] end le is = tt
from_order (suc skip) at low (b ∷ bs) end le is = from_order skip (at + 1) low bs end (omega arith) (omega arith)
from_order zero at low (b ∷ bs) end le is =
    let s = front_stands b bs in
    put_order low at end (front_of b bs) _ (omega arith) s.some (omega (arith, s.within)) (λ low2 le2. from_order ((front_of b bs).len - 1) (at + 1) low2 bs end (omega (arith, s.some)) (omega arith))

-- the tokens of a text stand in order
pub tokens_in_order : (text : List ℕ) → InOrder 0 (length text) (tokens_of text)
tokens_in_order text = from_order 0 0 0 text (length text) (omega arith) (omega arith)

-- which kind the form of a token is, by its tests
pick : (gap word number text mark other : Bool) (w : List ℕ) (k : Kind) → is_word_form w ≡ word → is_number w ≡ number → is_text w ≡ text → is_whole_mark w ≡ mark
    → cond gap (Some LeftOut) (cond word (Some (Of kind.Word)) (cond number (Some (Of kind.Number)) (cond text (Some (Of kind.Text)) (cond mark (Some (Of kind.Mark)) (cond other (Some (Of kind.Other)) None))))) ≡ Some (Of k) → IsTrue (has_form k w)
pick true word number text mark other w k e f g h is = absurd cc
pick false true number text mark other w k e f g h is = let same : kind.Word ≡ k = cc in subst (λ (j : Kind). IsTrue (has_form j w)) same e
pick false false true text mark other w k e f g h is = let same : kind.Number ≡ k = cc in subst (λ (j : Kind). IsTrue (has_form j w)) same f
pick false false false true mark other w k e f g h is = let same : kind.Text ≡ k = cc in subst (λ (j : Kind). IsTrue (has_form j w)) same g
pick false false false false true other w k e f g h is = let same : kind.Mark ≡ k = cc in subst (λ (j : Kind). IsTrue (has_form j w)) same h
pick false false false false false true w k e f g h is = let same : kind.Other ≡ k = cc in subst (λ (j : Kind). IsTrue (has_form j w)) same refl
pick false false false false false false w k e f g h is = absurd cc

form_has : (last : Bool) (w : List ℕ) (k : Kind) → form_of last w ≡ Some (Of k) → IsTrue (has_form k w)
form_has last w k e = pick _ _ _ _ _ _ w k refl refl refl refl e

slice_behind : (pre rest : List ℕ) (at n : ℕ) → length pre ≡ at → slice_range (pre ++ rest) at (at + n) ≡ take n rest
slice_behind pre rest at n len =
    let count : (at + n) - at ≡ n = omega arith in
    ap (λ (v : List ℕ). take ((at + n) - at) v) (drop_at pre rest at len) ∙ ap (λ (m : ℕ). take m rest) count

put_forms : (pre rest : List ℕ) (at n : ℕ) (form : Form) (ts : List Token) → length pre ≡ at → ((form_at n rest ≡ Some form) ⊎ (form ≡ Of kind.Other)) → HaveForms (pre ++ rest) ts → HaveForms (pre ++ rest) (put_before at (record { len = n; form = form }) ts)
put_forms pre rest at n LeftOut ts len stands have = have
put_forms pre rest at n (Of k) ts len stands have = (subst (λ (w : List ℕ). IsTrue (has_form k w)) (sym (slice_behind pre rest at n len)) (by_form stands), have)
  where
    by_form : ((form_at n rest ≡ Some (Of k)) ⊎ (Of k ≡ Of kind.Other)) → IsTrue (has_form k (take n rest))
    by_form (inl e) = form_has _ (take n rest) k e
    by_form (inr e) = let same : kind.Other ≡ k = cc in subst (λ (j : Kind). IsTrue (has_form j (take n rest))) same refl

from_forms : (pre : List ℕ) (skip at : ℕ) (bs : List ℕ) → length pre ≡ at → HaveForms (pre ++ bs) (tokens_from skip at bs)
unfolding tokens_from
from_forms pre skip at [] len = tt
from_forms pre (suc skip) at (b ∷ bs) len = subst (λ (text : List ℕ). HaveForms text (tokens_from skip (at + 1) bs)) (append_assoc pre (b ∷ []) bs) (from_forms (pre ++ b ∷ []) skip (at + 1) bs (omega (arith, length-append pre (b ∷ []))))
from_forms pre zero at (b ∷ bs) len =
    let later : HaveForms (pre ++ b ∷ bs) (tokens_from ((front_of b bs).len - 1) (at + 1) bs) =
    subst (λ (text : List ℕ). HaveForms text (tokens_from ((front_of b bs).len - 1) (at + 1) bs)) (append_assoc pre (b ∷ []) bs) (from_forms (pre ++ b ∷ []) ((front_of b bs).len - 1) (at + 1) bs (omega (arith, length-append pre (b ∷ [])))) in
    put_forms pre (b ∷ bs) at (front_of b bs).len (front_of b bs).form _ len (front_stands b bs).form later

-- each token of a text is of its kind's form
pub tokens_have_forms : (text : List ℕ) → HaveForms text (tokens_of text)
tokens_have_forms text = from_forms [] 0 0 text refl
