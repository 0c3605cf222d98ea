-- The tokens of a text: the longest first, white bytes and comments left out.
use Rattle.std.specs.Prelude.{ℕ, zero, suc, ◌+◌, ◌-◌, ◌<◌, ◌≤◌, Bool, true, IsTrue, nat_lt, List, [], ◌∷◌, length, drop, slice_range, Option, Some, None, if◌then◌else◌, min}
use Rattle.pq_text.specs.Forms.{Form, LeftOut, Of, form_at, is_word_form, is_number, is_text, is_whole_mark}
use Rattle.pq_text.specs.declared.token.Kind.{Kind}
use Rattle.pq_text.specs.declared.token.Kind.TheVariants as kind
use Rattle.pq_text.specs.declared.token.Token.{Token}

-- a text has at most so many bytes
abbrev pub text_limit : ℕ
text_limit = 1048576

-- so many bytes from the front, and their form
pub record Front : Type 0 where
  pub len : ℕ
  pub form : Form

abbrev pub or_shorter : ℕ → Option Form → Option Front → Option Front
or_shorter n None shorter = shorter
or_shorter n (Some f) shorter = Some (record { len = n; form = f })

-- the longest beginning of at most n bytes that has a form
unfoldable pub longest : ℕ → List ℕ → Option Front
longest zero rest = None
longest (suc n) rest = or_shorter (suc n) (form_at (suc n) rest) (longest n rest)

-- how many bytes the character has that begins so
abbrev pub char_len : ℕ → ℕ
char_len b = if nat_lt b 192 then 1 else if nat_lt b 224 then 2 else if nat_lt b 240 then 3 else 4

abbrev pub or_character : ℕ → Option Front → Front
or_character n None = record { len = n; form = Of kind.Other }
or_character n (Some front) = front

-- what stands first in b ∷ bs: the longest form, or a single character where no form begins
unfoldable pub front_of : ℕ → List ℕ → Front
front_of b bs = or_character (min (char_len b) (length bs + 1)) (longest (length bs + 1) (b ∷ bs))

-- so many bytes at an offset stand before these tokens
abbrev pub put_before : ℕ → Front → List Token → List Token
put_before at front ts = elim front.form [
  | LeftOut ↦ ts
  | Of k ↦ record { kind = k; from = at; to = at + front.len } ∷ ts
]

-- the tokens of these bytes, of which the first stands at an offset, behind so many that are gone over
unfoldable pub tokens_from : ℕ → ℕ → List ℕ → List Token
tokens_from skip at [] = []
tokens_from (suc skip) at (b ∷ bs) = tokens_from skip (at + 1) bs
tokens_from zero at (b ∷ bs) = put_before at (front_of b bs) (tokens_from ((front_of b bs).len - 1) (at + 1) bs)

-- the tokens of a text
abbrev pub tokens_of : List ℕ → List Token
tokens_of text = tokens_from 0 0 text

-- the first token, if there is one, and those behind it
abbrev pub with_behind : List ℕ → Option Token → List Token
with_behind text None = []
with_behind text (Some t) = t ∷ tokens_from 0 t.to (drop t.to text)

-- the spans stand between two places, one behind the other, and none is empty
abbrev pub InOrder : ℕ → ℕ → List Token → Type 0
InOrder at end [] = Unit {0}
InOrder at end (t ∷ ts) = (at ≤ t.from) × (t.from < t.to) × (t.to ≤ end) × InOrder t.to end ts

-- the bytes of a token
abbrev pub slice_of : List ℕ → Token → List ℕ
slice_of text t = slice_range text t.from t.to

-- bytes are a word, a number, a text or a mark
abbrev pub has_form : Kind → List ℕ → Bool
has_form kind.Word w = is_word_form w
has_form kind.Number w = is_number w
has_form kind.Text w = is_text w
has_form kind.Mark w = is_whole_mark w
has_form kind.Other w = true

-- each token's slice has the form of its kind
abbrev pub HaveForms : List ℕ → List Token → Type 0
HaveForms text [] = Unit {0}
HaveForms text (t ∷ ts) = IsTrue (has_form t.kind (slice_of text t)) × HaveForms text ts
