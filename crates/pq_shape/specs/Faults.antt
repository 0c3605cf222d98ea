-- Where reading stopped, as the refusal of a text.
use Rattle.std.specs.Prelude.{◌≡◌, ℕ, ◌+◌, ◌-◌, ◌^◌, List, length, drop, slice_get, min, Option, Some, None, Result, Err}
use Rattle.pq_base.specs.declared.refusal.Refusal.TheVariants.{Syntax}
use Rattle.pq_base.specs.declared.refusal.Stopped.{Stopped}
use Rattle.pq_base.specs.declared.refusal.Stopped.TheVariants.{Refused, NoMem}
use Rattle.pq_grammar.specs.Language.{IsFaultPlace}
use Rattle.pq_text.specs.declared.token.Token.{Token}
use Rattle.pq_shape.specs.Shapes.{shapes_of}
use Rattle.pq_shape.specs.Shape.{Shape}

-- where a token stands, or the length where there is none
abbrev pub from_or : ℕ → Option Token → ℕ
from_or len None = len
from_or len (Some t) = t.from

-- where the token at this place stands, or the length of the text where there is none, as far as 32 bits reach
abbrev pub offset_at : List ℕ → List Token → ℕ → ℕ
offset_at text ts place = from_or (min (length text) (2 ^ 32 - 1)) (slice_get ts place)

-- the refusal of a text in which so many tokens are left
abbrev pub syntax_at : List ℕ → List Token → ℕ → Stopped
syntax_at text ts left = Refused (Syntax (offset_at text ts (length ts - left)))

-- memory ran out, or reading gave an error and this is its refusal
abbrev pub IsRefusalOf : {X : Type 0} → List ℕ → List Token → Result X ℕ → Stopped → Type 0
IsRefusalOf text ts read NoMem = Unit {0}
IsRefusalOf text ts read (Refused r) = (left : ℕ) × (read ≡ Err left) × (Refused r ≡ syntax_at text ts left)

abbrev pub IsNoMem : Stopped → Type 0
IsNoMem NoMem = Unit {0}
IsNoMem (Refused r) = ⊥

-- memory ran out, or this is the offset of the first token such that nothing of the set begins with the
-- tokens from a place on up to and with it
abbrev pub IsFaultFrom : {X : Type 0} → (X → List Shape → Type 0) → List ℕ → List Token → ℕ → Stopped → Type 0
IsFaultFrom S text ts from NoMem = Unit {0}
IsFaultFrom S text ts from (Refused r) = (place : ℕ) × IsFaultPlace S (drop from (shapes_of text ts)) place
    × (r ≡ Syntax (offset_at text ts (from + place)))
