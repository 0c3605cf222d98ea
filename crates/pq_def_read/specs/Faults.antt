-- Where no statement was read.
use Rattle.std.specs.Prelude.{◌≡◌, ℕ, List}
use Rattle.pq_base.specs.declared.refusal.Refusal.TheVariants.{Syntax}
use Rattle.pq_base.specs.declared.refusal.Stopped.{Stopped}
use Rattle.pq_base.specs.declared.refusal.Stopped.TheVariants.{Refused, NoMem}
use Rattle.pq_grammar.specs.Language.{IsFaultPlace}
use Rattle.pq_text.specs.declared.token.Token.{Token}
use Rattle.pq_shape.specs.Shapes.{shapes_of}
use Rattle.pq_shape.specs.Faults.{offset_at}
use Rattle.pq_def_read.specs.Grammar.{Spells}

-- memory ran out, or this is the offset of the first token such that no statement begins with the tokens up
-- to and with it
abbrev pub IsFault : List ℕ → List Token → Stopped → Type 0
IsFault text ts NoMem = Unit {0}
IsFault text ts (Refused r) = (place : ℕ) × IsFaultPlace Spells (shapes_of text ts) place
    × (r ≡ Syntax (offset_at text ts place))
