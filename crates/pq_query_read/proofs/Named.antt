-- The names in a text's tokens are names.
use Rattle.std.proofs.Common.{◌≡◌, ℕ, ℤ, List, [], ◌∷◌, Option, Some, None, refl, subst}
use Rattle.std.specs.Prelude.{IsTrue}
use Rattle.std.specs.List.{AllByRecursion}
use Rattle.pq_text.specs.Tokens.{slice_of, has_form, HaveForms}
use Rattle.pq_text.specs.declared.token.Kind.{Kind}
use Rattle.pq_text.specs.declared.token.Kind.TheVariants as kind
use Rattle.pq_text.specs.declared.token.Token.{Token}
use Rattle.pq_schema.specs.Names.{IsName}
use Rattle.pq_shape.specs.Numbers.{digits_number}
use Rattle.pq_shape.specs.Parts.{name as a_name}
use Rattle.pq_shape.specs.Shapes.{shape_of, shapes_of, kind_shape, utf8_text, between_quotes, text_shape, number_or_other}
use Rattle.pq_shape.specs.Shape.{Shape}
use Rattle.pq_shape.specs.Shape as shape
use Rattle.pq_query_read.proofs.Names.{name_of_word}
use Rattle.pq_query_read.proofs.Within.{GivesWithin}

-- where this is a name's shape, the name is one
abbrev pub IsNamed : Shape → Type 0
IsNamed s = (n : List ℕ) → s ≡ shape.Name n → IsName n

abbrev pub AreNamed : List Shape → Type 0
AreNamed shapes = AllByRecursion IsNamed shapes

number_no_name : (o : Option ℤ) (n : List ℕ) → number_or_other o ≡ shape.Name n → IsName n
number_no_name None n e = absurd cc
number_no_name (Some z) n e = absurd cc

text_no_name : (o : Option (List ℕ)) (n : List ℕ) → text_shape o ≡ shape.Name n → IsName n
text_no_name None n e = absurd cc
text_no_name (Some t) n e = absurd cc

named_kind : (k : Kind) (w : List ℕ) → IsTrue (has_form k w) → IsNamed (kind_shape k w)
named_kind kind.Word w form n e = name_of_word w n form e
named_kind kind.Number w form n e = number_no_name (digits_number w) n e
named_kind kind.Text w form n e = text_no_name (utf8_text (between_quotes w)) n e
named_kind kind.Mark w form n e = absurd cc
named_kind kind.Other w form n e = absurd cc

pub named_tokens : (text : List ℕ) (ts : List Token) → HaveForms text ts → AreNamed (shapes_of text ts)
unfolding shape_of
named_tokens text [] have = tt
named_tokens text (t ∷ ts) have = (named_kind t.kind (slice_of text t) have.0, named_tokens text ts have.1)

pub name_gives : GivesWithin IsNamed a_name IsName
name_gives n w h named = (subst AreNamed h named).0 n refl
