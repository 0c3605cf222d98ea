-- How the parts of one token are spelled.
use Rattle.std.specs.Prelude.{ℕ, ℤ, true, false, List}
use Rattle.pq_base.specs.declared.value.Value.{Value}
use Rattle.pq_base.specs.declared.value.Value.TheVariants as value
use Rattle.pq_grammar.specs.Language.{one}
use Rattle.pq_shape.specs.declared.keyword.TheConstants.{FALSE, TRUE}
use Rattle.pq_shape.specs.declared.mark.TheConstants.{COMMA}
use Rattle.pq_shape.specs.Front.{soft_name}
use Rattle.pq_shape.specs.declared.soft.Soft.{Soft}
use Rattle.pq_shape.specs.declared.soft.Soft.TheVariants as soft_word
use Rattle.pq_shape.specs.Shape.{Shape}
use Rattle.pq_shape.specs.Shape as shape

-- a keyword, by its place in the table
abbrev pub word : ℕ → List Shape → Type 0
word k = one (shape.Keyword k)

-- a mark, by its code
abbrev pub mark : ℕ → List Shape → Type 0
mark c = one (shape.Mark c)

abbrev pub comma : List Shape → Type 0
comma = mark COMMA

abbrev pub name : List ℕ → List Shape → Type 0
name n = one (shape.Name n)

abbrev pub number : ℤ → List Shape → Type 0
number z = one (shape.Number z)

abbrev pub text : List ℕ → List Shape → Type 0
text t = one (shape.Text t)

-- a soft word
abbrev pub soft : Soft → List Shape → Type 0
soft s = one (shape.Name (soft_name s))

-- number | text | TRUE | FALSE
abbrev pub a_constant : Value → List Shape → Type 0
a_constant value.Null = λ w. ⊥
a_constant (value.Int z) = number z
a_constant (value.Text t) = text t
a_constant (value.Bool true) = word TRUE
a_constant (value.Bool false) = word FALSE

-- a constant, or NULL
abbrev pub a_value : Value → List Shape → Type 0
a_value value.Null = soft soft_word.Null
a_value (value.Int z) = a_constant (value.Int z)
a_value (value.Text t) = a_constant (value.Text t)
a_value (value.Bool b) = a_constant (value.Bool b)
