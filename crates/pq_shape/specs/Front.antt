-- What the first token is tested for, and how it is read.
use Rattle.std.specs.Prelude.{ℕ, ℤ, ◌==◌, Bool, true, false, codes, bytes_eq, List, Option, Some, None, if◌then◌else◌}
use Rattle.pq_base.specs.declared.value.Value.{Value}
use Rattle.pq_base.specs.declared.value.Value.TheVariants as value
use Rattle.pq_grammar.specs.Reader.{Reader, token_at, test_at}
use Rattle.pq_shape.specs.declared.keyword.TheConstants.{AND, FALSE, JOIN, TRUE}
use Rattle.pq_shape.specs.declared.mark.TheConstants.{COMMA}
use Rattle.pq_shape.specs.declared.between.Between.{Between}
use Rattle.pq_shape.specs.declared.between.Between.TheVariants as between
use Rattle.pq_shape.specs.declared.soft.Soft.{Soft}
use Rattle.pq_shape.specs.declared.soft.Soft.TheVariants as soft_word
use Rattle.pq_shape.specs.Shape.{Shape}
use Rattle.pq_shape.specs.Shape as shape

-- the name that has the word's letters
abbrev pub soft_name : Soft → List ℕ
soft_name soft_word.Add = codes "add"
soft_name soft_word.Alter = codes "alter"
soft_name soft_word.Batch = codes "batch"
soft_name soft_word.Column = codes "column"
soft_name soft_word.Counter = codes "counter"
soft_name soft_word.Default = codes "default"
soft_name soft_word.If = codes "if"
soft_name soft_word.Is = codes "is"
soft_name soft_word.Null = codes "null"
soft_name soft_word.Of = codes "of"
soft_name soft_word.Read = codes "read"

unfoldable pub is_soft_shape : Soft → Shape → Bool
is_soft_shape s (shape.Name n) = bytes_eq n (soft_name s)
is_soft_shape s (shape.Keyword j) = false
is_soft_shape s (shape.Number z) = false
is_soft_shape s (shape.Text t) = false
is_soft_shape s (shape.Mark c) = false
is_soft_shape s shape.Other = false

unfoldable pub is_word_shape : ℕ → Shape → Bool
is_word_shape k (shape.Keyword j) = j == k
is_word_shape k (shape.Name n) = false
is_word_shape k (shape.Number z) = false
is_word_shape k (shape.Text t) = false
is_word_shape k (shape.Mark c) = false
is_word_shape k shape.Other = false

unfoldable pub is_mark_shape : ℕ → Shape → Bool
is_mark_shape k (shape.Mark c) = c == k
is_mark_shape k (shape.Keyword j) = false
is_mark_shape k (shape.Name n) = false
is_mark_shape k (shape.Number z) = false
is_mark_shape k (shape.Text t) = false
is_mark_shape k shape.Other = false

unfoldable pub is_name_shape : Shape → Bool
is_name_shape (shape.Name n) = true
is_name_shape (shape.Keyword j) = false
is_name_shape (shape.Number z) = false
is_name_shape (shape.Text t) = false
is_name_shape (shape.Mark c) = false
is_name_shape shape.Other = false

unfoldable pub name_of : Shape → Option (List ℕ)
name_of (shape.Name n) = Some n
name_of (shape.Keyword j) = None
name_of (shape.Number z) = None
name_of (shape.Text t) = None
name_of (shape.Mark c) = None
name_of shape.Other = None

unfoldable pub number_in : Shape → Option ℤ
number_in (shape.Number z) = Some z
number_in (shape.Keyword j) = None
number_in (shape.Name n) = None
number_in (shape.Text t) = None
number_in (shape.Mark c) = None
number_in shape.Other = None

unfoldable pub text_in : Shape → Option (List ℕ)
text_in (shape.Text t) = Some t
text_in (shape.Keyword j) = None
text_in (shape.Name n) = None
text_in (shape.Number z) = None
text_in (shape.Mark c) = None
text_in shape.Other = None

-- TRUE and FALSE
unfoldable pub truth_of : ℕ → Option Value
truth_of k = if k == TRUE then Some (value.Bool true) else if k == FALSE then Some (value.Bool false) else None

unfoldable pub constant_in : Shape → Option Value
constant_in (shape.Number z) = Some (value.Int z)
constant_in (shape.Text t) = Some (value.Text t)
constant_in (shape.Keyword k) = truth_of k
constant_in (shape.Name n) = None
constant_in (shape.Mark c) = None
constant_in shape.Other = None

unfoldable pub is_constant : Shape → Bool
is_constant (shape.Number z) = true
is_constant (shape.Text t) = true
is_constant (shape.Keyword k) = if k == TRUE then true else k == FALSE
is_constant (shape.Name n) = false
is_constant (shape.Mark c) = false
is_constant shape.Other = false

-- a constant, or NULL
abbrev pub value_in : Shape → Option Value
value_in s = if is_soft_shape soft_word.Null s then Some value.Null else constant_in s

abbrev pub is_value : Shape → Bool
is_value s = if is_soft_shape soft_word.Null s then true else is_constant s

abbrev pub is_between : Between → Shape → Bool
is_between between.Comma t = is_mark_shape COMMA t
is_between between.And t = is_word_shape AND t
is_between between.CommaOrJoin t = if is_mark_shape COMMA t then true else is_word_shape JOIN t

abbrev pub word_at : ℕ → Reader Shape (Unit {0})
word_at k = test_at (is_word_shape k)

abbrev pub mark_at : ℕ → Reader Shape (Unit {0})
mark_at k = test_at (is_mark_shape k)

abbrev pub between_at : Between → Reader Shape (Unit {0})
between_at b = test_at (is_between b)

abbrev pub name_at : Reader Shape (List ℕ)
name_at = token_at name_of

abbrev pub number_at : Reader Shape ℤ
number_at = token_at number_in

abbrev pub text_at : Reader Shape (List ℕ)
text_at = token_at text_in

abbrev pub constant_shape_at : Reader Shape Value
constant_shape_at = token_at constant_in

abbrev pub soft_at : Soft → Reader Shape (Unit {0})
soft_at s = test_at (is_soft_shape s)

abbrev pub value_shape_at : Reader Shape Value
value_shape_at = token_at value_in
