-- The words of canonical texts that are keywords: in capitals, but TRUE and FALSE in small letters.
use Rattle.std.proofs.Common.{◌≡◌, ℕ, Bool, true, ◌&&◌, List, [], map, Option, Some, None, refl, ap, arith}
use Rattle.std.specs.Prelude.{nat_lt, codes, slice_index_or}
use Rattle.std.specs.List.{list_all, range_with_len}
use Rattle.std.proofs.lemmas.Bool.{and_parts, eqb-true, ltb-true}
use Rattle.pq_base.specs.Words.{keywords, uppercase_byte}
use Rattle.pq_base.proofs.Members.{all_at, range_in}
use Rattle.pq_text.specs.Bytes.{is_word_byte}
use Rattle.pq_text.specs.Forms.{is_word_form, is_at}
use Rattle.pq_shape.specs.Parts.{word, soft}
use Rattle.pq_shape.specs.Shapes.{word_place, word_shape, keyword_or, name_shape, named_shape}
use Rattle.pq_shape.specs.declared.keyword.TheConstants.{FALSE, TRUE}
use Rattle.pq_shape.specs.declared.soft.Soft.TheVariants as soft_word
use Rattle.pq_shape.specs.Shape as shape
use Rattle.pq_query_read.proofs.Names.{checked_name}
use Rattle.pq_reread.specs.Printed.{joins_none}
use Rattle.pq_reread.proofs.Prints.{Prints, word_prints}

-- the keyword of this place
abbrev pub keyword_text : ℕ → List ℕ
keyword_text k = slice_index_or keywords k []

-- it is a word, and found at its place
abbrev is_placed : ℕ → Bool
is_placed k = is_word_form (keyword_text k) && is_at (word_place keywords (map uppercase_byte (keyword_text k))) k

all_placed : list_all is_placed (range_with_len 0 35) ≡ true
unfolding word_place
all_placed = refl

placed_at : (o : Option ℕ) (k : ℕ) → is_at o k ≡ true → o ≡ Some k
placed_at None k is = absurd cc
placed_at (Some m) k is = ap (λ (n : ℕ). Some n) (eqb-true m k is)

pub keyword_prints : (k : ℕ) → nat_lt k 35 ≡ true → Prints (word k) joins_none (keyword_text k) is_word_byte
keyword_prints k below =
    let w : List ℕ = keyword_text k in
    let parts = and_parts (is_word_form w) (is_at (word_place keywords (map uppercase_byte w)) k) (all_at is_placed (range_with_len 0 35) all_placed k (range_in k 0 35 (omega arith) (omega (arith, ltb-true k 35 below)))) in
    word_prints w (shape.Keyword k) parts.0 (ap (keyword_or (name_shape w)) (placed_at (word_place keywords (map uppercase_byte w)) k parts.1))

-- a soft word in capitals is the name that has its letters
null_word : word_shape (codes "NULL") ≡ shape.Name (codes "null")
unfolding word_place
null_word = ap named_shape (checked_name (codes "null") refl)

is_word : word_shape (codes "IS") ≡ shape.Name (codes "is")
unfolding word_place
is_word = ap named_shape (checked_name (codes "is") refl)

alter_word : word_shape (codes "ALTER") ≡ shape.Name (codes "alter")
unfolding word_place
alter_word = ap named_shape (checked_name (codes "alter") refl)

add_word : word_shape (codes "ADD") ≡ shape.Name (codes "add")
unfolding word_place
add_word = ap named_shape (checked_name (codes "add") refl)

column_word : word_shape (codes "COLUMN") ≡ shape.Name (codes "column")
unfolding word_place
column_word = ap named_shape (checked_name (codes "column") refl)

default_word : word_shape (codes "DEFAULT") ≡ shape.Name (codes "default")
unfolding word_place
default_word = ap named_shape (checked_name (codes "default") refl)

counter_word : word_shape (codes "COUNTER") ≡ shape.Name (codes "counter")
unfolding word_place
counter_word = ap named_shape (checked_name (codes "counter") refl)

of_word : word_shape (codes "OF") ≡ shape.Name (codes "of")
unfolding word_place
of_word = ap named_shape (checked_name (codes "of") refl)

pub alter_prints : Prints (soft soft_word.Alter) joins_none (codes "ALTER") is_word_byte
alter_prints = word_prints (codes "ALTER") (shape.Name (codes "alter")) refl alter_word

pub add_prints : Prints (soft soft_word.Add) joins_none (codes "ADD") is_word_byte
add_prints = word_prints (codes "ADD") (shape.Name (codes "add")) refl add_word

pub column_prints : Prints (soft soft_word.Column) joins_none (codes "COLUMN") is_word_byte
column_prints = word_prints (codes "COLUMN") (shape.Name (codes "column")) refl column_word

pub default_prints : Prints (soft soft_word.Default) joins_none (codes "DEFAULT") is_word_byte
default_prints = word_prints (codes "DEFAULT") (shape.Name (codes "default")) refl default_word

pub counter_prints : Prints (soft soft_word.Counter) joins_none (codes "COUNTER") is_word_byte
counter_prints = word_prints (codes "COUNTER") (shape.Name (codes "counter")) refl counter_word

pub of_prints : Prints (soft soft_word.Of) joins_none (codes "OF") is_word_byte
of_prints = word_prints (codes "OF") (shape.Name (codes "of")) refl of_word

pub null_prints : Prints (soft soft_word.Null) joins_none (codes "NULL") is_word_byte
null_prints = word_prints (codes "NULL") (shape.Name (codes "null")) refl null_word

pub is_prints : Prints (soft soft_word.Is) joins_none (codes "IS") is_word_byte
is_prints = word_prints (codes "IS") (shape.Name (codes "is")) refl is_word

true_word : word_shape (codes "true") ≡ shape.Keyword TRUE
unfolding word_place
true_word = refl

false_word : word_shape (codes "false") ≡ shape.Keyword FALSE
unfolding word_place
false_word = refl

pub true_prints : Prints (word TRUE) joins_none (codes "true") is_word_byte
true_prints = word_prints (codes "true") (shape.Keyword TRUE) refl true_word

pub false_prints : Prints (word FALSE) joins_none (codes "false") is_word_byte
false_prints = word_prints (codes "false") (shape.Keyword FALSE) refl false_word
