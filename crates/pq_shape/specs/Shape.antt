-- What a token stands for.
use Rattle.std.specs.Prelude.{ℕ, ℤ, List}

-- a word of the keyword table, by its place there; a name in small letters; a number of 64 bits with its sign;
-- a text without its quotes, each doubled quote once; a mark, by its code: its byte, or of two bytes 256 times
-- the first and the second; what no statement has
pub data Shape : Type 0 where
  Keyword : ℕ → Shape
  Name : List ℕ → Shape
  Number : ℤ → Shape
  Text : List ℕ → Shape
  Mark : ℕ → Shape
  Other : Shape
