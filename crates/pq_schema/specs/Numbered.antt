-- Numbers by names.
use Rattle.std.specs.Prelude.{◌≡◌, ℕ, Bool, List, Some, if◌then◌else◌}
use Rattle.std.specs.String.{string_bytes}
use Rattle.std.specs.Str.{bytes_eq}
use Rattle.std.specs.Map.{lookup}
use Rattle.std.specs.declared.string.String.{String}
use Rattle.pq_schema.specs.Schema.{Schema, find_table, find_query}

module _ {A : Type 0} where
  -- a name has these bytes
  abbrev pub text_is : List ℕ → String A → Bool
  text_is name key = bytes_eq name (string_bytes key)

  -- each name has the same number, if any
  abbrev pub HasSameNumbers : {N : Type 0} → List (String A × N) → List (String A × N) → Type 0
  HasSameNumbers old new = (name : List ℕ) → lookup (text_is name) new ≡ lookup (text_is name) old

  -- the key has the number, and each other name has what it had
  abbrev pub PutsNumber : {N : Type 0} → List ℕ → N → List (String A × N) → List (String A × N) → Type 0
  PutsNumber key number old new =
      (name : List ℕ) → lookup (text_is name) new ≡ (if bytes_eq key name then Some number else lookup (text_is name) old)

  -- under each name stands the number of the schema's table of this name, and that of its query
  pub record AreNumbered (schema : Schema) (tables queries : List (String A × ℕ)) : Type 0 where
    pub table : (name : List ℕ) → find_table schema name ≡ lookup (text_is name) tables
    pub query : (name : List ℕ) → find_query schema name ≡ lookup (text_is name) queries
