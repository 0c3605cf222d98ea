-- What keys of rows and of entries are made of.
use Rattle.std.specs.Prelude.{ℕ, ◌==◌, if◌then◌else◌, List, [], ◌∷◌, map}
use Rattle.pq_base.specs.declared.value.ColType.{ColType}
use Rattle.pq_base.specs.Values.{IsOfDataKind, kind_of_type}
use Rattle.pq_base.specs.declared.value.Dir.{Dir}
use Rattle.pq_base.specs.declared.value.Value.{Value}
use Rattle.pq_schema.specs.declared.table.KeyPart.{KeyPart}
use Rattle.pq_schema.specs.declared.table.Table.{Table}
use Rattle.pq_schema.specs.Rows.{no_value}
use Rattle.pq_schema.specs.Tables.{types_at}

-- a value of the type's kind, a text of any length; NULL is of each kind
abbrev pub IsOfKind : ColType → Value → Type 0
IsOfKind t x = IsOfDataKind (kind_of_type t) x

-- as many values as types, and each is of the type's kind
abbrev pub AllOfKinds : List ColType → List Value → Type 0
AllOfKinds [] [] = Unit {0}
AllOfKinds (t ∷ ts) (x ∷ xs) = IsOfKind t x × AllOfKinds ts xs
AllOfKinds _ _ = ⊥

-- the types of the columns of the primary key
abbrev pub key_types : Table → List ColType
key_types table = types_at table.columns table.key

-- the directions of a sequence
abbrev pub dirs_of : List KeyPart → List Dir
dirs_of parts = map (λ part. part.dir) parts

-- the value that a column is given, where these columns are given these values
abbrev pub given_value : List ℕ → List Value → ℕ → Value
given_value (c ∷ cs) (x ∷ xs) col = if c == col then x else given_value cs xs col
given_value _ _ col = no_value
