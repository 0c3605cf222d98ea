-- The code of the values at the columns of a sequence.
use Rattle.std.specs.Prelude.{ℕ, List, map}
use Rattle.pq_base.specs.declared.value.Value.{Value}
use Rattle.pq_key_code.specs.KeyCode.{code_of}
use Rattle.pq_schema.specs.declared.table.KeyPart.{KeyPart}
use Rattle.pq_content.specs.Tables.{dirs_of}

-- each column's value in the direction of its part
abbrev pub sequence_code : (ℕ → Value) → List KeyPart → List ℕ
sequence_code value parts = code_of (dirs_of parts) (map (λ part. value part.col) parts)
