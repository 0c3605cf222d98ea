-- The code of values is bytes.
use Rattle.std.proofs.Common.{◌<◌, List, [], ◌∷◌, arith}
use Rattle.pq_base.specs.declared.value.Dir.{Dir}
use Rattle.pq_base.specs.declared.value.Dir.TheVariants.{Asc, Desc}
use Rattle.pq_base.specs.declared.value.Value.{Value}
use Rattle.pq_base.specs.declared.value.Value.TheVariants as value
use Rattle.pq_base.specs.Values.{AreValues}
use Rattle.pq_key_code.specs.KeyCode.{IsBytes, payload, marker, component, code_of}
use Rattle.pq_key_code.proofs.Order.{IsBytes-append, payload_bytes}
use Rattle.pq_key_code.proofs.Reading.{IsBytes-turned}

marker_byte : (d : Dir) (x : Value) → marker d x < 256
marker_byte Asc value.Null = omega arith
marker_byte Desc value.Null = omega arith
marker_byte d (value.Int z) = omega arith
marker_byte d (value.Bool b) = omega arith
marker_byte d (value.Text t) = omega arith

pub code_bytes : (dirs : List Dir) (values : List Value) → AreValues values → IsBytes (code_of dirs values)
code_bytes [] values known = tt
code_bytes (d ∷ dirs) [] known = tt
code_bytes (d ∷ dirs) (x ∷ values) known =
    IsBytes-append (component d x) (code_of dirs values) (marker_byte d x, IsBytes-turned d (payload x) (payload_bytes x known.0)) (code_bytes dirs values known.1)
