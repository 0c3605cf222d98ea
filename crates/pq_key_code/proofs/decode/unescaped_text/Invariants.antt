use Rattle.std.proofs.Common.{◌≡◌, ◌-◌, ◌≤◌, length, drop}
use Rattle.pq_key_code.specs.KeyReading.{text_value_at}
use Rattle.pq_key_code.proofs.Loop.{texts_behind}
use Rattle.pq_key_code.proofs.decode.unescaped_text.Given as goal

abbrev pub invariant-loop-i : goal.invariant-loop-i
invariant-loop-i l = record { within : l.i ≤ length l.bytes; read : texts_behind l.text (text_value_at l.dir (drop l.i l.bytes)) ≡ text_value_at l.dir l.bytes }

abbrev pub decreases-loop-i : goal.decreases-loop-i
decreases-loop-i l = length l.bytes - l.i
