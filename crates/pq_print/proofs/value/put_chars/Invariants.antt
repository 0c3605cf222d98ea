use Rattle.std.proofs.Common.{◌≡◌, ◌++◌, flat_map, string_bytes, encode_utf8_all}
use Rattle.pq_print.specs.Values.{doubled_quotes}
use Rattle.pq_print.proofs.value.put_chars.Given as goal

abbrev pub invariant-loop-c : goal.invariant-loop-c
invariant-loop-c l = string_bytes l.out ≡ string_bytes l.fn.out ++ flat_map doubled_quotes (encode_utf8_all l.yielded)
