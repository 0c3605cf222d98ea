use Rattle.std.proofs.Common.{◌≡◌, ◌++◌, take, string_bytes}
use Rattle.pq_client_shell.specs.Lines.{told_text}
use Rattle.pq_client_shell.proofs.lines.put_told.Given as goal

abbrev pub invariant-loop-one : goal.invariant-loop-one
invariant-loop-one l = string_bytes l.out ≡ string_bytes l.fn.out ++ told_text (take l.one-index l.told)
