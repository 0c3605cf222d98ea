use Rattle.std.proofs.Common.{List, ℕ, [], ◌∷◌, get_or, ap, arith}
use Rattle.pq_key_code.proofs.Reading.{IsBytes_from}
use Rattle.pq_cursor.proofs.Cursors.{read_behind}
use Rattle.pq_cursor.proofs.cursor.position_behind.Goals as goal

pub returns-in-Some : goal.returns-in-Some
returns-in-Some c =
    read_behind c.args.query c.args.types.now c.args.dirs.now c.requires c.args.bytes.now _ c.in-Some.code.now
    (IsBytes_from c.args.bytes.now (λ i. omega (arith, c.type_inv.bytes i))) c.in-Some.ensures.cases.0
    (ap (λ (two : List ℕ). 1 ∷ get_or two 0 0 ∷ get_or two 1 0 ∷ []) c.to_be_bytes.ensures)
    c.in-Some.ensures.cases.1 c.decode_key.result c.decode_key.ensures.found c.decode_key.ensures.none
