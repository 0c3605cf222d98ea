use Rattle.std.proofs.Common.{◌≡◌, ℕ, ◌+◌, ◌-◌, List, Some, length, take, drop, ap, ◌∙◌, arith, rules}
use Rattle.std.proofs.lemmas.List.{length-drop, take_all}
use Rattle.pq_key_code.proofs.Reading.{plain_text}
use Rattle.pq_key_code.proofs.decode.ascending_text.Goals as goal

pub returns-in_ok-text : goal.returns-in_ok-text
returns-in_ok-text c =
    let bytes : List ℕ = c.args.bytes.now in
    let len : ℕ = c.plain_len-len.result in
    let rest : take (length bytes - (len + 2)) (drop (len + 2) bytes) ≡ drop (len + 2) bytes = take_all (length bytes - (len + 2)) (drop (len + 2) bytes) (omega (arith, length-drop (len + 2) bytes)) in
    let text : c.in_ok-text.text ≡ take len bytes = search rules in
    ap (λ (r : List ℕ). Some (c.in_ok-text.text, r)) rest
    ∙ ap (λ (t : List ℕ). Some (t, drop (len + 2) bytes)) text
    ∙ plain_text len bytes c.if-len-bytes.true c.plain_len-len.ensures.plain c.plain_len-len.ensures.ends c.if-bytes-len-eq1.true
