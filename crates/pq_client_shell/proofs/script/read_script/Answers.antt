use Rattle.std.proofs.Common.{ℕ, List, [], length, rules, arith, ap, ◌∙◌, append-nil}
use Rattle.pq_text.specs.Pieces.{pieces_of, rest_of, is_unfinished}
use Rattle.pq_client_shell.proofs.Pieces.{pieces_few, took_few}
use Rattle.pq_client_shell.proofs.script.read_script.Goals as goal

pub returns-clause-few : goal.returns-clause-few
returns-clause-few g c =
    let bytes = c.read_bytes.new.bytes.items in
    let is = c.in_ok-cut.ensures.pieces ∙ ap pieces_of (append-nil c.as_slice.result.now ∙ c.as_slice.ensures.value) in
    omega (arith, ap length is, pieces_few bytes, took_few _ _ _ bytes c.in_ok-ending.ensures.took)

pub returns-clause-read : goal.returns-clause-read
returns-clause-read g c = record {
  bytes = c.read_bytes.new.bytes.items;
  took = c.in_ok-ending.ensures.took;
  pieces_is = c.in_ok-cut.ensures.pieces ∙ ap pieces_of (append-nil c.as_slice.result.now ∙ c.as_slice.ensures.value);
  unfinished_is = c.leaves_rest-unfinished.ensures c.read_bytes.new.bytes.items (c.in_ok-cut.ensures.unfinished ∙ ap (λ (b : List ℕ). is_unfinished (rest_of b)) (append-nil c.as_slice.result.now ∙ c.as_slice.ensures.value));
}
