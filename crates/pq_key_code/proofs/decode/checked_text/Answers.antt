use Rattle.std.proofs.Common.{◌≤◌, length, rules}
use Rattle.pq_key_code.proofs.Loop.{checked_answer}
use Rattle.pq_key_code.proofs.decode.checked_text.Goals as goal

pub returns : goal.returns
returns c = let le : length c.args.bytes.now ≤ c.args.most = search rules in checked_answer c.args.most c.args.bytes.now c.from_bytes.result le c.from_bytes.ensures
