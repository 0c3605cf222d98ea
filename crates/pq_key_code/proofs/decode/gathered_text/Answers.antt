use Rattle.std.proofs.Common.{◌≤◌, ◌∙◌, ap, length, rules}
use Rattle.pq_key_code.specs.KeyReading.{text_within}
use Rattle.pq_key_code.proofs.Loop.{gathered_answer}
use Rattle.pq_key_code.proofs.decode.gathered_text.Goals as goal

pub returns : goal.returns
returns c =
    let le : length c.into_vec.result.items ≤ c.args.most = search rules in
    gathered_answer c.args.most c.into_vec.result.items c.from_vec.result le c.from_vec.ensures ∙ ap (text_within c.args.most) c.into_vec.ensures
