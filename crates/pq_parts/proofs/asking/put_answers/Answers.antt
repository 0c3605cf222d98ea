use Rattle.std.proofs.Common.{◌≡◌, ◌+◌, [], ◌∷◌, ◌++◌, append_assoc, length, refl, sym, ap, ◌∙◌, rules}
use Rattle.std.proofs.lemmas.List.{length_push}
use Rattle.std.specs.Vec.Iter.{into_iter_items}
use Rattle.pq_parts.specs.Asking as asking
use Rattle.pq_parts.proofs.Put.{put_nil, put_more, put_long}
use Rattle.pq_parts.proofs.asking.put_answers.Goals as goal

pub loop-answer-init : goal.loop-answer-init
loop-answer-init g c = record {
  at = refl;
  whole = search rules;
  long = refl;
  put = sym (put_nil c.args.asked.now c.args.found.now.items);
}

pub loop-answer-preserved : goal.loop-answer-preserved
loop-answer-preserved g c =
    let inv = c.loop-answer.invariant in
    let asked = c.args.asked.now in
    let old = c.args.found.now.items in
    let answer = c.in-Some.answer in
    let there : c.loop-answer.yielded ++ answer ∷ into_iter_items c.next.new.self ≡ c.args.answers = search rules in
    record {
      at = sym (length_push c.loop-answer.yielded answer ∙ ap (λ n. n + 1) (sym inv.at));
      whole = append_assoc c.loop-answer.yielded (answer ∷ []) (into_iter_items c.next.new.self) ∙ there;
      long = ap length c.put_answer.ensures ∙ put_long asked c.loop-answer.at answer c.loop-answer.found.items ∙ inv.long;
      put = c.put_answer.ensures ∙ ap (asking.put_answer asked c.loop-answer.at answer) inv.put
          ∙ ap (λ n. asking.put_answer asked n answer (asking.put_answers asked c.loop-answer.yielded old)) inv.at ∙ sym (put_more asked c.loop-answer.yielded answer old);
    }
