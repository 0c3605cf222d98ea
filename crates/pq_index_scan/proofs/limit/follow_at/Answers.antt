use Rattle.std.proofs.Common.{rules, ◌≡◌, ◌∙◌, ◌<◌, ◌++◌, ◌∷◌, [], append_assoc, ap, get_or, length, refl, sym, arith}
use Rattle.std.proofs.lemmas.List.{length-append, length_push}
use Rattle.std.specs.Vec.Iter.{into_iter_items}
use Rattle.pq_base.proofs.Members.{at_in, each_in}
use Rattle.pq_index_scan.proofs.Placed.{none_followed, followed_more}
use Rattle.pq_index_scan.proofs.limit.follow_at.Goals as goal

pub loop-row-init : goal.loop-row-init
loop-row-init c = record {
  whole = search rules;
  at = refl;
  found = c.new-found.ensures ∙ sym (none_followed c.args.inputs.now c.args.places.now);
}

pub loop-row-preserved : goal.loop-row-preserved
loop-row-preserved c =
    let h = c.loop-row.invariant in
    let there : c.loop-row.yielded ++ c.in-Some.row ∷ into_iter_items c.next.new.self ≡ c.args.rows = search rules in
    let inputs = c.args.inputs.now in
    let places = c.args.places.now in
    let long = length-append c.loop-row.yielded (c.in-Some.row ∷ into_iter_items c.next.new.self) in
    let same = ap length there in
    let more = length_push c.loop-row.yielded c.in-Some.row in
    let low : c.loop-row.at < length places = omega (arith, long, same, h.at, c.requires.alike) in
    record {
      whole = append_assoc c.loop-row.yielded (c.in-Some.row ∷ []) (into_iter_items c.next.new.self) ∙ there;
      at = omega (arith, more, h.at);
      found =
          c.in_ok-push.ensures.ok
          ∙ (λ i. h.found i ++ c.in_ok-followed.ensures i ∷ [])
          ∙ sym (followed_more inputs places c.loop-row.yielded c.in-Some.row (get_or places c.loop-row.at 0) c.index-inputs-places.result (omega (arith, low, h.at)) (ap (λ n. get_or places n 0) h.at)
          (each_in (λ place. place < length inputs) places c.requires.within (get_or places c.loop-row.at 0) (at_in places c.loop-row.at 0 low)) c.index-inputs-places.is);
    }
