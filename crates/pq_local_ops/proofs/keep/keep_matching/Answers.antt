use Rattle.std.proofs.Common.{◌≡◌, filter, ap, ◌∙◌, rules}
use Rattle.std.proofs.lemmas.Fn.{filter_same}
use Rattle.pq_local_ops.specs.Lists.{meets_all}
use Rattle.pq_local_ops.proofs.Parts.{part_filter}
use Rattle.pq_local_ops.proofs.keep.keep_matching.Goals as goal

kept : (c : goal.After-from_vec) → c.from_vec.result ≡ filter (meets_all c.args.query.now c.args.params.now c.args.rel) c.args.combos
kept c =
    c.from_vec.ensures
    ∙ filter_same _ (meets_all c.args.query.now c.args.params.now c.args.rel) _ (λ x b f k. search rules) _ _ c.retain.ensures.filtered
    ∙ ap (filter (meets_all c.args.query.now c.args.params.now c.args.rel)) c.into_vec-kept.ensures

pub returns-clause-kept : goal.returns-clause-kept
returns-clause-kept c = λ tables rows. kept c

pub returns-clause-part : goal.returns-clause-part
returns-clause-part c = part_filter (meets_all c.args.query.now c.args.params.now c.args.rel) c.args.combos c.from_vec.result (kept c)
