use Rattle.std.proofs.Common.{length, ap, sym, ◌∙◌, List}
use Rattle.pq_base.specs.declared.value.Dir.{Dir}
use Rattle.pq_key_code.specs.KeyCode.{code_of}
use Rattle.pq_local_ops.specs.Codes.{is_above}
use Rattle.pq_local_ops.proofs.Codes.{cursor_long, ok_more, kept_past}
use Rattle.pq_local_ops.proofs.Parts.{part_filter}
use Rattle.pq_local_ops.proofs.keep.keep_after.Goals as goal

pub encode_key-requires : goal.encode_key-requires
encode_key-requires c =
    cursor_long c.args.catalog.now.tables c.args.query.now c.args.after.now c.requires.after
    ∙ ap length (sym (c.items.ensures ∙ c.in_ok-places.ensures.places.dirs))

pub returns-clause-kept : goal.returns-clause-kept
returns-clause-kept c =
    ok_more _ _ (λ kept is. kept_past c.args.catalog.now.tables c.args.query.now c.in_ok-places.ensures.sound c.requires.resolved c.items-2.result.now c.items-3.result.now
    (c.items-2.ensures ∙ c.in_ok-places.ensures.places.cols) (c.items-3.ensures ∙ c.in_ok-places.ensures.places.dirs) c.args.after.now c.items-4.result.now c.args.combos kept
    (c.items-4.ensures ∙ c.in_ok-code.ensures ∙ ap (λ (ds : List Dir). code_of ds c.args.after.now) (c.items.ensures ∙ sym c.items-3.ensures))
    c.requires.after c.requires.fit is)
    c.keep_above.result c.keep_above.ensures

pub returns-clause-part : goal.returns-clause-part
returns-clause-part c =
    ok_more _ _ (λ kept is. part_filter (is_above c.items-2.result.now c.items-3.result.now c.items-4.result.now) c.args.combos kept is)
    c.keep_above.result c.keep_above.ensures
