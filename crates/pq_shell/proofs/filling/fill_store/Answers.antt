use Rattle.std.proofs.Common.{◌≡◌, Some, None, rules, refl, arith, sym, ◌∙◌}
use Rattle.std.specs.Prelude.{slice_get}
use Rattle.pq_fill.proofs.Places.{kinds_long}
use Rattle.pq_fill.specs.Script.{fill_kinds, fill_script}
use Rattle.pq_shell.proofs.Filled.{none_filled, filled_next, stopped_next, stopped_before, all_filled, never_past, few_statements}
use Rattle.pq_shell.proofs.filling.fill_store.Goals as goal

pub loop-made-init : goal.loop-made-init
loop-made-init g c = record { within = search rules; store_later = search rules; so_far = λ held. none_filled _ _ _ _ _ c.new.ensures refl }

pub returns-in-Err-clause-err : goal.returns-in-Err-clause-err
returns-in-Err-clause-err g c = λ held. stopped_before c.args.n c.loop-made.made c.args.used _ _ _ _ _ (omega (arith, c.loop-made.invariant.within, c.fill_count-count.ensures)) (c.loop-made.invariant.so_far held)

pub unreachable-requires : goal.unreachable-requires
unreachable-requires g c = never_past (fill_script c.args.n) c.loop-made.made (omega (arith, c.loop-made-test.true, c.fill_count-count.ensures)) (sym c.in-Ok.ensures ∙ c.in_default.is)

pub unreachable-requires-in_default-fill_kind : goal.unreachable-requires-in_default-fill_kind
unreachable-requires-in_default-fill_kind g c =
    never_past (fill_kinds c.args.n) c.loop-made.made (omega (arith, c.loop-made-test.true, c.fill_count-count.ensures, kinds_long c.args.n)) (sym c.fill_kind.ensures ∙ c.in_default-fill_kind.is)

pub returns-in-Err-make-clause-err : goal.returns-in-Err-make-clause-err
returns-in-Err-make-clause-err g c =
    let text : slice_get (fill_script c.args.n) c.loop-made.made ≡ Some c.in-Some.text = sym c.in-Ok.ensures ∙ c.in-Some.is in
    let kind : slice_get (fill_kinds c.args.n) c.loop-made.made ≡ Some c.in-Some-fill_kind.kind = sym c.fill_kind.ensures ∙ c.in-Some-fill_kind.is in
    rw c.of.ensures (λ held. stopped_next c.args.n c.loop-made.made c.in-Some.text c.in-Some-fill_kind.kind text kind c.args.used _ _ _ _ _ _ held _ _ _ (c.loop-made.invariant.so_far held) c.in-Err-make.ensures.err)

pub note-requires : goal.note-requires
note-requires g c =
    let so_far = c.loop-made.invariant.so_far None in
    let few = few_statements c.args.n c.requires.0 c.requires.1 in
    omega (arith, so_far.noted, c.loop-made-test.true, c.fill_count-count.ensures, few)

pub loop-made-preserved : goal.loop-made-preserved
loop-made-preserved g c =
    let text : slice_get (fill_script c.args.n) c.loop-made.made ≡ Some c.in-Some.text = sym c.in-Ok.ensures ∙ c.in-Some.is in
    let kind : slice_get (fill_kinds c.args.n) c.loop-made.made ≡ Some c.in-Some-fill_kind.kind = sym c.fill_kind.ensures ∙ c.in-Some-fill_kind.is in
    record {
      within = search rules;
      store_later = search rules;
      so_far = λ held. filled_next c.args.n c.loop-made.made c.in-Some.text c.in-Some-fill_kind.kind text kind c.args.used _ _ _ _ _ _ held _ _ _ _ c.in-Ok-make.stepped.1 (c.loop-made.invariant.so_far held) c.in-Ok-make.ensures.ok c.note.ensures.summary c.note.ensures.refused;
    }

pub loop-made-preserved-in-Ok-make : goal.loop-made-preserved-in-Ok-make
loop-made-preserved-in-Ok-make g c =
    let text : slice_get (fill_script c.args.n) c.loop-made.made ≡ Some c.in-Some.text = sym c.in-Ok.ensures ∙ c.in-Some.is in
    let kind : slice_get (fill_kinds c.args.n) c.loop-made.made ≡ Some c.in-Some-fill_kind.kind = sym c.fill_kind.ensures ∙ c.in-Some-fill_kind.is in
    record {
      within = search rules;
      store_later = search rules;
      so_far = λ held. filled_next c.args.n c.loop-made.made c.in-Some.text c.in-Some-fill_kind.kind text kind c.args.used _ _ _ _ _ _ held _ _ _ _ c.in-Ok-make.stepped.1 (c.loop-made.invariant.so_far held) c.in-Ok-make.ensures.ok c.note.ensures.summary c.note.ensures.refused;
    }

pub returns-clause-ok : goal.returns-clause-ok
returns-clause-ok g c = λ held. all_filled c.args.n c.loop-made.made c.args.used _ _ _ _ _ (omega (arith, c.fill_count-count.ensures, c.loop-made-test.false)) (kinds_long c.args.n) (c.loop-made.invariant.so_far held)
