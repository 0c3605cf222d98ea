use Rattle.std.proofs.Common.{◌≡◌, ◌<◌, ◌∙◌, length, drop, IsTrue, ap, sym, subst, refl, arith}
use Rattle.std.proofs.lemmas.List.{drop_all}
use Rattle.pq_store.specs.Content.{key_cmp}
use Rattle.pq_mem_store.specs.Runs.{are_behind}
use Rattle.pq_mem_store.proofs.Places.{before_next, behind_here, place_between, place_equal, equal_begins, behind_begins}
use Rattle.pq_mem_store.proofs.block.place.Goals as goal

pub loop-low-init : goal.loop-low-init
loop-low-init c = record {
  order = omega arith;
  within = omega arith;
  before = refl;
  behind = subst (λ ps. IsTrue (are_behind c.args.key.now ps)) (sym (drop_all (length c.args.held.now) c.args.held.now (omega arith))) refl;
}

pub loop-low-preserved-in-Less : goal.loop-low-preserved-in-Less
loop-low-preserved-in-Less c =
    let within : c.middle-at.result < length c.args.held.now = omega arith in
    record {
      order = omega arith;
      within = omega arith;
      before = before_next c.args.held.now c.args.key.now c.requires c.middle-at.result c.index-held-at.result within c.index-held-at.is
          (ap (λ k. key_cmp k c.args.key.now) (sym c.key.ensures) ∙ sym c.cmp.ensures ∙ c.in-Less.is);
      behind = c.loop-low.invariant.behind;
    }

pub returns-in-Equal-clause-at : goal.returns-in-Equal-clause-at
returns-in-Equal-clause-at c =
    let within : c.middle-at.result < length c.args.held.now = omega arith in
    place_equal c.args.held.now c.args.key.now c.requires c.middle-at.result c.index-held-at.result within c.index-held-at.is
    (ap (λ k. key_cmp k c.args.key.now) (sym c.key.ensures) ∙ sym c.cmp.ensures ∙ c.in-Equal.is)

pub returns-in-Equal-clause-is_held : goal.returns-in-Equal-clause-is_held
returns-in-Equal-clause-is_held c =
    let within : c.middle-at.result < length c.args.held.now = omega arith in
    sym (equal_begins c.args.held.now c.args.key.now c.requires c.middle-at.result c.index-held-at.result within c.index-held-at.is
    (ap (λ k. key_cmp k c.args.key.now) (sym c.key.ensures) ∙ sym c.cmp.ensures ∙ c.in-Equal.is))

pub loop-low-preserved : goal.loop-low-preserved
loop-low-preserved c =
    let within : c.middle-at.result < length c.args.held.now = omega arith in
    record {
      order = omega arith;
      within = omega arith;
      before = c.loop-low.invariant.before;
      behind = behind_here c.args.held.now c.args.key.now c.requires c.middle-at.result c.index-held-at.result within c.index-held-at.is
          (ap (λ k. key_cmp k c.args.key.now) (sym c.key.ensures) ∙ sym c.cmp.ensures ∙ c.in-Greater.is);
    }

pub returns-clause-at : goal.returns-clause-at
returns-clause-at c =
    let same : c.loop-low.high ≡ c.loop-low.low = omega arith in
    place_between c.args.held.now c.args.key.now c.requires c.loop-low.low (omega arith) c.loop-low.invariant.before
    (subst (λ n. IsTrue (are_behind c.args.key.now (drop n c.args.held.now))) same c.loop-low.invariant.behind)

pub returns-clause-is_held : goal.returns-clause-is_held
returns-clause-is_held c =
    let same : c.loop-low.high ≡ c.loop-low.low = omega arith in
    sym (behind_begins c.args.key.now (drop c.loop-low.low c.args.held.now)
    (subst (λ n. IsTrue (are_behind c.args.key.now (drop n c.args.held.now))) same c.loop-low.invariant.behind))
