use Rattle.std.proofs.Common.{◌≡◌, get_or, ◌+◌, ◌-◌, ◌<◌, ◌∙◌, ap, sym, length, arith}
use Rattle.std.specs.Ordering.{is_lt, is_le}
use Rattle.pq_store.specs.Content.{key_cmp}
use Rattle.pq_mem_store.specs.Runs.{first_key}
use Rattle.pq_mem_store.proofs.Seats.{have_read, read_is, not_le}
use Rattle.pq_mem_store.proofs.run.begun.Goals as goal

pub key-requires : goal.key-requires
key-requires g c =
    let within : c.middle-at.result < length c.args.runs.now = omega arith in
    have_read g.R.Begins.pairs c.args.runs.now c.middle-at.result c.index-runs-at.result c.requires within c.index-runs-at.is

pub loop-low-preserved-then-is_le : goal.loop-low-preserved-then-is_le
loop-low-preserved-then-is_le g c =
    let within : c.middle-at.result < length c.args.runs.now = omega arith in
    let back : c.middle-at.result + 1 - 1 ≡ c.middle-at.result = omega arith in
    record {
      order = omega arith;
      within = omega arith;
      begun = λ d _. ap (λ run. is_le (key_cmp (first_key (g.R.Begins.pairs run)) c.args.key.now))
          (read_is c.args.runs.now c.middle-at.result _ c.index-runs-at.result d within c.index-runs-at.is back)
          ∙ ap (λ k. is_le (key_cmp k c.args.key.now)) (sym c.key.ensures) ∙ ap is_le (sym c.cmp.ensures) ∙ sym c.is_le.ensures ∙ c.if-is_le.true;
      not_begun = c.loop-low.invariant.not_begun;
    }

pub loop-low-preserved : goal.loop-low-preserved
loop-low-preserved g c =
    let within : c.middle-at.result < length c.args.runs.now = omega arith in
    let same : c.middle-at.result ≡ c.middle-at.result = omega arith in
    record {
      order = omega arith;
      within = omega arith;
      begun = c.loop-low.invariant.begun;
      not_begun = λ d _. ap (λ run. is_lt (key_cmp c.args.key.now (first_key (g.R.Begins.pairs run))))
          (read_is c.args.runs.now c.middle-at.result _ c.index-runs-at.result d within c.index-runs-at.is same)
          ∙ not_le (first_key (g.R.Begins.pairs c.index-runs-at.result)) c.args.key.now
          (ap (λ k. is_le (key_cmp k c.args.key.now)) (sym c.key.ensures) ∙ ap is_le (sym c.cmp.ensures) ∙ sym c.is_le.ensures ∙ c.if-is_le.false);
    }

pub returns : goal.returns
returns g c =
    let same : c.loop-low.low ≡ c.loop-low.high = omega arith in (
      omega arith,
      c.loop-low.invariant.begun,
      λ d less. ap (λ n. is_lt (key_cmp c.args.key.now (first_key (g.R.Begins.pairs (get_or c.args.runs.now n d))))) same
          ∙ c.loop-low.invariant.not_begun d (omega arith),
    )
