use Rattle.std.proofs.Common.{◌∙◌, ap, sym}
use Rattle.std.specs.List.{flat_map}
use Rattle.std.proofs.lemmas.List.Concat.{flat_map-append}
use Rattle.pq_mem_store.proofs.Seats.{parts_are, has_flat}
use Rattle.pq_mem_store.proofs.runs.RunsRun.cut.Goals as goal

pub invariant_of-result : goal.invariant_of-result
invariant_of-result g c =
    let parts = parts_are g.R.Begins.pairs c.self.inside.runs.items c.cut_at.new.runs.items c.in_ok-runs.runs.items c.in_ok-runs.ensures.ok.0 c.self.invariant.0 c.self.invariant.1 in
    parts.1

pub invariant_of-self-2 : goal.invariant_of-self-2
invariant_of-self-2 g c =
    let parts = parts_are g.R.Begins.pairs c.self.inside.runs.items c.cut_at.new.runs.items c.in_ok-runs.runs.items c.in_ok-runs.ensures.ok.0 c.self.invariant.0 c.self.invariant.1 in
    parts.0

pub returns : goal.returns
returns g c =
    let parts = parts_are g.R.Begins.pairs c.self.inside.runs.items c.cut_at.new.runs.items c.in_ok-runs.runs.items c.in_ok-runs.ensures.ok.0 c.self.invariant.0 c.self.invariant.1 in
    record {
      ok = (
        sym (flat_map-append g.R.Begins.pairs c.cut_at.new.runs.items c.in_ok-runs.runs.items) ∙ ap (flat_map g.R.Begins.pairs) c.in_ok-runs.ensures.ok.0 ∙ c.self.view_is,
        has_flat g.R.Begins.pairs c.cut_at.new.runs.items parts.0.0 c.in_ok-runs.ensures.ok.1,
        has_flat g.R.Begins.pairs c.in_ok-runs.runs.items parts.1.0 c.in_ok-runs.ensures.ok.2,
      );
      err = tt;
    }
