use Rattle.std.proofs.Common.{◌∙◌}
use Rattle.pq_mem_store.proofs.Places.{alone_have, parts_rise, has_some}
use Rattle.pq_mem_store.proofs.block.BlockRun.cut.Goals as goal

pub cut_at-requires-clause-have : goal.cut_at-requires-clause-have
cut_at-requires-clause-have c = alone_have c.self.inside.held.items

pub invariant_of-result : goal.invariant_of-result
invariant_of-result c =
    let parts = parts_rise c.self.inside.held.items c.cut_at.new.runs.items c.in_ok-held.held.items c.in_ok-held.ensures.ok.0 c.self.invariant in
    parts.1

pub invariant_of-self-2 : goal.invariant_of-self-2
invariant_of-self-2 c =
    let parts = parts_rise c.self.inside.held.items c.cut_at.new.runs.items c.in_ok-held.held.items c.in_ok-held.ensures.ok.0 c.self.invariant in
    parts.0

pub returns : goal.returns
returns c = record {
  ok = (c.in_ok-held.ensures.ok.0 ∙ c.self.view_is, has_some c.cut_at.new.runs.items c.in_ok-held.ensures.ok.1, has_some c.in_ok-held.held.items c.in_ok-held.ensures.ok.2);
  err = tt;
}
