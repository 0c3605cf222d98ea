use Rattle.std.proofs.Common.{length, List, ◌++◌, ap, sym, ◌∙◌}
use Rattle.std.proofs.lemmas.Bool.{eqb-true}
use Rattle.std.proofs.lemmas.List.{nil_from_length}
use Rattle.pq_scan.specs.Candidates.{Candidate}
use Rattle.pq_scan.proofs.Asked.{none_held}
use Rattle.pq_scan.proofs.Formed.{formed_same}
use Rattle.pq_scan.proofs.reads.add_found.Goals as goal

pub returns-then-is_empty-clause-adds : goal.returns-then-is_empty-clause-adds
returns-then-is_empty-clause-adds c =
    λ constants form. none_held c.args.scan.now constants c.args.input c.args.pairs.now c.args.found.now
    (nil_from_length c.args.pairs.now (eqb-true (length c.args.pairs.now) 0 (sym c.is_empty.ensures ∙ c.if-is_empty.true)))

pub returns-clause-adds : goal.returns-clause-adds
returns-clause-adds c =
    λ constants form. record {
      held = c.in_ok-held.held;
      long = c.in_ok-held.ensures.long;
      fit = c.in_ok-held.ensures.fit;
      within = c.in_ok-held.ensures.within;
      first = c.in_ok-held.ensures.first;
      is = c.in_ok-add_candidates.ensures ∙ ap (λ (more : List Candidate). c.args.found.now ++ more) (formed_same c.args.scan.now constants c.args.form.now c.args.input c.in_ok-held.held form);
    }
