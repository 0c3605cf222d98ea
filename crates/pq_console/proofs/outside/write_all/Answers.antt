use Rattle.std.proofs.Common.{rules, ◌-◌, take, drop, length, ap, ◌∙◌}
use Rattle.std.specs.Io.KnownBytes.{append_known}
use Rattle.pq_console.proofs.Known.{append_known-append, take_two}
use Rattle.pq_console.proofs.outside.write_all.Goals as goal

pub loop-at-preserved : goal.loop-at-preserved
loop-at-preserved g c =
    let text = c.args.text.now in
    record {
      within = search rules;
      held = c.in_ok-at.ensures.held ∙ ap (λ k. append_known k (take c.in_ok-at.field-0 (take (length text - c.loop-at.at) (drop c.loop-at.at text)))) c.loop-at.invariant.held ∙ append_known-append (g.O.Sink.held c.args.sink.now) _ _ ∙ ap (append_known (g.O.Sink.held c.args.sink.now)) (take_two text c.loop-at.at c.in_ok-at.field-0);
      later = search rules;
    }
