use Rattle.std.proofs.Common.{◌∷◌, [], None, map, arith, rules}
use Rattle.std.proofs.lemmas.Result.{err_from_is_err_and, on_ok_weaker, on_err_weaker}
use Rattle.pq_content.specs.Standing.{change_of}
use Rattle.pq_intent.proofs.Steps.{partway_front, partway_last, after_last}
use Rattle.std.proofs.lemmas.List.{length-map}
use Rattle.pq_intent.proofs.Wanting.{stops_front, stops_last}
use Rattle.pq_intent.proofs.write.finish.Goals as goal

pub returns-in_err-write_changes-clause-makes : goal.returns-in_err-write_changes-clause-makes
returns-in_err-write_changes-clause-makes g c =
    let p = err_from_is_err_and c.from_residual.result c.from_residual.ensures.1 in
    record {
      made = search rules;
      stopped = rw p.1 (partway_front (map change_of c.args.changes.now) ((c.args.key.now, None) ∷ []) _ _ c.in_err-write_changes.ensures.makes.stopped);
      sound = search rules;
      memory = λ want.
          stops_front (map change_of c.args.changes.now) ((c.args.key.now, None) ∷ []) c.args.meter.now c.write_changes.new.meter (g.S.Store.content c.args.store.now) (g.S.Store.content c.write_changes.new.store) (omega (arith, length-map c.args.changes.now change_of)) (c.in_err-write_changes.ensures.makes.memory (search rules));
    }

pub returns-clause-makes : goal.returns-clause-makes
returns-clause-makes g c = record {
  made = on_ok_weaker c.put.result (after_last (map change_of c.args.changes.now) (c.args.key.now, None) _ _ _ c.in_ok-write_changes.ensures.makes.made) c.put.ensures.makes.made;
  stopped = on_err_weaker c.put.result (partway_last (map change_of c.args.changes.now) (c.args.key.now, None) _ _ _ c.in_ok-write_changes.ensures.makes.made) c.put.ensures.makes.stopped;
  sound = c.put.ensures.makes.sound;
  memory = λ want.
      stops_last (map change_of c.args.changes.now) (c.args.key.now, None) c.args.meter.now c.write_changes.new.meter c.put.new.meter (g.S.Store.content c.args.store.now) (g.S.Store.content c.write_changes.new.store) (g.S.Store.content c.put.new.store) (omega (arith, length-map c.args.changes.now change_of, c.in_ok-write_changes.ensures.each)) c.put.ensures.one c.in_ok-write_changes.ensures.makes.made (c.put.ensures.makes.memory want);
}
