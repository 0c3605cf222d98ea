use Rattle.std.proofs.Common.{rules, ◌-◌, ◌<◌, take, drop, length, sym, ap}
use Rattle.std.proofs.lemmas.Result.{err_from_is_err_and}
use Rattle.std.proofs.lemmas.List.{take-append-drop}
use Rattle.pq_text.specs.Pieces.{piece_list}
use Rattle.pq_shell.proofs.Ending.{stands_opens}
use Rattle.pq_shell.specs.Serving.{FedPieces}
use Rattle.pq_console.proofs.Known.{take_two, length_part}
use Rattle.pq_shell.proofs.Folding.{Stopped-between}
use Rattle.pq_shell.proofs.Parts.{Progressed-none, Progressed-more, Progressed-piece, Progressed-at, Stopped-later, Stopped-at_piece, Fed-told, three_parts}
use Rattle.pq_shell.proofs.serving.run_part.Goals as goal

pub loop-at-init : goal.loop-at-init
loop-at-init g c = record { within = search rules; store_later = search rules; sink_later = search rules; form = search rules; unmoved = search rules; progressed = Progressed-none _ _ _ _ }

pub returns-in-Err-clause-err : goal.returns-in-Err-clause-err
returns-in-Err-clause-err g c =
    let bytes = c.args.bytes.now in
    let at = c.loop-at.at in
    Stopped-later (drop at bytes) bytes (sym (take-append-drop at bytes)) c.loop-at.invariant.progressed (Stopped-between c.args.progress.now.tally.form _ _ _ _ (λ m. stands_opens c.args.progress.now.tally.form _ _ m))

pub returns-in_err-session-clause-err : goal.returns-in_err-session-clause-err
returns-in_err-session-clause-err g c =
    let p = err_from_is_err_and c.from_residual.result c.from_residual.ensures.1 in
    let bytes = c.args.bytes.now in
    let at = c.loop-at.at in
    let n = c.in-Ok.fed.0 in
    let part = take n (take (length bytes - at) (drop at bytes)) in
    let fed : FedPieces c.loop-at.progress.splitter part (piece_list c.in-Ok.fed.1) c.feed.new.self = record { pieces = c.in-Ok.ensures.pieces; rest = c.in-Ok.ensures.rest } in
    rw (p.1, p.2) (Stopped-at_piece part (drop n (drop at bytes)) bytes c.in-Some.piece c.feed.new.self (three_parts bytes at n) c.loop-at.invariant.progressed (Fed-told c.in-Ok.fed.1 _ fed (ap piece_list c.in-Some.is)) (rw c.loop-at.invariant.form at c.in_err-session.ensures.err))

pub loop-at-preserved-in_ok-session : goal.loop-at-preserved-in_ok-session
loop-at-preserved-in_ok-session g c =
    let bytes = c.args.bytes.now in
    let at = c.loop-at.at in
    let n = c.in-Ok.fed.0 in
    let part = take n (take (length bytes - at) (drop at bytes)) in
    let fed : FedPieces c.loop-at.progress.splitter part (piece_list c.in-Ok.fed.1) c.feed.new.self = record { pieces = c.in-Ok.ensures.pieces; rest = c.in-Ok.ensures.rest } in
    let some : 0 < length part = length_part n _ c.in-Ok.ensures.some.0 c.in-Ok.ensures.some.1 in
    record {
      within = search rules;
      store_later = search rules;
      sink_later = search rules;
      form = search rules;
      unmoved = search rules;
      progressed = Progressed-at (take_two bytes at n) (Progressed-piece part c.in-Some.piece c.loop-at.invariant.progressed (Fed-told c.in-Ok.fed.1 _ fed (ap piece_list c.in-Some.is)) (rw c.loop-at.invariant.form at c.in_ok-session.ensures.ok) c.in_ok-session.ensures.count some);
    }

pub loop-at-preserved-in_ok-session-2 : goal.loop-at-preserved-in_ok-session-2
loop-at-preserved-in_ok-session-2 g c =
    let bytes = c.args.bytes.now in
    let at = c.loop-at.at in
    let n = c.in-Ok.fed.0 in
    let part = take n (take (length bytes - at) (drop at bytes)) in
    let fed : FedPieces c.loop-at.progress.splitter part (piece_list c.in-Ok.fed.1) c.feed.new.self = record { pieces = c.in-Ok.ensures.pieces; rest = c.in-Ok.ensures.rest } in
    let some : 0 < length part = length_part n _ c.in-Ok.ensures.some.0 c.in-Ok.ensures.some.1 in
    record {
      within = search rules;
      store_later = search rules;
      sink_later = search rules;
      form = search rules;
      unmoved = search rules;
      progressed = Progressed-at (take_two bytes at n) (Progressed-piece part c.in-Some.piece c.loop-at.invariant.progressed (Fed-told c.in-Ok.fed.1 _ fed (ap piece_list c.in-Some.is)) (rw c.loop-at.invariant.form at c.in_ok-session.ensures.ok) c.in_ok-session.ensures.count some);
    }

pub loop-at-preserved : goal.loop-at-preserved
loop-at-preserved g c =
    let bytes = c.args.bytes.now in
    let at = c.loop-at.at in
    let n = c.in-Ok.fed.0 in
    let part = take n (take (length bytes - at) (drop at bytes)) in
    let fed : FedPieces c.loop-at.progress.splitter part (piece_list c.in-Ok.fed.1) c.feed.new.self = record { pieces = c.in-Ok.ensures.pieces; rest = c.in-Ok.ensures.rest } in
    record {
      within = search rules;
      store_later = search rules;
      sink_later = search rules;
      form = search rules;
      unmoved = search rules;
      progressed = Progressed-at (take_two bytes at n) (Progressed-more part c.feed.new.self c.loop-at.invariant.progressed (Fed-told c.in-Ok.fed.1 _ fed (ap piece_list c.in_default.is)));
    }
