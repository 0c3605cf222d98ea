use Rattle.pq_reports.proofs.Promises.{promised_bare, promised_can, promised_kind, promised_left, promised_rows, promised_tells, promised_kept, promised_memory, promised_own, promised_reads, promised_made, promised_matches, promised_next, promised_shown, promised_lasting, promised_stopped, promised_unread, promised_within}
use Rattle.pq_check.proofs.Written.{promised_as}
use Rattle.pq_step.proofs.stepping.statement.Goals as goal

pub returns-clause-matches : goal.returns-clause-matches
returns-clause-matches g c = promised_matches c.args.number c.args.piece.now _ _ c.args.planned _ _ c.make_piece.result c.make_piece.ensures.step

pub returns-clause-made : goal.returns-clause-made
returns-clause-made g c = promised_made c.args.number c.args.piece.now _ _ c.args.planned _ _ c.make_piece.result c.make_piece.ensures.step

pub returns-clause-within : goal.returns-clause-within
returns-clause-within g c = promised_within c.args.number c.args.piece.now _ _ c.args.planned _ _ c.make_piece.result c.make_piece.ensures.step

pub returns-clause-next : goal.returns-clause-next
returns-clause-next g c = promised_next c.args.number c.args.piece.now _ _ c.args.planned _ _ c.make_piece.result c.make_piece.ensures.step

pub returns-clause-shown : goal.returns-clause-shown
returns-clause-shown g c = promised_shown c.args.number c.args.piece.now _ _ c.args.planned _ _ c.make_piece.result c.make_piece.ensures.step

pub returns-clause-lasting : goal.returns-clause-lasting
returns-clause-lasting g c = promised_lasting c.args.number c.args.piece.now _ _ c.args.planned _ _ c.make_piece.result c.make_piece.ensures.step

pub returns-clause-stopped : goal.returns-clause-stopped
returns-clause-stopped g c = promised_stopped c.args.number c.args.piece.now _ _ c.args.planned _ _ c.make_piece.result c.make_piece.ensures.step

pub returns-clause-unread : goal.returns-clause-unread
returns-clause-unread g c = promised_unread c.args.number c.args.piece.now _ _ c.args.planned _ _ c.make_piece.result c.make_piece.ensures.step

pub returns-clause-arranged : goal.returns-clause-arranged
returns-clause-arranged g c =
    promised_as c.args.number c.args.piece.now _ _ c.args.planned _ _ c.known.ensures c.make_piece.result c.make_piece.ensures.step

pub returns-clause-within_own : goal.returns-clause-within_own
returns-clause-within_own g c = promised_own c.args.number c.args.piece.now _ _ c.args.planned _ _ c.make_piece.result c.make_piece.ensures.step

pub returns-clause-kept : goal.returns-clause-kept
returns-clause-kept g c = promised_kept c.args.number c.args.piece.now _ _ c.args.planned _ _ c.make_piece.result c.make_piece.ensures.step

pub returns-clause-can : goal.returns-clause-can
returns-clause-can g c = promised_can c.args.number c.args.piece.now _ _ c.args.planned _ _ c.make_piece.result c.make_piece.ensures.step

pub returns-clause-reads : goal.returns-clause-reads
returns-clause-reads g c = promised_reads c.args.number c.args.piece.now _ _ c.args.planned _ _ c.make_piece.result c.make_piece.ensures.step

pub returns-clause-memory : goal.returns-clause-memory
returns-clause-memory g c = promised_memory c.args.number c.args.piece.now _ _ c.args.planned _ _ c.make_piece.result c.make_piece.ensures.step

pub returns-clause-tells : goal.returns-clause-tells
returns-clause-tells g c = promised_tells c.args.number c.args.piece.now _ _ c.args.planned _ _ c.make_piece.result c.make_piece.ensures.step

pub returns-clause-kind : goal.returns-clause-kind
returns-clause-kind g c = promised_kind c.args.number c.args.piece.now _ _ c.args.planned _ _ c.make_piece.result c.make_piece.ensures.step

pub returns-clause-bare : goal.returns-clause-bare
returns-clause-bare g c = promised_bare c.args.number c.args.piece.now _ _ c.args.planned _ _ c.make_piece.result c.make_piece.ensures.step

pub returns-clause-left : goal.returns-clause-left
returns-clause-left g c = promised_left c.args.number c.args.piece.now _ _ c.args.planned _ _ c.make_piece.result c.make_piece.ensures.step

pub returns-clause-within_rows : goal.returns-clause-within_rows
returns-clause-within_rows g c = promised_rows c.args.number c.args.piece.now _ _ c.args.planned _ _ c.make_piece.result c.make_piece.ensures.step
