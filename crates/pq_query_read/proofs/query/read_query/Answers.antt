use Rattle.std.proofs.Common.{Ok, Err}
use Rattle.pq_query_read.proofs.QueryAnswers.{reads_ok, only_ok, sound_ok, reads_err, only_err}
use Rattle.pq_query_read.proofs.query.read_query.Goals as goal

pub returns-in-Err-clause-only : goal.returns-in-Err-clause-only
returns-in-Err-clause-only c = only_err c.args.catalog.now c.args.name c.args.text.now c.args.tokens.now c.args.from c.in-Err.stopped c.in-Err.ensures.only

pub returns-in-Err-clause-reads : goal.returns-in-Err-clause-reads
returns-in-Err-clause-reads c = reads_err c.args.catalog.now c.args.name c.args.text.now c.args.tokens.now c.args.from c.in-Err.stopped c.in-Err.ensures.stops

pub returns-in-Err-resolve-clause-only : goal.returns-in-Err-resolve-clause-only
returns-in-Err-resolve-clause-only c =
    only_ok c.args.catalog.now c.args.name c.args.text.now c.args.tokens.now c.args.from c.in-Ok.def (Err c.in-Err-resolve.stopped) c.in-Ok.ensures.only c.in-Err-resolve.ensures

pub returns-in-Err-resolve-clause-reads : goal.returns-in-Err-resolve-clause-reads
returns-in-Err-resolve-clause-reads c =
    reads_ok c.args.catalog.now c.args.name c.args.text.now c.args.tokens.now c.args.from c.in-Ok.def (Err c.in-Err-resolve.stopped) c.in-Ok.ensures.reads c.in-Err-resolve.ensures

pub returns-clause-only : goal.returns-clause-only
returns-clause-only c =
    only_ok c.args.catalog.now c.args.name c.args.text.now c.args.tokens.now c.args.from c.in-Ok.def (Ok c.in-Ok-resolve.query) c.in-Ok.ensures.only c.in-Ok-resolve.ensures

pub returns-clause-reads : goal.returns-clause-reads
returns-clause-reads c =
    reads_ok c.args.catalog.now c.args.name c.args.text.now c.args.tokens.now c.args.from c.in-Ok.def (Ok c.in-Ok-resolve.query) c.in-Ok.ensures.reads c.in-Ok-resolve.ensures

pub returns-clause-sound : goal.returns-clause-sound
returns-clause-sound c =
    sound_ok c.args.catalog.now c.args.name c.args.text.now c.args.tokens.now c.args.from c.in-Ok.def c.in-Ok-resolve.query c.requires.tokens c.known.ensures c.in-Ok.ensures.reads c.in-Ok-resolve.ensures
