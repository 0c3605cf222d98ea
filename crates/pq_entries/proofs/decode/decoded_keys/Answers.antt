use Rattle.std.proofs.lemmas.Result.{err_from_is_err_and}
use Rattle.pq_entries.specs.Entries.{IsNoKeyPair}
use Rattle.pq_entries.proofs.Decoded.{one_shows}
use Rattle.pq_entries.proofs.decode.decoded_keys.Goals as goal

pub returns-in_err-values-clause-cause : goal.returns-in_err-values-clause-cause
returns-in_err-values-clause-cause c =
    let p = err_from_is_err_and c.from_residual-in_err-values.result c.from_residual-in_err-values.ensures.1 in
    rw (p.1, p.2) (one_shows (IsNoKeyPair c.args.types.now c.args.dirs.now c.args.skipped) c.args.pairs.now c.loop-pair.pair-index c.pair-item.result c.loop-pair-test.true c.pair-item.is c.in_err-values.field-0.0 c.in_err-values.ensures.cause)
