use Rattle.pq_clients.proofs.Fits.{inside_row, fit_update, fit_ok}
use Rattle.pq_clients.proofs.rows.updated.Goals as goal

pub with_sets-requires : goal.with_sets-requires
with_sets-requires c = rw c.items.ensures (inside_row c.args.catalog.now.tables c.args.write.now c.args.sets.now c.args.old.now c.requires.write c.requires.update c.requires.fits)

pub returns-clause-fits : goal.returns-clause-fits
returns-clause-fits c =
    fit_ok _ c.with_sets.result _ c.with_sets.ensures
    (rw c.items.ensures (fit_update c.args.catalog.now.tables c.args.write.now c.args.sets.now c.args.old.now c.requires.write c.requires.update c.requires.granted c.requires.fits))
