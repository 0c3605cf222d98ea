use Rattle.pq_clients.proofs.Fits.{short_texts, few_values}
use Rattle.pq_clients.proofs.rows.encoded.Goals as goal

pub encode_stored-requires-clause-columns : goal.encode_stored-requires-clause-columns
encode_stored-requires-clause-columns c = few_values c.args.catalog.now.tables c.args.write.now c.requires.write c.args.row.now c.requires.fits

pub encode_stored-requires-clause-texts : goal.encode_stored-requires-clause-texts
encode_stored-requires-clause-texts c = short_texts c.args.catalog.now.tables c.args.write.now c.requires.write c.args.row.now c.requires.fits
