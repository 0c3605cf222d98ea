use Rattle.pq_clients.proofs.Fits.{short_texts, few_values}
use Rattle.pq_clients.proofs.rows.code_len.Goals as goal

pub stored_code_len-requires-clause-columns : goal.stored_code_len-requires-clause-columns
stored_code_len-requires-clause-columns c = few_values c.args.catalog.now.tables c.args.write.now c.requires.write c.args.row.now c.requires.fits

pub stored_code_len-requires-clause-texts : goal.stored_code_len-requires-clause-texts
stored_code_len-requires-clause-texts c = short_texts c.args.catalog.now.tables c.args.write.now c.requires.write c.args.row.now c.requires.fits
