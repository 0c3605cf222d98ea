use Rattle.pq_statement.proofs.Statements.{text_piece, other_piece, long_piece}
use Rattle.pq_statement.proofs.requests.asked.Goals as goal

pub returns-in-Statement-clause-asks : goal.returns-in-Statement-clause-asks
returns-in-Statement-clause-asks c = rw (text_piece c.args.catalog.now c.in-Statement.text c.args.piece.now c.in-Statement.is) c.asked_text.ensures.asks

pub returns-in-Statement-clause-refused : goal.returns-in-Statement-clause-refused
returns-in-Statement-clause-refused c = rw (text_piece c.args.catalog.now c.in-Statement.text c.args.piece.now c.in-Statement.is) c.asked_text.ensures.refused

pub returns-in-NotUtf8-clause-refused : goal.returns-in-NotUtf8-clause-refused
returns-in-NotUtf8-clause-refused c = other_piece c.args.catalog.now c.args.piece.now c.in-NotUtf8.is

pub returns-in-TooLong-clause-refused : goal.returns-in-TooLong-clause-refused
returns-in-TooLong-clause-refused c = long_piece c.args.catalog.now c.args.piece.now c.in-TooLong.is
