use Rattle.std.proofs.lemmas.Fmt.{decimal_digit}
use Rattle.pq_print.proofs.costs.digit_of.Goals as goal

pub returns : goal.returns
returns c = decimal_digit c.args.number c.requires
