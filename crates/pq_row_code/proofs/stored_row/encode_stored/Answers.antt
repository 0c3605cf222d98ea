use Rattle.std.proofs.Common.{◌≤◌, List, length, sym, subst}
use Rattle.std.specs.Prelude.{All}
use Rattle.pq_base.specs.declared.value.Value.{Value}
use Rattle.pq_row_code.specs.RowCode.{IsShort}
use Rattle.pq_row_code.proofs.Stored.{stored_few, stored_short}
use Rattle.pq_row_code.proofs.stored_row.encode_stored.Goals as goal

pub code_of-requires-clause-columns : goal.code_of-requires-clause-columns
code_of-requires-clause-columns c = subst (λ (xs : List Value). length xs ≤ 32) (sym c.stored_values.ensures) (stored_few c.args.fillers.now c.args.row.now c.requires.columns)

pub code_of-requires-clause-texts : goal.code_of-requires-clause-texts
code_of-requires-clause-texts c = subst (λ (xs : List Value). All IsShort xs) (sym c.stored_values.ensures) (stored_short c.args.fillers.now c.args.row.now c.requires.texts)
