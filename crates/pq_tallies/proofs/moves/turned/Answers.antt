use Rattle.std.proofs.Common.{◌≡◌, false}
use Rattle.pq_content.specs.Tables.{cells, same_values}
use Rattle.pq_tallies.specs.Defined.{with_number}
use Rattle.pq_tallies.proofs.Groups.{turns_from}
use Rattle.pq_tallies.proofs.moves.turned.Goals as goal

pub returns : goal.returns
returns c =
    let other : same_values (cells c.args.counter.now.cols c.args.old.now) (cells c.args.counter.now.cols c.args.new.now) ≡ false = cc in
    turns_from (with_number c.args.number c.args.counter.now) c.args.old.now c.args.new.now c.in_ok-key_in.field-0 c.in_ok-key_in-2.field-0 other c.in_ok-key_in.ensures c.in_ok-key_in-2.ensures
