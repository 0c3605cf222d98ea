use Rattle.std.proofs.Common.{◌≡◌, length, sym, ◌∙◌, arith}
use Rattle.pq_row_code.specs.Changes.{changes_code}
use Rattle.pq_batch.specs.Batches.{changes_length}
use Rattle.pq_batch.proofs.Codes.{code_short, length_coded, are_whole}
use Rattle.pq_batch.proofs.plan.finished.Goals as goal

pub changes_len-len-requires : goal.changes_len-len-requires
changes_len-len-requires c = code_short c.into_changes-changes.result c.args.pending.changes c.into_changes-changes.ensures c.requires.few c.requires.ahead

pub returns-then-len-gt-MOST_BYTES-clause-finishes : goal.returns-then-len-gt-MOST_BYTES-clause-finishes
returns-then-len-gt-MOST_BYTES-clause-finishes c =
    (c.changes_len-len.ensures ∙ sym (length_coded c.into_changes-changes.result c.args.pending.changes c.into_changes-changes.ensures), omega arith)

pub returns-clause-plan : goal.returns-clause-plan
returns-clause-plan c = are_whole c.into_changes-changes.result c.args.pending.changes c.into_changes-changes.ensures c.requires.some c.requires.few c.requires.ahead

pub returns-clause-finishes : goal.returns-clause-finishes
returns-clause-finishes c =
    let long : changes_length c.args.pending.changes ≡ length (changes_code c.into_changes-changes.result) =
    length_coded c.into_changes-changes.result c.args.pending.changes c.into_changes-changes.ensures in
    (c.into_changes-changes.ensures, omega (arith, c.changes_len-len.ensures))
