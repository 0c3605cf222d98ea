use Rattle.std.proofs.Common.{◌<◌, take, count_ones, ap, subst, ◌∙◌}
use Rattle.pq_base.specs.Members.{In}
use Rattle.pq_base.proofs.Members.{all_member, each_by_in}
use Rattle.pq_schema.specs.declared.query.Pred.{Pred}
use Rattle.pq_schema.specs.declared.table.Table.{Table}
use Rattle.pq_schema.specs.Tables.{types_at}
use Rattle.pq_schema.specs.Keys.{dirs_of}
use Rattle.pq_schema.specs.Sequences.{columns_of, sequence_of}
use Rattle.pq_scan.specs.Prepared.{item_directions}
use Rattle.pq_scan.proofs.Columns.{item_small}
use Rattle.pq_scan.proofs.prepared.Scan.prepare.Goals as goal

pub returns-clause-sound : goal.returns-clause-sound
returns-clause-sound c =
    let refs = c.requires.query.refs in
    let preds = c.args.request.now.query.now.preds in
    record {
      number_is = c.table_number.ensures;
      fixed_is = c.fixed-fixed.ensures;
      sequence_is = c.in_ok-sequence.ensures ∙ ap (λ table. sequence_of table c.args.access) c.table_of-table.ensures.table;
      front_is = c.truncate.ensures ∙ (λ i. take ((c.count.ensures ∙ ap count_ones c.fixed-fixed.ensures) i) ((c.in_ok-front.ensures ∙ ap columns_of c.items.ensures) i));
      types_is = c.in_ok-types.ensures ∙ (λ i. types_at ((c.items-2.ensures ∙ ap (λ (table : Table). table.columns) c.table_of-table.ensures.table) i) (columns_of (c.items-3.ensures i)));
      dirs_is = c.in_ok-dirs.ensures ∙ ap dirs_of c.items-4.ensures;
      items_is = c.in_ok-items.ensures;
      position_dirs_is = c.in_ok-position_dirs.ensures ∙ ap item_directions c.items-5.ensures;
      columns = each_by_in _ preds (λ pred here. all_member (λ (pred : Pred). pred.left.col < 32) preds refs.preds pred here);
      item_columns = λ item here. item_small c.args.request.now.catalog.now.tables c.args.request.now.query.now c.requires.query item (subst (λ items. In item items) c.in_ok-items.ensures here);
    }
