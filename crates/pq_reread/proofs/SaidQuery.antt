-- What a query says, with names where the query has numbers: the definition that its canonical text spells.
use Rattle.std.specs.Prelude.{pos, List, map, Some}
use Rattle.pq_schema.specs.declared.query.ColRef.{ColRef}
use Rattle.pq_schema.specs.declared.query.Operand.{Operand}
use Rattle.pq_schema.specs.declared.query.Operand.TheVariants as operand
use Rattle.pq_schema.specs.declared.query.OrderItem.{OrderItem}
use Rattle.pq_schema.specs.declared.query.Pred.{Pred}
use Rattle.pq_schema.specs.declared.query.Query.{Query}
use Rattle.pq_schema.specs.declared.query.Relation.{Relation}
use Rattle.pq_schema.specs.declared.query.Stop.{Stop}
use Rattle.pq_schema.specs.declared.query.Stop.TheVariants as stop
use Rattle.pq_schema.specs.declared.table.Table.{Table}
use Rattle.pq_schema.specs.Relations.{relation_at, table_of}
use Rattle.pq_schema.specs.Tables.{table_at}
use Rattle.pq_print.specs.Canonical.{column_name}
use Rattle.pq_query_read.specs.declared.select.ItemDef.{ItemDef}
use Rattle.pq_query_read.specs.declared.select.OperandDef.{OperandDef}
use Rattle.pq_query_read.specs.declared.select.OperandDef.TheVariants as operand_def
use Rattle.pq_query_read.specs.declared.select.PredDef.{PredDef}
use Rattle.pq_query_read.specs.declared.select.RefDef.{RefDef}
use Rattle.pq_query_read.specs.declared.select.RelationDef.{RelationDef}
use Rattle.pq_query_read.specs.declared.select.SelectDef.{SelectDef}
use Rattle.pq_query_read.specs.declared.select.Selected.TheVariants as selected
use Rattle.pq_query_read.specs.declared.select.StopDef.{StopDef}
use Rattle.pq_query_read.specs.declared.select.StopDef.TheVariants as stop_def

-- the table under its alias
abbrev pub said_relation : List Table → Relation → RelationDef
said_relation tables relation = record { table = (table_at tables relation.table).name; alias = Some relation.alias }

abbrev pub said_stop : Stop → StopDef
said_stop stop.All = stop_def.All
said_stop (stop.Limit k) = stop_def.Limit (pos k)
said_stop (stop.Paginate k) = stop_def.Paginate (pos k)

module _ (tables : List Table) (query : Query) where
  -- the column behind its relation's alias
  abbrev pub said_ref : ColRef → RefDef
  said_ref ref = record {
    first = (relation_at query ref.rel).alias;
    second = Some (column_name (table_of tables query ref.rel).columns ref.col);
  }

  abbrev pub said_operand : Operand → OperandDef
  said_operand (operand.Const value) = operand_def.Const value
  said_operand (operand.Param number) = operand_def.Param (pos number)
  said_operand (operand.Col ref) = operand_def.Ref (said_ref ref)

  abbrev pub said_pred : Pred → PredDef
  said_pred pred = record { left = said_ref pred.left; op = pred.op; right = said_operand pred.right }

  abbrev pub said_item : OrderItem → ItemDef
  said_item item = record { col = said_ref item.col; dir = item.dir }

  abbrev pub said_query : SelectDef
  said_query = record {
    selected = selected.Refs (map said_ref query.select);
    relations = map (said_relation tables) query.relations;
    preds = map said_pred query.preds;
    order = map said_item query.order;
    stop = said_stop query.stop;
  }
