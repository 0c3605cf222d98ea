-- The canonical text of a query is read back.
use Rattle.std.proofs.Common.{sym, subst}
use Rattle.pq_schema.specs.Schema.{Schema}
use Rattle.pq_schema.specs.Valid.{IsValid}
use Rattle.pq_schema.specs.declared.query.Query.{Query}
use Rattle.pq_schema.proofs.Valid.{wanted_there}
use Rattle.pq_print.specs.Canonical.{query_text}
use Rattle.pq_reread.specs.ReadBack.{IsNamedQuery, IsReadBack, IsReadBackLater, IsReadBackDefined}
use Rattle.pq_reread.proofs.Again.{head_again, reads_again, utf8_again}
use Rattle.pq_reread.proofs.LaterTables.{query_same, last_text}
use Rattle.pq_reread.proofs.Orders.{valid_orderly}
use Rattle.pq_reread.proofs.QueryLengths.{text_again}

-- over orderly tables
pub resolved_back : (schema : Schema) (query : Query) → IsNamedQuery schema query → IsReadBack schema query (query_text schema.tables query)
resolved_back schema query is = record {
  utf8 = utf8_again schema query is.tables is.name is.resolved;
  short = text_again schema.tables query is.tables is.resolved is.name;
  head = head_again schema query is.tables is.name is.resolved;
  rest = reads_again schema query is.tables is.name is.resolved;
}

-- also its text over later tables
pub later_back : (schema : Schema) (query : Query) → IsNamedQuery schema query → IsReadBackLater schema query
later_back schema query is later keep = subst (IsReadBack schema query) (sym (query_same schema.tables later query is.resolved keep)) (resolved_back schema query is)

-- a query that was defined
pub defined_back : (schema : Schema) (query : Query) → IsValid schema → IsReadBackDefined schema query
defined_back schema query valid wanted d =
    subst (IsReadBack schema query) (sym (last_text schema query wanted d.resolved (wanted_there schema.tables query wanted d.resolved d.chosen)))
    (resolved_back schema query (record { tables = valid_orderly valid; name = d.name; resolved = d.resolved }))
