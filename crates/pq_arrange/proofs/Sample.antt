-- The worked queries, rearranged.
use lib.Count.{ones}
use Rattle.std.proofs.Common.{◌≡◌, ℕ, pos, true, false, [], ◌∷◌, refl}
use Rattle.pq_base.specs.declared.value.Value.{Value}
use Rattle.pq_base.specs.declared.value.Value.TheVariants as value
use Rattle.pq_base.specs.declared.op.Op.TheVariants as op
use Rattle.pq_schema.specs.declared.query.Operand.TheVariants as operand
use Rattle.pq_schema.specs.declared.query.Query.{Query}
use Rattle.pq_schema.specs.declared.query.Stop.TheVariants as stop
use Rattle.pq_schema.specs.Candidates.{candidates}
use Rattle.pq_schema.proofs.Rows.{col, pred, query, down, stops, chosen, tables}
use Rattle.pq_plan.specs.Answer.{Question, combos}
use Rattle.pq_arrange.specs.Moves.{places, permuted_combo}
use Rattle.pq_arrange.specs.Classes.{closed_query}
use Rattle.pq_arrange.specs.Placing.{arranged_order}
use Rattle.pq_arrange.specs.Arrange.{rearranged_query, arranged_query}

-- FROM users u, subs s WHERE s.owner = [1] AND u.name = s.target LIMIT 10
abbrev targets : Query
targets = query (1 ∷ 2 ∷ [])
    (pred (col 2 0) op.Eq (operand.Param 1) ∷ pred (col 2 1) op.Eq (operand.Col (col 1 0)) ∷ [])
    [] (stop.Limit 10)

none_targets : candidates tables targets ≡ []
unfolding ones
none_targets = refl

order_targets : arranged_order tables targets false ≡ 2 ∷ 1 ∷ []
unfolding ones
order_targets = refl

arranged_targets : arranged_query tables targets ≡ query (2 ∷ 1 ∷ [])
    (pred (col 1 0) op.Eq (operand.Param 1) ∷ pred (col 2 0) op.Eq (operand.Col (col 1 1)) ∷ [])
    [] (stop.Limit 10)
unfolding ones
arranged_targets = refl

chosen_targets : chosen tables (arranged_query tables targets) ≡ stops 1 11 20
unfolding ones
chosen_targets = refl

-- FROM thoughts t, users a, users b WHERE a.name = [1] AND t.owner = a.name AND b.name = t.owner AND b.city = 'rome'
-- ORDER BY t.ts DESC LIMIT 5
abbrev chained : Query
chained = query (3 ∷ 1 ∷ 1 ∷ [])
    (pred (col 2 0) op.Eq (operand.Param 1) ∷ pred (col 2 0) op.Eq (operand.Col (col 1 0)) ∷ pred (col 3 0) op.Eq (operand.Col (col 1 0)) ∷ pred (col 3 1) op.Eq (operand.Const (value.Text (114 ∷ 111 ∷ 109 ∷ 101 ∷ []))) ∷ [])
    (down (col 1 1) ∷ []) (stop.Limit 5)

none_chained : candidates tables chained ≡ []
unfolding ones
none_chained = refl

-- without closing there is no candidate either
open_chained : candidates tables (rearranged_query tables chained false) ≡ []
unfolding ones
open_chained = refl

order_chained : arranged_order tables chained true ≡ 2 ∷ 3 ∷ 1 ∷ []
unfolding ones
order_chained = refl

places_chained : places (arranged_order tables chained true) ≡ 3 ∷ 1 ∷ 2 ∷ []
unfolding ones
places_chained = refl

arranged_chained : arranged_query tables chained ≡ query (1 ∷ 1 ∷ 3 ∷ [])
    (pred (col 1 0) op.Eq (operand.Param 1) ∷ pred (col 2 0) op.Eq (operand.Param 1) ∷ pred (col 3 0) op.Eq (operand.Param 1) ∷ pred (col 2 1) op.Eq (operand.Const (value.Text (114 ∷ 111 ∷ 109 ∷ 101 ∷ []))) ∷ [])
    (down (col 3 1) ∷ []) (stop.Limit 5)
unfolding ones
arranged_chained = refl

chosen_chained : chosen tables (arranged_query tables chained) ≡ stops 3 8 12
unfolding ones
chosen_chained = refl

-- ---- rows of the first query: Ann subscribes to Bob and Cid, and Bob to Ann
abbrev n : ℕ → Value
n k = value.Int (pos k)

abbrev asked : Query → Question
asked query = record {
  tables = tables;
  query = query;
  rows = (1, n 1 ∷ n 10 ∷ []) ∷ (1, n 2 ∷ n 20 ∷ []) ∷ (1, n 3 ∷ n 30 ∷ []) ∷ (2, n 1 ∷ n 3 ∷ n 0 ∷ []) ∷ (2, n 1 ∷ n 2 ∷ n 0 ∷ []) ∷ (2, n 2 ∷ n 1 ∷ n 0 ∷ []) ∷ [];
  params = n 1 ∷ [];
}

-- the same two combinations, in another order and with their rows the other way round
as_written : combos (asked targets) ≡ ((n 2 ∷ n 20 ∷ []) ∷ (n 1 ∷ n 2 ∷ n 0 ∷ []) ∷ []) ∷ ((n 3 ∷ n 30 ∷ []) ∷ (n 1 ∷ n 3 ∷ n 0 ∷ []) ∷ []) ∷ []
unfolding ones
as_written = refl

as_arranged : combos (asked (arranged_query tables targets)) ≡ ((n 1 ∷ n 3 ∷ n 0 ∷ []) ∷ (n 3 ∷ n 30 ∷ []) ∷ []) ∷ ((n 1 ∷ n 2 ∷ n 0 ∷ []) ∷ (n 2 ∷ n 20 ∷ []) ∷ []) ∷ []
unfolding ones
as_arranged = refl

one_moved : permuted_combo (2 ∷ 1 ∷ []) ((n 2 ∷ n 20 ∷ []) ∷ (n 1 ∷ n 2 ∷ n 0 ∷ []) ∷ []) ≡ (n 1 ∷ n 2 ∷ n 0 ∷ []) ∷ (n 2 ∷ n 20 ∷ []) ∷ []
one_moved = refl

-- a class with no operand: x.a = y.b, y.b = z.c and x.d = z.c, of three relations of one table
abbrev open_class : Query
open_class = query (2 ∷ 2 ∷ 2 ∷ [])
    (pred (col 2 1) op.Eq (operand.Col (col 1 0)) ∷ pred (col 3 2) op.Eq (operand.Col (col 2 1)) ∷ pred (col 3 2) op.Eq (operand.Col (col 1 1)) ∷ [])
    [] stop.All

-- each later member equals the first, and the first later one each further one of the first relation
closed_class : closed_query tables open_class ≡ query (2 ∷ 2 ∷ 2 ∷ [])
    (pred (col 2 1) op.Eq (operand.Col (col 1 0)) ∷ pred (col 3 2) op.Eq (operand.Col (col 1 0)) ∷ pred (col 2 1) op.Eq (operand.Col (col 1 1)) ∷ [])
    [] stop.All
unfolding ones
closed_class = refl

-- the first operand goes, a copy of it and a further one stay
abbrev two_operands : Query
two_operands = query (1 ∷ 1 ∷ [])
    (pred (col 1 0) op.Eq (operand.Param 1) ∷ pred (col 2 0) op.Eq (operand.Col (col 1 0)) ∷ pred (col 1 0) op.Eq (operand.Param 1) ∷ pred (col 2 0) op.Eq (operand.Param 2) ∷ [])
    [] stop.All

closed_operands : closed_query tables two_operands ≡ query (1 ∷ 1 ∷ [])
    (pred (col 1 0) op.Eq (operand.Param 1) ∷ pred (col 2 0) op.Eq (operand.Param 1) ∷ pred (col 1 0) op.Eq (operand.Param 1) ∷ pred (col 2 0) op.Eq (operand.Param 2) ∷ [])
    [] stop.All
unfolding ones
closed_operands = refl
