-- Answers over known tables, by computation.
use Rattle.std.proofs.Common.{◌≡◌, ℕ, true, false, List, [], ◌∷◌, Option, Some, None, refl, pos}
use lib.Count.{ones}
use Rattle.pq_base.specs.declared.value.Value.{Value}
use Rattle.pq_base.specs.declared.value.Value.TheVariants as value
use Rattle.pq_base.specs.declared.op.Op.TheVariants as op
use Rattle.pq_schema.specs.declared.query.Operand.TheVariants as operand
use Rattle.pq_schema.specs.declared.query.Stop.TheVariants as stop
use Rattle.pq_schema.specs.declared.query.Query.{Query}
use Rattle.pq_schema.specs.declared.query.ColRef.{ColRef}
use Rattle.pq_schema.proofs.Rows.{tables, home, m, k, pages, query, pred, col}
use Rattle.pq_plan.specs.Answer.{answer}

abbrev pub number : ℕ → Value
number n = value.Int (pos n)

abbrev pub choosing : List ColRef → Query → Query
choosing cols query = record query { select = cols }

-- bob and cat are the targets of ann, and only bob is approved
abbrev pub ann : List ℕ
ann = 97 ∷ []

abbrev pub bob : List ℕ
bob = 98 ∷ []

abbrev pub cat : List ℕ
cat = 99 ∷ []

abbrev pub subscribed : List (ℕ × List Value)
subscribed =
    (3, value.Text bob ∷ number 5 ∷ value.Text [] ∷ [])
    ∷ (2, value.Text ann ∷ value.Text cat ∷ value.Bool false ∷ [])
    ∷ (3, value.Text bob ∷ number 7 ∷ value.Text [] ∷ [])
    ∷ (2, value.Text ann ∷ value.Text bob ∷ value.Bool true ∷ [])
    ∷ (3, value.Text cat ∷ number 9 ∷ value.Text [] ∷ []) ∷ []

home_answer : answer tables (choosing (col 2 0 ∷ col 2 1 ∷ []) home) subscribed (value.Text ann ∷ []) None
    ≡ (value.Text bob ∷ number 7 ∷ []) ∷ (value.Text bob ∷ number 5 ∷ []) ∷ []
unfolding ones
home_answer = refl

home_empty : answer tables (choosing (col 2 0 ∷ []) home) subscribed (value.Text bob ∷ []) None ≡ []
unfolding ones
home_empty = refl

-- ids 1 to 5 with one v, two a page
abbrev pub five : List (ℕ × List Value)
five =
    (1, number 4 ∷ number 7 ∷ [])
    ∷ (1, number 2 ∷ number 7 ∷ [])
    ∷ (1, number 5 ∷ number 7 ∷ [])
    ∷ (1, number 1 ∷ number 7 ∷ [])
    ∷ (1, number 3 ∷ number 7 ∷ []) ∷ []

abbrev pub page : Option (List Value) → List (List Value)
page after = answer (m ∷ []) (choosing (col 1 0 ∷ []) (pages (stop.Paginate 2))) five [] after

first_page : page None ≡ (number 1 ∷ []) ∷ (number 2 ∷ []) ∷ []
unfolding ones
first_page = refl

next_page : page (Some (number 7 ∷ number 2 ∷ [])) ≡ (number 3 ∷ []) ∷ (number 4 ∷ []) ∷ []
unfolding ones
next_page = refl

last_page : page (Some (number 7 ∷ number 4 ∷ [])) ≡ (number 5 ∷ []) ∷ []
unfolding ones
last_page = refl

-- SELECT a, b FROM k WHERE x = [1] LIMIT 3
key_order : answer (k ∷ []) (choosing (col 1 0 ∷ col 1 1 ∷ []) (query (1 ∷ []) (pred (col 1 2) op.Eq (operand.Param 1) ∷ []) [] (stop.Limit 3)))
    ((1, number 2 ∷ number 3 ∷ number 1 ∷ []) ∷ (1, number 1 ∷ number 9 ∷ number 1 ∷ []) ∷ []) (number 1 ∷ []) None
    ≡ (number 1 ∷ number 9 ∷ []) ∷ (number 2 ∷ number 3 ∷ []) ∷ []
unfolding ones
key_order = refl
