-- What predicates say of an input, and the ends of its range.
use Rattle.std.specs.Prelude.{ℕ, Bool, true, false, cond, not, ◌==◌, ◌||◌, List, [], ◌∷◌, flat_map, map, filter, Option, Some, None}
use Rattle.pq_base.specs.declared.value.Dir.{Dir}
use Rattle.pq_base.specs.declared.value.Value.{Value}
use Rattle.pq_base.specs.declared.value.Value.TheVariants as value
use Rattle.pq_base.specs.declared.op.Op.{Op}
use Rattle.pq_schema.specs.declared.query.Pred.{Pred}
use Rattle.pq_schema.specs.Relations.{belongs_to}
use Rattle.pq_plan.specs.Answer.{Question, side}
use Rattle.pq_serving.specs.Keys.{bound_key, higher, lesser_key, highest, lowest}
use Rattle.pq_serving.specs.Scanning.{is_tied, passes_one, bounds_with, first_direction, rest}
use Rattle.pq_serving.specs.Starts.{Bound, under, start_of, lower, upper, at_value, past_value}
use Rattle.pq_base.specs.declared.value.Dir.TheVariants.{Asc}
use Rattle.pq_schema.specs.declared.table.KeyPart.{KeyPart}
use Rattle.pq_scan.specs.declared.prepared.Scan.{Scan}
use Rattle.pq_scan.specs.Prepared.{asked_over}
use Rattle.pq_scan.specs.declared.keys.Edge.{Edge}
use Rattle.pq_scan.specs.declared.keys.Edge.TheVariants.{At, Past, AtNull, PastNull}
use Rattle.pq_scan.specs.declared.keys.End.{End}
use Rattle.pq_scan.specs.declared.keys.End.TheVariants.{Low, High}
use Rattle.pq_scan.specs.declared.starts.Start.{Start}

-- it is of another relation, or says so of the input
abbrev pub passes_own : Question → ℕ → List (List Value) → Pred → Bool
passes_own q p combo pred = not (belongs_to pred == p) || passes_one q p combo pred

abbrev pub bound_of : Start → Bound
bound_of start = record { past = start.past; values = start.values }

abbrev pub is_past : Edge → Bool
is_past At = false
is_past Past = true
is_past AtNull = false
is_past PastNull = true

-- the value of a bound at an edge
abbrev pub edge_value : Edge → Value → Value
edge_value At w = w
edge_value Past w = w
edge_value AtNull w = value.Null
edge_value PastNull w = value.Null

-- the bound at an edge of a value
abbrev pub edge_bounds : Option Edge → Value → List Bound
edge_bounds None w = []
edge_bounds (Some At) w = at_value w ∷ []
edge_bounds (Some Past) w = past_value w ∷ []
edge_bounds (Some AtNull) w = at_value value.Null ∷ []
edge_bounds (Some PastNull) w = past_value value.Null ∷ []

-- the bounds that a range predicate makes at an end
abbrev pub bounds_by : End → Dir → Op → Value → List Bound
bounds_by Low d op w = lower d op w
bounds_by High d op w = upper d op w

-- those of a predicate with its operand
abbrev pub pred_bounds : Question → ℕ → End → Dir → List (List Value) → Pred → List Bound
pred_bounds q p end d combo pred =
    cond (is_tied q p pred) [] (bounds_with q p (bounds_by end d pred.op) (side q.params combo pred.right))

-- those of the predicates that belong to the relation
abbrev pub own_bounds : Question → ℕ → End → Dir → List (List Value) → List Pred → List Bound
own_bounds q p end d combo preds = flat_map (pred_bounds q p end d combo) (filter (λ pred. belongs_to pred == p) preds)

-- which of two keys is the end: the higher low one, the lesser high one
abbrev pub farther : End → List ℕ → List ℕ → List ℕ
farther Low a b = higher a b
farther High a b = lesser_key a b

-- the end of a key and those of bounds
abbrev pub farthest : End → List Dir → List ℕ → List Bound → List ℕ
farthest Low ds k bs = highest ds k bs
farthest High ds k bs = lowest ds k bs

-- a key that may be there, and another
abbrev pub with_key : End → Option (List ℕ) → List ℕ → List ℕ
with_key end None key = key
with_key end (Some one) key = farther end one key

-- the direction of a part, ascending where there is none
abbrev pub direction_of : Option KeyPart → Dir
direction_of None = Asc
direction_of (Some part) = part.dir

-- a low end, and the start that a cursor makes
abbrev pub started_key : List Dir → List Value → List Dir → List (Option Value) → Option (List Value) → List ℕ → List ℕ
started_key ds e position_dirs constants None key = key
started_key ds e position_dirs constants (Some at) key =
    higher (bound_key ds (under e (start_of position_dirs constants at))) key

-- an end of an input's range as a code, before a cursor plays a part
abbrev pub end_code : Scan → List (List Value) → List Value → End → Edge → List ℕ
end_code scan combo e end edge =
    let q = asked_over scan [] in
    let d = first_direction (rest q scan.rel scan.sequence) in
    farthest end scan.dirs (bound_key scan.dirs (record { past = is_past edge; values = e }))
    (map (under e) (own_bounds q scan.rel end d combo scan.query.now.preds))
