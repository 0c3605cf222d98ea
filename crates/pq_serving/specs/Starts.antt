-- Where the range of one input starts and ends.
use Rattle.std.specs.Prelude.{Bool, true, false, cond, List, [], ◌∷◌, ◌++◌, Option, Some, None}
use Rattle.std.specs.declared.cmp.Ordering.{Ordering}
use Rattle.std.specs.declared.cmp.Ordering.TheVariants.{Less, Equal, Greater}
use Rattle.std.specs.Ordering.{is_lt, is_le}
use Rattle.pq_base.specs.declared.value.Dir.{Dir}
use Rattle.pq_base.specs.declared.value.Dir.TheVariants.{Asc, Desc}
use Rattle.pq_base.specs.declared.value.Value.{Value}
use Rattle.pq_base.specs.declared.value.Value.TheVariants as value
use Rattle.pq_base.specs.Order.{value_cmp, directed_order}
use Rattle.pq_base.specs.declared.op.Op.{Op}
use Rattle.pq_base.specs.declared.op.Op.TheVariants as op
use Rattle.pq_key_code.specs.KeyOrder.{common_cmp}

-- a prefix of a sequence: from its first code on, or past its last one
pub record Bound : Type 0 where
  pub past : Bool
  pub values : List Value

-- a list with some places constant, and the others, in order, from another list
abbrev pub filled_values : {A : Type 0} → List (Option A) → List A → List A
filled_values [] xs = []
filled_values (Some v ∷ gs) xs = v ∷ filled_values gs xs
filled_values (None ∷ gs) [] = []
filled_values (None ∷ gs) (x ∷ xs) = x ∷ filled_values gs xs

abbrev pub by_case : {A : Type 0} → Ordering → A → A → A → A
by_case Less a b c = a
by_case Equal a b c = b
by_case Greater a b c = c

-- the list is at or past the bound
abbrev pub reaches : List Dir → Bound → List Value → Bool
reaches ds b xs = cond b.past (is_lt (common_cmp ds b.values xs)) (is_le (common_cmp ds b.values xs))

-- from where on an input's rows are strictly after a cursor: a constant above the cursor's value leaves all under
-- the prefix so far, one below it none
abbrev pub start_of : List Dir → List (Option Value) → List Value → Bound
start_of (d ∷ ds) (Some v ∷ gs) (a ∷ at) =
    by_case (directed_order d (value_cmp a v)) (record { past = false; values = [] }) (start_of ds gs at)
    (record { past = true; values = [] })
start_of (d ∷ ds) (None ∷ gs) (a ∷ at) = let b = start_of ds gs at in record { past = b.past; values = a ∷ b.values }
start_of _ _ _ = record { past = true; values = [] }

-- a bound behind first values
abbrev pub under : List Value → Bound → Bound
under e b = record { past = b.past; values = e ++ b.values }

abbrev pub at_value : Value → Bound
at_value w = record { past = false; values = w ∷ [] }

abbrev pub past_value : Value → Bound
past_value w = record { past = true; values = w ∷ [] }

-- a range predicate bounds the sequence below or above, by the direction: NULL comes first where values ascend, last
-- where they descend, and is never within
abbrev pub lower : Dir → Op → Value → List Bound
lower Asc op.Gt w = past_value w ∷ []
lower Asc op.Ge w = at_value w ∷ []
lower Asc op.Eq w = []
lower Asc op.Ne w = []
lower Asc op.Lt w = past_value value.Null ∷ []
lower Asc op.Le w = past_value value.Null ∷ []
lower Asc op.IsNull w = []
lower Desc op.Lt w = past_value w ∷ []
lower Desc op.Le w = at_value w ∷ []
lower Desc op.Eq w = []
lower Desc op.Ne w = []
lower Desc op.Gt w = []
lower Desc op.Ge w = []
lower Desc op.IsNull w = []

abbrev pub upper : Dir → Op → Value → List Bound
upper Asc op.Lt w = at_value w ∷ []
upper Asc op.Le w = past_value w ∷ []
upper Asc op.Eq w = []
upper Asc op.Ne w = []
upper Asc op.Gt w = []
upper Asc op.Ge w = []
upper Asc op.IsNull w = []
upper Desc op.Gt w = at_value w ∷ []
upper Desc op.Ge w = past_value w ∷ []
upper Desc op.Eq w = []
upper Desc op.Ne w = []
upper Desc op.Lt w = at_value value.Null ∷ []
upper Desc op.Le w = at_value value.Null ∷ []
upper Desc op.IsNull w = []
