-- The codes of the values of combinations at columns, whose bytes are ordered as positions are.
use Rattle.std.specs.Prelude.{ℕ, Bool, List}
use Rattle.std.specs.Ordering.{is_lt}
use Rattle.pq_base.specs.declared.value.Dir.{Dir}
use Rattle.pq_base.specs.declared.value.Value.{Value}
use Rattle.pq_key_code.specs.KeyCode.{code_of}
use Rattle.pq_schema.specs.declared.query.ColRef.{ColRef}
use Rattle.pq_store.specs.Content.{key_cmp}
use Rattle.pq_plan.specs.Answer.{values_at}
use Rattle.pq_local_ops.specs.declared.sort.Coded.{Coded}

abbrev pub code_at : List ColRef → List Dir → List (List Value) → List ℕ
code_at cols dirs combo = code_of dirs (values_at combo cols)

-- the code is above this one
abbrev pub is_above : List ColRef → List Dir → List ℕ → List (List Value) → Bool
is_above cols dirs code combo = is_lt (key_cmp code (code_at cols dirs combo))

-- a combination with its code
abbrev pub coded_combo : List ColRef → List Dir → List (List Value) → Coded
coded_combo cols dirs combo = record { code = code_at cols dirs combo; combo = combo }
