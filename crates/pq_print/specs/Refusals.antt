-- The text of a refusal: its number, and then its fields, each behind a space.
use Rattle.std.specs.Prelude.{ℕ, List, [], ◌++◌, codes, decimal, slice_index_or}
use Rattle.pq_base.specs.Words.{counts}
use Rattle.pq_base.specs.declared.refusal.Refusal.{Refusal}
use Rattle.pq_base.specs.declared.refusal.Refusal.TheVariants as refusal

abbrev pub refusal_number : Refusal → List ℕ
refusal_number refusal.NotUtf8 = codes "E101"
refusal_number refusal.Unfinished = codes "E102"
refusal_number refusal.StatementLong = codes "E103"
refusal_number (refusal.Syntax at) = codes "E104"
refusal_number (refusal.NameTaken name) = codes "E201"
refusal_number (refusal.NoTable name) = codes "E202"
refusal_number (refusal.NoColumn name) = codes "E203"
refusal_number (refusal.Repeated name) = codes "E204"
refusal_number (refusal.ForeignShape number) = codes "E205"
refusal_number (refusal.Count word) = codes "E206"
refusal_number (refusal.TooManyRows table) = codes "E207"
refusal_number (refusal.NullableKey name) = codes "E208"
refusal_number (refusal.NotEmpty table) = codes "E209"
refusal_number (refusal.Alias name) = codes "E301"
refusal_number (refusal.OperandKind pred) = codes "E302"
refusal_number refusal.Params = codes "E303"
refusal_number (refusal.NoBound alias) = codes "E304"
refusal_number (refusal.BoundLarge ops entries) = codes "E305"
refusal_number (refusal.NoQuery name) = codes "E401"
refusal_number (refusal.ParamValue number) = codes "E402"
refusal_number refusal.Cursor = codes "E403"
refusal_number refusal.NotPaged = codes "E404"
refusal_number (refusal.NoCounter name) = codes "E405"
refusal_number (refusal.IndexWanted table) = codes "E406"
refusal_number (refusal.ValueKind table column) = codes "E501"
refusal_number (refusal.WrongColumns table) = codes "E502"
refusal_number (refusal.DuplicateKey table) = codes "E503"
refusal_number (refusal.NoRow table) = codes "E504"
refusal_number (refusal.NoParent table number) = codes "E505"
refusal_number (refusal.Referenced table number) = codes "E506"
refusal_number (refusal.Cardinality table number n) = codes "E507"
refusal_number (refusal.RowLong table length) = codes "E508"
refusal_number (refusal.CounterFull name) = codes "E510"
refusal_number (refusal.Condition table number) = codes "E511"
refusal_number (refusal.BatchLong length) = codes "E512"
refusal_number (refusal.Sum table column) = codes "E514"

abbrev pub refusal_field : List ℕ → List ℕ
refusal_field text = codes " " ++ text

-- a count's word is printed by its place
abbrev pub refusal_fields : Refusal → List ℕ
refusal_fields refusal.NotUtf8 = []
refusal_fields refusal.Unfinished = []
refusal_fields refusal.StatementLong = []
refusal_fields (refusal.Syntax at) = refusal_field (decimal at)
refusal_fields (refusal.NameTaken name) = refusal_field name
refusal_fields (refusal.NoTable name) = refusal_field name
refusal_fields (refusal.NoColumn name) = refusal_field name
refusal_fields (refusal.Repeated name) = refusal_field name
refusal_fields (refusal.ForeignShape number) = refusal_field (decimal number)
refusal_fields (refusal.Count word) = refusal_field (slice_index_or counts word [])
refusal_fields (refusal.TooManyRows table) = refusal_field table
refusal_fields (refusal.NullableKey name) = refusal_field name
refusal_fields (refusal.NotEmpty table) = refusal_field table
refusal_fields (refusal.Alias name) = refusal_field name
refusal_fields (refusal.OperandKind pred) = refusal_field (decimal pred)
refusal_fields refusal.Params = []
refusal_fields (refusal.NoBound alias) = refusal_field alias
refusal_fields (refusal.BoundLarge ops entries) = refusal_field (decimal ops) ++ refusal_field (decimal entries)
refusal_fields (refusal.NoQuery name) = refusal_field name
refusal_fields (refusal.ParamValue number) = refusal_field (decimal number)
refusal_fields refusal.Cursor = []
refusal_fields refusal.NotPaged = []
refusal_fields (refusal.NoCounter name) = refusal_field name
refusal_fields (refusal.IndexWanted table) = refusal_field table
refusal_fields (refusal.ValueKind table column) = refusal_field table ++ refusal_field column
refusal_fields (refusal.WrongColumns table) = refusal_field table
refusal_fields (refusal.DuplicateKey table) = refusal_field table
refusal_fields (refusal.NoRow table) = refusal_field table
refusal_fields (refusal.NoParent table number) = refusal_field table ++ refusal_field (decimal number)
refusal_fields (refusal.Referenced table number) = refusal_field table ++ refusal_field (decimal number)
refusal_fields (refusal.Cardinality table number n) =
    refusal_field table ++ refusal_field (decimal number) ++ refusal_field (decimal n)
refusal_fields (refusal.RowLong table length) = refusal_field table ++ refusal_field (decimal length)
refusal_fields (refusal.CounterFull name) = refusal_field name
refusal_fields (refusal.Condition table number) = refusal_field table ++ refusal_field (decimal number)
refusal_fields (refusal.BatchLong length) = refusal_field (decimal length)
refusal_fields (refusal.Sum table column) = refusal_field table ++ refusal_field column

abbrev pub refusal_text : Refusal → List ℕ
refusal_text why = refusal_number why ++ refusal_fields why

-- a batch is refused by the write at a place, from 1: its cause stands behind
abbrev pub in_batch_text : ℕ → Refusal → List ℕ
in_batch_text place cause = codes "E513" ++ refusal_field (decimal place) ++ refusal_field (refusal_text cause)
