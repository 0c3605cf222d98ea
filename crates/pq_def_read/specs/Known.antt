-- The values of statements are in their kinds' ranges.
use Rattle.std.specs.Prelude.{All, List}
use Rattle.pq_base.specs.Values.{IsValue}
use Rattle.pq_base.specs.declared.value.Value.TheVariants as value
use Rattle.pq_def_read.specs.declared.statement.Statement.{Statement}
use Rattle.pq_def_read.specs.declared.statement.Statement.TheVariants.{Create, Write, Batch, Prepare, Explain, Run, Alter, Counter, Read, Show, Select}
use Rattle.pq_def_read.specs.declared.write.Assign.{Assign}
use Rattle.pq_def_read.specs.declared.write.CondDef.{CondDef}
use Rattle.pq_def_read.specs.declared.write.SetDef.{SetDef}
use Rattle.pq_def_read.specs.declared.write.Setting.{Setting}
use Rattle.pq_def_read.specs.declared.write.Setting.TheVariants.{Is, Add}
use Rattle.pq_def_read.specs.declared.write.WriteDef.{WriteDef}
use Rattle.pq_def_read.specs.declared.write.WriteDef.TheVariants.{Insert, Update, Delete}

abbrev pub IsSetting : Setting → Type 0
IsSetting (Is v) = IsValue v
IsSetting (Add number) = IsValue (value.Int number)

abbrev pub AreSettings : List SetDef → Type 0
AreSettings sets = All (λ s. IsSetting s.to) sets

abbrev pub AreKnown : List Assign → Type 0
AreKnown assigns = All (λ a. IsValue a.value) assigns

abbrev pub AreConditions : List CondDef → Type 0
AreConditions conds = All (λ c. IsValue c.value) conds

abbrev pub HasWriteValues : WriteDef → Type 0
HasWriteValues (Insert table columns values) = All IsValue values
HasWriteValues (Update table sets row conds) = AreSettings sets × (AreKnown row × AreConditions conds)
HasWriteValues (Delete table row conds) = AreKnown row × AreConditions conds

abbrev pub HaveWriteValues : List WriteDef → Type 0
HaveWriteValues writes = All HasWriteValues writes

abbrev pub HasValues : Statement → Type 0
HasValues (Write write) = HasWriteValues write
HasValues (Batch writes) = HaveWriteValues writes
HasValues (Run query values after) = All IsValue values
HasValues (Alter def) = IsValue def.filler
HasValues (Read name values) = All IsValue values
HasValues (Create def) = Unit {0}
HasValues (Counter def) = Unit {0}
HasValues (Prepare name from) = Unit {0}
HasValues (Explain from) = Unit {0}
HasValues Show = Unit {0}
HasValues Select = Unit {0}
