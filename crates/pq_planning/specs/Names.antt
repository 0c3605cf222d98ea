-- What a statement that was read has.
use Rattle.std.specs.Prelude.{◌≤◌, List, length}
use Rattle.pq_schema.specs.Names.{IsName, IsTableDef, IsAlterDef, IsCounterDef}
use Rattle.pq_text.specs.declared.token.Token.{Token}
use Rattle.pq_def_read.specs.declared.statement.Statement.{Statement}
use Rattle.pq_def_read.specs.declared.statement.Statement.TheVariants as statement

-- what it defines has names, and its query begins within the tokens
abbrev pub IsNamedStatement : List Token → Statement → Type 0
IsNamedStatement tokens (statement.Create def) = IsTableDef def
IsNamedStatement tokens (statement.Alter def) = IsAlterDef def
IsNamedStatement tokens (statement.Prepare name from) = IsName name × (from ≤ length tokens)
IsNamedStatement tokens (statement.Write write) = Unit {0}
IsNamedStatement tokens (statement.Batch writes) = Unit {0}
IsNamedStatement tokens (statement.Explain from) = from ≤ length tokens
IsNamedStatement tokens (statement.Run name params after) = Unit {0}
IsNamedStatement tokens (statement.Counter def) = IsCounterDef def
IsNamedStatement tokens (statement.Read name values) = Unit {0}
IsNamedStatement tokens statement.Show = Unit {0}
IsNamedStatement tokens statement.Select = Unit {0}
