use Rattle.std.proofs.Common.{◌≡◌, ℕ, List, Bool, Result, subst}
use Rattle.std.specs.Prelude.{is_some}
use Rattle.std.specs.FinMap.{get}
use Rattle.pq_schema.specs.declared.table.Table.{Table}
use Rattle.pq_store.specs.Content.{Content}
use Rattle.pq_clients.specs.declared.halt.Halt.{Halt}
use Rattle.pq_clients.specs.Goes.{Spot, Goes}
use Rattle.pq_clients.specs.Held.{present_row}
use Rattle.pq_clients.proofs.check_steps.passes.Goals as goal

same_table : (t u : Table) (key : List ℕ) (before after : Spot) (r : Result Bool Halt) → t ≡ u
    → Goes (λ (b : Bool). b) (λ (k : Content). (k, is_some (present_row t (get k key)))) before after r
    → Goes (λ (b : Bool). b) (λ (k : Content). (k, is_some (present_row u (get k key)))) before after r
same_table t u key before after r same goes =
    subst (λ (x : Table). Goes (λ (b : Bool). b) (λ (k : Content). (k, is_some (present_row x (get k key)))) before after r) same goes

pub returns-in-Parent : goal.returns-in-Parent
returns-in-Parent g c = rw c.in-Parent.is (same_table _ _ _ _ _ _ c.table.ensures c.has_row.ensures)

pub returns-in-Child : goal.returns-in-Child
returns-in-Child g c = rw c.in-Child.is c.has_none.ensures
