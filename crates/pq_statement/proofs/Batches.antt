-- The writes of a batch, checked one after the other.
use Rattle.std.proofs.Common.{◌≡◌, ℕ, ◌+◌, ◌<◌, ◌≤◌, Bool, true, false, cond, List, [], ◌∷◌, ◌++◌, drop, length, Result, Ok, Err, refl, sym, ap, ◌∙◌, arith, append_assoc, length-append}
use Rattle.std.proofs.lemmas.List.{append-nil, drop_all}
use Rattle.std.specs.Prelude.{nat_le}
use Rattle.std.specs.List.{AllByRecursion}
use Rattle.std.proofs.lemmas.Bool.{leb-true, leb-false}
use Rattle.pq_base.specs.declared.count_word.TheConstants.{WRITES}
use Rattle.pq_base.specs.declared.refusal.Refusal.{Refusal}
use Rattle.pq_base.specs.declared.refusal.Refusal.TheVariants as refusal
use Rattle.pq_schema.specs.Schema.{Schema}
use Rattle.pq_shape.specs.Shape.{Shape}
use Rattle.pq_def_read.specs.Grammar.{Spells}
use Rattle.pq_def_read.specs.declared.statement.Statement.{Statement}
use Rattle.pq_def_read.specs.declared.statement.Statement.TheVariants as statement
use Rattle.pq_def_read.specs.declared.write.WriteDef.{WriteDef}
use Rattle.pq_index_keep.specs.Checking.{checked_write}
use Rattle.pq_index_keep.specs.Sound.{IsWrite}
use Rattle.pq_index_keep.specs.declared.write.Write.{Write}
use Rattle.pq_statement.specs.Actions.{Action, Batches, Misreads, batch_action, batch_asked}
use Rattle.pq_statement.specs.Batches.{HasWrites, checked_writes, with_checked}

-- a statement that is spelled has a write, where it is a batch
some_written : (defs : List WriteDef) (w : List Shape) → Spells (statement.Batch defs) w → 1 ≤ length defs
some_written [] w h = absurd h.fits_back.fits_front
some_written (def ∷ defs) w h = omega arith

pub some_writes : (s : Statement) (w : List Shape) → Spells s w → HasWrites s
some_writes (statement.Create def) w h = tt
some_writes (statement.Write write) w h = tt
some_writes (statement.Batch defs) w h = some_written defs w h
some_writes (statement.Prepare name from) w h = tt
some_writes (statement.Explain from) w h = tt
some_writes (statement.Run name params after) w h = tt
some_writes (statement.Alter def) w h = tt
some_writes (statement.Counter def) w h = tt
some_writes (statement.Read name values) w h = tt
some_writes statement.Show w h = tt
some_writes statement.Select w h = tt

-- ---- the loop over the writes

-- behind some that were checked
abbrev pub with_front : List Write → Result (List Write) (ℕ × Refusal) → Result (List Write) (ℕ × Refusal)
with_front front (Ok writes) = Ok (front ++ writes)
with_front front (Err first) = Err first

front_more : (front : List Write) (place : ℕ) (write : Write) (rest : Result (List Write) (ℕ × Refusal)) → with_front front (with_checked place (Ok write) rest) ≡ with_front (front ++ write ∷ []) rest
front_more front place write (Ok writes) = ap (λ (ws : List Write). Ok ws) (sym (append_assoc front (write ∷ []) writes))
front_more front place write (Err first) = refl

pub front_none : (rest : Result (List Write) (ℕ × Refusal)) → rest ≡ with_front [] rest
front_none (Ok writes) = refl
front_none (Err first) = refl

module _ (schema : Schema) (defs : List WriteDef) (i place : ℕ) (front : List Write) (is : checked_writes schema 1 defs ≡ with_front front (checked_writes schema place (drop i defs))) where
  unfolded : (def : WriteDef) (rest : List WriteDef) (found : Result Write Refusal) → checked_write schema def ≡ found → checked_writes schema place (def ∷ rest) ≡ with_checked place found (checked_writes schema (place + 1) rest)
  unfolding checked_writes
  unfolded def rest found found_is = ap (λ (r : Result Write Refusal). with_checked place r (checked_writes schema (place + 1) rest)) found_is

  at_def : (def : WriteDef) (found : Result Write Refusal) → drop i defs ≡ def ∷ drop (i + 1) defs → checked_write schema def ≡ found
      → checked_writes schema 1 defs ≡ with_front front (with_checked place found (checked_writes schema (place + 1) (drop (i + 1) defs)))
  at_def def found cut found_is =
      is ∙ ap (λ (ds : List WriteDef). with_front front (checked_writes schema place ds)) cut ∙ ap (with_front front) (unfolded def (drop (i + 1) defs) found found_is)

  -- one more is found
  pub one_more : (def : WriteDef) (write : Write) → drop i defs ≡ def ∷ drop (i + 1) defs → checked_write schema def ≡ Ok write
      → checked_writes schema 1 defs ≡ with_front (front ++ write ∷ []) (checked_writes schema (place + 1) (drop (i + 1) defs))
  one_more def write cut found = at_def def (Ok write) cut found ∙ front_more front place write (checked_writes schema (place + 1) (drop (i + 1) defs))

  -- the first is refused
  pub first_refused : (def : WriteDef) (why : Refusal) → drop i defs ≡ def ∷ drop (i + 1) defs → checked_write schema def ≡ Err why → checked_writes schema 1 defs ≡ Err (place, why)
  first_refused def why cut found = at_def def (Err why) cut found

  -- none is left
  pub all_checked : drop i defs ≡ [] → checked_writes schema 1 defs ≡ Ok front
  unfolding checked_writes
  all_checked none = is ∙ ap (λ (ds : List WriteDef). with_front front (checked_writes schema place ds)) none ∙ ap (λ (ws : List Write). Ok ws) (append-nil front)

-- with one more behind them
pub each_more : (schema : Schema) (writes : List Write) (write : Write) → AllByRecursion (IsWrite schema.tables) writes → IsWrite schema.tables write → AllByRecursion (IsWrite schema.tables) (writes ++ write ∷ [])
each_more schema [] write all one = (one, tt)
each_more schema (first ∷ writes) write all one = (all.0, each_more schema writes write all.1 one)

pub length_more : (writes : List Write) (write : Write) → length (writes ++ write ∷ []) ≡ length writes + 1
length_more writes write = length-append writes (write ∷ [])

pub none_left : (defs : List WriteDef) (i : ℕ) → i ≡ length defs → drop i defs ≡ []
none_left defs i is = drop_all i defs (omega (arith, is))

-- ---- how many there are

few_le : (n : ℕ) → n ≤ 256 → nat_le n 256 ≡ true
few_le n few =
    elim (nat_le n 256) as (λ b. nat_le n 256 ≡ b → nat_le n 256 ≡ true) [
      | true ↦ λ is. is
      | false ↦ λ is. let more : 256 < n = leb-false n 256 is in absurd (omega arith)
    ] refl

many_le : (n : ℕ) → 256 < n → nat_le n 256 ≡ false
many_le n many =
    elim (nat_le n 256) as (λ b. nat_le n 256 ≡ b → nat_le n 256 ≡ false) [
      | true ↦ λ is. let few : n ≤ 256 = leb-true n 256 is in absurd (omega arith)
      | false ↦ λ is. is
    ] refl

module _ (schema : Schema) (defs : List WriteDef) where
  abbrev asked_as : Bool → Result Action Refusal
  asked_as few = cond few (Ok (batch_action (checked_writes schema 1 defs))) (Err (refusal.Count WRITES))

  pub few_asked : length defs ≤ 256 → batch_asked schema defs ≡ Ok (batch_action (checked_writes schema 1 defs))
  few_asked few = ap asked_as (few_le (length defs) few)

  pub many_asked : 256 < length defs → batch_asked schema defs ≡ Err (refusal.Count WRITES)
  many_asked many = ap asked_as (many_le (length defs) many)

  -- what a batch asks for, by cases
  pub batch_cases : (P : Result Action Refusal → Type 0) → ((writes : List Write) → P (Ok (Batches writes))) → ((place : ℕ) (cause : Refusal) → P (Ok (Misreads place cause))) → ((why : Refusal) → P (Err why)) → P (batch_asked schema defs)
  batch_cases P made misread refused = by (nat_le (length defs) 256) (checked_writes schema 1 defs)
    where
      by : (few : Bool) (checked : Result (List Write) (ℕ × Refusal)) → P (cond few (Ok (batch_action checked)) (Err (refusal.Count WRITES)))
      by true (Ok writes) = made writes
      by true (Err first) = misread first.0 first.1
      by false checked = refused (refusal.Count WRITES)
