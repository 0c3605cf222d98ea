-- The groups of a move: what holds of each group that a row is in, how long their keys are, and where nothing moves.
use Rattle.std.proofs.Common.{◌≡◌, ℕ, ◌*◌, ◌≤◌, ◌<◌, ◌^◌, Bool, true, false, cond, ◌==◌, List, [], ◌∷◌, length, replicate, Option, Some, None, refl, sym, ap, ◌∙◌, arith}
use Rattle.std.specs.List.{AllByRecursion}
use Rattle.std.specs.List as lists
use Rattle.std.specs.Prelude.{IfSome}
use Rattle.std.proofs.lemmas.Bool.{eqb-true}
use Rattle.std.proofs.lemmas.List.{length-map}
use Rattle.std.proofs.Math.Nat.{mul-le-mul_right}
use Rattle.pq_base.specs.declared.value.Dir.TheVariants.{Asc}
use Rattle.pq_base.specs.declared.value.Value.{Value}
use Rattle.pq_base.specs.Values.{AllFit, has_null}
use Rattle.pq_schema.specs.declared.table.Table.{Table}
use Rattle.pq_content.specs.Tables.{cells, types_of, value_of, same_values}
use Rattle.pq_content.proofs.Lengths.{values_within, length-code_of}
use Rattle.pq_content.proofs.Values.{same_values_decides}
use Rattle.pq_index_keep.specs.Sound.{IsWritable}
use Rattle.pq_index_keep.proofs.Coding.{whole_short}
use Rattle.pq_tallies.specs.Counters.{counter_key}
use Rattle.pq_tallies.specs.Defined.{NumberedCounter}
use Rattle.pq_tallies.specs.Moves.{GroupMove, no_move, group_in, group_key, moved, moved_keys, move_in}
use Rattle.pq_tallies.proofs.Written.{turn}

-- what holds of no group, and of the groups of the two rows, holds of both groups of a move
module _ (P : NumberedCounter → Option (List Value) → Type 0) (none : (c : NumberedCounter) → P c None) (t : ℕ) where
  pub record BothGroups (c : NumberedCounter) (m : GroupMove) : Type 0 where
    pub from : P c m.from
    pub to : P c m.to

  still : (c : NumberedCounter) → BothGroups c no_move
  still c = record { from = none c; to = none c }

  -- a row with NULL at the columns is in none
  group_of_row : (c : NumberedCounter) (row : List Value) → P c (Some (cells c.cols row)) → P c (group_in c row)
  group_of_row c row own = elim (has_null (cells c.cols row)) as (λ b. P c (cond b None (Some (cells c.cols row)))) [ true ↦ none c | false ↦ own ]

  moved_groups : (old new : Option (List Value)) (c : NumberedCounter) → IfSome old (λ row. P c (Some (cells c.cols row))) → IfSome new (λ row. P c (Some (cells c.cols row))) → BothGroups c (moved c old new)
  moved_groups None None c f g = still c
  moved_groups None (Some new) c f g = record { from = none c; to = group_of_row c new g }
  moved_groups (Some old) None c f g = record { from = group_of_row c old f; to = none c }
  moved_groups (Some old) (Some new) c f g =
      elim (same_values (cells c.cols old) (cells c.cols new)) as (λ b. BothGroups c (turn b c old new)) [
        | true ↦ still c
        | false ↦ record { from = group_of_row c old f; to = group_of_row c new g }
      ]

  pub both_groups : (old new : Option (List Value)) (c : NumberedCounter) → (t ≡ c.table → IfSome old (λ row. P c (Some (cells c.cols row)))) → (t ≡ c.table → IfSome new (λ row. P c (Some (cells c.cols row)))) → BothGroups c (move_in t old new c)
  both_groups old new c f g =
      elim (t == c.table) as (λ b. (t == c.table) ≡ b → BothGroups c (cond b (moved c old new) no_move)) [
        | true ↦ λ is. moved_groups old new c (f (eqb-true t c.table is)) (g (eqb-true t c.table is))
        | false ↦ λ _. still c
      ] refl

-- where the values stay, nothing moves
pub stays_still : (t : ℕ) (old new : List Value) (c : NumberedCounter) → cells c.cols old ≡ cells c.cols new → move_in t (Some old) (Some new) c ≡ no_move
stays_still t old new c same =
    elim (t == c.table) as (λ b. cond b (moved c (Some old) (Some new)) no_move ≡ no_move) [
      | true ↦ ap (λ b. turn b c old new) ((same_values_decides (cells c.cols old) (cells c.cols new)).1 same)
      | false ↦ refl
    ]

-- where they don't, the move is from the group of the one row into that of the other
pub turns_from : (c : NumberedCounter) (old new : List Value) (left joined : Option (List ℕ)) → same_values (cells c.cols old) (cells c.cols new) ≡ false → left ≡ group_key c.number (group_in c old) → joined ≡ group_key c.number (group_in c new) → record { from = left; to = joined } ≡ moved_keys c.number (moved c (Some old) (Some new))
turns_from c old new left joined other goes comes =
    (λ i. record { from = goes i; to = comes i }) ∙ sym (ap (λ b. moved_keys c.number (turn b c old new)) other)

-- ---- lengths of keys

pub small_key : (tables : List Table) (table : Table) → IsWritable tables table → (row : List Value) → AllFit (types_of table) row → (c : NumberedCounter) → length c.cols ≤ 4 → length (counter_key c.number (cells c.cols row)) < 2 ^ 32
small_key tables table w row fits c few =
    let values = cells c.cols row in
    let most = length-code_of 40000 (replicate (length values) Asc) values (values_within 40000 row c.cols (whole_short tables table w row fits)) in
    let long : length values ≡ length c.cols = length-map c.cols (value_of row) in
    let times : length c.cols * 80009 ≤ 4 * 80009 = mul-le-mul_right 80009 few in
    let same : length values * 80009 ≡ length c.cols * 80009 = ap (λ (n : ℕ). n * 80009) long in
    omega arith

-- ---- a group that is full

pub none_found : {X : Type 0} (p : X → Bool) (xs : List X) → AllByRecursion (λ x. p x ≡ false) xs → lists.find p xs ≡ None
none_found p [] h = refl
none_found p (x ∷ xs) h = ap (λ b. cond b (Some x) (lists.find p xs)) h.0 ∙ none_found p xs h.1
