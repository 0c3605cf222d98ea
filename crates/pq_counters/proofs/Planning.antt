-- The counters' changes of a write, over any content.
use Rattle.std.proofs.Common.{◌≡◌, ℕ, ◌+◌, ◌≤◌, true, false, cond, ◌==◌, List, [], ◌∷◌, map, Option, Some, None, refl, sym, ap, ◌∙◌, subst, arith}
use Rattle.std.specs.Prelude.{filter, is_none, IfSome}
use Rattle.std.specs.List.{sum_by}
use Rattle.std.proofs.lemmas.Bool.{eqb-true}
use Rattle.std.proofs.lemmas.List.Sums.{sum_by-cons}
use Rattle.std.proofs.lemmas.Option.{none-some}
use Rattle.pq_base.specs.declared.refusal.Refusal.{Refusal}
use Rattle.pq_base.specs.declared.value.Value.{Value}
use Rattle.pq_schema.specs.declared.table.Table.{Table}
use Rattle.pq_schema.specs.Schema.{Schema, counters_of}
use Rattle.pq_content.specs.Pairs.{Change}
use Rattle.pq_content.specs.Standing.{change_of}
use Rattle.pq_store.specs.Content.{Content}
use Rattle.pq_index_keep.specs.Promises.{FitsItsTable, HasOwn, IsNewFor}
use Rattle.pq_index_keep.specs.Tested.{with_sets}
use Rattle.pq_index_keep.specs.declared.plan.Planned.{Planned}
use Rattle.pq_index_keep.specs.declared.plan.Planned.TheVariants.{Changes, Refused}
use Rattle.pq_index_keep.specs.declared.write.Cond.{Cond}
use Rattle.pq_index_keep.specs.declared.write.SetCol.{SetCol}
use Rattle.pq_index_keep.specs.declared.write.Write.{Write}
use Rattle.pq_index_keep.specs.declared.write.Write.TheVariants as write
use Rattle.pq_tallies.specs.Defined.{NumberedCounter, counters_in, counter_numbered}
use Rattle.pq_tallies.specs.Moves.{GroupMove, group_key, move_in}
use Rattle.pq_tallies.specs.Writes.{written_table}
use Rattle.pq_tallies.proofs.Defined.{counters_of_table}
use Rattle.pq_counters.specs.Bounds.{all_moves, round_of}
use Rattle.pq_counters.specs.Promises.{IfChanges, LeavesKey, JoinsKey, MovesCounts}
use Rattle.pq_counters.specs.Steps.{some_count, moves_of}
use Rattle.pq_counters.specs.Whole.{coming, CountsBy}
use Rattle.pq_counters.proofs.Moving.{is_of, other_count, inserts_within, updated_within, deleted_within}

-- ---- rounds

-- no more rounds where no more is asked for
pub rounds_within : (before after n m : ℕ) → n ≤ m → after ≤ before + round_of n → after ≤ before + round_of m
rounds_within before after n m less h =
    elim (m == 0) as (λ b. (m == 0) ≡ b → after ≤ before + cond b 0 1) [
      | true ↦ λ is.
          let none : m ≡ 0 = eqb-true m 0 is in
          let zero : n ≡ 0 = omega (arith, none, less) in
          let still : round_of n ≡ 0 = ap round_of zero in
          omega (arith, h, still)
      | false ↦ λ _. let one = round_few n in omega (arith, h, one)
    ] refl
  where
    round_few : (k : ℕ) → round_of k ≤ 1
    round_few k = elim (k == 0) as (λ b. cond b 0 1 ≤ 1) [ true ↦ omega arith | false ↦ omega arith ]

-- ---- counters of other tables

module _ (content : Content) (t : ℕ) (old new : Option (List Value)) where
  own_counted : (cs : List NumberedCounter) (changes : List Change) → MovesCounts content (filter (is_of t) cs) t old new changes → MovesCounts content cs t old new changes
  own_counted [] changes h = h
  own_counted (c ∷ cs) changes h =
      elim (is_of t c) as (λ b. is_of t c ≡ b → MovesCounts content (cond b (c ∷ filter (is_of t) cs) (filter (is_of t) cs)) t old new changes → MovesCounts content (c ∷ cs) t old new changes) [
        | true ↦ λ _ h. (h.0, h.1, h.2, h.3, h.4, own_counted cs h.2 h.5, h.6)
        | false ↦ λ other h.
            let still : move_in t old new c ≡ _ = other_count t old new c other in (
              [],
              [],
              changes,
              subst (λ (m : GroupMove). LeavesKey content (group_key c.number m.from) []) (sym still) refl,
              subst (λ (m : GroupMove). JoinsKey content (group_key c.number m.to) []) (sym still) refl,
              own_counted cs changes h,
              refl,
            )
      ] refl h

  leaves_none : (n : ℕ) (group : Option (List Value)) → some_count group ≡ 0 → LeavesKey content (group_key n group) []
  leaves_none n None none = refl
  leaves_none n (Some v) none = absurd (omega (arith, none))

  joins_none : (n : ℕ) (group : Option (List Value)) → some_count group ≡ 0 → JoinsKey content (group_key n group) []
  joins_none n None none = refl
  joins_none n (Some v) none = absurd (omega (arith, none))

  -- where nothing moves
  none_counted : (cs : List NumberedCounter) → sum_by (moves_of t old new) cs ≡ 0 → MovesCounts content cs t old new []
  none_counted [] none = refl
  none_counted (c ∷ cs) none =
      let parts = sum_by-cons (moves_of t old new) c cs in
      let m = move_in t old new c in (
        [],
        [],
        [],
        leaves_none c.number m.from (omega (arith, none, parts)),
        joins_none c.number m.to (omega (arith, none, parts)),
        none_counted cs (omega (arith, none, parts)),
        refl,
      )

-- what is counted for the counters of the table is counted for all
pub counts_own : (told : Option Content) (schema : Schema) (t : ℕ) (old new : Option (List Value)) (planned : Planned) → IfSome told (λ content. IfChanges (λ changes. MovesCounts content (map (counter_numbered schema) (counters_of schema t)) t old new (map change_of changes)) planned)
    → IfSome told (λ content. IfChanges (λ changes. MovesCounts content (counters_in schema) t old new (map change_of changes)) planned)
counts_own None schema t old new planned h = tt
counts_own (Some content) schema t old new (Refused why) h = tt
counts_own (Some content) schema t old new (Changes changes) h =
    own_counted content t old new (counters_in schema) (map change_of changes) (subst (λ (cs : List NumberedCounter). MovesCounts content cs t old new (map change_of changes)) (counters_of_table schema t) h)

-- ---- writes

coming_within : (tables : List Table) (w : Write) (old : Option (List Value)) (cs : List NumberedCounter) → FitsItsTable tables w old → sum_by (moves_of (written_table w) old (coming w old)) cs ≤ all_moves cs w
coming_within tables (write.Insert t row) old cs fits = subst (λ (o : Option (List Value)). sum_by (moves_of t o (Some row)) cs ≤ all_moves cs (write.Insert t row)) (sym fits) (inserts_within t row cs)
coming_within tables (write.Update t key sets conds) old cs fits = updated_within t key sets conds cs old
coming_within tables (write.Delete t key conds) old cs fits = deleted_within t key conds cs old

-- a write of which no counter's group changes
pub none_counts : (told : Option Content) (schema : Schema) (w : Write) (old : Option (List Value)) → FitsItsTable schema.tables w old → all_moves (counters_in schema) w ≡ 0 → CountsBy schema w old told (Changes [])
none_counts None schema w old fits none own has = tt
none_counts (Some content) schema w old fits none own has =
    let within = coming_within schema.tables w old (counters_in schema) fits in
    none_counted content (written_table w) old (coming w old) (counters_in schema) (omega (arith, within, none))

-- an UPDATE whose new row isn't there changes nothing of its row
pub none_comes : (tables : List Table) (t : ℕ) (key : List Value) (sets : List SetCol) (conds : List Cond) (old : List Value) (own : List Change) → IsNewFor tables (write.Update t key sets conds) (Some old) None → HasOwn tables (write.Update t key sets conds) (Some old) own → ⊥
none_comes tables t key sets conds old own is has =
    none-some (with_sets sets old) (is ∙ ap (λ (o : Option Refusal). cond (is_none o) (Some (with_sets sets old)) None) has.0)
