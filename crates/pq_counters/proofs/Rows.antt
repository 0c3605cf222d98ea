-- From the rows that a write moves to what is planned of its counters.
use Rattle.std.proofs.Common.{◌≡◌, ℕ, ◌≤◌, cond, List, [], map, flat_map, length, Option, Some, None, Result, Ok, Err, refl, sym, ap, ◌∙◌, subst, arith}
use Rattle.std.specs.Prelude.{IfOk, IfSome, is_none}
use Rattle.std.specs.List.{AllByRecursion, sum_by}
use Rattle.std.proofs.lemmas.Option.{none-some}
use Rattle.std.proofs.lemmas.Result.{IfErr-weaker}
use Rattle.pq_base.specs.Answers.{or_else}
use Rattle.pq_base.specs.Values.{AllFit}
use Rattle.pq_base.specs.declared.refusal.Refusal.{Refusal}
use Rattle.pq_base.specs.declared.value.Value.{Value}
use Rattle.pq_row_code.specs.declared.changes.Change.{Change as Coded}
use Rattle.pq_schema.proofs.TypeKinds.{kinds_from_fit}
use Rattle.pq_schema.specs.Counters.{IsCounterNumber}
use Rattle.pq_schema.specs.Schema.{Schema, counters_of}
use Rattle.pq_schema.specs.Tables.{table_at}
use Rattle.pq_schema.specs.Valid.{IsValid}
use Rattle.pq_content.specs.Pairs.{Change, Pair}
use Rattle.pq_content.specs.Standing.{change_of}
use Rattle.pq_content.specs.Tables.{Rows, key_of, types_of}
use Rattle.pq_content.proofs.Values.{key_of_kinds}
use Rattle.pq_store.specs.Content.{Content}
use Rattle.pq_store.specs.declared.damage.Broke.{Broke}
use Rattle.pq_store.specs.declared.damage.Damage.{Damage}
use Rattle.pq_store.specs.declared.store.Store.{Ghosts}
use Rattle.pq_calls.specs.World.{Explains, where_told}
use Rattle.pq_pending.specs.Calls.{Uses, seen, seen_world}
use Rattle.pq_pending.specs.declared.calls.PendingCalls.{PendingCalls}
use Rattle.pq_index_keep.proofs.Inserting.{each_is}
use Rattle.pq_index_keep.proofs.Updating.{fit_sets}
use Rattle.pq_index_keep.specs.Effects.{effect, condition_refusal, sum_refusal, held_refusal}
use Rattle.pq_index_keep.specs.Promises.{FitsItsTable, HasOwn}
use Rattle.pq_index_keep.specs.Sound.{IsWrite, IsInsert, IsUpdate, IsDelete}
use Rattle.pq_index_keep.specs.Tested.{with_sets}
use Rattle.pq_index_keep.specs.declared.plan.Planned.{Planned}
use Rattle.pq_index_keep.specs.declared.plan.Planned.TheVariants.{Changes}
use Rattle.pq_index_keep.specs.declared.write.Cond.{Cond}
use Rattle.pq_index_keep.specs.declared.write.SetCol.{SetCol}
use Rattle.pq_index_keep.specs.declared.write.Write.{Write}
use Rattle.pq_index_keep.specs.declared.write.Write.TheVariants as write
use Rattle.pq_tallies.specs.Counters.{HoldsCounted}
use Rattle.pq_tallies.specs.Defined.{counters_in, counter_numbered}
use Rattle.pq_tallies.specs.Writes.{written_table, old_row, new_row}
use Rattle.pq_counters.specs.Bounds.{all_moves}
use Rattle.pq_counters.specs.Evidence.{ShowsCounted}
use Rattle.pq_counters.specs.Groups.{groups_at, value_in, PlansGroups, SpoilsGroups}
use Rattle.pq_counters.specs.Planning.{Asks, AreRowsOf, MovesRows, PlansRows, CountsWrite, CountsRows}
use Rattle.pq_counters.specs.Promises.{IsCounterChange, IsCountedWithin, IfChanges, MovesCounts, RefusesAsFull}
use Rattle.pq_counters.specs.Steps.{moves_at, moves_of, SpoilsMoves}
use Rattle.pq_counters.specs.Whole.{coming, CountsBy}
use Rattle.pq_counters.proofs.Counting.{write_counts, nothing_counts}
use Rattle.pq_counters.proofs.Found.{found_row, no_delete, no_update, no_held_update}
use Rattle.pq_counters.proofs.Grouping.{length_groups, groups_explain, counted_told, planned_told}
use Rattle.pq_counters.proofs.Moving.{inserts_within, updates_within, deletes_within}
use Rattle.pq_counters.proofs.Own.{own_sum, plans_own}
use Rattle.pq_counters.proofs.Planning.{counts_own, none_comes, none_counts}
use Rattle.pq_counters.proofs.Showing.{stored_read}
use Rattle.pq_counters.proofs.Within.{uses_more, counted_more, explained}

-- ---- the rows that a write moves

or_none : (a b : Option Refusal) → or_else a b ≡ None → b ≡ None
or_none None b h = h
or_none (Some why) b h = absurd (none-some why (sym h))

-- an UPDATE's new row is there only where nothing refuses it
not_refused : (refusal : Option Refusal) (new set : List Value) → Some new ≡ cond (is_none refusal) (Some set) None → (refusal ≡ None) × (Some new ≡ Some set)
not_refused None new set is = (refl, is)
not_refused (Some why) new set is = absurd (none-some new (sym is))

row_comes : (schema : Schema) (rows : Rows) (w : Write) → new_row schema.tables rows w ≡ coming w (old_row schema.tables rows w)
row_comes schema rows (write.Insert t row) = refl
row_comes schema rows (write.Update t key sets conds) = refl
row_comes schema rows (write.Delete t key conds) = refl

-- no row goes or comes: the one with the key isn't there, or isn't as an UPDATE says
abbrev pub Stays : Write → Option (List Value) → Option (List Value) → Type 0
Stays (write.Insert t row) old new = ⊥
Stays (write.Update t key sets conds) None new = Unit {0}
Stays (write.Update t key sets conds) (Some old) None = Unit {0}
Stays (write.Update t key sets conds) (Some old) (Some new) = ⊥
Stays (write.Delete t key conds) None new = Unit {0}
Stays (write.Delete t key conds) (Some old) new = ⊥

module _ (schema : Schema) (told : Option Content) (valid : IsValid schema) where
  inserted : (t : ℕ) (row : List Value) → IsInsert schema.tables t row → MovesRows schema (write.Insert t row) told None (Some row)
  inserted t row may = record {
    number = may.number;
    fits = record { goes = tt; comes = may.fits };
    few = inserts_within t row (counters_in schema);
    read = record { key = key_of (table_at schema.tables t) row; kinds = key_of_kinds (table_at schema.tables t) row may.fits; stored = tt };
    comes = refl;
    goes = λ rows others s. refl;
  }

  updated : (t : ℕ) (key : List Value) (sets : List SetCol) (conds : List Cond) (old new : List Value) → IsUpdate schema.tables t key sets conds → AreRowsOf schema.tables (write.Update t key sets conds) told (Some old) (Some new) → MovesRows schema (write.Update t key sets conds) told (Some old) (Some new)
  updated t key sets conds old new may r =
      let table = table_at schema.tables t in
      let free = not_refused (held_refusal table sets conds old) new (with_sets sets old) r.comes in
      let sums : sum_refusal table sets old ≡ None = or_none (condition_refusal table conds old) (sum_refusal table sets old) free.0 in
      record {
        number = may.number;
        fits = record { goes = r.fits; comes = subst (λ (o : Option (List Value)). IfSome o (AllFit (types_of table))) (sym free.1) (fit_sets table sets old may.each sums r.fits) };
        few = subst (λ (o : Option (List Value)). sum_by (moves_of t (Some old) o) (counters_in schema) ≤ all_moves (counters_in schema) (write.Update t key sets conds)) (sym free.1) (updates_within t key sets conds old (counters_in schema));
        read = record { key = key; kinds = kinds_from_fit _ _ may.fits; stored = stored_read told table t key old r.read };
        comes = free.1;
        goes = λ rows others s. sym (found_row told schema rows others t key valid may.number (kinds_from_fit _ _ may.fits) s (Some old) r.read);
      }

  deleted : (t : ℕ) (key : List Value) (conds : List Cond) (old : List Value) (new : Option (List Value)) → IsDelete schema.tables t key conds → AreRowsOf schema.tables (write.Delete t key conds) told (Some old) new → MovesRows schema (write.Delete t key conds) told (Some old) None
  deleted t key conds old new may r = record {
    number = may.number;
    fits = record { goes = r.fits; comes = tt };
    few = deletes_within t key conds old (counters_in schema);
    read = record { key = key; kinds = kinds_from_fit _ _ may.fits; stored = stored_read told (table_at schema.tables t) t key old r.read };
    comes = refl;
    goes = λ rows others s. sym (found_row told schema rows others t key valid may.number (kinds_from_fit _ _ may.fits) s (Some old) r.read);
  }

  pub insert_moves : (w : Write) (t : ℕ) (row : List Value) → w ≡ write.Insert t row → IsWrite schema.tables w → MovesRows schema w told None (Some row)
  insert_moves w t row is may = subst (λ (x : Write). MovesRows schema x told None (Some row)) (sym is) (inserted t row (subst (IsWrite schema.tables) is may))

  pub update_moves : (w : Write) (t : ℕ) (key : List Value) (sets : List SetCol) (conds : List Cond) (old new : List Value) → w ≡ write.Update t key sets conds → IsWrite schema.tables w → AreRowsOf schema.tables w told (Some old) (Some new) → MovesRows schema w told (Some old) (Some new)
  update_moves w t key sets conds old new is may r =
      subst (λ (x : Write). MovesRows schema x told (Some old) (Some new)) (sym is)
      (updated t key sets conds old new (subst (IsWrite schema.tables) is may) (subst (λ (x : Write). AreRowsOf schema.tables x told (Some old) (Some new)) is r))

  pub delete_moves : (w : Write) (t : ℕ) (key : List Value) (conds : List Cond) (old : List Value) (new : Option (List Value)) → w ≡ write.Delete t key conds → IsWrite schema.tables w → AreRowsOf schema.tables w told (Some old) new → MovesRows schema w told (Some old) None
  delete_moves w t key conds old new is may r =
      subst (λ (x : Write). MovesRows schema x told (Some old) None) (sym is)
      (deleted t key conds old new (subst (IsWrite schema.tables) is may) (subst (λ (x : Write). AreRowsOf schema.tables x told (Some old) new) is r))

  -- ---- where none moves

  no_effect : (w : Write) (old new : Option (List Value)) → Stays w old new → IsWrite schema.tables w → AreRowsOf schema.tables w told old new → (rows made : Rows) (others : List Pair) → HoldsCounted told schema rows others → effect schema.tables rows w ≡ Ok made → ⊥
  no_effect (write.Insert t row) old new stays may r rows made others s is = stays
  no_effect (write.Update t key sets conds) None new stays may r rows made others s is = no_update schema.tables rows made t key sets conds (found_row told schema rows others t key valid may.number (kinds_from_fit _ _ may.fits) s None r.read) is
  no_effect (write.Update t key sets conds) (Some old) None stays may r rows made others s is = no_held_update schema.tables rows made t key sets conds old (found_row told schema rows others t key valid may.number (kinds_from_fit _ _ may.fits) s (Some old) r.read) r.comes is
  no_effect (write.Update t key sets conds) (Some old) (Some new) stays may r rows made others s is = stays
  no_effect (write.Delete t key conds) None new stays may r rows made others s is = no_delete schema.tables rows made t key conds (found_row told schema rows others t key valid may.number (kinds_from_fit _ _ may.fits) s None r.read) is
  no_effect (write.Delete t key conds) (Some old) new stays may r rows made others s is = stays

  no_own : (w : Write) (old new : Option (List Value)) → Stays w old new → AreRowsOf schema.tables w told old new → (own : List Change) → HasOwn schema.tables w old own → ⊥
  no_own (write.Insert t row) old new stays r own has = stays
  no_own (write.Update t key sets conds) None new stays r own has = has
  no_own (write.Update t key sets conds) (Some old) None stays r own has = none_comes schema.tables t key sets conds old own r.comes has
  no_own (write.Update t key sets conds) (Some old) (Some new) stays r own has = stays
  no_own (write.Delete t key conds) None new stays r own has = has
  no_own (write.Delete t key conds) (Some old) new stays r own has = stays

  none_within : (n : ℕ) → IsCountedWithin n (Changes [])
  none_within n = record { few = omega arith; each = each_is IsCounterChange [] tt }

  pub nothing_stays : (w : Write) (old new : Option (List Value)) → Stays w old new → IsWrite schema.tables w → AreRowsOf schema.tables w told old new → (changes : List Coded) → changes ≡ [] → CountsRows schema w told old (Changes changes)
  nothing_stays w old new stays may r changes none =
      subst (λ (l : List Coded). CountsRows schema w told old (Changes l)) (sym none)
      (record {
        counted = record { within = none_within (all_moves (counters_in schema) w); can = tt; answer = λ rows made others s is. absurd (no_effect w old new stays may r rows made others s is) };
        counts = λ own has. absurd (no_own w old new stays r own has);
      })

  -- a write that changes no counter's group
  pub nothing_counted : (w : Write) → IsWrite schema.tables w → all_moves (counters_in schema) w ≡ 0 → (changes : List Coded) → changes ≡ [] → CountsWrite schema w told (Changes changes)
  nothing_counted w may zero changes none =
      subst (λ (l : List Coded). CountsWrite schema w told (Changes l)) (sym none)
      (record { within = none_within (all_moves (counters_in schema) w); can = tt; answer = λ rows made others s is. nothing_counts told schema rows made others w valid may s is zero })

  pub nothing_moved : (w : Write) (old : Option (List Value)) → FitsItsTable schema.tables w old → IsWrite schema.tables w → all_moves (counters_in schema) w ≡ 0 → (changes : List Coded) → changes ≡ [] → CountsRows schema w told old (Changes changes)
  nothing_moved w old fits may zero changes none = record {
    counted = nothing_counted w may zero changes none;
    counts = subst (λ (l : List Coded). CountsBy schema w old told (Changes l)) (sym none) (none_counts told schema w old fits zero);
  }

  -- ---- what is planned

  -- what is planned for the rows of a write is its plan
  pub moved_counts : (w : Write) (old new : Option (List Value)) → IsWrite schema.tables w → MovesRows schema w told old new → (planned : Planned) → PlansRows schema (counters_in schema) (sum_by (moves_of (written_table w) old new) (counters_in schema)) (written_table w) old new told planned → CountsRows schema w told old planned
  moved_counts w old new may m planned h = record {
    counted = record {
      within = counted_more _ _ m.few planned h.within;
      can = h.can;
      answer = λ rows made others s is.
          let goes = m.goes rows others s in
          write_counts told schema rows made others w valid may s is old new planned goes (row_comes schema rows w ∙ ap (coming w) goes ∙ sym m.comes) (h.answer rows others s m.fits);
    };
    counts = λ own has. subst (λ (o : Option (List Value)). IfSome told (λ content. IfChanges (λ changes. MovesCounts content (counters_in schema) (written_table w) old o (map change_of changes)) planned)) m.comes h.counts;
  }

module _ (schema : Schema) (t : ℕ) (old new : Option (List Value)) where
  -- what is planned for the groups of counters is their plan
  pub each_plans : (numbers : List ℕ) (told : Option Content) (result : Result Planned Broke) → IsValid schema → AllByRecursion (IsCounterNumber schema) numbers → IfOk result (IsCountedWithin (length (flat_map (groups_at schema t old new) numbers))) → IfOk result (RefusesAsFull schema)
      → IfOk result (λ planned. IfSome told (λ content. PlansGroups schema (flat_map (groups_at schema t old new) numbers) (map (value_in content) (flat_map (groups_at schema t old new) numbers)) planned))
      → IfOk result (PlansRows schema (map (counter_numbered schema) numbers) (sum_by (moves_at schema t old new) numbers) t old new told)
  each_plans numbers told (Ok planned) valid each within can plans = record {
    within = subst (λ n. IsCountedWithin n planned) (length_groups schema t old new numbers) within;
    can = can;
    counts = counted_told schema t old new numbers told planned plans;
    answer = planned_told schema t old new numbers told planned valid each plans;
  }
  each_plans numbers told (Err error) valid each within can plans = tt

  -- those of the table's counters are those of all
  pub rows_own : (told : Option Content) (planned : Planned) → PlansRows schema (map (counter_numbered schema) (counters_of schema t)) (sum_by (moves_at schema t old new) (counters_of schema t)) t old new told planned → PlansRows schema (counters_in schema) (sum_by (moves_of t old new) (counters_in schema)) t old new told planned
  rows_own told planned h = record {
    within = subst (λ n. IsCountedWithin n planned) (own_sum schema t old new) h.within;
    can = h.can;
    counts = counts_own told schema t old new planned h.counts;
    answer = λ rows others s is. plans_own schema t old new rows planned (h.answer rows others s is);
  }

-- ---- what is asked of the store

module _ {S L : Type 0} (s : Ghosts S L) {A : Type 0} (a b : PendingCalls S L) (result : Result A Broke) where
  pub asks_within : (shows : Option Content → Damage → Type 0) (n m : ℕ) → n ≤ m → Asks s shows a b n result → Asks s shows a b m result
  asks_within shows n m le h = record { uses = uses_more s.content s.faults a b n m le h.uses; cause = h.cause; answered = h.answered }

  pub each_asks : (schema : Schema) (t : ℕ) (old new : Option (List Value)) (numbers : List ℕ) → AllByRecursion (IsCounterNumber schema) numbers → Asks s (SpoilsGroups (flat_map (groups_at schema t old new) numbers)) a b (length (flat_map (groups_at schema t old new) numbers)) result → Asks s (SpoilsMoves schema t old new) a b (sum_by (moves_at schema t old new) numbers) result
  each_asks schema t old new numbers each h =
      let before = seen_world s.content s.faults a in
      let after = seen_world s.content s.faults b in
      record {
        uses = subst (λ n. Uses s.content s.faults a b n n) (length_groups schema t old new numbers) h.uses;
        cause = IfErr-weaker result (Explains (SpoilsGroups (flat_map (groups_at schema t old new) numbers)) before after) (Explains (SpoilsMoves schema t old new) before after) (λ error. groups_explain schema t old new (seen s.content a) numbers each before after error refl) h.cause;
        answered = h.answered;
      }

  pub moved_asks : (schema : Schema) (w : Write) (old new : Option (List Value)) → MovesRows schema w (seen s.content a) old new → Asks s (SpoilsMoves schema (written_table w) old new) a b (sum_by (moves_of (written_table w) old new) (counters_in schema)) result → Asks s (where_told (ShowsCounted schema)) a b (all_moves (counters_in schema) w) result
  moved_asks schema w old new m h = record {
    uses = uses_more s.content s.faults a b _ _ m.few h.uses;
    cause = explained schema (written_table w) old new m.number m.fits (seen_world s.content s.faults a) (seen_world s.content s.faults b) result m.read h.cause;
    answered = h.answered;
  }
