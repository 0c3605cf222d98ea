-- Worked runs of writes with conditions and ADD: what is told of each at its read, and what one that is put leaves.
use Rattle.std.proofs.Common.{◌≡◌, ℕ, pos, negsuc, List, [], ◌∷◌}
use lib.Count.{ones}
use Rattle.std.specs.FinMap.{insert, get-empty, get-insert, get-remove, entries-insert}
use Rattle.std.specs.Cmp.Lexicographic.{nat_list_cmp_total}
use Rattle.pq_base.specs.Sums.{has_64_bits}
use Rattle.pq_base.specs.declared.op.Op.TheVariants as op
use Rattle.pq_base.specs.declared.refusal.Refusal.TheVariants as refusal
use Rattle.pq_base.specs.declared.value.Value.{Value}
use Rattle.pq_base.specs.declared.value.Value.TheVariants as value
use Rattle.pq_content.specs.Tables.{stored_code}
use Rattle.pq_def_read.specs.declared.write.Setting.TheVariants as setting
use Rattle.pq_index_keep.specs.declared.write.Cond.{Cond}
use Rattle.pq_index_keep.specs.declared.write.Write.{Write}
use Rattle.pq_index_keep.specs.declared.write.Write.TheVariants as write
use Rattle.pq_row_code.specs.RowReading.{row_decoded, fields_at, cell_at, front_at, field_at}
use Rattle.pq_row_code.specs.StoredRow.{filled_decoded, short_decoded, filled}
use Rattle.pq_row_keys.specs.Groups.{group_key}
use Rattle.pq_store.proofs.Uses.{entries-remove}
use Rattle.pq_store.specs.Content.{Content, key_cmp}
use Rattle.pq_clients.specs.declared.outcome.Outcome.TheVariants as outcome
use Rattle.pq_clients.specs.Held.{held_value, cell_of}
use Rattle.pq_clients.specs.Flights.{pair_key, old_row, new_row, new_code, entry_keys, old_entries, new_entries, flight_checks, flight_tests, group_front, tested_front}
use Rattle.pq_clients.specs.Clients.{new_view}
use Rattle.pq_clients.specs.Steps.{counted}
use Rattle.pq_clients.specs.Present.{present_rows}
use Rattle.pq_clients.specs.Runs.{Run, begun, run}
use Rattle.pq_clients.proofs.Examples.{m, no_pairs, entries_none, pair, turns, tell, key_of_one}

-- the row (1, 7)
abbrev one_row : Content
one_row = insert no_pairs key_of_one (stored_code m (pair 1 7))

abbrev key : List Value
key = value.Int (pos 1) ∷ []

abbrev is_seven : Cond
is_seven = record { col = 1; op = op.Eq; value = value.Int (pos 7) }

abbrev more : Cond
more = record { col = 1; op = op.Gt; value = value.Int (pos 7) }

abbrev none_there : Cond
none_there = record { col = 1; op = op.IsNull; value = value.Null }

-- SET v = 8 WHERE id = 1 IF v = 7 AND v > 7
abbrev second_fails : Write
second_fails = write.Update 1 key (record { col = 1; to = setting.Is (value.Int (pos 8)) } ∷ []) (is_seven ∷ more ∷ [])

-- DELETE .. IF v IS NULL
abbrev not_null : Write
not_null = write.Delete 1 key (none_there ∷ [])

-- SET v ADD 9223372036854775807
abbrev too_much : Write
too_much = write.Update 1 key (record { col = 1; to = setting.Add (pos 9223372036854775807) } ∷ []) []

-- each of them makes one call
told_at_reads : (run (m ∷ []) (begun one_row (new_view 1 (second_fails ∷ not_null ∷ too_much ∷ []) ∷ [])) (turns (0 ∷ 0 ∷ 0 ∷ []))).told
    ≡ tell 1 1 (outcome.Refused (refusal.Condition m.name 2)) ∷ tell 1 2 (outcome.Refused (refusal.Condition m.name 1)) ∷ tell 1 3 (outcome.Refused (refusal.Sum m.name (118 ∷ []))) ∷ []
unfolding ones pair_key held_value cell_of old_row filled_decoded short_decoded filled row_decoded fields_at cell_at front_at field_at has_64_bits
told_at_reads = simp (get-insert {X = List ℕ} nat_list_cmp_total, get-empty {X = List ℕ} key_cmp)

-- SET v ADD -2 WHERE id = 1 IF v = 7
abbrev takes_two : Write
takes_two = write.Update 1 key (record { col = 1; to = setting.Add (negsuc 1) } ∷ []) (is_seven ∷ [])

abbrev after_two : Run
after_two = run (m ∷ []) (begun one_row (new_view 1 (takes_two ∷ takes_two ∷ []) ∷ [])) (turns (0 ∷ 0 ∷ 0 ∷ 0 ∷ 0 ∷ []))

-- it is put, and then its condition doesn't hold any more
told_two : after_two.told ≡ tell 1 1 outcome.Done ∷ tell 1 2 (outcome.Refused (refusal.Condition m.name 1)) ∷ []
unfolding ones pair_key held_value cell_of old_row new_row new_code entry_keys old_entries new_entries flight_checks flight_tests group_key group_front tested_front counted present_rows filled_decoded short_decoded filled row_decoded fields_at cell_at front_at field_at has_64_bits
told_two = simp (get-insert {X = List ℕ} nat_list_cmp_total, get-remove {X = List ℕ} nat_list_cmp_total, get-empty {X = List ℕ} key_cmp, entries-insert {X = List ℕ} nat_list_cmp_total, entries-remove, entries_none)

present_two : present_rows (m ∷ []) after_two.content ≡ (1, pair 1 5) ∷ []
unfolding ones pair_key held_value cell_of old_row new_row new_code entry_keys old_entries new_entries flight_checks flight_tests group_key group_front tested_front counted present_rows filled_decoded short_decoded filled row_decoded fields_at cell_at front_at field_at has_64_bits
present_two = simp (get-insert {X = List ℕ} nat_list_cmp_total, get-remove {X = List ℕ} nat_list_cmp_total, get-empty {X = List ℕ} key_cmp, entries-insert {X = List ℕ} nat_list_cmp_total, entries-remove, entries_none)
