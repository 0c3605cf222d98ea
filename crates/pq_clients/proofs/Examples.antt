-- Small schedules, computed.
use Rattle.std.proofs.Common.{◌≡◌, ℕ, pos, List, [], ◌∷◌, ◌++◌, length, Some, None, refl, sym, ◌∙◌, subst, arith}
use Rattle.std.proofs.lemmas.Int.{ints}
use lib.Count.{ones}
use Rattle.std.specs.FinMap.{empty, entries, insert, get-empty, get-insert, get-remove, entries-insert, len-entries, len-empty}
use Rattle.pq_store.proofs.Uses.{entries-remove}
use Rattle.std.specs.Cmp.Lexicographic.{nat_list_cmp_total}
use Rattle.pq_base.specs.declared.value.ColType.TheVariants as type
use Rattle.pq_base.specs.declared.value.Value.{Value}
use Rattle.pq_base.specs.declared.value.Value.TheVariants as value
use Rattle.pq_schema.specs.declared.table.Table.{Table}
use Rattle.pq_content.specs.Tables.{stored_code}
use Rattle.pq_key_code.specs.KeyCode.{row_key, entry_key}
use Rattle.pq_base.specs.declared.refusal.Refusal.TheVariants as refusal
use Rattle.pq_base.specs.declared.value.Dir.TheVariants.{Asc}
use Rattle.pq_row_code.specs.RowReading.{row_decoded, fields_at, cell_at, front_at, field_at}
use Rattle.pq_row_code.specs.StoredRow.{filled_decoded, short_decoded, filled}
use Rattle.pq_row_keys.specs.Groups.{group_key}
use Rattle.pq_store.specs.Content.{Content, key_cmp}
use Rattle.pq_index_keep.specs.declared.write.Write.{Write}
use Rattle.pq_index_keep.specs.declared.write.Write.TheVariants as write
use Rattle.pq_clients.specs.declared.outcome.Outcome.{Outcome}
use Rattle.pq_clients.specs.declared.outcome.Outcome.TheVariants as outcome
use Rattle.pq_clients.specs.declared.outcome.Told.{Told}
use Rattle.pq_clients.specs.Held.{held_value, cell_of, Held}
use Rattle.pq_clients.specs.Flights.{Flight, pair_key, old_row, new_row, new_code, entry_keys, old_entries, new_entries, flight_checks, flight_tests, group_front, tested_front}
use Rattle.pq_clients.specs.Clients.{View, Flying, Putting, Adding, Testing, new_view}
use Rattle.pq_clients.specs.Steps.{counted, Answers, NotDone}
use Rattle.pq_clients.specs.Present.{present_rows}
use Rattle.pq_clients.specs.Runs.{Event, Run, begun, run}
use Rattle.pq_clients.specs.Promises.{calls_of_write, steps_of, IsFresh, Begins, HoldsThroughout}
use Rattle.std.specs.Prelude.{All, IsSome, false, ◌<◌, ◌≤◌, ◌^◌, ◌==◌}
use Rattle.std.specs.List.{AllByRecursion, IsDistinct}
use Rattle.pq_schema.specs.Rows.{IsWithinLimit}
use Rattle.pq_schema.specs.Tables.{table_at, type_at}
use Rattle.pq_base.specs.Values.{FitsType, is_nullable}
use Rattle.pq_base.specs.Columns.{set_of}
use Rattle.pq_schema.specs.declared.table.Column.{Column}
use Rattle.pq_schema.specs.declared.table.Foreign.{Foreign}
use Rattle.pq_schema.specs.declared.table.Index.{Index}
use Rattle.pq_schema.specs.declared.table.Limit.{Limit}
use Rattle.pq_schema.specs.Sequences.{group_access}
use Rattle.pq_schema.specs.Sound.{IsSized, AreKeyColumns, IsMadeLimit, IsMadeForeign, IsMade}
use Rattle.pq_content.specs.Tables.{Keeps}
use Rattle.pq_index_keep.specs.Sound.{IsWritable, AreWritable, IsWrite}
use Rattle.pq_index_keep.proofs.Inserting.{each_is}
use Rattle.pq_clients.proofs.Holding.{holds_throughout}

abbrev pub no_pairs : Content
no_pairs = empty

no_length : {A : Type 0} (xs : List A) → length xs ≡ 0 → xs ≡ []
no_length [] e = refl
no_length (x ∷ xs) e = absurd (omega arith)

pub entries_none : entries no_pairs ≡ []
entries_none = no_length (entries no_pairs) (sym (len-entries no_pairs) ∙ len-empty key_cmp (List ℕ))

-- a table of two numbers whose key is the first
abbrev pub m : Table
m = record { name = 109 ∷ []; columns = record { name = 105 ∷ []; ty = type.Int } ∷ record { name = 118 ∷ []; ty = type.Int } ∷ []; fillers = None ∷ None ∷ []; key = 0 ∷ []; limits = []; foreign = []; indexes = [] }

abbrev pub pair : ℕ → ℕ → List Value
pair a b = value.Int (pos a) ∷ value.Int (pos b) ∷ []

abbrev pub turns : List ℕ → List Event
turns [] = []
turns (p ∷ ps) = record { place = p; fate = Answers } ∷ turns ps

abbrev client : ℕ → ℕ → ℕ → View
client i a b = new_view i (write.Insert 1 (pair a b) ∷ [])

same_held : cell_of (held_value 1 1 None) ≡ Held 1 1 None
unfolding cell_of held_value
same_held = refl

key_conflict : pair_key (m ∷ []) (write.Insert 1 (pair 1 7)) ≡ 2 ∷ 1 ∷ 16 ∷ 128 ∷ 0 ∷ 0 ∷ 0 ∷ 0 ∷ 0 ∷ 0 ∷ 1 ∷ []
unfolding pair_key
key_conflict = refl

abbrev pub tell : ℕ → ℕ → Outcome → Told
tell i n o = record { client = i; number = n; outcome = o }

abbrev pub key_of_one : List ℕ
key_of_one = row_key 1 (value.Int (pos 1) ∷ [])

-- two clients insert one key: the second one's take answers false, and its get finds what the first has put
abbrev after_conflict : Run
after_conflict = run (m ∷ []) (begun no_pairs (client 1 1 7 ∷ client 2 1 8 ∷ [])) (turns (0 ∷ 1 ∷ 0 ∷ 1 ∷ 0 ∷ 1 ∷ 0 ∷ []))

told_conflict : after_conflict.told ≡ tell 2 1 (outcome.Conflict None (Some (held_value 1 1 (Some (stored_code m (pair 1 7)))))) ∷ tell 1 1 outcome.Done ∷ []
unfolding ones pair_key held_value cell_of old_row new_row new_code entry_keys old_entries new_entries flight_checks flight_tests group_key group_front tested_front counted present_rows filled_decoded short_decoded filled row_decoded fields_at cell_at front_at field_at
told_conflict = simp (get-insert {X = List ℕ} nat_list_cmp_total, get-remove {X = List ℕ} nat_list_cmp_total, get-empty {X = List ℕ} key_cmp, entries-insert {X = List ℕ} nat_list_cmp_total, entries-remove, entries_none)

present_conflict : present_rows (m ∷ []) after_conflict.content ≡ (1, pair 1 7) ∷ []
unfolding ones pair_key held_value cell_of old_row new_row new_code entry_keys old_entries new_entries flight_checks flight_tests group_key group_front tested_front counted present_rows filled_decoded short_decoded filled row_decoded fields_at cell_at front_at field_at
present_conflict = simp (get-insert {X = List ℕ} nat_list_cmp_total, get-remove {X = List ℕ} nat_list_cmp_total, get-empty {X = List ℕ} key_cmp, entries-insert {X = List ℕ} nat_list_cmp_total, entries-remove, entries_none)

-- two writes find no row, a third is told that its key is held, and the other client's two are done
abbrev delete : ℕ → Write
delete a = write.Delete 1 (value.Int (pos a) ∷ []) []

abbrev deleter_queue : View
deleter_queue = new_view 1 (delete 5 ∷ delete 6 ∷ write.Insert 1 (pair 1 8) ∷ [])

abbrev writer_queue : View
writer_queue = new_view 2 (write.Insert 1 (pair 1 7) ∷ write.Insert 1 (pair 2 2) ∷ [])

abbrev refused_queue : List Told
refused_queue = tell 1 1 (outcome.Refused (refusal.NoRow m.name)) ∷ tell 1 2 (outcome.Refused (refusal.NoRow m.name)) ∷ tell 1 3 (outcome.Busy (held_value 2 1 None)) ∷ []

-- after the first client's three writes
abbrev between_queue : Run
between_queue = record {
  content = insert no_pairs key_of_one (held_value 2 1 None);
  clients = record deleter_queue { at = 4 } ∷ record writer_queue { next = Flying (record { write = write.Insert 1 (pair 1 7); read = None }) Putting } ∷ [];
  told = refused_queue;
  puts = [];
}

begins_queue : run (m ∷ []) (begun no_pairs (deleter_queue ∷ writer_queue ∷ [])) (turns (0 ∷ 1 ∷ 0 ∷ 1 ∷ 0 ∷ [])) ≡ between_queue
unfolding ones pair_key held_value cell_of old_row new_row new_code entry_keys old_entries new_entries flight_checks flight_tests group_key group_front tested_front counted present_rows filled_decoded short_decoded filled row_decoded fields_at cell_at front_at field_at
begins_queue = simp (get-insert {X = List ℕ} nat_list_cmp_total, get-remove {X = List ℕ} nat_list_cmp_total, get-empty {X = List ℕ} key_cmp, entries-insert {X = List ℕ} nat_list_cmp_total, entries-remove, entries_none)

puts_queue : (run (m ∷ []) between_queue (turns (0 ∷ 1 ∷ 0 ∷ 1 ∷ []))).told ≡ refused_queue ++ tell 2 1 outcome.Done ∷ []
unfolding ones pair_key held_value cell_of old_row new_row new_code entry_keys old_entries new_entries flight_checks flight_tests group_key group_front tested_front counted present_rows filled_decoded short_decoded filled row_decoded fields_at cell_at front_at field_at
puts_queue = simp (get-insert {X = List ℕ} nat_list_cmp_total, get-remove {X = List ℕ} nat_list_cmp_total, get-empty {X = List ℕ} key_cmp, entries-insert {X = List ℕ} nat_list_cmp_total, entries-remove, entries_none)

ends_queue : (run (m ∷ []) (begun (insert no_pairs key_of_one (stored_code m (pair 1 7))) (record writer_queue { at = 2 } ∷ [])) (turns (0 ∷ 0 ∷ 0 ∷ 0 ∷ []))).told ≡ tell 2 2 outcome.Done ∷ []
unfolding ones pair_key held_value cell_of old_row new_row new_code entry_keys old_entries new_entries flight_checks flight_tests group_key group_front tested_front counted present_rows filled_decoded short_decoded filled row_decoded fields_at cell_at front_at field_at
ends_queue = simp (get-insert {X = List ℕ} nat_list_cmp_total, get-remove {X = List ℕ} nat_list_cmp_total, get-empty {X = List ℕ} key_cmp, entries-insert {X = List ℕ} nat_list_cmp_total, entries-remove, entries_none)

-- a limit of one row: the pairs of both writes in flight are counted, and both are refused
abbrev g : Table
g = record { name = 103 ∷ []; columns = record { name = 97 ∷ []; ty = type.Int } ∷ record { name = 98 ∷ []; ty = type.Int } ∷ []; fillers = None ∷ None ∷ []; key = 0 ∷ 1 ∷ []; limits = record { n = 1; cols = 0 ∷ [] } ∷ []; foreign = []; indexes = [] }

abbrev after_full : Run
after_full = run (g ∷ []) (begun no_pairs (client 1 1 1 ∷ client 2 1 2 ∷ [])) (turns (0 ∷ 1 ∷ 0 ∷ 1 ∷ 0 ∷ 1 ∷ 0 ∷ 1 ∷ []))

told_full : after_full.told ≡ tell 1 1 (outcome.Refused (refusal.Cardinality g.name 1 1)) ∷ tell 2 1 (outcome.Refused (refusal.Cardinality g.name 1 1)) ∷ []
unfolding ones pair_key held_value cell_of old_row new_row new_code entry_keys old_entries new_entries flight_checks flight_tests group_key group_front tested_front counted present_rows filled_decoded short_decoded filled row_decoded fields_at cell_at front_at field_at
told_full = simp (get-insert {X = List ℕ} nat_list_cmp_total, get-remove {X = List ℕ} nat_list_cmp_total, get-empty {X = List ℕ} key_cmp, entries-insert {X = List ℕ} nat_list_cmp_total, entries-remove, entries_none)

present_full : present_rows (g ∷ []) after_full.content ≡ []
unfolding ones pair_key held_value cell_of old_row new_row new_code entry_keys old_entries new_entries flight_checks flight_tests group_key group_front tested_front counted present_rows filled_decoded short_decoded filled row_decoded fields_at cell_at front_at field_at
present_full = simp (get-insert {X = List ℕ} nat_list_cmp_total, get-remove {X = List ℕ} nat_list_cmp_total, get-empty {X = List ℕ} key_cmp, entries-insert {X = List ℕ} nat_list_cmp_total, entries-remove, entries_none)

-- one client alone: behind the first write, which is done, the second is refused
abbrev alone_full : View
alone_full = new_view 1 (write.Insert 1 (pair 1 1) ∷ write.Insert 1 (pair 1 2) ∷ [])

begins_full : (run (g ∷ []) (begun no_pairs (alone_full ∷ [])) (turns (0 ∷ 0 ∷ 0 ∷ 0 ∷ 0 ∷ []))).told ≡ tell 1 1 outcome.Done ∷ []
unfolding ones pair_key held_value cell_of old_row new_row new_code entry_keys old_entries new_entries flight_checks flight_tests group_key group_front tested_front counted present_rows filled_decoded short_decoded filled row_decoded fields_at cell_at front_at field_at
begins_full = simp (get-insert {X = List ℕ} nat_list_cmp_total, get-remove {X = List ℕ} nat_list_cmp_total, get-empty {X = List ℕ} key_cmp, entries-insert {X = List ℕ} nat_list_cmp_total, entries-remove, entries_none)

told_alone_full : (run (g ∷ []) (begun (insert no_pairs (row_key 1 (pair 1 1)) (stored_code g (pair 1 1))) (record alone_full { at = 2 } ∷ [])) (turns (0 ∷ 0 ∷ 0 ∷ 0 ∷ []))).told ≡ tell 1 2 (outcome.Refused (refusal.Cardinality g.name 1 1)) ∷ []
unfolding ones pair_key held_value cell_of old_row new_row new_code entry_keys old_entries new_entries flight_checks flight_tests group_key group_front tested_front counted present_rows filled_decoded short_decoded filled row_decoded fields_at cell_at front_at field_at
told_alone_full = simp (get-insert {X = List ℕ} nat_list_cmp_total, get-remove {X = List ℕ} nat_list_cmp_total, get-empty {X = List ℕ} key_cmp, entries-insert {X = List ℕ} nat_list_cmp_total, entries-remove, entries_none)

-- three clients; the call of the third one's add fails, and is not done
abbrev h : Table
h = record { name = 104 ∷ []; columns = record { name = 105 ∷ []; ty = type.Int } ∷ record { name = 116 ∷ []; ty = type.Int } ∷ []; fillers = None ∷ None ∷ []; key = 0 ∷ []; limits = record { n = 5; cols = 1 ∷ [] } ∷ []; foreign = []; indexes = record { cols = record { col = 1; dir = Asc } ∷ [] } ∷ [] }

abbrev flight_fault : ℕ → ℕ → Flight
flight_fault a b = record { write = write.Insert 1 (pair a b); read = None }

abbrev entry_fault : ℕ → List ℕ
entry_fault a = entry_key 1 1 (Asc ∷ Asc ∷ []) (value.Int (pos 1) ∷ value.Int (pos a) ∷ [])

abbrev held_fault : ℕ → Content → Content
held_fault a c = insert c (row_key 1 (value.Int (pos a) ∷ [])) (held_value a 1 None)

-- each holds its key
abbrev taken_fault : Run
taken_fault = begun (held_fault 3 (held_fault 2 (held_fault 1 no_pairs))) (adder 1 ∷ adder 2 ∷ adder 3 ∷ [])
  where
    adder : ℕ → View
    adder a = record (client a a 1) { next = Flying (flight_fault a 1) (Adding (entry_fault a) [] []) }

takes_fault : run (h ∷ []) (begun no_pairs (client 1 1 1 ∷ client 2 2 1 ∷ client 3 3 1 ∷ [])) (turns (0 ∷ 1 ∷ 2 ∷ 0 ∷ 1 ∷ 2 ∷ [])) ≡ taken_fault
unfolding ones pair_key held_value cell_of old_row new_row new_code entry_keys old_entries new_entries flight_checks flight_tests group_key group_front tested_front counted present_rows filled_decoded short_decoded filled row_decoded fields_at cell_at front_at field_at
takes_fault = simp (get-insert {X = List ℕ} nat_list_cmp_total, get-remove {X = List ℕ} nat_list_cmp_total, get-empty {X = List ℕ} key_cmp, entries-insert {X = List ℕ} nat_list_cmp_total, entries-remove, entries_none)

-- the third one's add fails
abbrev added_fault : Run
added_fault = record {
  content = insert (insert (held_fault 3 (held_fault 2 (held_fault 1 no_pairs))) (entry_fault 1) []) (entry_fault 2) [];
  clients = tester 1 ∷ tester 2 ∷ record (client 3 3 1) { next = Flying (flight_fault 3 1) (Adding (entry_fault 3) [] []); over = Some outcome.Failed } ∷ [];
  told = tell 3 1 outcome.Failed ∷ [];
  puts = [];
}
  where
    tester : ℕ → View
    tester a = record (client a a 1) { next = Flying (flight_fault a 1) (Testing 0 [] []) }

adds_fault : run (h ∷ []) taken_fault (turns (0 ∷ 1 ∷ []) ++ record { place = 2; fate = NotDone } ∷ []) ≡ added_fault
unfolding ones pair_key held_value cell_of old_row new_row new_code entry_keys old_entries new_entries flight_checks flight_tests group_key group_front tested_front counted present_rows filled_decoded short_decoded filled row_decoded fields_at cell_at front_at field_at
adds_fault = refl

told_fault : (run (h ∷ []) added_fault (turns (0 ∷ 1 ∷ 2 ∷ 0 ∷ 1 ∷ 2 ∷ 0 ∷ 1 ∷ []))).told ≡ tell 3 1 outcome.Failed ∷ tell 1 1 outcome.Done ∷ tell 2 1 outcome.Done ∷ []
unfolding ones pair_key held_value cell_of old_row new_row new_code entry_keys old_entries new_entries flight_checks flight_tests group_key group_front tested_front counted present_rows filled_decoded short_decoded filled row_decoded fields_at cell_at front_at field_at
told_fault = simp (get-insert {X = List ℕ} nat_list_cmp_total, get-remove {X = List ℕ} nat_list_cmp_total, get-empty {X = List ℕ} key_cmp, entries-insert {X = List ℕ} nat_list_cmp_total, entries-remove, entries_none)

-- ---- calls against their bounds

-- a take that answers false costs three calls, a write that is done four where there is nothing to test
bound_conflict : calls_of_write (m ∷ []) (write.Insert 1 (pair 1 7)) ≡ 4
bound_conflict = refl

calls_conflict : steps_of (m ∷ []) (begun no_pairs (client 1 1 7 ∷ client 2 1 8 ∷ [])) (turns (0 ∷ 1 ∷ 0 ∷ 1 ∷ 0 ∷ 1 ∷ 0 ∷ 1 ∷ 0 ∷ [])) 1 1 ≡ 4
unfolding ones pair_key held_value cell_of old_row new_row new_code entry_keys old_entries new_entries flight_checks flight_tests group_key group_front tested_front counted present_rows filled_decoded short_decoded filled row_decoded fields_at cell_at front_at field_at
calls_conflict = simp (get-insert {X = List ℕ} nat_list_cmp_total, get-remove {X = List ℕ} nat_list_cmp_total, get-empty {X = List ℕ} key_cmp, entries-insert {X = List ℕ} nat_list_cmp_total, entries-remove, entries_none)

calls_conflict_other : steps_of (m ∷ []) (begun no_pairs (client 1 1 7 ∷ client 2 1 8 ∷ [])) (turns (0 ∷ 1 ∷ 0 ∷ 1 ∷ 0 ∷ 1 ∷ 0 ∷ 1 ∷ 0 ∷ [])) 2 1 ≡ 3
unfolding ones pair_key held_value cell_of old_row new_row new_code entry_keys old_entries new_entries flight_checks flight_tests group_key group_front tested_front counted present_rows filled_decoded short_decoded filled row_decoded fields_at cell_at front_at field_at
calls_conflict_other = simp (get-insert {X = List ℕ} nat_list_cmp_total, get-remove {X = List ℕ} nat_list_cmp_total, get-empty {X = List ℕ} key_cmp, entries-insert {X = List ℕ} nat_list_cmp_total, entries-remove, entries_none)

-- a delete that finds no row makes one
bound_queue : calls_of_write (m ∷ []) (delete 5) ≡ 4
bound_queue = refl

calls_queue : steps_of (m ∷ []) (begun no_pairs (deleter_queue ∷ writer_queue ∷ [])) (turns (0 ∷ 1 ∷ 0 ∷ 1 ∷ 0 ∷ [])) 1 1 ≡ 1
unfolding ones pair_key held_value cell_of old_row new_row new_code entry_keys old_entries new_entries flight_checks flight_tests group_key group_front tested_front counted present_rows filled_decoded short_decoded filled row_decoded fields_at cell_at front_at field_at
calls_queue = simp (get-insert {X = List ℕ} nat_list_cmp_total, get-remove {X = List ℕ} nat_list_cmp_total, get-empty {X = List ℕ} key_cmp, entries-insert {X = List ℕ} nat_list_cmp_total, entries-remove, entries_none)

-- one limit and no index: five calls where the write is done, four where it is refused
bound_full : calls_of_write (g ∷ []) (write.Insert 1 (pair 1 1)) ≡ 5
bound_full = refl

calls_full : steps_of (g ∷ []) (begun no_pairs (client 1 1 1 ∷ client 2 1 2 ∷ [])) (turns (0 ∷ 1 ∷ 0 ∷ 1 ∷ 0 ∷ 1 ∷ 0 ∷ 1 ∷ [])) 1 1 ≡ 4
unfolding ones pair_key held_value cell_of old_row new_row new_code entry_keys old_entries new_entries flight_checks flight_tests group_key group_front tested_front counted present_rows filled_decoded short_decoded filled row_decoded fields_at cell_at front_at field_at
calls_full = simp (get-insert {X = List ℕ} nat_list_cmp_total, get-remove {X = List ℕ} nat_list_cmp_total, get-empty {X = List ℕ} key_cmp, entries-insert {X = List ℕ} nat_list_cmp_total, entries-remove, entries_none)

alone_calls_full : steps_of (g ∷ []) (begun no_pairs (alone_full ∷ [])) (turns (0 ∷ 0 ∷ 0 ∷ 0 ∷ 0 ∷ [])) 1 1 ≡ 5
unfolding ones pair_key held_value cell_of old_row new_row new_code entry_keys old_entries new_entries flight_checks flight_tests group_key group_front tested_front counted present_rows filled_decoded short_decoded filled row_decoded fields_at cell_at front_at field_at
alone_calls_full = simp (get-insert {X = List ℕ} nat_list_cmp_total, get-remove {X = List ℕ} nat_list_cmp_total, get-empty {X = List ℕ} key_cmp, entries-insert {X = List ℕ} nat_list_cmp_total, entries-remove, entries_none)

-- one limit and one index: four calls of the last six stand before the add that fails
bound_fault : calls_of_write (h ∷ []) (write.Insert 1 (pair 1 1)) ≡ 7
bound_fault = refl

calls_fault : steps_of (h ∷ []) added_fault (turns (0 ∷ 1 ∷ 2 ∷ 0 ∷ 1 ∷ 2 ∷ 0 ∷ 1 ∷ [])) 1 1 ≡ 3
unfolding ones pair_key held_value cell_of old_row new_row new_code entry_keys old_entries new_entries flight_checks flight_tests group_key group_front tested_front counted present_rows filled_decoded short_decoded filled row_decoded fields_at cell_at front_at field_at
calls_fault = simp (get-insert {X = List ℕ} nat_list_cmp_total, get-remove {X = List ℕ} nat_list_cmp_total, get-empty {X = List ℕ} key_cmp, entries-insert {X = List ℕ} nat_list_cmp_total, entries-remove, entries_none)

-- ---- the premises of all promises are met by two clients that insert one key

abbrev clients_conflict : List View
clients_conflict = client 1 1 7 ∷ client 2 1 8 ∷ []

pub key_columns : AreKeyColumns 2 (0 ∷ [])
unfolding ones
key_columns = record { some = omega arith; few = omega arith; inside = each_is (λ col. col < 2) (0 ∷ []) (omega arith, tt); different = refl }

made_m : IsMade (m ∷ []) 1 m
made_m = record {
  some_columns = omega arith;
  few_columns = omega arith;
  sized = each_is (λ (column : Column). IsSized column.ty) m.columns (tt, (tt, tt));
  fillers = (tt, (tt, tt));
  key = key_columns;
  plain = each_is (λ col. is_nullable (type_at m.columns col) ≡ false) m.key (refl, tt);
  few_limits = omega arith;
  limits = each_is (IsMadeLimit 2) [] tt;
  few_foreign = omega arith;
  foreign = each_is (IsMadeForeign (m ∷ []) 1 m.columns) [] tt;
  few_indexes = omega arith;
  indexes = each_is (λ (index : Index). All (λ part. part.col < 2) index.cols) [] tt;
  limit_groups = each_is (λ (limit : Limit). IsSome (group_access m (set_of limit.cols))) [] tt;
  foreign_groups = each_is (λ (foreign : Foreign). IsSome (group_access m (set_of foreign.cols))) [] tt;
}

writable_m : AreWritable (m ∷ [])
writable_m = each_is (IsWritable (m ∷ [])) (m ∷ []) (record { number = 1; made = made_m; narrow = each_is (λ (index : Index). length index.cols ≤ 36) [] tt }, tt)

keeps_none : Keeps (m ∷ []) []
keeps_none = record {
  schema = record { known = tt; fit = tt; apart = tt; limits = λ t number. subst (λ t. AllByRecursion (IsWithinLimit t []) (table_at (m ∷ []) t).limits) (only t number.0 number.1) tt; foreign = tt };
  short = tt;
}
  where
    only : (t : ℕ) → 1 ≤ t → t ≤ 1 → 1 ≡ t
    only t low high = omega arith

pub small_number : (n : ℕ) → n < 100 → FitsType type.Int (value.Int (pos n))
small_number n h = (omega (arith, ints), tt)

fresh_client : (i b : ℕ) → 1 ≤ i → i < 2 ^ 32 → FitsType type.Int (value.Int (pos b)) → IsFresh (m ∷ []) (client i 1 b)
fresh_client i b one small fits = record {
  fresh = refl;
  from_one = one;
  small = small;
  writes = each_is (IsWrite (m ∷ [])) (write.Insert 1 (pair 1 b) ∷ []) (record { number = (omega arith, omega arith); fits = (small_number 1 (omega arith), (fits, tt)); short = omega arith }, tt);
}

different : IsDistinct ◌==◌ (1 ∷ 2 ∷ [])
unfolding IsDistinct
different = ((refl, tt), (tt, tt))

begins_conflict : Begins (m ∷ []) [] [] clients_conflict
begins_conflict = record {
  sound = writable_m;
  keeps = keeps_none;
  beside = tt;
  fresh = record {
    each = each_is (IsFresh (m ∷ [])) clients_conflict (fresh_client 1 7 (omega arith) (omega arith) (small_number 7 (omega arith)), (fresh_client 2 8 (omega arith) (omega arith) (small_number 8 (omega arith)), tt));
    differ = different;
    few = omega arith;
  };
}

holds_conflict : (events : List Event) → HoldsThroughout (m ∷ []) [] [] clients_conflict events
holds_conflict events = holds_throughout (m ∷ []) [] [] clients_conflict begins_conflict events
